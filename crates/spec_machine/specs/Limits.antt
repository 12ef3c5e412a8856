-- What a step reaches, and the limits that demand 3 speaks of. Assumes nothing.
use Rattle.std.specs.Prelude.{◌≡◌, ℕ, suc, ◌≤◌, ◌<◌, List, [], ◌∷◌, ◌++◌, length, drop}
use Rattle.base_program.specs.declared.Instruction.{Instruction}
use Rattle.base_program.specs.declared.Program.{Program}
use Rattle.base_program.specs.declared.Table.{Table}
use Rattle.base_program.specs.Entries.{entries, first_sum}
use Rattle.base_program.specs.Reach.{LocationSpan, numbers_from, locations, readings, sums, moved}
use Rattle.spec_machine.specs.Values.{Scan}
use Rattle.spec_machine.specs.Machine.{Place, Config, stuck, shift, step}

-- ---- what an entry reaches, with indexed locations moved up by s

-- the locations of every rep
unfoldable pub spanned : ℕ → List LocationSpan → List ℕ
spanned s [] = []
spanned s (l ∷ r) = numbers_from (moved s l.location) l.reps ++ spanned s r

abbrev pub reached_locations : ℕ → Instruction → List ℕ
reached_locations s i = spanned s (locations i)

-- the sums of entry e of table t
abbrev pub reached_sums : Program → Table → ℕ → Instruction → List ℕ
reached_sums p t e i = numbers_from (first_sum p t e) (sums i)

-- ---- the limits

abbrev pub Each : {A : Type 0} → (A → Type 0) → List A → Type 0
Each f [] = Unit {0}
Each f (a ∷ r) = f a × Each f r

-- 'reach a location outside 1 to I, a channel beyond the 196 readings or a running sum beyond M'
pub record InReach (p : Program) (t : Table) (e s : ℕ) (i : Instruction) : Type 0 where
  pub locations : Each (λ n. (1 ≤ n) × (n ≤ p.locations)) (reached_locations s i)
  pub readings : Each (λ n. (1 ≤ n) × (n ≤ 196)) (readings i)
  pub sums : Each (λ k. k < p.sums) (reached_sums p t e i)

-- the entry that is next, if the table has not ended
abbrev pub Reaches : Program → Table → ℕ → ℕ → List Instruction → Type 0
Reaches p t e s [] = Unit {0}
Reaches p t e s (i ∷ r) = InReach p t e s i

-- 'hold more than 11 blocks open in one table or subroutine, 85 not counted'
abbrev pub FewBlocks : Config → Type 0
FewBlocks c = Each (λ (a : Place). length a.blocks ≤ 11) (c.place ∷ c.callers)

-- 'call more than 7 subroutines deep'
abbrev pub NotDeep : Config → Type 0
NotDeep c = length c.callers ≤ 7

-- 'In no scan does that machine come to an entry without a next step, hold .., call .., reach ..'
pub record Within (p : Program) (x : Scan) (c : Config) : Type 0 where
  pub goes_on : step p x c ≡ stuck → ⊥
  pub blocks : FewBlocks c
  pub depth : NotDeep c
  pub reach :
      Reaches p c.place.table (suc c.place.before) (shift c.place.blocks) (drop c.place.before (entries p c.place.table))

-- 'or carry out more entries than the count the check stated for the table scanned'
abbrev pub WithinCount : ℕ → ℕ → Type 0
WithinCount stated k = k ≤ stated
