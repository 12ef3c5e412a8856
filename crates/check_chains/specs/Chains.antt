-- What the walk of fault 19 finds, and the heights that it leaves: how many calls follow one another from a subroutine, at most 7.
-- Assumes nothing.
use Rattle.std.specs.Prelude.{◌≡◌, refl, ℕ, zero, suc, ◌+◌, ◌-◌, ◌≤◌, ◌<◌, Bool, true, false, cond, ◌&&◌, ◌||◌, List, [], ◌∷◌, length, get_or, leb, eqb}
use Rattle.std.proofs.Common.{sym, ap, ◌∙◌, arith, le-leb, leb-true, leb-false}
use Rattle.std.proofs.Math.Option.{Option, none, some}
use Rattle.std.proofs.Math.Dec.{eqb-suc-zero}
use Rattle.std.proofs.lemmas.Bool.{lt-leb}
use Rattle.base_program.specs.declared.Finding.{Finding}
use Rattle.base_program.specs.declared.Flow.{Flow}
use Rattle.base_program.specs.declared.Instruction.{Instruction}
use Rattle.base_program.specs.declared.Program.{Program}
use Rattle.base_program.specs.declared.Table.TheVariants.{Three}
use Rattle.base_program.specs.Flow.{flow, call_of, opens}
use Rattle.base_program.specs.Entries.{entries}
use Rattle.spec_check.specs.Blocks.{is}
use Rattle.spec_check.specs.Calls.{up_to_end, body, any_call, chain}
use Rattle.spec_check.specs.Check.{first_of, walk_blocks, walk_chains}
use Rattle.record_codes.specs.Loaded.{FlowsAre}

-- ---- the contracts' words

-- Table 3 has n entries, of these kinds, and the walk of blocks finds no fault.
pub record ChainsReady (p : Program) (codes : List ℕ) (n : ℕ) : Type 0 where
  pub flows_are : FlowsAre p codes
  pub length_is : length (entries p Three) ≡ n
  pub blocks : first_of (walk_blocks p) ≡ Finding.Clean

-- The heights are right up to m calls, and none is above 7 or tells a chain that is not there.
pub record HeightsAre (p : Program) (m : ℕ) (heights : List ℕ) : Type 0 where
  pub right : (k : ℕ) → k < 256 → (s : ℕ) → s ≤ m → leb s (get_or heights k 0) ≡ chain p s k
  pub sound : (k s : ℕ) → s ≤ 7 → leb s (get_or heights k 0) ≡ true → chain p s k ≡ true
  pub low : (k : ℕ) → k < 256 → get_or heights k 0 ≤ 7

-- The heights tell g, which holds of the subroutines of a height of at least s.
abbrev pub Tells : List ℕ → ℕ → (ℕ → Bool) → Type 0
Tells heights s g = (j : ℕ) → j < 256 → leb s (get_or heights j 0) ≡ g j

-- The height of subroutine k, by heights: one more than the highest of those that its body calls, at most 7; 0 where it calls none.
pub record HeightOf (p : Program) (heights : List ℕ) (k r : ℕ) : Type 0 where
  pub low : r ≤ 7
  pub told : (g : ℕ → Bool) (s : ℕ) → s < 7 → Tells heights s g → leb (suc s) r ≡ any_call g (body p k)

-- What is asked of the 85s: which start a chain of eight, which the heights tell.
pub record LongReady (p : Program) (codes : List ℕ) (n : ℕ) (heights : List ℕ) : Type 0 where
  pub flows_are : FlowsAre p codes
  pub length_is : length (entries p Three) ≡ n
  pub told : (k : ℕ) → k < 256 → leb 7 (get_or heights k 0) ≡ chain p 7 k

-- The heights behind a round that began with them right up to m calls; where it changed none they are right for all.
pub record Raised (p : Program) (m : ℕ) (heights : List ℕ) (raised : Bool) : Type 0 where
  pub heights_are : HeightsAre p (suc m) heights
  pub stopped : raised ≡ false → HeightsAre p 7 heights

pub record ChainsWalked (p : Program) (heights : List ℕ) (r : Finding) : Type 0 where
  pub finding : r ≡ first_of (walk_chains p)
  pub heights_are : (k : ℕ) → k < 256 → (s : ℕ) → s ≤ 7 → leb s (get_or heights k 0) ≡ chain p s k
  pub kept : length heights ≡ 256

-- a subroutine that is called has this
abbrev pub call_holds : (ℕ → Bool) → Option ℕ → Bool
call_holds f none = false
call_holds f (some j) = f j

abbrev pub high : List ℕ → ℕ → ℕ → Bool
high heights least j = leb least (get_or heights j 0)

-- Of `most` and a call's height, which f tells, the higher one; at most 7.
pub record Higher (f : ℕ → Bool) (most r : ℕ) : Type 0 where
  pub low : r ≤ 7
  pub told : (s : ℕ) → s < 7 → leb (suc s) r ≡ leb (suc s) most || f s

-- the End of the block that the entries stand in, with d blocks open inside it
abbrev pub closes : Flow → ℕ → Bool
closes x d = is 95 x && eqb d 0

-- the blocks open inside it behind an entry
abbrev pub inside : Flow → ℕ → ℕ
inside x d = cond (is 95 x) (d - 1) (cond (opens x) (d + 1) d)

-- the entries up to the next 85
unfoldable pub until_label : List Instruction → List Instruction
until_label [] = []
until_label (i ∷ r) = cond (is 85 (flow i)) [] (i ∷ until_label r)

-- ---- the higher of two heights

-- what a call of a subroutine of height h gives, where r is the higher one
pub higher_of : (h most r : ℕ) → r ≤ 7 → most ≤ r → ((s : ℕ) → s < 7 → s ≤ h → suc s ≤ r) → ((s : ℕ) → most ≤ s → h < s → r ≤ s) → Higher (λ s. leb s h) most r
higher_of h most r small a b c = record { low = small; told = λ s w. by s w (leb (suc s) most) (leb s h) refl refl }
  where
    by : (s : ℕ) → s < 7 → (t u : Bool) → leb (suc s) most ≡ t → leb s h ≡ u → leb (suc s) r ≡ t || u
    by s w true u q z = le-leb (suc s) r (omega (arith, leb-true (suc s) most q))
    by s w false true q z = le-leb (suc s) r (b s w (leb-true s h z))
    by s w false false q z = lt-leb (suc s) r (omega (arith, c s (let g = leb-false (suc s) most q in omega arith) (leb-false s h z)))

-- ---- from entry to entry

pub up_next : (d : ℕ) (i : Instruction) (r : List Instruction) → up_to_end d (i ∷ r) ≡ i ∷ cond (closes (flow i) d) [] (up_to_end (inside (flow i) d) r)
unfolding up_to_end
up_next zero i r = by (is 95 (flow i)) (opens (flow i))
  where
    by : (b o : Bool) → ◌≡◌ {A = List Instruction} (i ∷ cond b [] (up_to_end (cond o 1 0) r)) (i ∷ cond (b && eqb 0 0) [] (up_to_end (cond b (0 - 1) (cond o (0 + 1) 0)) r))
    by true o = refl
    by false true = refl
    by false false = refl
up_next (suc n) i r = by (is 95 (flow i)) (opens (flow i))
  where
    by : (b o : Bool) → ◌≡◌ {A = List Instruction} (i ∷ up_to_end (cond b n (cond o (suc (suc n)) (suc n))) r) (i ∷ cond (b && eqb (suc n) 0) [] (up_to_end (cond b (suc n - 1) (cond o (suc n + 1) (suc n))) r))
    by true o =
        ap (λ m. i ∷ up_to_end m r) (let g : n ≡ suc n - 1 = omega arith in g) ∙ ap (λ t. i ∷ cond t [] (up_to_end (suc n - 1) r)) (sym (eqb-suc-zero n))
    by false true = ap (λ m. i ∷ up_to_end m r) (let g : suc (suc n) ≡ suc n + 1 = omega arith in g)
    by false false = refl

pub any_next : (f : ℕ → Bool) (i : Instruction) (r : List Instruction) → any_call f (i ∷ r) ≡ call_holds f (call_of (flow i)) || any_call f r
unfolding any_call
any_next f i r = by (call_of (flow i)) refl
  where
    by : (o : Option ℕ) → call_of (flow i) ≡ o → any_call f (i ∷ r) ≡ call_holds f (call_of (flow i)) || any_call f r
    by none e = rw e refl
    by (some j) e = rw e refl
