-- Faults 18, 19 and 20: calls, chains of calls, and the reach of locations and channels. Assumes nothing.
use Rattle.std.specs.Prelude.{ℕ, zero, suc, ◌+◌, ◌-◌, Bool, true, false, cond, not, ◌||◌, List, [], ◌∷◌, ltb, eqb}
use Rattle.std.proofs.Math.Option.{Option, none, some}
use Rattle.base_program.specs.declared.Instruction.{Instruction}
use Rattle.base_program.specs.declared.Program.{Program}
use Rattle.base_program.specs.declared.Table.{Table}
use Rattle.base_program.specs.declared.Table.TheVariants.{Three}
use Rattle.base_program.specs.Flow.{flow, call_of, opens}
use Rattle.base_program.specs.Channel.{single_numbers}
use Rattle.base_program.specs.Reach.{LocationSpan, locations, readings}
use Rattle.base_program.specs.Entries.{entries, entry_at}
use Rattle.spec_check.specs.Blocks.{Block, then_do, else_do, subroutine, loop, blocks_at, flow_at, is, label, same, label_before}

-- ---- 18: 'No such subroutine'

abbrev pub missing : Option ℕ → List Instruction → Bool
missing none l = false
missing (some k) l = not (label_before (some k) l)

abbrev pub fault18 : Program → Table → ℕ → Bool
fault18 p t e = missing (call_of (flow_at p t e)) (entries p Three)

-- ---- 20: 'Location 0 or above I on any rep and pass; channel beyond card 7'

-- the count of the innermost loop, which is its highest pass; 1 with none
unfoldable pub passes_in_force : List Block → ℕ
passes_in_force [] = 1
passes_in_force (then_do ∷ bs) = passes_in_force bs
passes_in_force (else_do ∷ bs) = passes_in_force bs
passes_in_force (subroutine ∷ bs) = passes_in_force bs
passes_in_force (loop n ∷ bs) = n

-- the highest location that is reached: 'location + count - 1 + reps - 1'
abbrev pub highest : ℕ → LocationSpan → ℕ
highest n s = s.location.number + cond s.location.indexed (n - 1) 0 + (s.reps - 1)

abbrev pub outside : ℕ → ℕ → LocationSpan → Bool
outside most n s = eqb s.location.number 0 || ltb most (highest n s)

unfoldable pub any_outside : ℕ → ℕ → List LocationSpan → Bool
any_outside most n [] = false
any_outside most n (s ∷ r) = outside most n s || any_outside most n r

unfoldable pub any_beyond : ℕ → List ℕ → Bool
any_beyond most [] = false
any_beyond most (k ∷ r) = ltb most k || any_beyond most r

abbrev pub fault20 : Program → Table → ℕ → Bool
fault20 p t e =
    any_outside p.locations (passes_in_force (blocks_at p t e)) (locations (entry_at p t e)) || any_beyond single_numbers.most (readings (entry_at p t e))

-- ---- subroutines

-- the entries behind the 85 with number k
unfoldable pub behind : ℕ → List Instruction → List Instruction
unfolding label
behind k [] = []
behind k (i ∷ r) = cond (same (some k) (label (flow i))) r (behind k r)

-- The entries up to and with the End that closes the block they stand in, with n blocks open inside it.
unfoldable pub up_to_end : ℕ → List Instruction → List Instruction
unfolding opens
up_to_end n [] = []
up_to_end zero (i ∷ r) = i ∷ cond (is 95 (flow i)) [] (up_to_end (cond (opens (flow i)) 1 0) r)
up_to_end (suc n) (i ∷ r) = i ∷ up_to_end (cond (is 95 (flow i)) n (cond (opens (flow i)) (suc (suc n)) (suc n))) r

-- 'its subroutine's entries after 85'
unfoldable pub body : Program → ℕ → List Instruction
body p k = up_to_end 0 (behind k (entries p Three))

-- ---- 19: 'Chain of subroutines over 7, or circular, called or not; first 85 that starts one'

unfoldable pub any_call : (ℕ → Bool) → List Instruction → Bool
any_call f [] = false
any_call f (i ∷ r) = holds (call_of (flow i)) || any_call f r
  where
    holds : Option ℕ → Bool
    holds none = false
    holds (some j) = f j

-- n more subroutines can be called one from another, as written, from subroutine k; in a circle any number
unfoldable pub chain : Program → ℕ → ℕ → Bool
unfolding any_call
chain p zero k = true
chain p (suc n) k = any_call (chain p n) (body p k)

-- a chain of eight
abbrev pub starts_long : Program → Option ℕ → Bool
starts_long p none = false
starts_long p (some k) = chain p 7 k

abbrev pub fault19 : Program → ℕ → Bool
fault19 p e = starts_long p (label (flow_at p Three e))
