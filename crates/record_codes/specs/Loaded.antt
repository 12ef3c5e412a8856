-- What the walks are lent: for each slot of a table in use, numbers made from its entry. Assumes nothing.
use Rattle.std.specs.Prelude.{◌≡◌, refl, ℕ, zero, suc, ◌+◌, ◌*◌, ◌/◌, ◌%◌, ◌≤◌, ◌<◌, true, false, cond, List, length, get_or, replicate, eqb, Option, Some, None, MatchOption}
use Rattle.std.proofs.Math.Option.{Option as Label, none, some}
use Rattle.std.proofs.lemmas.Option.{MatchOption-at_some, MatchOption-at_none}
use Rattle.base_program.specs.declared.Flow.{Flow}
use Rattle.base_program.specs.declared.Instruction.{Instruction}
use Rattle.base_program.specs.declared.Program.{Program}
use Rattle.base_program.specs.declared.Table.{Table}
use Rattle.base_program.specs.Flow.{flow}
use Rattle.base_program.specs.Reach.{sums}
use Rattle.base_program.specs.declared.Table.TheVariants.{Three}
use Rattle.base_program.specs.Entries.{row, entries}
use Rattle.proof_check.specs.Labels.{label_place}

-- 99 places a table, and no table longer than that
pub record Sizes (l lengths : List ℕ) : Type 0 where
  pub places : length l ≡ 297
  pub short : (t : ℕ) → t < 3 → get_or lengths t 0 ≤ 99

-- the tables' lengths
abbrev pub LengthsAre : Program → List ℕ → Type 0
LengthsAre p lengths = (t : Table) → length (entries p t) ≡ get_or lengths (row t) 0

-- a control-flow kind as a number: the kind times 65,536, and its parameter
abbrev pub decode_kind : ℕ → ℕ → ℕ → Flow
decode_kind kind n k =
    cond (eqb kind 0) Flow.Next
    (cond (eqb kind 1) Flow.Else
    (cond (eqb kind 2) Flow.End
    (cond (eqb kind 3) Flow.Then
    (cond (eqb kind 4) Flow.Stop
    (cond (eqb kind 5) (Flow.Loop n)
    (cond (eqb kind 6) (Flow.Subroutine k)
    (cond (eqb kind 7) (Flow.Call k) (cond (eqb kind 8) (Flow.Exit true) (Flow.Exit false)))))))))

unfoldable pub decode : ℕ → Flow
decode c = decode_kind (c / 65536) (c % 65536) (c % 256)

-- the kind of each entry
abbrev pub FlowsAre : Program → List ℕ → Type 0
FlowsAre p l = (t : Table) (k : ℕ) → k < length (entries p t) → decode (get_or l (99 * row t + k) 0) ≡ flow (get_or (entries p t) k Instruction.End)

-- the sums that each entry takes
abbrev pub SumsAre : Program → List ℕ → Type 0
SumsAre p l = (t : Table) (k : ℕ) → k < length (entries p t) → get_or l (99 * row t + k) 0 ≡ sums (get_or (entries p t) k Instruction.End)

-- the entry of Table 3 at which each subroutine begins
abbrev pub SubsAre : Program → List ℕ → Type 0
SubsAre p l = (k : ℕ) → k < 256 → get_or l k 0 ≡ label_place k 1 (entries p Three)

-- ---- the number of an 85, as `label_number` answers it

abbrev pub NumberIs : Label ℕ → Option ℕ → Type 0
NumberIs o r = MatchOption r (o ≡ none) (λ k. o ≡ some k)

pub number_some : (o : Label ℕ) (r : Option ℕ) (k : ℕ) → NumberIs o r → r ≡ Some k → o ≡ some k
number_some o r k h e = MatchOption-at_some (o ≡ none) (λ j. o ≡ some j) k e h

pub number_none : (o : Label ℕ) (r : Option ℕ) → NumberIs o r → r ≡ None → o ≡ none
number_none o r h e = MatchOption-at_none (o ≡ none) (λ j. o ≡ some j) e h

-- ---- an array of zeros

pub zero_at : (n k : ℕ) → ◌≡◌ {A = ℕ} (get_or (replicate n 0) k 0) 0
zero_at zero k = refl
zero_at (suc n) zero = refl
zero_at (suc n) (suc k) = zero_at n k
