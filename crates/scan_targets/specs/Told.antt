-- What is found out of a program before a scan: where its blocks end and its subroutines begin. Assumes nothing.
use Rattle.std.specs.Prelude.{◌≡◌, ℕ, ◌+◌, ◌*◌, ◌≤◌, ◌<◌, List, [], ◌∷◌, length, get_or, drop}
use Rattle.std.proofs.Math.Option.{Option, none, some}
use Rattle.base_program.specs.declared.Program.{Program}
use Rattle.base_program.specs.declared.Table.{Table}
use Rattle.base_program.specs.Entries.{row, slot, entries, first_sum}
use Rattle.record_codes.specs.Loaded.{LengthsAre, FlowsAre, SumsAre}
use Rattle.spec_machine.specs.Ends.{Way, ways, behind_label}

-- The place behind e entries of a table, as one number: 128 places a table.
abbrev pub place_number : Table → ℕ → ℕ
place_number t e = 128 * row t + e

-- a place behind an entry, 0 for none
abbrev pub or_zero : Option ℕ → ℕ
or_zero none = 0
or_zero (some q) = q

-- of the innermost block open: the place behind its End, and behind its Else
abbrev pub end_at : List Way → ℕ
end_at [] = 0
end_at (w ∷ ws) = w.behind_end

abbrev pub else_at : List Way → ℕ
else_at [] = 0
else_at (w ∷ ws) = or_zero w.behind_else

-- the ways of the blocks open behind e entries
abbrev pub ways_from : Program → Table → ℕ → List Way
ways_from p t e = ways e (drop e (entries p t))

-- 'A block's End is the first after it that belongs to no block inside it; its Else is such a one before that End, if there is one.'
pub record TargetsTold (p : Program) (ends elses : List ℕ) : Type 0 where
  pub end_told : (t : Table) (e : ℕ) → e ≤ 127 → get_or ends (place_number t e) 0 ≡ end_at (ways_from p t e)
  pub else_told : (t : Table) (e : ℕ) → e ≤ 127 → get_or elses (place_number t e) 0 ≡ else_at (ways_from p t e)

-- 'a subroutine call goes past its 85': the place behind the 85 with number k
pub record Subs (p : Program) (subs : List ℕ) : Type 0 where
  pub sub_told : (k : ℕ) → k < 256 → get_or subs k 0 ≡ or_zero (behind_label k 0 (entries p Table.Three))

-- 'handed out in entry order, Table 1 first': the first sum of every entry in use
pub record Firsts (p : Program) (firsts : List ℕ) : Type 0 where
  pub first_told : (t : Table) (e : ℕ) → 1 ≤ e → e ≤ length (entries p t) → get_or firsts (slot t e) 0 ≡ first_sum p t e

-- ---- what the check has found of a program's entries: their kinds, and their sums, and how many there are

pub record Kinds (p : Program) (codes lengths : List ℕ) : Type 0 where
  pub lengths_are : LengthsAre p lengths
  pub flows_are : FlowsAre p codes

pub record Sums (p : Program) (sums lengths : List ℕ) : Type 0 where
  pub lengths_are : LengthsAre p lengths
  pub sums_are : SumsAre p sums
