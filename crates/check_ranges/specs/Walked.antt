-- What the first walk finds, and what it lends the later walks where it finds no fault. Assumes nothing.
use Rattle.std.specs.Prelude.{◌≡◌, ℕ, ◌≤◌, cond, List, length, get_or, ltb}
use Rattle.base_program.specs.declared.Finding.{Finding}
use Rattle.base_program.specs.declared.Program.{Program}
use Rattle.base_program.specs.declared.Table.{Table}
use Rattle.base_program.specs.Entries.{row, claimed, entries}
use Rattle.spec_check.specs.Check.{first_of, walk_ranges}
use Rattle.record_codes.specs.Loaded.{FlowsAre, SumsAre}
use Rattle.check_reach.specs.Ready.{NeedsAre}

-- V of the table of row t
abbrev pub interval_at : List ℕ → ℕ → ℕ
interval_at l t = cond (ltb t 2) (get_or l t 0) 0

pub record RangesWalked (p : Program) (codes sums needs : List ℕ) (r : Finding) : Type 0 where
  pub finding : r ≡ first_of (walk_ranges p)
  pub flows_are : r ≡ Finding.Clean → FlowsAre p codes
  pub sums_are : r ≡ Finding.Clean → SumsAre p sums
  pub needs_are : r ≡ Finding.Clean → NeedsAre p p.locations needs
  pub lengths_are : r ≡ Finding.Clean → (t : Table) → (length (entries p t) ≡ get_or p.lengths (row t) 0) × (claimed p t ≤ 99)
  pub codes_kept : length codes ≡ 297
  pub sums_kept : length sums ≡ 297
  pub needs_kept : length needs ≡ 297
