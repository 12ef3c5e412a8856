-- The counts of Tables 1 and 2, from what their calls add. Assumes nothing.
use Rattle.std.specs.Prelude.{◌≡◌, ℕ, ◌*◌, ◌≤◌, ◌<◌, List, get_or, leb}
use Rattle.std.proofs.Common.{sym, ◌∙◌}
use Rattle.base_program.specs.declared.Program.{Program}
use Rattle.base_program.specs.declared.Table.{Table}
use Rattle.base_program.specs.declared.Table.TheVariants.{One, Two, Three}
use Rattle.base_program.specs.Entries.{row, entries}
use Rattle.spec_check.specs.Calls.{chain}
use Rattle.spec_check.specs.Counts.{counts, top, call_count, stated_count}
use Rattle.record_codes.specs.Loaded.{LengthsAre, FlowsAre, SubsAre}
use Rattle.check_count.specs.Saturate.{sat}
use Rattle.check_count.specs.Ready.{added}
use Rattle.check_counts.specs.Subs.{SubsReady, table_count}

pub record CountsReady (p : Program) (codes lengths subs heights : List ℕ) : Type 0 where
  pub lengths_are : LengthsAre p lengths
  pub flows_are : FlowsAre p codes
  pub subs_are : SubsAre p subs
  pub heights_are : (k : ℕ) → k < 256 → (s : ℕ) → s ≤ 7 → leb s (get_or heights k 0) ≡ chain p s k
  pub short : (k : ℕ) → k < 256 → get_or heights k 0 ≤ 6

pub record TablesCounted (p : Program) (first second : ℕ) : Type 0 where
  pub first_is : first ≡ sat (stated_count p One)
  pub second_is : second ≡ sat (stated_count p Two)

pub subs_ready : (p : Program) (codes lengths subs heights : List ℕ) (n : ℕ) → n ≡ get_or lengths 2 0 → CountsReady p codes lengths subs heights
    → SubsReady p codes n subs heights
subs_ready p codes lengths subs heights n h r =
    record {
      flows_are = r.flows_are Three;
      length_is = r.lengths_are Three ∙ sym h;
      subs_are = r.subs_are;
      heights_are = r.heights_are;
      short = r.short;
    }

-- a table's count from the count by the array
pub table_is : (p : Program) (codes lengths subs heights adds : List ℕ) → CountsReady p codes lengths subs heights
    → ((k : ℕ) → k < 256 → get_or adds k 0 ≡ sat (call_count p 7 k)) → (t : Table) (n : ℕ) → n ≡ sat (top (counts (added adds) (entries p t))) → n ≡ sat (stated_count p t)
table_is p codes lengths subs heights adds r c t n h = h ∙ table_count p codes (99 * row t) (entries p t) adds (r.flows_are t) c
