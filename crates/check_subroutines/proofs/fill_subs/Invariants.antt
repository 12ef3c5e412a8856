-- Each turn adds the entry in front of those that the table is right for.
use mathlib.Core.Path.{◌≡◌}
use lib.ListN.{length, get_or}
use Rattle.base_program.specs.declared.Program.{Program}
use Rattle.base_program.specs.declared.Table.TheVariants.{Three}
use Rattle.base_program.specs.Entries.{entries}
use Rattle.record_codes.specs.Loaded.{FlowsAre}
use Rattle.check_subroutines.specs.Labels.{Begins}
use Rattle.check_subroutines.specs.Listed.{ListedFrom}
use Rattle.check_subroutines.proofs.fill_subs.Given as goal

abbrev pub invariant-loop-e : goal.invariant-loop-e
invariant-loop-e l = record {
  begins : (p : Program) → FlowsAre p l.codes → length (entries p Three) ≡ l.n → Begins p l.subs l.e;
  listed : ListedFrom l.codes l.places l.count l.e;
  head : get_or l.places 0 0 ≡ l.n;
}
