-- Each turn hands out one entry's sums; the first that goes past the most is the fault.
use Rattle.std.proofs.Common.{◌≤◌}
use Rattle.base_program.specs.declared.Program.{Program}
use Rattle.check_sums.specs.Sums.{SumsReady, SumsGoing, TableGoing}
use Rattle.check_sums.proofs.walk_sums.Given as goal

abbrev pub invariant-tables : goal.invariant-tables
invariant-tables l = record {
  fits : l.total ≤ l.most;
  going : (p : Program) → SumsReady p l.sums l.lengths l.most → TableGoing p l.t l.total;
}

abbrev pub invariant-entries : goal.invariant-entries
invariant-entries l = record {
  fits : l.total ≤ l.most;
  going : (p : Program) → SumsReady p l.sums l.lengths l.most → SumsGoing p l.t l.e l.total;
}
