-- Each turn is one step of `Steps`, and each way out is a fault there.
use Rattle.std.proofs.Common.{◌≡◌, ◌≤◌, length}
use Rattle.check_calls.proofs.Steps.{given, AtTable, AtEntry}
use Rattle.check_calls.proofs.walk_reach.Given as goal

abbrev pub invariant-tables : goal.invariant-tables
invariant-tables l = record {
  long : length l.passes ≡ 100;
  at : AtTable (given l.lengths l.most l.codes l.needs l.subs) l.t;
}

abbrev pub invariant-entries : goal.invariant-entries
invariant-entries l = record {
  long : length l.passes ≡ 100;
  few : l.depth ≤ l.e;
  at : AtEntry (given l.lengths l.most l.codes l.needs l.subs) l.passes l.depth l.t l.e;
}
