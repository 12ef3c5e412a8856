-- Each turn goes to the next place, and counts or passes over what stands there.
use Rattle.std.proofs.Common.{get_or}
use Rattle.check_counts.specs.Subs.{AtCount}
use Rattle.check_counts.specs.Lent.{SubSizes, Stopped}
use Rattle.check_counts.proofs.subs.count_round.Given as goal

abbrev pub invariant-loop-e : goal.invariant-loop-e
invariant-loop-e l = record {
  sizes : SubSizes l.codes (get_or l.calls.places 0 0) l.subs l.heights l.factors;
  stopped : Stopped l.adds;
  at : AtCount l.codes (get_or l.calls.places 0 0) l.subs l.heights l.low l.high l.initial.adds l.adds (get_or l.calls.places l.e-index 0);
}
