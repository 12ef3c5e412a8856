-- Each turn looks at one call more, from the last one up.
use Rattle.std.proofs.Common.{get_or}
use Rattle.check_counts.specs.Ahead.{AheadFrom}
use Rattle.check_counts.proofs.subs.first_high.Given as goal

abbrev pub invariant-loop-e : goal.invariant-loop-e
invariant-loop-e l = AheadFrom l.codes (get_or l.calls.places 0 0) l.subs (get_or l.calls.places l.e-index 0)
