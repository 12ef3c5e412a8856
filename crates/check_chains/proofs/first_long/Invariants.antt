-- Each turn is one step of `Longs`, and goes on to the next place.
use Rattle.std.proofs.Common.{get_or}
use Rattle.check_chains.proofs.Longs.{AtLong}
use Rattle.check_chains.proofs.first_long.Given as goal

abbrev pub invariant-loop-i : goal.invariant-loop-i
invariant-loop-i l = AtLong l.codes (get_or l.calls.places 0 0) l.heights (get_or l.calls.places l.i 0)
