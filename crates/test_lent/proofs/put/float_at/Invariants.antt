-- The bits so far are below 2^32, so the next digit's sum fits.
use Rattle.std.proofs.Common.{◌<◌, ◌^◌}
use Rattle.test_lent.proofs.put.float_at.Given as goal

abbrev pub invariant-loop-b : goal.invariant-loop-b
invariant-loop-b l = l.n < 2 ^ 32
