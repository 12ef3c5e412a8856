-- Each turn sees one need more.
use Rattle.std.proofs.Common.{◌≡◌, false}
use Rattle.check_missing.proofs.Eighteen.{SeenNone}
use Rattle.check_missing.proofs.any_need.Given as goal

abbrev pub invariant-loop-t : goal.invariant-loop-t
invariant-loop-t l = l.any ≡ false → SeenNone l.needs l.lengths l.t 0

abbrev pub invariant-loop-e : goal.invariant-loop-e
invariant-loop-e l = l.any ≡ false → SeenNone l.needs l.lengths l.t l.e
