-- Each turn is one law of `Seek` on the words by age, and of `Runs` over a run of values.
use mathlib.Core.Bool.{false}
use Prim.Native.Nat.{◌-◌}
use Rattle.storage_ring.specs.Ring.{by_age}
use Rattle.storage_listing.specs.Seek.{Seeking}
use Rattle.storage_listing.proofs.search.seek.Given as goal

abbrev pub invariant-loop-i : goal.invariant-loop-i
invariant-loop-i l =
    Seeking (by_age l.ring l.s) l.from l.i 0 false

abbrev pub decreases-loop-i : goal.decreases-loop-i
decreases-loop-i l =
    l.s.filled - l.i
