-- A bound, and back from it over values the same array is open.
use mathlib.Core.Path.{◌≡◌}
use Rattle.storage_ring.specs.Ring.{by_age}
use Rattle.storage_listing.specs.Standing.{open_at}
use Rattle.storage_standing.proofs.ends_at.Given as goal

abbrev pub invariant-loop-i : goal.invariant-loop-i
invariant-loop-i l =
    open_at (by_age l.ring l.s) l.i ≡ open_at (by_age l.ring l.s) l.at
