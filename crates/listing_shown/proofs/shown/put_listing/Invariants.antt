-- One array after the other: each writes the first line of what is left.
use Prim.Native.Nat.{◌-◌}
use lib.ListN.{length}
use Rattle.storage_ring.specs.Ring.{by_age}
use Rattle.listing_output.specs.Written.{Left}
use Rattle.listing_output.specs.Shown.{lines_of_arrays, held_arrays}
use Rattle.listing_output.specs.Walk.{lines_from}
use Rattle.listing_shown.proofs.shown.put_listing.Given as goal

abbrev pub invariant-loop-span : goal.invariant-loop-span
invariant-loop-span l =
    Left l.out l.n (lines_from (by_age l.ring l.s) l.from) l.initial.out 0 (lines_of_arrays (held_arrays l.ring l.s))

abbrev pub decreases-loop-span : goal.decreases-loop-span
decreases-loop-span l =
    length (by_age l.ring l.s) - l.from
