-- Each turn writes one value of those left.
use Rattle.storage_ring.specs.Ring.{by_age}
use Rattle.storage_listing.specs.Spans.{held}
use Rattle.listing_output.specs.Written.{Left}
use Rattle.listing_output.specs.Shown.{values_bytes}
use Rattle.listing_output.specs.Walk.{until}
use Rattle.listing_shown.proofs.shown.put_values.Given as goal

abbrev pub invariant-loop-i : goal.invariant-loop-i
invariant-loop-i l =
    Left l.out l.m (values_bytes (until (by_age l.ring l.s) l.i l.fn.span.end)) l.initial.out l.n (values_bytes (held (by_age l.ring l.s) l.fn.span.start l.fn.span.end))
