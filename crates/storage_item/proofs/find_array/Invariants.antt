-- Before turn i the arrays left are those behind the first i; each turn is one law of `Spots`.
use mathlib.Core.Path.{◌≡◌}
use lib.ListN.{drop}
use Rattle.storage_ring.specs.Ring.{by_age}
use Rattle.storage_listing.specs.Spans.{spans, spans_from}
use Rattle.storage_item.proofs.find_array.Given as goal

abbrev pub invariant-loop : goal.invariant-loop
invariant-loop l =
    spans_from (by_age l.ring l.s) l.from ≡ drop l.counter (spans 0 (by_age l.ring l.s))
