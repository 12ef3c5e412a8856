-- The id, the values, the line's end.
use mathlib.Core.Path.{ap}
use Prim.Native.Nat.{◌-◌}
use mathlib.Core.List.{[], ◌∷◌, ◌++◌}
use Rattle.std.specs.Prelude.{Some, Ok}
use lib.ListN.{get_or}
use native.Mathlib.Omega.{arith}
use Rattle.storage_ring.specs.Ring.{by_age}
use Rattle.storage_ring.specs.RingLaws.{by_age_length_lem}
use Rattle.storage_listing.specs.declared.Item.{Item}
use Rattle.storage_listing.specs.Items.{start_least}
use Rattle.storage_listing.specs.Spans.{held}
use Rattle.listing_output.specs.WrittenLaws.{put_as, put_then}
use Rattle.listing_output.specs.Shown.{item_bytes, values_bytes, line_of_array}
use Rattle.listing_shown.proofs.shown.put_array.Goals as goal

pub word_at-id-requires : goal.word_at-id-requires
word_at-id-requires c =
    (c.requires.0, omega (arith, by_age_length_lem c.args.ring.now c.args.s c.requires.0, c.requires.1.0, c.requires.1.1))

pub overflow_sub-id : goal.overflow_sub-id
overflow_sub-id c =
    omega (arith, start_least _ c.requires.1.2, c.word_at-id.ensures)

pub returns : goal.returns
unfolding line_of_array
returns c =
    let ws = by_age c.args.ring.now c.args.s in
    put_then (item_bytes (Ok (Some (Item.Id (get_or ws c.args.span.start 0 - 64512))))) (values_bytes (held ws c.args.span.start c.args.span.end) ++ (10 ∷ []))
    (put_as (ap (λ w. item_bytes (Ok (Some (Item.Id (w - 64512))))) c.word_at-id.ensures) c.put_item-a.ensures)
    (put_then (values_bytes (held ws c.args.span.start c.args.span.end)) (10 ∷ []) c.put_values-b.ensures c.put_byte.ensures)
