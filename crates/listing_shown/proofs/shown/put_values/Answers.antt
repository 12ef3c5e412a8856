-- Each turn writes one value of those left.
use mathlib.Core.Path.{ap, ◌∙◌}
use Prim.Native.Nat.{◌+◌}
use native.Mathlib.Omega.{arith}
use Rattle.std.specs.Prelude.{Some, Ok}
use lib.ListN.{get_or}
use Rattle.storage_word.specs.Word.{decimal_of}
use Rattle.storage_ring.specs.Ring.{by_age}
use Rattle.storage_ring.specs.RingLaws.{by_age_length_lem}
use Rattle.storage_listing.specs.declared.Item.{Item}
use Rattle.storage_listing.specs.Spans.{held}
use Rattle.listing_output.specs.WrittenLaws.{left_as, left_start, left_then, left_done, put_as}
use Rattle.listing_output.specs.Shown.{item_bytes, values_bytes}
use Rattle.listing_output.specs.Walk.{until, until_next, until_over}
use Rattle.listing_shown.proofs.shown.put_values.Goals as goal

pub loop-i-init : goal.loop-i-init
loop-i-init c =
    left_start c.args.out.now c.args.n (values_bytes (held (by_age c.args.ring.now c.args.s) c.args.span.start c.args.span.end)) c.requires.2

pub word_at-requires : goal.word_at-requires
word_at-requires c =
    (c.requires.0, omega (arith, c.loop-i-test.true, c.requires.1.1, by_age_length_lem c.args.ring.now c.args.s c.requires.0))

pub put_item-m-requires : goal.put_item-m-requires
put_item-m-requires c =
    c.loop-i.invariant.within

pub loop-i-preserved : goal.loop-i-preserved
loop-i-preserved c =
    let ws = by_age c.args.ring.now c.args.s in
    let p = put_as (ap (λ w. item_bytes (Ok (Some (Item.Value w)))) (c.decimal_of-d.ensures ∙ ap decimal_of c.word_at.ensures)) c.put_item-m.ensures in
    left_then (item_bytes (Ok (Some (Item.Value (decimal_of (get_or ws c.loop-i.i 0)))))) (values_bytes (until ws (c.loop-i.i + 1) c.args.span.end)) (left_as (until_next ws c.loop-i.i c.args.span.end c.loop-i-test.true c.requires.1.1) c.loop-i.invariant) p

pub returns : goal.returns
returns c =
    left_done (left_as (until_over (by_age c.args.ring.now c.args.s) c.loop-i.i c.args.span.end (omega (arith, c.loop-i-test.false))) c.loop-i.invariant)
