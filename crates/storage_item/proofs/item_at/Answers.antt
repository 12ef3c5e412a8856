-- Each case is one law of `Items`, at the array's bounds.
use mathlib.Core.Path.{ap, ◌∙◌}
use Prim.Native.Nat.{◌-◌}
use native.Mathlib.Omega.{arith}
use Rattle.std.specs.Prelude.{Some}
use Rattle.storage_word.specs.Word.{decimal_of}
use Rattle.storage_ring.specs.Ring.{by_age}
use Rattle.storage_ring.specs.RingLaws.{by_age_length_lem}
use Rattle.storage_listing.specs.declared.Item.{Item}
use Rattle.storage_listing.specs.Items.{item_id, item_value, item_none, start_least}
use Rattle.storage_item.proofs.item_at.Goals as goal

pub word_at-requires : goal.word_at-requires
word_at-requires c =
    (c.requires.0, omega (arith, by_age_length_lem c.args.ring.now c.args.s c.requires.0, c.requires.1.0, c.requires.1.1))

pub overflow_sub-result : goal.overflow_sub-result
overflow_sub-result c =
    omega (arith, start_least _ c.requires.1.2, c.word_at.ensures)

pub returns-then-j-eq0 : goal.returns-then-j-eq0
returns-then-j-eq0 c =
    ap (λ w. Some (Item.Id (w - 64512))) c.word_at.ensures ∙ item_id (by_age c.args.ring.now c.args.s) c.args.span.start c.args.span.end c.args.j c.if-j-eq0.true

pub word_at-w-requires : goal.word_at-w-requires
word_at-w-requires c =
    (c.requires.0, omega (arith, by_age_length_lem c.args.ring.now c.args.s c.requires.0, c.requires.1.1, c.if-j-span.true))

pub returns-then-j-span : goal.returns-then-j-span
returns-then-j-span c =
    ap (λ d. Some (Item.Value d)) (c.decimal_of.ensures ∙ ap decimal_of c.word_at-w.ensures) ∙ item_value (by_age c.args.ring.now c.args.s) c.args.span.start c.args.span.end c.requires.1.1 c.args.j (omega (arith, c.if-j-eq0.false)) c.if-j-span.true

pub returns : goal.returns
returns c =
    item_none (by_age c.args.ring.now c.args.s) c.args.span.start c.args.span.end c.requires.1.1 c.args.j (omega (arith, c.if-j-eq0.false)) c.if-j-span.false
