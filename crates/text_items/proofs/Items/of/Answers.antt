-- The items found so far are the first ones, and what is left is cut from the next position on.
use Rattle.std.proofs.Common.{◌≡◌, ◌+◌, ℕ, min, length, set, length-set, sym, ◌∙◌, subst, arith}
use Rattle.std.specs.Ordering.{ord_min, nat_cmp}
use Rattle.std.proofs.lemmas.Grind.{common_steps}
use Rattle.text_items.specs.Split.{items_of}
use Rattle.text_items.specs.Cut.{ItemsCut}
use Rattle.text_items.proofs.Going.{Going, refused, bad_none, bad_other, done, going_next}
use Rattle.text_items.proofs.Items.of.Goals as goal

least : (a b : ℕ) → min a b ≡ ord_min nat_cmp a b
least a b = grind (arith, common_steps)

pub invariant_of-result : goal.invariant_of-result
invariant_of-result c =
    let s = c.args.line.now in
    let starts = c.loop-at.starts in
    refused s starts c.loop-at.invariant.room (bad_none s starts c.loop-at.count c.loop-at.at c.word_end-e.result c.loop-at.invariant c.word_end-e.ensures c.if-e-at.true)

pub invariant_of-result-then-e-line : goal.invariant_of-result-then-e-line
invariant_of-result-then-e-line c =
    let s = c.args.line.now in
    let starts = c.loop-at.starts in
    let n = c.loop-at.count in
    let e = c.word_end-e.result in
    let slot : min (n + 1) 9 ≡ c.min-slot.result = least (n + 1) 9 ∙ sym c.min-slot.ensures in
    subst (λ x. (n + 1 ≡ length (items_of s)) × ItemsCut s (set starts x (e + 1))) slot
    (done s starts n c.loop-at.at e c.loop-at.invariant c.word_end-e.ensures (omega (arith, c.word_end-e.ensures.from, c.if-e-at.false)) c.if-e-line.true)

pub invariant_of-result-then-line-e-ne32 : goal.invariant_of-result-then-line-e-ne32
invariant_of-result-then-line-e-ne32 c =
    let s = c.args.line.now in
    let starts = c.loop-at.starts in
    let e = c.word_end-e.result in
    refused s (set starts c.min-slot.result (e + 1)) (length-set starts c.min-slot.result (e + 1) ∙ c.loop-at.invariant.room)
    (bad_other s starts c.loop-at.count c.loop-at.at e c.loop-at.invariant c.word_end-e.ensures (omega (arith, c.word_end-e.ensures.within, c.if-e-line.false)) c.if-line-e-ne32.true)

pub loop-at-preserved : goal.loop-at-preserved
loop-at-preserved c =
    let s = c.args.line.now in
    let starts = c.loop-at.starts in
    let n = c.loop-at.count in
    let e = c.word_end-e.result in
    let slot : min (n + 1) 9 ≡ c.min-slot.result = least (n + 1) 9 ∙ sym c.min-slot.ensures in
    subst (λ x. Going s (set starts x (e + 1)) (n + 1) (e + 1)) slot
    (going_next s starts n c.loop-at.at e c.loop-at.invariant c.word_end-e.ensures (omega (arith, c.word_end-e.ensures.from, c.if-e-at.false)) (omega (arith, c.word_end-e.ensures.within, c.if-e-line.false)) c.if-line-e-ne32.false)
