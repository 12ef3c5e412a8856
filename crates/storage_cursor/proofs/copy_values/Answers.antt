-- One part or two.
use Rattle.std.proofs.Common.{◌≡◌, ap, ◌∙◌, arith, ◌++◌, length, take, drop}
use Prim.Native.Nat.{◌+◌, ◌-◌}
use Rattle.std.proofs.lemmas.List.{take_all, length-drop, length-take-le}
use Rattle.storage_cursor.proofs.Parts.{held_round, held_one, held_two, put_twice, copied}
use Rattle.storage_cursor.proofs.copy_values.Goals as goal

pub returns-then-n-at : goal.returns-then-n-at
returns-then-n-at c =
    let ring = c.args.ring.now in
    let start = c.args.span.start in
    let count = c.args.span.end - (start + 1) in
    let round = c.oldest.result + start + 1 - length ring in
    copied ring c.args.s c.requires.0 c.args.span c.requires.1 c.requires.2 c.args.values.now _ c.requires.3
    (c.copy_words.ensures
    ∙ ap (λ n. take n (drop round ring)) (let g : round + count - round ≡ count = omega arith in g)
    ∙ ap (λ o. take count (drop (o + start + 1 - length ring) ring)) c.oldest.ensures
    ∙ held_round ring c.args.s c.requires.0 c.args.span c.requires.1 c.requires.2 (omega (arith, c.oldest.ensures, c.if-n-at.true)))

pub returns-then-at-count : goal.returns-then-at-count
returns-then-at-count c =
    let ring = c.args.ring.now in
    let start = c.args.span.start in
    let count = c.args.span.end - (start + 1) in
    let at = c.oldest.result + start + 1 in
    copied ring c.args.s c.requires.0 c.args.span c.requires.1 c.requires.2 c.args.values.now _ c.requires.3
    (c.copy_words-then-at-count.ensures
    ∙ ap (λ n. take n (drop at ring)) (let g : at + count - at ≡ count = omega arith in g)
    ∙ ap (λ o. take count (drop (o + start + 1) ring)) c.oldest.ensures
    ∙ held_one ring c.args.s c.requires.0 c.args.span c.requires.1 c.requires.2 (omega (arith, c.oldest.ensures, c.if-n-at.false)) (omega (arith, c.oldest.ensures, c.if-at-count.true)))

pub returns-else-at-count : goal.returns-else-at-count
returns-else-at-count c =
    let ring = c.args.ring.now in
    let start = c.args.span.start in
    let count = c.args.span.end - (start + 1) in
    let at = c.oldest.result + start + 1 in
    let x = c.copy_words-else-at-count.new.values in
    let y = c.copy_words-else-at-count-2.new.values in
    let x_is : x ≡ drop at ring = c.copy_words-else-at-count.ensures ∙ take_all (length ring - at) (drop at ring) (omega (arith, length-drop at ring)) in
    let y_is : y ≡ take (count - (length ring - at)) ring = c.copy_words-else-at-count-2.ensures in
    put_twice c.args.values.now x y (length ring - at) (count - (length ring - at)) (ap length x_is ∙ length-drop at ring) (ap length y_is ∙ length-take-le (count - (length ring - at)) ring (omega (arith, c.requires.1, c.requires.2, c.requires.0.filled))) (omega (arith, c.requires.1, c.requires.2, c.requires.0.filled, c.requires.3, c.if-at-count.false, c.if-n-at.false))
    ∙ ap (λ m. (x ++ y) ++ drop m c.args.values.now) (let g : (length ring - at) + (count - (length ring - at)) ≡ count = omega (arith, c.if-at-count.false, c.if-n-at.false) in g)
    ∙ copied ring c.args.s c.requires.0 c.args.span c.requires.1 c.requires.2 c.args.values.now (x ++ y) c.requires.3
    (ap (λ l. l ++ y) x_is ∙ ap (λ l. drop at ring ++ l) y_is
    ∙ ap (λ o. drop (o + start + 1) ring ++ take (count - (length ring - (o + start + 1))) ring) c.oldest.ensures
    ∙ held_two ring c.args.s c.requires.0 c.args.span c.requires.1 c.requires.2 (omega (arith, c.oldest.ensures, c.if-n-at.false)) (omega (arith, c.oldest.ensures, c.if-at-count.false)))
