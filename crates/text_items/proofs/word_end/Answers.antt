-- The bytes passed and the plain ones that are next are the plain ones from the start.
use Rattle.std.proofs.Common.{◌≡◌, ap, sym, ◌∙◌, arith, drop, drop_of_length-le, length}
use Rattle.text_items.specs.Cut.{plain_first}
use Rattle.text_items.proofs.Turns.{plain_at, plain_past}
use Rattle.text_items.proofs.word_end.Goals as goal

pub returns-then-not-is_plain : goal.returns-then-not-is_plain
returns-then-not-is_plain c =
    let z = plain_at c.args.s.now c.loop-i.i c.loop-i-test.true (sym c.is_plain.ensures ∙ c.if-not-is_plain.true) in
    record { is = omega (arith, z, c.loop-i.invariant); from = omega arith; within = omega arith }

pub loop-i-preserved : goal.loop-i-preserved
loop-i-preserved c =
    plain_past c.args.s.now c.loop-i.i c.loop-i-test.true (sym c.is_plain.ensures ∙ c.if-not-is_plain.false) ∙ c.loop-i.invariant

pub returns : goal.returns
unfolding plain_first
returns c =
    let z : plain_first (drop c.loop-i.i c.args.s.now) ≡ 0 = ap plain_first (drop_of_length-le c.args.s.now c.loop-i-test.false) in
    let q : c.loop-i.i ≡ length c.args.s.now = omega (arith, c.loop-i.auto.i-end c.requires) in
    record { is = omega (arith, z, q, c.loop-i.invariant); from = c.requires; within = omega arith }
