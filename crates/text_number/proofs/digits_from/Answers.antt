-- What n and the bytes from b on say is what v and all bytes say, and no part of it is larger than the whole.
use Rattle.std.proofs.Common.{ap, sym, ◌∙◌, arith, drop_of_length-le}
use Rattle.text_number.specs.Keyed.{value_from}
use Rattle.text_number.proofs.Walk.{value_at, first_digit, turn_small}
use Rattle.text_number.proofs.digits_from.Goals as goal

pub overflow_sub-d : goal.overflow_sub-d
overflow_sub-d c =
    (first_digit c.args.s.now c.loop-b.b-index c.loop-b-test.true c.loop-b.invariant.0).0

pub overflow_mul-n : goal.overflow_mul-n
overflow_mul-n c =
    omega (arith, turn_small c.loop-b.n c.args.s.now c.loop-b.b-index _ c.loop-b-test.true c.loop-b.invariant.1 c.requires.1)

pub overflow_add-n : goal.overflow_add-n
overflow_add-n c =
    omega (arith, turn_small c.loop-b.n c.args.s.now c.loop-b.b-index _ c.loop-b-test.true c.loop-b.invariant.1 c.requires.1)

pub loop-b-preserved : goal.loop-b-preserved
loop-b-preserved c =
    let s = c.args.s.now in
    let i = c.loop-b.b-index in
    ((first_digit s i c.loop-b-test.true c.loop-b.invariant.0).2, sym (value_at c.loop-b.n s i c.loop-b-test.true) ∙ c.loop-b.invariant.1)

pub returns : goal.returns
unfolding value_from
returns c =
    ap (value_from c.loop-b.n) (sym (drop_of_length-le c.args.s.now c.loop-b-test.false)) ∙ c.loop-b.invariant.1
