-- One byte more is passed.
use Rattle.std.proofs.Common.{◌∙◌, ◌+◌, sym, ap, drop}
use lib.ListN.{drop_of_length-le}
use Rattle.base_lines.specs.Line.{from_word}
use Rattle.base_lines.proofs.Laws.{from_all, word_here, word_none, word_passed, word_inside}
use Rattle.base_lines.proofs.number.from_word.Goals as goal
use Rattle.base_lines.proofs.number.from_word.Goals.{then-b-eq32, else-b-eq32}

pub returns-then-left-eq0 : goal.returns-then-left-eq0
returns-then-left-eq0 c =
    from_all c.args.s.now c.loop-i.i ∙ word_here c.loop-i.left (drop c.loop-i.i c.args.s.now) c.if-left-eq0.true ∙ c.loop-i.invariant

pub loop-i-preserved : goal.loop-i-preserved
loop-i-preserved c =
    elim c.if-b-eq32.branch [
      | then-b-eq32 w ↦ ap (λ k. from_word k (drop (c.loop-i.i + 1) c.args.s.now)) w.left-is ∙ word_passed c.args.s.now c.loop-i.i c.loop-i.left c.loop-i-test.true c.if-left-eq0.false w.if-b-eq32.true ∙ c.loop-i.invariant
      | else-b-eq32 w ↦ ap (λ k. from_word k (drop (c.loop-i.i + 1) c.args.s.now)) w.left-is ∙ word_inside c.args.s.now c.loop-i.i c.loop-i.left c.loop-i-test.true c.if-left-eq0.false w.if-b-eq32.false ∙ c.loop-i.invariant
    ]

pub returns : goal.returns
returns c =
    let d = drop_of_length-le c.args.s.now {i = c.loop-i.i} c.loop-i-test.false in
    word_none c.loop-i.left ∙ sym (ap (from_word c.loop-i.left) d) ∙ c.loop-i.invariant
