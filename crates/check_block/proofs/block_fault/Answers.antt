-- Each arm is one law of `Judge`, at the kind that the match tells.
use Rattle.std.proofs.Common.{◌≡◌, refl, Bool, true, false, not, ◌&&◌, ◌||◌, arith}
use Rattle.std.specs.Prelude.{eqb}
use Rattle.check_block.specs.Judge.{none_open, judge_end, judge_label, judge_else, judge_exit, judge_then, judge_loop, judge_next, judge_stop, judge_call, then_fault}
use Rattle.check_block.proofs.block_fault.Goals as goal

not_both : (a b : Bool) → not (a && b) ≡ (not a || not b)
not_both true b = refl
not_both false b = refl

pub returns-in-Subroutine : goal.returns-in-Subroutine
returns-in-Subroutine c =
    rw (c.in-Subroutine.is, judge_label, ← not_both, none_open c.args.blocks.now c.args.depth, ← c.is_outside-outside.ensures) c.judge_subroutine.ensures

pub returns-in-End : goal.returns-in-End
returns-in-End c = rw (c.in-End.is, judge_end, none_open c.args.blocks.now c.args.depth, c.then_some.ensures) (then_fault (eqb c.args.depth 0) 13 (omega arith))

pub returns-in-Else : goal.returns-in-Else
returns-in-Else c =
    rw (c.in-Else.is, judge_else, none_open c.args.blocks.now c.args.depth, ← c.is_outside-outside.ensures, ← c.inside_then.ensures) c.judge_inside.ensures

pub returns-in-Exit : goal.returns-in-Exit
returns-in-Exit c =
    rw (c.in-Exit.is, judge_exit, none_open c.args.blocks.now c.args.depth, ← c.is_outside-outside.ensures, ← c.has_loop.ensures) c.judge_inside-in-Exit.ensures

pub returns-in-Then : goal.returns-in-Then
returns-in-Then c =
    rw (c.in-Then.is, judge_then, none_open c.args.blocks.now c.args.depth, ← c.is_outside-outside.ensures, ← c.is_twelfth.ensures) c.judge_inside-in-Then.ensures

pub returns-in-Loop : goal.returns-in-Loop
returns-in-Loop c =
    rw (c.in-Loop.is, judge_loop, none_open c.args.blocks.now c.args.depth, ← c.is_outside-outside.ensures, ← c.is_twelfth-in-Loop.ensures) c.judge_inside-in-Loop.ensures

pub returns-in-Next : goal.returns-in-Next
returns-in-Next c =
    rw (c.in-Next.is, judge_next, none_open c.args.blocks.now c.args.depth, ← c.is_outside-outside.ensures, c.then_some-in-Next.ensures) (then_fault c.is_outside-outside.result 12 (omega arith))

pub returns-in-Stop : goal.returns-in-Stop
returns-in-Stop c =
    rw (c.in-Stop.is, judge_stop, none_open c.args.blocks.now c.args.depth, ← c.is_outside-outside.ensures, c.then_some-in-Stop.ensures) (then_fault c.is_outside-outside.result 12 (omega arith))

pub returns-in-Call : goal.returns-in-Call
returns-in-Call c =
    rw (c.in-Call.is, judge_call, none_open c.args.blocks.now c.args.depth, ← c.is_outside-outside.ensures, c.then_some-in-Call.ensures) (then_fault c.is_outside-outside.result 12 (omega arith))
