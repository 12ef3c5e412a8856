-- From the top down, every block but a subroutine counts.
use Rattle.std.proofs.Common.{◌≡◌, ap, arith, get_or, ◌-◌}
use Rattle.spec_check.specs.Blocks.{count_blocks}
use Rattle.check_open.specs.declared.Block.{Block}
use Rattle.check_open.specs.Stack.{stack_of, stack_top, count_sub, count_other}
use Rattle.check_open.proofs.count_blocks.Goals as goal

pub loop-d-preserved-in-Subroutine : goal.loop-d-preserved-in-Subroutine
loop-d-preserved-in-Subroutine c =
    let l = c.args.blocks.now in
    let d = c.loop-d.d in
    let top = ap count_blocks (stack_top l d (omega arith)) in
    let same = count_sub (get_or l (d - 1) Block.Then) (stack_of l (d - 1)) c.in-Subroutine.is in
    (omega arith, omega (arith, c.loop-d.invariant.1, top, same), omega arith)

pub loop-d-preserved : goal.loop-d-preserved
loop-d-preserved c =
    let l = c.args.blocks.now in
    let d = c.loop-d.d in
    let top = ap count_blocks (stack_top l d (omega arith)) in
    let more = count_other (get_or l (d - 1) Block.Then) (stack_of l (d - 1)) c.in_default.not-Subroutine in
    (omega arith, omega (arith, c.loop-d.invariant.1, top, more), omega arith)

pub returns : goal.returns
unfolding stack_of count_blocks
returns c =
    omega (arith, c.loop-d.invariant.1, ap (λ k. count_blocks (stack_of c.args.blocks.now k)) (let g : c.loop-d.d ≡ 0 = omega arith in g))
