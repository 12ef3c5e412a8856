-- From the top down: the block looked at is a loop, or what is left below says the same.
use Rattle.std.proofs.Common.{◌≡◌, ◌∙◌, sym, ap, arith, get_or, ◌-◌}
use Rattle.spec_check.specs.Blocks.{has_loop}
use Rattle.check_open.specs.declared.Block.{Block}
use Rattle.check_open.specs.Stack.{stack_of, stack_top, opens_loop, loop_found, loop_further, not_loop}
use Rattle.check_open.proofs.has_loop.Goals as goal

pub returns-in-Loop : goal.returns-in-Loop
returns-in-Loop c =
    let l = c.args.blocks.now in
    let d = c.loop-d.d in
    sym (loop_found (get_or l (d - 1) Block.Then) (stack_of l (d - 1)) (ap opens_loop c.in-Loop.is))
    ∙ sym (ap has_loop (stack_top l d (omega arith))) ∙ c.loop-d.invariant.1

pub loop-d-preserved : goal.loop-d-preserved
loop-d-preserved c =
    let l = c.args.blocks.now in
    let d = c.loop-d.d in
    (omega arith, sym (loop_further (get_or l (d - 1) Block.Then) (stack_of l (d - 1)) (not_loop _ c.in_default.not-Loop)) ∙ sym (ap has_loop (stack_top l d (omega arith))) ∙ c.loop-d.invariant.1)

pub returns : goal.returns
unfolding stack_of has_loop
returns c =
    sym (ap (λ k. has_loop (stack_of c.args.blocks.now k)) (let g : c.loop-d.d ≡ 0 = omega arith in g)) ∙ c.loop-d.invariant.1
