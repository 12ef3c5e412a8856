-- Then Dos are passed over; what is left below says the same.
use mathlib.Core.Path.{◌≡◌, sym, ap, ◌∙◌}
use Prim.Native.Nat.{◌+◌, ◌-◌}
use native.Mathlib.Omega.{arith}
use Rattle.scan_marks.specs.Marks.{stack}
use Rattle.scan_marks.specs.Laws.{then_is, loop_is, call_is, top_is, bottom}
use Rattle.scan_marks.specs.Move.{own_loop}
use Rattle.scan_exits.proofs.own_loop.Goals as goal

pub loop-depth-init : goal.loop-depth-init
loop-depth-init c =
    (omega arith, ap (λ k. own_loop (stack c.args.marks.now k)) (let e : c.args.top + 1 - 1 ≡ c.args.top = omega arith in e))

pub returns-then-v-ge-CALLS : goal.returns-then-v-ge-CALLS
returns-then-v-ge-CALLS c =
    sym (ap own_loop (top_is c.args.marks.now (c.loop-depth.depth - 1) (omega arith) (call_is _ c.if-v-ge-CALLS.true))) ∙ c.loop-depth.invariant.1

pub returns-then-v-ge-LOOPS : goal.returns-then-v-ge-LOOPS
returns-then-v-ge-LOOPS c =
    sym (ap own_loop (top_is c.args.marks.now (c.loop-depth.depth - 1) (omega arith) (loop_is _ c.if-v-ge-LOOPS.true (omega arith)))) ∙ c.loop-depth.invariant.1

pub loop-depth-preserved : goal.loop-depth-preserved
loop-depth-preserved c =
    (omega arith, sym (ap own_loop (top_is c.args.marks.now (c.loop-depth.depth - 1) (omega arith) (then_is _ (omega arith)))) ∙ c.loop-depth.invariant.1)

pub returns : goal.returns
returns c =
    sym (ap own_loop (bottom c.args.marks.now (c.loop-depth.depth - 1) (omega arith))) ∙ c.loop-depth.invariant.1
