-- Taken, it is `leave`; not taken, it goes on where a loop is open.
use mathlib.Core.Path.{refl, sym, ap, ◌∙◌}
use mathlib.Core.Bool.{cond}
use native.Mathlib.Omega.{arith}
use Rattle.scan_marks.specs.Marks.{stack, nowhere}
use Rattle.scan_marks.specs.Laws.{moved_nowhere, moved_to}
use Rattle.scan_marks.specs.Move.{exit_to, stay}
use Rattle.scan_exits.proofs.exit_loop.Goals as goal

pub returns-then-taken : goal.returns-then-taken
returns-then-taken c =
    let s = stack c.args.marks.now c.args.top.now in
    record { leads = c.leave.ensures.leads ∙ ap (λ b. exit_to c.args.ends.now b c.args.pc s) (sym c.if-taken.true); within = c.leave.ensures.within; room = c.leave.ensures.room; shifted = c.leave.ensures.shifted }

pub returns-then-own_loop : goal.returns-then-own_loop
returns-then-own_loop c =
    let l = c.args.marks.now in
    let k = c.args.top.now in
    moved_to l k c.args.pc (stack l k) _ c.requires.0.place (omega arith) c.requires.0.shifted refl
    (ap (λ b. exit_to c.args.ends.now b c.args.pc (stack l k)) c.if-taken.false
    ∙ ap (λ b. cond b (stay c.args.pc (stack l k)) nowhere) (sym c.own_loop.ensures ∙ c.if-own_loop.true))

pub returns-else-own_loop : goal.returns-else-own_loop
returns-else-own_loop c =
    let l = c.args.marks.now in
    let k = c.args.top.now in
    moved_nowhere l k _ (omega arith) c.requires.0.shifted
    (ap (λ b. exit_to c.args.ends.now b c.args.pc (stack l k)) c.if-taken.false
    ∙ ap (λ b. cond b (stay c.args.pc (stack l k)) nowhere) (sym c.own_loop.ensures ∙ c.if-own_loop.false))
