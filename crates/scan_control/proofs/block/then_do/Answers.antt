-- A true test goes on; a false one goes where the place is told.
use mathlib.Core.Path.{◌≡◌, refl, sym, ap, ◌∙◌}
use mathlib.Core.List.{◌∷◌}
use Prim.Native.Nat.{◌/◌, ◌%◌}
use native.Mathlib.Omega.{arith}
use lib.ListN.{get_or}
use borrow.Author.Tests.{eq-eqb, ne_eqb}
use Rattle.scan_marks.specs.Marks.{then_mark, stack, go}
use Rattle.scan_marks.specs.Laws.{yes, no, then_is, moved_nowhere, moved_to, moved_in}
use Rattle.scan_marks.specs.Move.{then_to, shift_to}
use Rattle.scan_control.proofs.block.then_do.Goals as goal

pub shift_of-requires : goal.shift_of-requires
shift_of-requires c =
    (c.requires.0.room, c.requires.0.size, c.requires.0.shifted)

pub push-requires : goal.push-requires
push-requires c = (
  (c.requires.0.room, c.requires.0.size, c.requires.0.shifted),
  (let g : c.shift_of.result % 65536 ≡ c.shift_of.result = omega (arith, c.shift_of.ensures.1) in g) ∙ c.shift_of.ensures.0
      ∙ sym (ap (λ x. shift_to (x ∷ stack c.args.marks.now c.args.top.now)) (then_is c.shift_of.result (omega (arith, c.shift_of.ensures.1)))),
)

pub returns-then-test : goal.returns-then-test
returns-then-test c =
    let s = stack c.args.marks.now c.args.top.now in
    moved_to _ _ c.args.pc (then_mark ∷ s) _ c.requires.0.place (omega (arith, c.push.ensures.higher)) c.push.ensures.shifted (c.push.ensures.above ∙ ap (λ x. x ∷ s) (then_is _ (omega (arith, c.shift_of.ensures.1))))
    (ap (λ b. then_to c.args.ends.now c.args.elses.now b c.args.pc s) c.if-test.true)

pub shift_of-requires-then-behind_else-ne0 : goal.shift_of-requires-then-behind_else-ne0
shift_of-requires-then-behind_else-ne0 c =
    (c.requires.0.room, c.requires.0.size, c.requires.0.shifted)

pub push-requires-then-behind_else-ne0 : goal.push-requires-then-behind_else-ne0
push-requires-then-behind_else-ne0 c = (
  (c.requires.0.room, c.requires.0.size, c.requires.0.shifted),
  (let g : c.shift_of-then-behind_else-ne0.result % 65536 ≡ c.shift_of-then-behind_else-ne0.result = omega (arith, c.shift_of-then-behind_else-ne0.ensures.1) in g) ∙ c.shift_of-then-behind_else-ne0.ensures.0
      ∙ sym (ap (λ x. shift_to (x ∷ stack c.args.marks.now c.args.top.now)) (then_is c.shift_of-then-behind_else-ne0.result (omega (arith, c.shift_of-then-behind_else-ne0.ensures.1)))),
)

pub in_table-requires : goal.in_table-requires
in_table-requires c =
    (c.requires.0.place, omega (arith, c.requires.1.1.small c.args.pc))

pub returns-then-behind_else-ne0 : goal.returns-then-behind_else-ne0
returns-then-behind_else-ne0 c =
    let s = stack c.args.marks.now c.args.top.now in
    moved_in _ _ c.args.pc (get_or c.args.elses.now c.args.pc 0) _ (then_mark ∷ s) _ c.requires.0.place (omega (arith, c.requires.1.1.small c.args.pc)) c.in_table.ensures (omega (arith, c.push-then-behind_else-ne0.ensures.higher)) c.push-then-behind_else-ne0.ensures.shifted (c.push-then-behind_else-ne0.ensures.above ∙ ap (λ x. x ∷ s) (then_is _ (omega (arith, c.shift_of-then-behind_else-ne0.ensures.1))))
    (ap (λ b. then_to c.args.ends.now c.args.elses.now b c.args.pc s) c.if-test.false
    ∙ no _ _ (ne_eqb _ _ (λ z. c.if-behind_else-ne0.true (z))))

pub returns-then-behind_end-eq0 : goal.returns-then-behind_end-eq0
returns-then-behind_end-eq0 c =
    let s = stack c.args.marks.now c.args.top.now in
    moved_nowhere _ _ _ (omega arith) c.requires.0.shifted
    (ap (λ b. then_to c.args.ends.now c.args.elses.now b c.args.pc s) c.if-test.false
    ∙ yes _ _ (eq-eqb _ _ (c.if-behind_else-ne0.false))
    ∙ yes _ _ (eq-eqb _ _ (c.if-behind_end-eq0.true)))

pub in_table-requires-2 : goal.in_table-requires-2
in_table-requires-2 c =
    (c.requires.0.place, omega (arith, c.requires.1.0.small c.args.pc))

pub returns : goal.returns
returns c =
    let s = stack c.args.marks.now c.args.top.now in
    moved_in _ _ c.args.pc (get_or c.args.ends.now c.args.pc 0) _ s _ c.requires.0.place (omega (arith, c.requires.1.0.small c.args.pc)) c.in_table-2.ensures (omega arith) c.requires.0.shifted refl
    (ap (λ b. then_to c.args.ends.now c.args.elses.now b c.args.pc s) c.if-test.false
    ∙ yes _ _ (eq-eqb _ _ (c.if-behind_else-ne0.false))
    ∙ no _ _ (ne_eqb _ _ (λ z. c.if-behind_end-eq0.false (z))))
