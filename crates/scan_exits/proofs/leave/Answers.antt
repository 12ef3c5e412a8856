-- Then Dos are passed over, each to the place behind its End; what is left below leads to the same place.
use mathlib.Core.Path.{◌≡◌, refl, sym, ap, ◌∙◌}
use Prim.Native.Nat.{◌+◌, ◌-◌, ◌/◌, ◌≤◌}
use native.Mathlib.Omega.{arith}
use lib.ListN.{get_or}
use borrow.Author.Tests.{ne_eqb}
use Rattle.scan_marks.specs.Marks.{stack}
use Rattle.scan_marks.specs.Laws.{no, then_is, loop_is, call_is, top_is, bottom, no_end, shifted_below, moved_nowhere, moved_in}
use Rattle.scan_marks.specs.Move.{leave_to}
use Rattle.scan_exits.proofs.leave.Goals as goal

pub loop-depth-init : goal.loop-depth-init
loop-depth-init c =
    (omega arith, c.requires.0.place, ap (λ k. leave_to c.args.ends.now c.args.pc (stack c.args.marks.now k)) (let e : c.args.top.now + 1 - 1 ≡ c.args.top.now = omega arith in e), (omega arith, c.requires.0.shifted, omega arith))

pub returns-then-v-ge-CALLS : goal.returns-then-v-ge-CALLS
returns-then-v-ge-CALLS c =
    let k = c.loop-depth.depth - 1 in
    moved_nowhere c.args.marks.now c.loop-depth.top _ c.loop-depth.invariant.3.0 c.loop-depth.invariant.3.1
    (sym c.loop-depth.invariant.2 ∙ ap (leave_to c.args.ends.now c.loop-depth.at) (top_is c.args.marks.now k (omega arith) (call_is _ c.if-v-ge-CALLS.true)))

pub returns-then-q-eq0 : goal.returns-then-q-eq0
returns-then-q-eq0 c =
    let k = c.loop-depth.depth - 1 in
    moved_nowhere c.args.marks.now c.loop-depth.top _ c.loop-depth.invariant.3.0 c.loop-depth.invariant.3.1
    (sym c.loop-depth.invariant.2 ∙ ap (leave_to c.args.ends.now c.loop-depth.at) (top_is c.args.marks.now k (omega arith) refl)
    ∙ no_end c.args.ends.now c.loop-depth.at (get_or c.args.marks.now k 0) (stack c.args.marks.now (k - 1)) (omega arith) (c.if-q-eq0.true))

pub in_table-at-requires : goal.in_table-at-requires
in_table-at-requires c =
    (c.loop-depth.invariant.1, omega (arith, c.requires.1.small c.loop-depth.at))

pub returns-then-v-ge-LOOPS : goal.returns-then-v-ge-LOOPS
returns-then-v-ge-LOOPS c =
    let l = c.args.marks.now in
    let k = c.loop-depth.depth - 1 in
    moved_in l (k - 1) c.loop-depth.at (get_or c.args.ends.now c.loop-depth.at 0) _ (stack l (k - 1)) _ c.loop-depth.invariant.1 (omega (arith, c.requires.1.small c.loop-depth.at)) c.in_table-at.ensures (omega arith) (shifted_below l c.args.top.now (k - 1) (omega (arith, c.loop-depth.invariant.3.2)) c.requires.0.shifted) refl
    (sym c.loop-depth.invariant.2 ∙ ap (leave_to c.args.ends.now c.loop-depth.at) (top_is l k (omega arith) (loop_is _ c.if-v-ge-LOOPS.true (omega arith)))
    ∙ no _ _ (ne_eqb _ _ (λ z. c.if-q-eq0.false (z))))

pub loop-depth-preserved : goal.loop-depth-preserved
loop-depth-preserved c =
    let l = c.args.marks.now in
    let k = c.loop-depth.depth - 1 in
    let few : (get_or c.args.ends.now c.loop-depth.at 0) ≤ 99 = omega (arith, c.requires.1.small c.loop-depth.at) in (
      omega arith,
      omega (arith, c.in_table-at.ensures),
      ap (λ z. leave_to c.args.ends.now z (stack l (k - 1))) c.in_table-at.ensures
          ∙ sym (ap (leave_to c.args.ends.now c.loop-depth.at) (top_is l k (omega arith) (then_is _ (omega arith)))
          ∙ no _ _ (ne_eqb _ _ (λ z. c.if-q-eq0.false (z))))
          ∙ c.loop-depth.invariant.2,
      (c.loop-depth.invariant.3.0, c.loop-depth.invariant.3.1, omega (arith, c.loop-depth.invariant.3.2)),
    )

pub returns : goal.returns
returns c =
    moved_nowhere c.args.marks.now c.loop-depth.top _ c.loop-depth.invariant.3.0 c.loop-depth.invariant.3.1
    (sym c.loop-depth.invariant.2 ∙ ap (leave_to c.args.ends.now c.loop-depth.at) (bottom c.args.marks.now (c.loop-depth.depth - 1) (omega arith)))
