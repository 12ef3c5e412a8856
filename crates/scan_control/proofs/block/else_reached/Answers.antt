-- Only a Then Do has an Else; what is told of the place is where it goes.
use mathlib.Core.Path.{refl, sym, ap, ◌∙◌}
use Prim.Native.Nat.{◌-◌, ◌/◌}
use native.Mathlib.Omega.{arith}
use lib.ListN.{get_or}
use borrow.Author.Tests.{eq-eqb, ne_eqb}
use Rattle.scan_marks.specs.Marks.{stack, go}
use Rattle.scan_marks.specs.Laws.{yes, no, then_is, not_then, top_is, bottom, shifted_below, moved_nowhere, moved_in}
use Rattle.scan_marks.specs.Move.{else_to}
use Rattle.scan_control.proofs.block.else_reached.Goals as goal

pub returns-then-depth-eq0 : goal.returns-then-depth-eq0
returns-then-depth-eq0 c =
    moved_nowhere c.args.marks.now c.args.top.now _ (omega arith) c.requires.0.shifted (ap (else_to c.args.ends.now c.args.pc) (bottom c.args.marks.now c.args.top.now (omega arith)))

pub returns-then-marks-depth-ge-LOOPS : goal.returns-then-marks-depth-ge-LOOPS
returns-then-marks-depth-ge-LOOPS c =
    let l = c.args.marks.now in
    let k = c.args.top.now in
    moved_nowhere l k _ (omega arith) c.requires.0.shifted (ap (else_to c.args.ends.now c.args.pc) (top_is l k (omega arith) refl) ∙ not_then c.args.ends.now c.args.pc (get_or l k 0) (stack l (k - 1)) c.if-marks-depth-ge-LOOPS.true)

pub returns-then-q-eq0 : goal.returns-then-q-eq0
returns-then-q-eq0 c =
    let l = c.args.marks.now in
    let k = c.args.top.now in
    moved_nowhere l k _ (omega arith) c.requires.0.shifted
    (ap (else_to c.args.ends.now c.args.pc) (top_is l k (omega arith) (then_is _ c.if-marks-depth-ge-LOOPS.false))
    ∙ yes _ _ (eq-eqb _ _ (c.if-q-eq0.true)))

pub in_table-requires : goal.in_table-requires
in_table-requires c =
    (c.requires.0.place, omega (arith, c.requires.1.small c.args.pc))

pub returns : goal.returns
returns c =
    let l = c.args.marks.now in
    let k = c.args.top.now in
    moved_in l (k - 1) c.args.pc (get_or c.args.ends.now c.args.pc 0) _ (stack l (k - 1)) _ c.requires.0.place (omega (arith, c.requires.1.small c.args.pc)) c.in_table.ensures (omega arith) (shifted_below l k (k - 1) (omega arith) c.requires.0.shifted) refl
    (ap (else_to c.args.ends.now c.args.pc) (top_is l k (omega arith) (then_is _ c.if-marks-depth-ge-LOOPS.false))
    ∙ no _ _ (ne_eqb _ _ (λ z. c.if-q-eq0.false (z))))
