-- The uppermost mark says which case of `end_to` it is.
use mathlib.Core.Path.{◌≡◌, refl, sym, ap, ◌∙◌}
use mathlib.Core.List.{◌∷◌}
use Prim.Native.Nat.{suc, ◌+◌, ◌-◌, ◌/◌, ◌%◌, min}
use native.Mathlib.Omega.{arith}
use lib.ListN.{get_or}
use borrow.Author.Tests.{lt-ltb, le-ltb}
use Rattle.scan_marks.specs.Marks.{first_loop, first_call, loop_mark, stack}
use Rattle.scan_marks.specs.Laws.{yes, no, then_is, loop_is, call_is, loop_next, top_is, top_set, bottom, shifted_below, shifted_top, moved_nowhere, moved_to, moved_in}
use Rattle.scan_marks.specs.Move.{end_to, stay, shift_to}
use Rattle.scan_control.proofs.block.end.Goals as goal

pub returns-then-depth-eq0 : goal.returns-then-depth-eq0
returns-then-depth-eq0 c =
    moved_nowhere c.args.marks.now c.args.top.now _ (omega arith) c.requires.shifted (ap (end_to c.args.pc) (bottom c.args.marks.now c.args.top.now (omega arith)))

pub returns-then-v-lt-LOOPS : goal.returns-then-v-lt-LOOPS
returns-then-v-lt-LOOPS c =
    let l = c.args.marks.now in
    let k = c.args.top.now in
    moved_to l (k - 1) c.args.pc (stack l (k - 1)) _ c.requires.place (omega arith) (shifted_below l k (k - 1) (omega arith) c.requires.shifted) refl
    (ap (end_to c.args.pc) (top_is l k (omega arith) (then_is _ c.if-v-lt-LOOPS.true)))

pub returns-then-v-ge-CALLS : goal.returns-then-v-ge-CALLS
returns-then-v-ge-CALLS c =
    let l = c.args.marks.now in
    let k = c.args.top.now in
    moved_to l (k - 1) c.min.result (stack l (k - 1)) _ (omega (arith, c.min.ensures)) (omega arith) (shifted_below l k (k - 1) (omega arith) c.requires.shifted) refl
    (ap (end_to c.args.pc) (top_is l k (omega arith) (call_is _ c.if-v-ge-CALLS.true))
    ∙ ap (λ z. stay z (stack l (k - 1))) (let g : min ((get_or l k 0 - first_call) / 65536) 383 ≡ c.min.result = omega (arith, c.min.ensures) in g))

pub returns-then-v : goal.returns-then-v
returns-then-v c =
    let l = c.args.marks.now in
    let k = c.args.top.now in
    let v = get_or l k 0 in
    let pass = v % 65536 + 1 in
    moved_in _ k c.args.pc (v / first_loop - 1) _ (loop_mark (v / first_loop - 1) (v / 65536 % 65536) (suc (v % 65536 + 1)) ∷ stack l (k - 1)) _ c.requires.place (omega arith) c.in_table.ensures (omega arith)
    (shifted_top l k (v + 1) (omega arith) (omega (arith, c.requires.size))
    ((let g : (v + 1) % 65536 ≡ suc pass - 1 = omega (arith, c.if-v.true) in g)
    ∙ sym (ap (λ x. shift_to (x ∷ stack l (k - 1))) (loop_next v (omega arith) (omega arith) c.if-v.true)))
    c.requires.shifted)
    (top_set l k (v + 1) (omega arith) (omega (arith, c.requires.size)) ∙ ap (λ x. x ∷ stack l (k - 1)) (loop_next v (omega arith) (omega arith) c.if-v.true))
    (ap (end_to c.args.pc) (top_is l k (omega arith) (loop_is v (omega arith) (omega arith))) ∙ yes _ _ (lt-ltb _ _ c.if-v.true))

pub returns : goal.returns
returns c =
    let l = c.args.marks.now in
    let k = c.args.top.now in
    moved_to l (k - 1) c.args.pc (stack l (k - 1)) _ c.requires.place (omega arith) (shifted_below l k (k - 1) (omega arith) c.requires.shifted) refl
    (ap (end_to c.args.pc) (top_is l k (omega arith) (loop_is _ (omega arith) (omega arith))) ∙ no _ _ (le-ltb _ _ c.if-v.false))
