-- What is told of the number decides first, then the test.
use mathlib.Core.Path.{◌≡◌, refl, sym, ap, ◌∙◌}
use mathlib.Core.List.{◌∷◌}
use Prim.Native.Nat.{◌+◌, ◌*◌, ◌/◌, ◌%◌, ◌≤◌}
use native.Mathlib.Omega.{arith}
use lib.ListN.{get_or}
use borrow.Author.Tests.{eq-eqb, ne_eqb}
use Rattle.scan_marks.specs.Marks.{first_call, call_mark, stack, go}
use Rattle.scan_marks.specs.Laws.{yes, no, call_made, moved_nowhere, moved_to}
use Rattle.scan_marks.specs.Move.{shift_to}
use Rattle.scan_calls.proofs.call.Goals as goal

pub returns-then-q-eq0 : goal.returns-then-q-eq0
returns-then-q-eq0 c =
    moved_nowhere _ _ _ (omega arith) c.requires.0.shifted (yes _ _ (eq-eqb _ _ (c.if-q-eq0.true)))

pub returns-then-not-test : goal.returns-then-not-test
returns-then-not-test c =
    let s = stack c.args.marks.now c.args.top.now in
    moved_to _ _ c.args.pc s _ c.requires.0.place (omega arith) c.requires.0.shifted refl
    (no _ _ (ne_eqb _ _ (λ z. c.if-q-eq0.false (z))) ∙ no _ _ (c.if-not-test.true))

pub push-requires : goal.push-requires
push-requires c = (
  (c.requires.0.room, c.requires.0.size, c.requires.0.shifted),
  (let g : (first_call + c.args.pc * 65536) % 65536 ≡ 0 = omega arith in g)
      ∙ sym (ap (λ x. shift_to (x ∷ stack c.args.marks.now c.args.top.now)) (call_made c.args.pc c.requires.0.place)),
)

pub overflow_add-result : goal.overflow_add-result
overflow_add-result c =
    omega (arith, c.requires.1.small c.args.k)

pub returns : goal.returns
returns c =
    let s = stack c.args.marks.now c.args.top.now in
    let few : (get_or c.args.subs.now c.args.k 0) ≤ 99 = omega (arith, c.requires.1.small c.args.k) in
    moved_to _ _ (256 + (get_or c.args.subs.now c.args.k 0)) (call_mark c.args.pc ∷ s) _ (omega arith) (omega (arith, c.push.ensures.higher)) c.push.ensures.shifted
    (c.push.ensures.above ∙ ap (λ x. x ∷ s) (call_made c.args.pc c.requires.0.place))
    (no _ _ (ne_eqb _ _ (λ z. c.if-q-eq0.false (z))) ∙ yes _ _ (c.if-not-test.false)
    ∙ ap (λ z. go z (get_or c.args.subs.now c.args.k 0) (call_mark c.args.pc ∷ s)) (let g : 2 ≡ (256 + (get_or c.args.subs.now c.args.k 0)) / 128 = omega arith in g)
    ∙ ap (λ z. go ((256 + (get_or c.args.subs.now c.args.k 0)) / 128) z (call_mark c.args.pc ∷ s)) (let g : (get_or c.args.subs.now c.args.k 0) ≡ (256 + (get_or c.args.subs.now c.args.k 0)) % 128 = omega arith in g))
