-- Each refusal is one of the definition's tests; else both sides are digits, at most 5 in all.
use Rattle.std.specs.Prelude.{Some}
use mathlib.Core.Path.{sym, ap, ◌∙◌, subst}
use Prim.Native.Nat.{◌^◌, ◌≤◌, ◌<◌}
use Rattle.std.proofs.lemmas.Grind.{common_steps}
use native.Mathlib.Omega.{arith}
use lib.ListN.{length}
use Rattle.text_number.specs.Keyed.{value_from, nearest}
use Rattle.text_number.proofs.Laws.{value_within}
use Rattle.text_fixed.proofs.Point.{not_left, not_right, joined_small, pointed_is}
use Rattle.text_fixed.proofs.read_pointed.Goals as goal
use Rattle.text_fixed.proofs.read_pointed.Goals.{else-all_digits-via-then-all_digits+else-all_digits-2, else-all_digits-via-else-all_digits}

pub digits_from-requires : goal.digits_from-requires
digits_from-requires c =
    let h = sym c.all_digits.ensures ∙ c.if-all_digits.true in (h, value_within 7 c.args.a.now (omega arith) h)

pub digits_from-n-requires : goal.digits_from-n-requires
digits_from-n-requires c =
    let a = c.args.a.now in
    let b = c.args.b.now in
    let h = sym c.all_digits.ensures ∙ c.if-all_digits.true in
    let k = sym c.all_digits-then-all_digits.ensures ∙ c.if-all_digits-2.true in
    let j : value_from c.digits_from.result b < 10 ^ 5 =
    subst (λ v. value_from v b < 10 ^ 5) (sym c.digits_from.ensures) (joined_small c.args.negative a b c.if-a-b-gt5.false h k) in
    (k, omega (arith, j))

pub keyed_value-requires : goal.keyed_value-requires
keyed_value-requires c =
    let a = c.args.a.now in
    let b = c.args.b.now in
    let h = sym c.all_digits.ensures ∙ c.if-all_digits.true in
    let k = sym c.all_digits-then-all_digits.ensures ∙ c.if-all_digits-2.true in
    (subst (λ v. v < 10 ^ 5) (sym (c.digits_from-n.ensures ∙ ap (λ v. value_from v b) c.digits_from.ensures)) (joined_small c.args.negative a b c.if-a-b-gt5.false h k), grind (arith, common_steps))

pub returns-then-all_digits-2 : goal.returns-then-all_digits-2
returns-then-all_digits-2 c =
    let a = c.args.a.now in
    let b = c.args.b.now in
    let l : 1 ≤ length a = grind (arith, common_steps) in
    let r : 1 ≤ length b = grind (arith, common_steps) in
    ap Some c.keyed_value.ensures
    ∙ ap (λ v. Some (nearest c.args.negative v (length b))) (c.digits_from-n.ensures ∙ ap (λ v. value_from v b) c.digits_from.ensures)
    ∙ pointed_is c.args.negative a b c.if-a-b-gt5.false (sym c.all_digits.ensures ∙ c.if-all_digits.true) (sym c.all_digits-then-all_digits.ensures ∙ c.if-all_digits-2.true) l r

pub returns : goal.returns
returns c =
    elim c.else-all_digits.branch [
      | else-all_digits-via-then-all_digits+else-all_digits-2 w ↦ not_right c.args.negative c.args.a.now c.args.b.now (sym w.all_digits-then-all_digits.ensures ∙ w.if-all_digits-2.false)
      | else-all_digits-via-else-all_digits w ↦ not_left c.args.negative c.args.a.now c.args.b.now (sym c.all_digits.ensures ∙ w.if-all_digits.false)
    ]
