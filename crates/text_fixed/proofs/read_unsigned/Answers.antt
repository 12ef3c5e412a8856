-- Two parts where there is a point, and one numeral where there is none.
use Rattle.std.specs.Prelude.{Some, None}
use Rattle.std.proofs.Common.{◌+◌, ◌^◌, ◌<◌, eqb, take, drop, take_all, length-drop, sym, ap, ◌∙◌, subst, arith, rules}
use Rattle.std.proofs.lemmas.Iterator.{YieldsList-from_slice}
use Rattle.std.proofs.lemmas.Iterator.Search.{position_from_yields_List}
use borrow.Author.Tests.{tests}
use Rattle.text_number.specs.Keyed.{value, nearest, pointed}
use Rattle.text_number.proofs.Laws.{numeral_digits, numeral_small}
use Rattle.text_fixed.proofs.Point.{picked, passed, point_found, at_point, no_point, too_long}
use Rattle.text_fixed.proofs.read_unsigned.Goals as goal

pub returns-then-s-gt6 : goal.returns-then-s-gt6
returns-then-s-gt6 c =
    too_long c.args.negative c.args.s.now c.if-s-gt6.true

pub returns-in-Some : goal.returns-in-Some
returns-in-Some c =
    let s = c.args.s.now in
    let negative = c.args.negative in
    let p = c.in-Some.p in
    c.read_pointed.ensures
    ∙ ap (λ b. pointed negative (take p s) b) (take_all _ (drop (p + 1) s) (omega (arith, length-drop (p + 1) s)))
    ∙ (at_point negative s p (sym c.in-Some.is ∙ point_found s c.position.result (position_from_yields_List (λ b. eqb b 46) _ _ c.position.result c.position.ensures.ran (YieldsList-from_slice s cc) (λ x b q k. search (rules, tests))))).1

pub digits_from-requires : goal.digits_from-requires
digits_from-requires c =
    let h = sym c.is_numeral.ensures ∙ c.if-is_numeral.true in
    let small = numeral_small 5 c.args.s.now h in
    (numeral_digits 5 c.args.s.now h, omega (arith, small))

pub keyed_value-requires : goal.keyed_value-requires
keyed_value-requires c =
    let h = sym c.is_numeral.ensures ∙ c.if-is_numeral.true in
    (subst (λ v. v < 10 ^ 5) (sym c.digits_from.ensures) (numeral_small 5 c.args.s.now h), omega arith)

pub returns-in-None : goal.returns-in-None
returns-in-None c =
    let s = c.args.s.now in
    let negative = c.args.negative in
    ap Some c.keyed_value.ensures
    ∙ ap (λ v. Some (nearest negative v 0)) c.digits_from.ensures
    ∙ picked (Some (nearest negative (value s) 0)) None (sym c.is_numeral.ensures ∙ c.if-is_numeral.true)
    ∙ no_point negative s (sym c.in-None.is ∙ point_found s c.position.result (position_from_yields_List (λ b. eqb b 46) _ _ c.position.result c.position.ensures.ran (YieldsList-from_slice s cc) (λ x b q k. search (rules, tests))))

pub returns-in-None-2 : goal.returns-in-None-2
returns-in-None-2 c =
    let s = c.args.s.now in
    let negative = c.args.negative in
    passed (Some (nearest negative (value s) 0)) None (sym c.is_numeral.ensures ∙ c.if-is_numeral.false)
    ∙ no_point negative s (sym c.in-None.is ∙ point_found s c.position.result (position_from_yields_List (λ b. eqb b 46) _ _ c.position.result c.position.ensures.ran (YieldsList-from_slice s cc) (λ x b q k. search (rules, tests))))
