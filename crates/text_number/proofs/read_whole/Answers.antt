-- The test is the definition's, and 7 digits say a number below 10 ^ 7.
use Rattle.std.specs.Prelude.{Some, None}
use mathlib.Core.Path.{sym, ap, ◌∙◌}
use Rattle.text_number.specs.Keyed.{value, whole_of}
use Rattle.text_number.proofs.Laws.{numeral_digits, numeral_small}
use Rattle.text_number.proofs.Walk.{picked, passed}
use Rattle.text_number.proofs.read_whole.Goals as goal

pub digits_from-requires : goal.digits_from-requires
digits_from-requires c =
    let h = sym c.is_numeral.ensures ∙ c.if-is_numeral.true in (numeral_digits 7 c.args.s.now h, numeral_small 7 c.args.s.now h)

pub returns-then-is_numeral : goal.returns-then-is_numeral
unfolding whole_of
returns-then-is_numeral c =
    ap Some c.digits_from.ensures ∙ picked (Some (value c.args.s.now)) None (sym c.is_numeral.ensures ∙ c.if-is_numeral.true)

pub returns-else-is_numeral : goal.returns-else-is_numeral
unfolding whole_of
returns-else-is_numeral c =
    passed (Some (value c.args.s.now)) None (sym c.is_numeral.ensures ∙ c.if-is_numeral.false)
