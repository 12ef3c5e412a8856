-- The sizes, and the answer for the text, its record written.
use mathlib.Core.Path.{sym, ◌∙◌}
use Rattle.text_answer.specs.Check.{check_text}
use Rattle.base_laws.specs.Tests.{yes, no, apart}
use Rattle.firmware_buffers.specs.Sizes.{is_record}
use Rattle.firmware_buffers.specs.Laws.{sized}
use Rattle.firmware_check.proofs.Answered.{told_refused, told_taken}
use Rattle.firmware_check.proofs.check_text.Goals as goal

pub returns-then-not-is_record : goal.returns-then-not-is_record
returns-then-not-is_record c =
    record {
      told = told_refused (is_record c.args.numbers.now c.args.values.now) (check_text c.args.text.now).verdict c.args.table.now c.args.entry.now c.args.first.now c.args.second.now (sym c.is_record.ensures ∙ c.if-not-is_record.true);
      numbers = sym (no _ _ (sym c.is_record.ensures ∙ c.if-not-is_record.true));
      values = sym (no _ _ (sym c.is_record.ensures ∙ c.if-not-is_record.true));
      passes = λ x y s e. absurd (apart (sym s ∙ (sym c.is_record.ensures ∙ c.if-not-is_record.true)));
    }

pub check_text_lent-v-requires : goal.check_text_lent-v-requires
check_text_lent-v-requires c =
    sized c.args.numbers.now c.args.values.now (sym c.is_record.ensures ∙ c.if-not-is_record.false)

pub returns : goal.returns
returns c =
    record {
      told = told_taken (is_record c.args.numbers.now c.args.values.now) c.check_text_lent-v.result (check_text c.args.text.now).verdict c.args.table.now c.args.entry.now c.args.first.now c.args.second.now _ _ _ _ _ (sym c.is_record.ensures ∙ c.if-not-is_record.false) c.check_text_lent-v.ensures.verdict c.put_verdict.ensures;
      numbers = c.check_text_lent-v.ensures.numbers ∙ sym (yes _ _ (sym c.is_record.ensures ∙ c.if-not-is_record.false));
      values = c.check_text_lent-v.ensures.values ∙ sym (yes _ _ (sym c.is_record.ensures ∙ c.if-not-is_record.false));
      passes = λ x y s e. c.check_text_lent-v.ensures.passes x y (c.check_text_lent-v.ensures.verdict ∙ e);
    }
