-- The sizes, and the verdict on the record that was lent.
use mathlib.Core.Path.{sym, ap, ◌∙◌}
use Rattle.check_known.specs.Laid.{check_laid}
use Rattle.check_known.specs.ByNumber.{by_number}
use Rattle.check_known.specs.LaidLaws.{laid_by_number}
use Rattle.firmware_buffers.specs.Sizes.{is_record}
use Rattle.firmware_buffers.specs.Laws.{sized}
use Rattle.firmware_check.proofs.Answered.{told_refused, told_taken}
use Rattle.firmware_check.proofs.check_record.Goals as goal

pub returns-then-not-is_record : goal.returns-then-not-is_record
returns-then-not-is_record c =
    told_refused (is_record c.args.numbers.now c.args.values.now) (check_laid c.args.numbers.now c.args.values.now) c.args.table.now c.args.entry.now c.args.first.now c.args.second.now (sym c.is_record.ensures ∙ c.if-not-is_record.true)

pub check_lent-v-requires : goal.check_lent-v-requires
check_lent-v-requires c =
    sized c.args.numbers.now c.args.values.now (sym c.is_record.ensures ∙ c.if-not-is_record.false)

pub by_number-told-requires : goal.by_number-told-requires
by_number-told-requires c =
    (sized c.args.numbers.now c.args.values.now (sym c.is_record.ensures ∙ c.if-not-is_record.false)).0

pub returns : goal.returns
returns c =
    told_taken (is_record c.args.numbers.now c.args.values.now) c.by_number-told.result (check_laid c.args.numbers.now c.args.values.now) c.args.table.now c.args.entry.now c.args.first.now c.args.second.now _ _ _ _ _ (sym c.is_record.ensures ∙ c.if-not-is_record.false) (c.by_number-told.ensures ∙ ap (by_number c.args.numbers.now) c.check_lent-v.ensures ∙ sym (laid_by_number c.args.numbers.now c.args.values.now)) c.put_verdict.ensures
