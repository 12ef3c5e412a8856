-- The check of what was written is that of the record.
use mathlib.Core.Path.{sym, ap, ◌∙◌}
use Rattle.spec_check.specs.declared.Verdict.{Verdict}
use Rattle.spec_check.specs.Check.{check}
use Rattle.record_writer.proofs.ByType.{record_told}
use Rattle.proof_record.specs.Written.{check_written}
use Rattle.text_answer.specs.Check.{answer, answered}
use Rattle.text_answer.proofs.Record.{written_as, no_pass}
use Rattle.text_check.proofs.write_judged.Goals as goal

pub returns-in-Fault : goal.returns-in-Fault
returns-in-Fault c =
    written_as (answer (Verdict.Fault _ _ _) c.empty_program.result) (answered (check c.args.p) c.args.p) (ap (answer (Verdict.Fault _ _ _)) c.empty_program.ensures ∙ ap (λ x. answered x c.args.p) (sym c.in-Fault.is ∙ c.check_lent-v.ensures ∙ check_written c.args.p (record_told c.args.p _ c.well_formed.0) _ _ c.write_record.ensures.0 c.write_record.ensures.1)) _ _ c.write_record-in-Fault.ensures.0 c.write_record-in-Fault.ensures.1 (λ a b e. no_pass e)

pub returns : goal.returns
returns c =
    written_as (answer c.check_lent-v.result c.args.p) (answered (check c.args.p) c.args.p) (ap (λ x. answer x c.args.p) c.in_default.is ∙ ap (λ x. answered x c.args.p) (sym c.in_default.is ∙ c.check_lent-v.ensures ∙ check_written c.args.p (record_told c.args.p _ c.well_formed.0) _ _ c.write_record.ensures.0 c.write_record.ensures.1)) _ _ c.write_record.ensures.0 c.write_record.ensures.1 (λ a b e. sym c.check_lent-v.ensures ∙ e)
