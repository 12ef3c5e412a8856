-- A text fault is answered as it is; a clean text's record is judged alike as a record.
use mathlib.Core.Path.{sym, ap, ◌∙◌}
use Rattle.base_program.specs.declared.Finding.{Finding}
use Rattle.spec_check.specs.declared.Verdict.{Verdict}
use Rattle.text_keyed.specs.declared.Keyed.{Keyed}
use Rattle.text_keyed.specs.Text.{clean}
use Rattle.text_answer.specs.Check.{answer, answered, settled, check_text}
use Rattle.text_answer.proofs.Record.{same_verdict, written_as, as_written, no_pass}
use Rattle.text_check.proofs.check_text_lent.Goals as goal

pub returns-in-Fault : goal.returns-in-Fault
unfolding check_text
returns-in-Fault c =
    written_as (answer (Verdict.Fault _ _ _) c.empty_program.result) (check_text c.args.s.now) (ap (answer (Verdict.Fault _ _ _)) c.empty_program.ensures ∙ ap (λ f. settled f c.read_text-k.result.program) (sym c.in-Fault.is) ∙ ap (λ (k : Keyed). settled k.finding k.program) c.read_text-k.ensures) _ _ c.write_record.ensures.0 c.write_record.ensures.1 (λ a b e. no_pass e)

pub returns : goal.returns
unfolding check_text clean
returns c =
    as_written _ (check_text c.args.s.now) (ap (λ v. answered v c.read_text-k.result.program) (same_verdict c.args.s.now c.read_text-k.result.program (sym c.read_text-k.ensures ∙ ap (λ (f : Finding). record { finding = f; program = c.read_text-k.result.program }) c.in_default.is)) ∙ ap (λ f. settled f c.read_text-k.result.program) (sym c.in_default.is) ∙ ap (λ (k : Keyed). settled k.finding k.program) c.read_text-k.ensures) _ _ _ c.write_judged.ensures
