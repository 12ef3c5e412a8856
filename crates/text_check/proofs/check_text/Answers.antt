-- A text fault is answered as it is; a clean text's record is judged alike as a record.
use mathlib.Core.Path.{sym, ap, ◌∙◌}
use Rattle.base_program.specs.declared.Finding.{Finding}
use Rattle.spec_check.specs.declared.Verdict.{Verdict}
use Rattle.text_keyed.specs.declared.Keyed.{Keyed}
use Rattle.text_keyed.specs.Text.{clean}
use Rattle.text_answer.specs.Check.{answer, answered, settled, check_text}
use Rattle.text_answer.proofs.Record.{same_verdict}
use Rattle.text_check.proofs.check_text.Goals as goal

pub returns-in-Fault : goal.returns-in-Fault
unfolding check_text
returns-in-Fault c =
    ap (answer (Verdict.Fault _ _ _)) c.empty_program.ensures ∙ ap (λ f. settled f c.read_text-k.result.program) (sym c.in-Fault.is) ∙ ap (λ (k : Keyed). settled k.finding k.program) c.read_text-k.ensures

pub returns : goal.returns
unfolding check_text clean
returns c =
    c.answer_of.ensures ∙ ap (λ v. answered v c.read_text-k.result.program) (c.check_record-v.ensures ∙ same_verdict c.args.s.now c.read_text-k.result.program (sym c.read_text-k.ensures ∙ ap (λ (f : Finding). record { finding = f; program = c.read_text-k.result.program }) c.in_default.is)) ∙ ap (λ f. settled f c.read_text-k.result.program) (sym c.in_default.is) ∙ ap (λ (k : Keyed). settled k.finding k.program) c.read_text-k.ensures
