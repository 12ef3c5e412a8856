-- Each arm is one case of `answered`.
use mathlib.Core.Path.{sym, ap, ◌∙◌}
use Rattle.spec_check.specs.declared.Verdict.{Verdict}
use Rattle.text_answer.specs.Check.{answer, answered}
use Rattle.text_answer.proofs.answer_of.Goals as goal

pub returns-in-Pass : goal.returns-in-Pass
returns-in-Pass c =
    ap (λ x. answered x c.args.p) (sym c.in-Pass.is)

pub returns-in-Fault : goal.returns-in-Fault
returns-in-Fault c =
    ap (answer (Verdict.Fault _ _ _)) c.empty_program.ensures ∙ ap (λ x. answered x c.args.p) (sym c.in-Fault.is)
