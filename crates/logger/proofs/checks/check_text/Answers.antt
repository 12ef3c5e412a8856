-- What is equal has equal numbers.
use mathlib.Core.Path.{ap}
use Rattle.spec_check.specs.Check.{answer_of}
use Rattle.text_answer.specs.declared.TextAnswer.{TextAnswer}
use Rattle.logger.proofs.checks.check_text.Goals as goal

pub returns : goal.returns
returns c =
    record { answer = c.check_text.ensures; numbers = ap (λ (a : TextAnswer). answer_of a.verdict) c.check_text.ensures }
