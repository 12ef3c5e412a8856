-- What is equal has equal numbers.
use mathlib.Core.Path.{ap}
use Rattle.spec_check.specs.Check.{answer_of}
use Rattle.logger.proofs.checks.check_record.Goals as goal

pub returns : goal.returns
returns c =
    record { verdict = c.check_record.ensures; numbers = ap answer_of c.check_record.ensures }
