-- The buffers hold what was written of the record.
use mathlib.Core.Path.{◌∙◌}
use Rattle.record_writer.proofs.ByType.{record_told}
use Rattle.proof_record.specs.Written.{check_written}
use Rattle.check_record.proofs.check_record.Goals as goal

pub returns : goal.returns
returns c =
    c.check_lent.ensures ∙ check_written c.args.p (record_told c.args.p _ c.well_formed.0) _ _ c.write_record.ensures.0 c.write_record.ensures.1
