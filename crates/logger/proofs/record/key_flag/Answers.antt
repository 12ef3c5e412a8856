-- The buffers hold what was written of the record.
use mathlib.Core.Path.{◌∙◌}
use Rattle.record_writer.proofs.ByType.{record_told}
use Rattle.proof_calls.specs.Written.{flag_written}
use Rattle.spec_calls.specs.Keyings.{flag_answers}
use Rattle.logger.proofs.record.key_flag.Goals as goal

pub returns : goal.returns
returns c =
    flag_answers c.args.p c.args.f c.args.state c.key_flag_lent.result.refusal c.key_flag_lent.result.state (c.key_flag_lent.ensures.0 ∙ flag_written c.args.p (record_told c.args.p _ c.well_formed.0) _ _ c.write_record.ensures.0 c.write_record.ensures.1 c.args.f) c.key_flag_lent.ensures.1
