-- The buffers hold what was written of the record.
use mathlib.Core.Path.{◌∙◌}
use lib.ListN.{length}
use Rattle.record_writer.proofs.ByType.{record_told}
use Rattle.proof_calls.specs.Written.{key_written}
use Rattle.spec_calls.specs.Keyings.{location_answers}
use Rattle.logger.proofs.record.key_location.Goals as goal

pub returns : goal.returns
returns c =
    location_answers c.args.p c.args.n c.args.v c.args.locations.now c.key_location_lent.result _ (c.key_location_lent.ensures.0 ∙ key_written c.args.p (record_told c.args.p _ c.well_formed.0) _ _ c.write_record.ensures.0 c.write_record.ensures.1 (length c.args.locations.now) c.args.n c.args.v) c.key_location_lent.ensures.1
