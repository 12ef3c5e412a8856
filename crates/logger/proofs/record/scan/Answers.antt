-- The buffers hold what was written of the record.
use Rattle.record_writer.proofs.ByType.{record_told}
use Rattle.proof_calls.specs.Written.{scan_written}
use Rattle.logger.proofs.record.scan.Goals as goal

pub returns : goal.returns
returns c =
    scan_written c.args.p (record_told c.args.p _ c.well_formed.0) _ _ c.write_record.ensures.0 c.write_record.ensures.1 c.scan_lent.ensures
