-- The buffers begin with the slots written so far, at each turn.
use Rattle.record_writer.proofs.Rows.{Rows}
use Rattle.record_writer.proofs.write_record.Given as goal

abbrev pub invariant-loop-s : goal.invariant-loop-s
invariant-loop-s l = Rows l.fn.p l.numbers l.values l.s
