-- The ring and its state are those that `write_word` leaves; the other two numbers stay.
use Rattle.scan_output.specs.Laws.{put_done}
use Rattle.scan_output.proofs.values.put_word.Goals as goal

pub returns : goal.returns
returns c =
    put_done c.args.w c.args.ring.now _ c.args.store.now c.write_word-after.result c.requires.four c.write_word-after.ensures.0 c.write_word-after.ensures.1
