-- The start word if it waits, then the value's word.
use Rattle.scan_output.specs.Laws.{value_written}
use Rattle.scan_output.specs.Ready.{room_started}
use Rattle.scan_output.proofs.values.write_value.Goals as goal

pub put_word-requires : goal.put_word-requires
put_word-requires c =
    room_started c.args.ring.now c.args.store.now _ _ c.requires c.write_start.auto.store c.write_start.ensures

pub returns : goal.returns
returns c =
    value_written c.args.v c.value_word.result _ _ _ c.write_start.ensures c.value_word.ensures c.put_word.ensures
