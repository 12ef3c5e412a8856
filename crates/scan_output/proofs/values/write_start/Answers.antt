-- The start word is written exactly where one waits, and then none waits.
use Rattle.scan_output.specs.Laws.{start_written, start_left}
use Rattle.scan_output.proofs.values.write_start.Goals as goal

pub returns-then-store-eq1 : goal.returns-then-store-eq1
returns-then-store-eq1 c =
    start_written c.args.ring.now c.args.store.now c.put_word.new.ring c.put_word.new.store c.start_word-w.result c.requires.four c.put_word.auto.store c.if-store-eq1.true c.start_word-w.ensures c.put_word.ensures

pub returns-else-store-eq1 : goal.returns-else-store-eq1
returns-else-store-eq1 c =
    start_left c.args.ring.now c.args.store.now c.if-store-eq1.false
