-- Each write leaves a sound ring.
use Rattle.storage_ring.specs.RingLaws.{written_sound}
use Rattle.test_storage.proofs.ring.repeat.Goals as goal

pub write_word-at-requires-in-loop : goal.write_word-at-requires-in-loop
write_word-at-requires-in-loop c =
    (written_sound c.loop.ring c.write_word-at.new.ring c.loop.at c.write_word-at.result _ c.loop.invariant c.write_word-at.ensures.0 c.write_word-at.ensures.1).1

pub loop-preserved : goal.loop-preserved
loop-preserved c =
    let first = written_sound c.loop.ring c.write_word-at.new.ring c.loop.at c.write_word-at.result _ c.loop.invariant c.write_word-at.ensures.0 c.write_word-at.ensures.1 in
    (written_sound c.write_word-at.new.ring c.write_word-at-in-loop.new.ring c.write_word-at.result c.write_word-at-in-loop.result _ first.1 c.write_word-at-in-loop.ensures.0 c.write_word-at-in-loop.ensures.1).1
