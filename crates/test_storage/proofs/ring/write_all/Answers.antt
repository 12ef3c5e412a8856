-- Each write leaves a sound ring.
use Rattle.storage_ring.specs.RingLaws.{written_sound}
use Rattle.test_storage.proofs.ring.write_all.Goals as goal

pub loop-w-preserved : goal.loop-w-preserved
loop-w-preserved c =
    (written_sound c.loop-w.ring c.write_word-at.new.ring c.loop-w.at c.write_word-at.result _ c.loop-w.invariant c.write_word-at.ensures.0 c.write_word-at.ensures.1).1
