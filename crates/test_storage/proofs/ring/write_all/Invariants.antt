-- Each write leaves a sound ring.
use Rattle.std.proofs.Common.{length}
use Rattle.storage_ring.specs.Ring.{RingSound}
use Rattle.test_storage.proofs.ring.write_all.Given as goal

abbrev pub invariant-loop-w : goal.invariant-loop-w
invariant-loop-w l = RingSound (length l.ring) l.at
