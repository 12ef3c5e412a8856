-- Each write leaves a sound ring.
use Rattle.std.proofs.Common.{length}
use Rattle.storage_ring.specs.Ring.{RingSound}
use Rattle.test_storage.proofs.ring.repeat.Given as goal

abbrev pub invariant-loop : goal.invariant-loop
invariant-loop l = RingSound (length l.ring) l.at
