-- What is asked of the ring, the numbers beside it and the locations that are lent. Assumes nothing.
use Rattle.std.specs.Prelude.{◌≡◌, List, ℕ, ◌+◌, ◌≤◌, ◌<◌, length, Float}
use Rattle.storage_ring.specs.Ring.{RingSound}
use Rattle.spec_buffers.specs.Held.{Out, out_of}

-- a ring that no call refuses, and an id that has a start word
pub record RingReady (o : Out) : Type 0 where
  pub ring : RingSound (length o.tape.ring) o.tape.state
  pub array : o.array < 1024

-- the same of a lent ring and the four numbers
pub record Room (ring store : List ℕ) : Type 0 where
  pub four : length store ≡ 4
  pub ready : RingReady (out_of ring store)

-- the locations from `at` on, one for each of the reps
pub record LocationsReached (l : List Float) (reps at : ℕ) : Type 0 where
  pub first : 1 ≤ at
  pub last : at + reps ≤ length l + 1

pub record Sampled (l : List Float) (reps at : ℕ) (ring store : List ℕ) : Type 0 where
  pub locations : LocationsReached l reps at
  pub room : Room ring store
