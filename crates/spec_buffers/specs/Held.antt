-- What a scan works on, as it lies in the lent buffers and the run state, and the memory of the plain machine that it holds. Assumes nothing.
use Rattle.std.specs.Prelude.{ℕ, zero, suc, Bool, false, List, [], ◌∷◌, ◌≡◌, length, get_or, set, eqb, Float}
use Rattle.std.proofs.Math.Option.{Option}
use Rattle.base_program.specs.declared.Program.{Program}
use Rattle.base_program.specs.declared.Timed.{Timed}
use Rattle.storage_ring.specs.declared.RingState.{RingState}
use Rattle.storage_ring.specs.Ring.{RingSound, advanced}
use Rattle.spec_machine.specs.Memory.{Memory, Moment}
use Rattle.base_float.specs.Finite.{zero_float}

-- the ring and its state
pub record Tape : Type 0 where
  pub ring : List ℕ
  pub state : RingState

-- what storing a value needs: the ring, the array id last raised, and whether that array's start word is not written yet
pub record Out : Type 0 where
  pub tape : Tape
  pub array : ℕ
  pub waiting : Bool

pub record Held : Type 0 where
  pub locations : List Float
  pub sums : List Float
  pub counts : List ℕ
  pub flags : List Bool
  pub ports : List Bool
  pub out : Out

-- In a scan the run state's numbers lie in an array of four: the ring's position and filled count, the array id, and 1 where a start word waits.
abbrev pub out_of : List ℕ → List ℕ → Out
out_of ring store =
    record {
      tape = record { ring = ring; state = record { position = get_or store 0 0; filled = get_or store 1 0 } };
      array = get_or store 2 0;
      waiting = eqb (get_or store 3 0) 1;
    }

abbrev pub held_of : List Float → List Float → List ℕ → List Bool → List Bool → List ℕ → List ℕ → Held
held_of locations sums counts flags ports ring store =
    record { locations = locations; sums = sums; counts = counts; flags = flags; ports = ports; out = out_of ring store }

-- location n and port n, from 1
abbrev pub cell : List Float → ℕ → Float
cell l zero = zero_float
cell l (suc k) = get_or l k zero_float

abbrev pub port : List Bool → ℕ → Bool
port l zero = false
port l (suc k) = get_or l k false

-- a memory of the plain machine from its parts
abbrev pub memory_with : (ℕ → Float) → (ℕ → Float) → (ℕ → ℕ) → (ℕ → Bool) → (ℕ → Bool) → Out → List ℕ → (Timed → Option Moment) → Memory
memory_with locations sums counts flags ports out words last =
    record {
      cells = record { locations = locations; sums = sums; counts = counts };
      signals = record { flags = flags; ports = ports };
      storage = record { words = words; array = out.array; waiting = out.waiting };
      last = last;
    }

abbrev pub sum_of : List Float → ℕ → Float
sum_of l k = get_or l k zero_float

abbrev pub count_at : List ℕ → ℕ → ℕ
count_at l c = get_or l c 0

abbrev pub flag_at : List Bool → ℕ → Bool
flag_at l f = get_or l f false

-- the memory that is held, where the words written in all are `words`, and the last scans are `last`
abbrev pub memory_of : Held → List ℕ → (Timed → Option Moment) → Memory
memory_of h words last =
    memory_with (cell h.locations) (sum_of h.sums) (count_at h.counts) (flag_at h.flags) (port h.ports) h.out words last

-- buffers and a state that no call refuses
pub record Fits (p : Program) (h : Held) : Type 0 where
  pub locations : length h.locations ≡ p.locations
  pub sums : length h.sums ≡ p.sums
  pub counts : length h.counts ≡ 297
  pub flags : length h.flags ≡ 10
  pub ports : length h.ports ≡ 8
  pub ring : RingSound (length h.out.tape.ring) h.out.tape.state

-- ---- the ring

-- 'a new word overwrites the oldest'
unfoldable pub put_word : ℕ → Tape → Tape
put_word w s = record { ring = set s.ring s.state.position w; state = advanced (length s.ring) s.state }

unfoldable pub put_words : List ℕ → Tape → Tape
put_words [] s = s
put_words (w ∷ r) s = put_words r (put_word w s)
