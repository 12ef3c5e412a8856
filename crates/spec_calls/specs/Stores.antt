-- What a crew keeps between calls: the run state and the lent buffers but for the readings; and the plain machine's memory that they hold.
-- Assumes nothing.
use Rattle.std.specs.Prelude.{◌≡◌, ℕ, false, cond, List, length, get_or, replicate, eqb, Float}
use Rattle.std.proofs.Math.Option.{Option, none, some}
use Rattle.base_program.specs.declared.Timed.{Timed}
use Rattle.base_program.specs.declared.Timed.TheVariants.{One, Two}
use Rattle.storage_ring.specs.declared.RingState.{RingState}
use Rattle.storage_ring.specs.Ring.{by_age, latest}
use Rattle.spec_machine.specs.Memory.{Memory, Moment}
use Rattle.base_float.specs.Finite.{zero_float}
use Rattle.spec_machine.specs.Calls.{Lengths}
use Rattle.spec_buffers.specs.Held.{Tape, Held, cell, port, sum_of, count_at, flag_at, memory_of}
use Rattle.spec_calls.specs.declared.State.{State}

pub record Stores : Type 0 where
  pub state : State
  pub locations : List Float
  pub sums : List Float
  pub counts : List ℕ
  pub ring : List ℕ

abbrev pub stores : State → List Float → List Float → List ℕ → List ℕ → Stores
stores state locations sums counts ring =
    record { state = state; locations = locations; sums = sums; counts = counts; ring = ring }

abbrev pub lengths_of : Stores → Lengths
lengths_of s = record { locations = length s.locations; sums = length s.sums; counts = length s.counts; ring = length s.ring }

-- ---- fresh

-- 'Fresh means all zero, .. low and empty, no scan yet.'
unfoldable pub fresh_state : State
fresh_state =
    record {
      flags = replicate 10 false;
      ports = replicate 8 false;
      position = 0;
      filled = 0;
      array = 0;
      days = replicate 2 0;
      minutes = replicate 2 0;
    }

-- 'also in every lent buffer except the readings'
abbrev pub fresh_stores : Lengths → Stores
fresh_stores n =
    stores fresh_state (replicate n.locations zero_float) (replicate n.sums zero_float) (replicate n.counts 0) (replicate n.ring 0)

-- ---- what is held

abbrev pub ring_state : State → RingState
ring_state s = record { position = s.position; filled = s.filled }

-- the filled words of the ring, oldest first
abbrev pub words_in : Stores → List ℕ
words_in s = by_age s.ring (ring_state s.state)

abbrev pub tape_in : Stores → Tape
tape_in s = record { ring = s.ring; state = ring_state s.state }

-- between scans no start word waits
abbrev pub held_in : Stores → Held
held_in s =
    record {
      locations = s.locations;
      sums = s.sums;
      counts = s.counts;
      flags = s.state.flags;
      ports = s.state.ports;
      out = record { tape = tape_in s; array = s.state.array; waiting = false };
    }

-- 'each table's last scan (none, or day and minute)'
abbrev pub moment_at : ℕ → ℕ → Option Moment
moment_at day minute = cond (eqb day 0) none (some (record { day = day; minute = minute }))

abbrev pub last_in : State → Timed → Option Moment
last_in s One = moment_at (get_or s.days 0 0) (get_or s.minutes 0 0)
last_in s Two = moment_at (get_or s.days 1 0) (get_or s.minutes 1 0)

-- the plain machine's memory, where the words written in all are `words`
abbrev pub memory_in : Stores → List ℕ → Memory
memory_in s words = memory_of (held_in s) words (last_in s.state)

-- 'the locations, flags, ports, running sums and Final Storage words are those of document 01's plain machine': the state and the lent buffers
-- of s hold its memory m. Whether a start word waits for its value is left out: no scan starts with one.
pub record Holds (s : Stores) (m : Memory) : Type 0 where
  pub locations : cell s.locations ≡ m.cells.locations
  pub flags : flag_at s.state.flags ≡ m.signals.flags
  pub ports : port s.state.ports ≡ m.signals.ports
  pub sums : sum_of s.sums ≡ m.cells.sums
  -- the filled words of the ring, oldest first, are the last of all the words that the machine has written
  pub words : words_in s ≡ latest (length s.ring) m.storage.words
  -- and what later scans go by: sample counts, the array id last raised, each table's last scan
  pub counts : count_at s.counts ≡ m.cells.counts
  pub array : s.state.array ≡ m.storage.array
  pub last : last_in s.state ≡ m.last
