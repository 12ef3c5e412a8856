-- What the plain machine holds. 'From fresh it holds what this section names, zero where nothing was set, without the check's limits.' Assumes nothing.
use Rattle.std.specs.Prelude.{ℕ, Bool, false, cond, List, [], eqb, pos, Float}
use Rattle.std.proofs.Math.Option.{Option, none}
use Rattle.std.specs.Float.{fin}
use Rattle.base_program.specs.declared.Timed.{Timed}
use Rattle.base_float.specs.Finite.{zero_float}

-- a minute of a day
pub record Moment : Type 0 where
  pub day : ℕ
  pub minute : ℕ

pub record Cells : Type 0 where
  -- Input Location n
  pub locations : ℕ → Float
  -- running sum k, from 0
  pub sums : ℕ → Float
  -- the sample count of the entry with this slot
  pub counts : ℕ → ℕ

pub record Signals : Type 0 where
  -- flags 0 to 9
  pub flags : ℕ → Bool
  -- ports 1 to 8
  pub ports : ℕ → Bool

pub record Storage : Type 0 where
  -- Final Storage: every word ever written, oldest first
  pub words : List ℕ
  -- the array id last raised
  pub array : ℕ
  -- that array's start word is not written yet
  pub waiting : Bool

pub record Memory : Type 0 where
  pub cells : Cells
  pub signals : Signals
  pub storage : Storage
  -- each table's last scan: none, or its day and minute
  pub last : Timed → Option Moment

unfoldable pub fresh : Memory
fresh =
    record {
      cells = record { locations = λ n. zero_float; sums = λ k. zero_float; counts = λ c. 0 };
      signals = record { flags = λ f. false; ports = λ q. false };
      storage = record { words = []; array = 0; waiting = false };
      last = λ t. none;
    }

-- ---- one change each

-- the same, but v at k
abbrev pub put : {A : Type 0} → (ℕ → A) → ℕ → A → ℕ → A
put f k v n = cond (eqb n k) v (f n)

abbrev pub set_cells : Cells → Memory → Memory
set_cells c m = record { cells = c; signals = m.signals; storage = m.storage; last = m.last }

abbrev pub set_location : ℕ → Float → Memory → Memory
set_location n v m =
    set_cells (record { locations = put m.cells.locations n v; sums = m.cells.sums; counts = m.cells.counts }) m

abbrev pub set_sum : ℕ → Float → Memory → Memory
set_sum k v m =
    set_cells (record { locations = m.cells.locations; sums = put m.cells.sums k v; counts = m.cells.counts }) m

abbrev pub set_count : ℕ → ℕ → Memory → Memory
set_count c n m =
    set_cells (record { locations = m.cells.locations; sums = m.cells.sums; counts = put m.cells.counts c n }) m

abbrev pub set_signals : Signals → Memory → Memory
set_signals s m = record { cells = m.cells; signals = s; storage = m.storage; last = m.last }

abbrev pub set_flag : ℕ → Bool → Memory → Memory
set_flag f b m = set_signals (record { flags = put m.signals.flags f b; ports = m.signals.ports }) m

abbrev pub set_port : ℕ → Bool → Memory → Memory
set_port q b m = set_signals (record { flags = m.signals.flags; ports = put m.signals.ports q b }) m

abbrev pub set_storage : List ℕ → ℕ → Bool → Memory → Memory
set_storage w id b m =
    record { cells = m.cells; signals = m.signals; storage = record { words = w; array = id; waiting = b }; last = m.last }

abbrev pub set_last : (Timed → Option Moment) → Memory → Memory
set_last l m = record { cells = m.cells; signals = m.signals; storage = m.storage; last = l }
