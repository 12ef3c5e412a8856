-- What a scan that is not refused leaves: what the plain machine leaves. Assumes nothing.
use Rattle.std.specs.Prelude.{◌≡◌, ℕ, ◌≤◌, Bool, true, false, List, [], ◌++◌, length, get_or, set, Float}
use Rattle.base_program.specs.declared.Program.{Program}
use Rattle.base_program.specs.declared.Timed.{Timed}
use Rattle.base_program.specs.declared.Timed.TheVariants.{One, Two}
use Rattle.spec_machine.specs.Memory.{Memory}
use Rattle.spec_machine.specs.Values.{Scan, minute_of}
use Rattle.spec_machine.specs.Run.{scan_of, start, Ends}
use Rattle.spec_machine.specs.Calls.{reading_of}
use Rattle.spec_buffers.specs.Held.{Fits, put_words}
use Rattle.spec_calls.specs.Stores.{Stores, words_in, held_in, tape_in, memory_in, Holds}

-- stores that no call refuses with 31 or 32
pub record StoresSound (p : Program) (s : Stores) : Type 0 where
  pub fits : Fits p (held_in s)
  pub array : s.state.array ≤ 399
  pub counts : (c : ℕ) → get_or s.counts c 0 ≤ 16777215
  pub tables : (length s.state.days ≡ 2) × (length s.state.minutes ≡ 2)

abbrev pub place_of : Timed → ℕ
place_of One = 0
place_of Two = 1

-- The plain machine's run from what a holds ends with a memory, and b holds it. The machine reads none of the words that it wrote: whatever was written
-- before those that the ring still has, it is the same run (`whatever-before`, proof_demand).
pub record Leaves (p : Program) (x : Scan) (a b : Stores) : Type 0 where
  pub memory : Memory
  pub ends : (n : ℕ) × Ends p x (start x (memory_in a (words_in a))) n memory
  pub holds : Holds b memory
  -- the words that it wrote: they stand behind those that there were, and have gone round the ring
  pub words : List ℕ
  pub written : memory.storage.words ≡ words_in a ++ words
  pub ring : tape_in b ≡ put_words words (tape_in a)
  -- 'each table's last scan': this one of the table scanned, the other table's as before
  pub days : b.state.days ≡ set a.state.days (place_of x.table) x.day
  pub minutes : b.state.minutes ≡ set a.state.minutes (place_of x.table) (minute_of x.time)
  pub sound : StoresSound p b

-- the scan of a table at a tick, after what a holds of its last one
abbrev pub scan_in : Timed → ℕ → ℕ → List Float → Stores → Scan
scan_in t day time readings a = scan_of t day time (reading_of readings) (memory_in a [])

-- 'A table runs if V is not 0 and divides T': one that does not leaves all.
abbrev pub StoresScanned : Bool → Program → Timed → ℕ → ℕ → List Float → Stores → Stores → Type 0
StoresScanned true p t day time readings a b = Leaves p (scan_in t day time readings a) a b
StoresScanned false p t day time readings a b = b ≡ a
