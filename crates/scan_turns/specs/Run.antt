-- What the run of a scan asks, and what it leaves: what the plain machine leaves from entry 1 on. Assumes nothing.
use Rattle.std.specs.Prelude.{◌≡◌, ℕ, ◌≤◌, Bool, List, [], ◌++◌, length, get_or, Float}
use Rattle.std.proofs.Math.Option.{Option}
use Rattle.base_program.specs.declared.Program.{Program}
use Rattle.base_program.specs.declared.Timed.{Timed}
use Rattle.spec_check.specs.declared.Verdict.{Verdict}
use Rattle.spec_check.specs.Check.{check}
use Rattle.record_codes.specs.Loaded.{Sizes, LengthsAre, FlowsAre, SumsAre, SubsAre}
use Rattle.spec_machine.specs.Memory.{Moment}
use Rattle.spec_machine.specs.Values.{Scan, another, minute_of}
use Rattle.spec_machine.specs.Machine.{at, table_of}
use Rattle.spec_machine.specs.Run.{Ends}
use Rattle.spec_machine.specs.Calls.{reading_of}
use Rattle.spec_buffers.specs.Held.{Held, Fits, memory_of, put_words}

-- what is known of a record, a tick and lent buffers that no refusal meets
pub record Runnable (p : Program) (day time : ℕ) (readings : List Float) (h : Held) (store : List ℕ) : Type 0 where
  pub first : ℕ
  pub second : ℕ
  pub passed : check p ≡ Verdict.Pass first second
  pub day_in : day ≤ 366
  pub time_in : time ≤ 6911999
  pub all : length readings ≡ 196
  pub fits : Fits p h
  pub array : h.out.array ≤ 399
  pub few : (c : ℕ) → get_or h.counts c 0 ≤ 16777215
  pub four : length store ≡ 4

-- what the check has found of its entries: their kinds, the sums that they take, and where subroutines begin
pub record Loaded (p : Program) (codes taken subs : List ℕ) : Type 0 where
  pub lengths_are : LengthsAre p p.lengths
  pub flows_are : FlowsAre p codes
  pub sums_are : SumsAre p taken
  pub subs_are : SubsAre p subs
  pub codes_sized : Sizes codes p.lengths
  pub taken_sized : Sizes taken p.lengths
  pub subs_long : length subs ≡ 256

-- The scan x is of table t at this tick, with these readings; b tells whether its previous scan was in another day or minute, or never was.
pub record TickOf (x : Scan) (t : Timed) (day time : ℕ) (b : Bool) (readings : List Float) : Type 0 where
  pub table_is : x.table ≡ t
  pub day_is : x.day ≡ day
  pub time_given : x.time ≡ time
  pub readings_are : x.readings ≡ reading_of readings
  pub another_is : another x.previous day (minute_of time) ≡ b

-- From what h holds the plain machine ends with what k holds, and the words that it wrote have gone round the ring; whatever words were
-- written before, and whatever the last scans were.
pub record RunLeaves (p : Program) (x : Scan) (h k : Held) : Type 0 where
  pub words : List ℕ
  pub ends : (before : List ℕ) (last : Timed → Option Moment)
      → (n : ℕ) × Ends p x (at (table_of x.table) 0 [] [] (memory_of h before last)) n (memory_of k (before ++ words) last)
  pub tape : k.out.tape ≡ put_words words h.out.tape
  pub fits : Fits p k
  pub array : k.out.array ≤ 399
  pub few : (c : ℕ) → get_or k.counts c 0 ≤ 16777215
