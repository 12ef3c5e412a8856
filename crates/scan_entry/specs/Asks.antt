-- What an entry asks: the numbers that are known of it, and what is lent to it. Assumes nothing.
use Rattle.std.specs.Prelude.{◌≡◌, ℕ, ◌≤◌, ◌<◌, Bool, List, length, get_or, Float}
use Rattle.base_program.specs.declared.Instruction.{Instruction}
use Rattle.base_program.specs.declared.Program.{Program}
use Rattle.base_program.specs.declared.Table.{Table}
use Rattle.base_program.specs.Entries.{slot, first_sum}
use Rattle.spec_machine.specs.Values.{Scan, minute_of, another}
use Rattle.spec_machine.specs.Output.{clock}
use Rattle.spec_machine.specs.Machine.{array_id}
use Rattle.spec_buffers.specs.Held.{Held}
use Rattle.spec_buffers.specs.RefineEntry as Entry

-- how far indexed locations are moved up, the entry's first sum, its count's place, its array id; the tick's day, clock and minute, and whether
-- the table's previous scan was in another day or minute, or never was
pub record EntryNumbers : Type 0 where
  pub shift : ℕ
  pub first : ℕ
  pub place : ℕ
  pub id : ℕ
  pub today : ℕ
  pub hour : ℕ
  pub minute : ℕ
  pub changed : Bool

abbrev pub known : ℕ → ℕ → ℕ → ℕ → ℕ → ℕ → ℕ → Bool → EntryNumbers
known shift first place id today hour minute changed =
    record { shift = shift; first = first; place = place; id = id; today = today; hour = hour; minute = minute; changed = changed }

-- that these are the numbers of entry e of table t of p, in the scan x
pub record EntryTold (p : Program) (x : Scan) (t : Table) (e : ℕ) (k : EntryNumbers) : Type 0 where
  pub first_is : first_sum p t e ≡ k.first
  pub place_is : slot t e ≡ k.place
  pub id_is : array_id t e ≡ k.id
  pub today_is : x.day ≡ k.today
  pub hour_is : clock x ≡ k.hour
  pub minute_is : minute_of x.time ≡ k.minute
  pub changed_is : another x.previous x.day (minute_of x.time) ≡ k.changed

-- the entry i of a program is in range and in reach of what is lent
pub record Asked (k : EntryNumbers) (i : Instruction) (readings : List Float) (h : Held) (store : List ℕ) : Type 0 where
  pub program : Program
  pub table : Table
  pub number : ℕ
  pub ready : Entry.EntryReady program table number k.shift i h
  pub first_is : first_sum program table number ≡ k.first
  pub place_is : slot table number ≡ k.place
  pub all : length readings ≡ 196
  pub array : h.out.array < 1024
  pub few : (c : ℕ) → get_or h.counts c 0 ≤ 16777215
  pub four : length store ≡ 4
