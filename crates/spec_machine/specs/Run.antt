-- A scan of the plain machine: when a table runs, how it starts, its steps and its end. Assumes nothing.
use Rattle.std.specs.Prelude.{◌≡◌, ℕ, zero, suc, ◌%◌, Bool, false, not, ◌&&◌, [], eqb, Float}
use Rattle.std.proofs.Math.Option.{Option, some}
use Rattle.base_program.specs.declared.Program.{Program}
use Rattle.base_program.specs.declared.Timed.{Timed}
use Rattle.base_program.specs.declared.Timed.TheVariants.{One, Two}
use Rattle.spec_check.specs.Ranges.{interval}
use Rattle.spec_machine.specs.Memory.{Memory, Moment, set_last, set_storage}
use Rattle.spec_machine.specs.Values.{Scan, minute_of}
use Rattle.spec_machine.specs.Output.{lower}
use Rattle.spec_machine.specs.Machine.{Config, next, done, at, table_of, step}

-- 'A table runs if V is not 0 and divides T.'
unfoldable pub due : Program → Timed → ℕ → Bool
due p t time = not (eqb (interval p (table_of t)) 0) && eqb (time % interval p (table_of t)) 0

-- the scan of a table at a tick: its previous scan is the last one before
abbrev pub scan_of : Timed → ℕ → ℕ → (ℕ → Float) → Memory → Scan
scan_of t day time r m = record { table = t; day = day; time = time; readings = r; previous = m.last t }

abbrev pub moment_of : Scan → Moment
moment_of x = record { day = x.day; minute = minute_of x.time }

-- the same, but for the table scanned
abbrev pub noted : Timed → Moment → (Timed → Option Moment) → Timed → Option Moment
noted One w l One = some w
noted One w l Two = l Two
noted Two w l One = l One
noted Two w l Two = some w

-- 'Flags 0 and 9 are lowered as a table starts': so no array waits for a value, and this scan is the table's last.
unfoldable pub starting : Scan → Memory → Memory
starting x m =
    set_last (noted x.table (moment_of x) m.last) (set_storage m.storage.words m.storage.array false (lower 9 (lower 0 m)))

-- 'A scan starts at entry 1 with nothing open.'
abbrev pub start : Scan → Memory → Config
start x m = at (table_of x.table) 0 [] [] (starting x m)

-- n steps lead from one configuration to another
pub data Steps (p : Program) (x : Scan) : ℕ → Config → Config → Type 0 where
  here : {c : Config} → Steps p x zero c c
  onward : {n : ℕ} {c d e : Config} → step p x c ≡ next d → Steps p x n d e → Steps p x (suc n) c e

-- From c the scan ends after n steps, and leaves m.
pub record Ends (p : Program) (x : Scan) (c : Config) (n : ℕ) (m : Memory) : Type 0 where
  pub final : Config
  pub steps : Steps p x n c final
  pub ended : step p x final ≡ done
  pub left : final.memory ≡ m
