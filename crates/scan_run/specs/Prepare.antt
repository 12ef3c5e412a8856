-- What the loop asks is there once the targets are found: from what the run asks, and from what each function that finds them ensures.
-- Assumes nothing.
use Rattle.std.specs.Prelude.{◌≡◌, refl, ℕ, zero, suc, ◌+◌, ◌*◌, ◌/◌, ◌%◌, min, Bool, true, false, not, ◌&&◌, List, length, get_or, replicate, eqb, Float}
use Rattle.std.proofs.Common.{sym, ap, ◌∙◌, arith, eq-eqb}
use Rattle.std.proofs.Math.Option.{Option, none, some}
use Rattle.base_program.specs.declared.Program.{Program}
use Rattle.base_program.specs.declared.Timed.{Timed}
use Rattle.base_program.specs.Entries.{row}
use Rattle.base_program.specs.Laws.{entries_length}
use Rattle.proof_check.specs.Passed.{passed}
use Rattle.spec_machine.specs.Memory.{Moment}
use Rattle.spec_machine.specs.Values.{Scan, another, minute_of}
use Rattle.spec_machine.specs.Machine.{table_of}
use Rattle.spec_machine.specs.Calls.{reading_of}
use Rattle.spec_buffers.specs.Held.{Held}
use Rattle.scan_turns.specs.Run.{Runnable, TickOf}
use Rattle.scan_turns.specs.Loop.{Ticks, TargetsFound, Asks, Starts}

-- a new list
abbrev new : ℕ → List ℕ
new n = replicate n 0

pub zeros : (n k : ℕ) → get_or (new n) k 0 ≡ 0
zeros zero k = refl
zeros (suc n) zero = refl
zeros (suc n) (suc k) = zeros n k

-- ---- scans with these numbers

pub ticks_of : (x : Scan) (t : Timed) (day time hour minute : ℕ) (b : Bool) (readings : List Float) → TickOf x t day time b readings
    → minute ≡ time / 4800 → hour ≡ minute / 60 * 100 + minute % 60 → Ticks x t day hour minute b readings
ticks_of x t day time hour minute b readings k minute_told hour_told =
    let minute_is : minute_of x.time ≡ minute = ap minute_of k.time_given ∙ sym minute_told in
    record {
      table_is = k.table_is;
      day_is = k.day_is;
      hour_is = ap (λ m. m / 60 * 100 + m % 60) minute_is ∙ sym hour_told;
      minute_is = minute_is;
      changed_is =
          ap (λ d. another x.previous d (minute_of x.time)) k.day_is
          ∙ ap (λ n. another x.previous day (minute_of n)) k.time_given
          ∙ k.another_is;
      readings_are = k.readings_are;
    }

-- one of them
previous_of : Bool → ℕ → ℕ → Option Moment
previous_of true day minute = none
previous_of false day minute = some (record { day = day; minute = minute })

some_scan : (t : Timed) (day time : ℕ) (b : Bool) (readings : List Float) → (x : Scan) × TickOf x t day time b readings
unfolding previous_of
some_scan t day time b readings = (
  record { table = t; day = day; time = time; readings = reading_of readings; previous = previous_of b day (minute_of time) },
  record { table_is = refl; day_is = refl; time_given = refl; readings_are = refl; another_is = told b },
)
  where
    told : (z : Bool) → another (previous_of z day (minute_of time)) day (minute_of time) ≡ z
    told true = refl
    told false =
        ap (λ y. not (y && eqb (minute_of time) (minute_of time))) (eq-eqb day day refl)
        ∙ ap not (eq-eqb (minute_of time) (minute_of time) refl)

module _ {p : Program} {day time : ℕ} {readings : List Float} {h : Held} {store : List ℕ} (r : Runnable p day time readings h store) where
  pub starts_of : (marks : List ℕ) → length marks ≡ 97 → get_or marks 0 0 ≡ 0 → Starts p h marks
  starts_of marks size lowest =
      record {
        fits = r.fits;
        keeps =
            record {
              ready = record { ring = r.fits.ring; array = omega (arith, r.array) };
              few = r.few;
              array = r.array;
            };
        size = size;
        lowest = lowest;
      }

  pub asks_of : length p.slots ≡ 297 → (t : Timed) (b : Bool) (ends elses subs firsts : List ℕ) → TargetsFound p ends elses subs firsts
      → (at start home hour minute : ℕ) → at ≡ row (table_of t) → start ≡ 128 * at → home ≡ start + min (get_or p.lengths at 0) 99 → minute ≡ time / 4800
      → hour ≡ minute / 60 * 100 + minute % 60 → Asks p start home day hour minute b ends elses subs firsts readings store
  asks_of full t b ends elses subs firsts found at start home hour minute at_is start_of_lem home_told minute_told hour_told =
      let some : (x : Scan) × TickOf x t day time b readings = some_scan t day time b readings in
      let start_is : start ≡ 128 * row (table_of t) = start_of_lem ∙ ap (λ n. 128 * n) at_is in
      record {
        passes = passed p r.first r.second r.passed;
        found = found;
        table = t;
        scan = some.0;
        ticks = ticks_of some.0 t day time hour minute b readings some.1 minute_told hour_told;
        start_is = start_is;
        home_is =
            home_told
            ∙ ap (λ n. n + min (get_or p.lengths at 0) 99) start_is
            ∙ ap (λ n. 128 * row (table_of t) + n) (ap (λ n. min (get_or p.lengths n 0) 99) at_is ∙ sym (entries_length p (table_of t) full));
        all = r.all;
        four = r.four;
      }
