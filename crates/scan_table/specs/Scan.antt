-- What a scan that is not refused leaves, by whether the table is due. By the definitions. Assumes nothing.
use Rattle.std.specs.Prelude.{◌≡◌, refl, ℕ, Bool, true, false, List, length, set, Float}
use Rattle.std.proofs.Common.{sym, ◌∙◌, subst, length-set}
use Rattle.base_program.specs.declared.Program.{Program}
use Rattle.base_program.specs.declared.Timed.{Timed}
use Rattle.spec_check.specs.declared.Verdict.{Verdict}
use Rattle.spec_check.specs.Check.{check}
use Rattle.spec_machine.specs.Values.{another, minute_of}
use Rattle.spec_machine.specs.Run.{due}
use Rattle.spec_buffers.specs.Held.{Held, held_of}
use Rattle.spec_calls.specs.Stores.{Stores, last_in}
use Rattle.spec_calls.specs.Scanned.{Leaves, StoresScanned, scan_in}
use Rattle.record_layout.specs.Layout.{record_of}
use Rattle.scan_turns.specs.Run.{Runnable, TickOf}
use Rattle.scan_refusals.specs.Laws.{Taken}
use Rattle.scan_state.specs.Parts.{lowered, numbers_of}
use Rattle.scan_table.specs.Start.{held_at_start, begun}

-- whether a table of a record with these numbers is due: its values do not matter
abbrev pub DueTold : List ℕ → Timed → ℕ → Bool → Type 0
DueTold ns table time r = (vs : List Float) → r ≡ due (record_of ns vs) table time

-- what is known of a scan that is not refused
pub record ScanReady (p : Program) (a : Stores) (day time : ℕ) (readings : List Float) : Type 0 where
  pub first : ℕ
  pub second : ℕ
  pub passed : check p ≡ Verdict.Pass first second
  pub taken : Taken p a day time readings

-- ---- the run

lowered_length : (l : List Bool) → length l ≡ 10 → length (lowered l) ≡ 10
unfolding lowered
lowered_length l ten = length-set (set l 0 false) 9 false ∙ length-set l 0 false ∙ ten

at_start : (p : Program) (a : Stores) (day time : ℕ) (readings : List Float) → ScanReady p a day time readings
    → Runnable p day time readings (held_at_start a) (numbers_of a.state)
unfolding numbers_of
at_start p a day time readings r =
    let s = r.taken.sound in
    record {
      first = r.first;
      second = r.second;
      passed = r.passed;
      day_in = r.taken.day_most;
      time_in = r.taken.time_most;
      all = r.taken.all;
      fits = record {
        locations = s.fits.locations;
        sums = s.fits.sums;
        counts = s.fits.counts;
        flags = lowered_length a.state.flags s.fits.flags;
        ports = s.fits.ports;
        ring = s.fits.ring;
      };
      array = s.array;
      few = s.counts;
      four = refl;
    }

pub runnable : (p : Program) (a : Stores) (day time : ℕ) (readings : List Float) (f : List Bool) (n : List ℕ) → f ≡ lowered a.state.flags
    → n ≡ numbers_of a.state → ScanReady p a day time readings
    → Runnable p day time readings (held_of a.locations a.sums a.counts f a.state.ports a.ring n) n
runnable p a day time readings f n low same r =
    subst (λ (h : Held). Runnable p day time readings h n) (sym (begun a f n low same))
    (subst (Runnable p day time readings (held_at_start a)) (sym same) (at_start p a day time readings r))

pub tick : (t : Timed) (day time : ℕ) (readings : List Float) (a : Stores) (b : Bool) → b ≡ another (last_in a.state t) day (minute_of time)
    → TickOf (scan_in t day time readings a) t day time b readings
tick t day time readings a b e =
    record { table_is = refl; day_is = refl; time_given = refl; readings_are = refl; another_is = sym e }

-- ---- what it leaves

module _ (p : Program) (t : Timed) (day time : ℕ) (readings : List Float) (a : Stores) where
  pub scanned_not : due p t time ≡ false → StoresScanned (due p t time) p t day time readings a a
  scanned_not d = subst (λ b. StoresScanned b p t day time readings a a) (sym d) refl

  pub scanned_due : due p t time ≡ true → (b : Stores) → Leaves p (scan_in t day time readings a) a b → StoresScanned (due p t time) p t day time readings a b
  scanned_due d b l = subst (λ z. StoresScanned z p t day time readings a b) (sym d) l
