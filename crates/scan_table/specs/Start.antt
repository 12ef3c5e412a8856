-- The scan of a due table, from the run's contract: what lies in the local arrays as the run begins holds the memory with which the plain machine
-- starts, and what lies there at its end, put together again, is what the state and the buffers hold. Assumes nothing.
use Rattle.std.specs.Prelude.{◌≡◌, Bool, false, cond, length, get_or, set, Float}
use Rattle.std.proofs.Math.Path.{refl, ap, fun_ext}
use Rattle.std.proofs.Common.{sym, ◌∙◌, subst, arith, get_or-set_same, get_or-set_other, ne_eqb}
use Prim.Native.Nat.{ℕ, ◌≤◌, ◌<◌}
use mathlib.Core.List.{List, [], ◌++◌}
use Rattle.std.proofs.Math.Option.{Option, none, some}
use Rattle.std.proofs.Math.ListN.{length-set}
use Rattle.base_program.specs.declared.Program.{Program}
use Rattle.base_program.specs.declared.Timed.{Timed}
use Rattle.base_program.specs.declared.Timed.TheVariants.{One, Two}
use Rattle.spec_machine.specs.Memory.{Memory, Moment, put}
use Rattle.spec_machine.specs.Values.{Scan, minute_of}
use Rattle.spec_machine.specs.Machine.{at, table_of}
use Rattle.spec_machine.specs.Run.{starting, start, noted, moment_of, Ends}
use Rattle.spec_buffers.specs.Held.{Held, held_of, cell, port, sum_of, count_at, flag_at, memory_with, memory_of}
use Rattle.spec_buffers.specs.Refine.{flag_refines}
use Rattle.spec_calls.specs.declared.State.{State}
use Rattle.spec_calls.specs.Stores.{Stores, stores, words_in, memory_in, last_in, moment_at}
use Rattle.spec_calls.specs.Holding.{with_waiting}
use Rattle.spec_calls.specs.Scanned.{StoresSound, Leaves, scan_in, place_of}
use Rattle.spec_calls.proofs.Leaving.{leaves_together}
use Rattle.scan_turns.specs.Run.{RunLeaves}
use Rattle.scan_state.specs.Parts.{lowered, numbers_of, noting}

-- ---- as the run begins

-- a flag of the memory that is held
put_flag : (h : Held) (f : ℕ) (b : Bool) → f < length h.flags → put (flag_at h.flags) f b ≡ flag_at (set h.flags f b)
put_flag h f b low = ap (λ (m : Memory). m.signals.flags) ((flag_refines f b h.out h low refl).memory [] (λ t. none))

abbrev with_flags : List Bool → Stores → Held
with_flags l a = held_of a.locations a.sums a.counts l a.state.ports a.ring (numbers_of a.state)

-- 'Flags 0 and 9 are lowered as a table starts'
put_lowered : (a : Stores) → length a.state.flags ≡ 10
    → put (put (flag_at a.state.flags) 0 false) 9 false ≡ flag_at (lowered a.state.flags)
unfolding lowered
put_lowered a ten =
    let l : List Bool = a.state.flags in
    ap (λ (g : ℕ → Bool). put g 9 false) (put_flag (with_flags l a) 0 false (omega (arith, ten)))
    ∙ put_flag (with_flags (set l 0 false) a) 9 false (omega (arith, ten, length-set l 0 false))

-- what lies in the local arrays and the buffers as the run begins
abbrev pub held_at_start : Stores → Held
held_at_start a = with_flags (lowered a.state.flags) a

pub begun : (a : Stores) (f : List Bool) (n : List ℕ) → f ≡ lowered a.state.flags → n ≡ numbers_of a.state
    → held_of a.locations a.sums a.counts f a.state.ports a.ring n ≡ held_at_start a
begun a f n e g =
    ap (λ z. held_of a.locations a.sums a.counts z a.state.ports a.ring n) e
    ∙ ap (held_of a.locations a.sums a.counts (lowered a.state.flags) a.state.ports a.ring) g

pub started : (x : Scan) (a : Stores) (W : List ℕ) → length a.state.flags ≡ 10
    → memory_of (held_at_start a) W (noted x.table (moment_of x) (last_in a.state)) ≡ starting x (memory_in a W)
unfolding starting numbers_of
started x a W ten =
    sym
    (ap
    (λ (g : ℕ → Bool). memory_with (cell a.locations) (sum_of a.sums) (count_at a.counts) g (port a.state.ports) (held_at_start a).out W
    (noted x.table (moment_of x) (last_in a.state)))
    (put_lowered a ten))

-- ---- as the run ends

moment_some : (day minute : ℕ) → 1 ≤ day → moment_at day minute ≡ some (record { day = day; minute = minute })
moment_some day minute h = ap (λ b. cond b none (some (record { day = day; minute = minute }))) (ne_eqb day 0 (λ e. omega arith))

two_moments : (d m : List ℕ) (k day minute : ℕ) → k < length d → k < length m → 1 ≤ day
    → some (record { day = day; minute = minute }) ≡ moment_at (get_or (set d k day) k 0) (get_or (set m k minute) k 0)
two_moments d m k day minute hd hm h =
    sym
    (ap (λ z. moment_at z (get_or (set m k minute) k 0)) (get_or-set_same d k day 0 hd)
    ∙ ap (moment_at day) (get_or-set_same m k minute 0 hm)
    ∙ moment_some day minute h)

other_moments : (d m : List ℕ) (k j day minute : ℕ) → (j ≡ k → ⊥)
    → moment_at (get_or d j 0) (get_or m j 0) ≡ moment_at (get_or (set d k day) j 0) (get_or (set m k minute) j 0)
other_moments d m k j day minute h =
    sym
    (ap (λ z. moment_at z (get_or (set m k minute) j 0)) (get_or-set_other d k j day 0 h)
    ∙ ap (moment_at (get_or d j 0)) (get_or-set_other m k j minute 0 h))

module _ (t : Timed) (day minute : ℕ) (flags ports : List Bool) (numbers : List ℕ) (s : State) (two : (length s.days ≡ 2) × (length s.minutes ≡ 2))
    (some_day : 1 ≤ day) where
  -- this scan is the table's last, and the other table's stays
  noted_at : (u v : Timed) → noted u (record { day = day; minute = minute }) (last_in s) v ≡ last_in (noting (place_of u) day minute flags ports numbers s) v
  unfolding noting
  noted_at One One = two_moments s.days s.minutes 0 day minute (omega (arith, two.0)) (omega (arith, two.1)) some_day
  noted_at One Two = other_moments s.days s.minutes 0 1 day minute (λ e. omega arith)
  noted_at Two One = other_moments s.days s.minutes 1 0 day minute (λ e. omega arith)
  noted_at Two Two = two_moments s.days s.minutes 1 day minute (omega (arith, two.0)) (omega (arith, two.1)) some_day

  noted_all : noted t (record { day = day; minute = minute }) (last_in s) ≡ last_in (noting (place_of t) day minute flags ports numbers s)
  noted_all = fun_ext (noted_at t)

-- ---- the whole scan

module _ (p : Program) (t : Timed) (day time : ℕ) (readings : List Float) (a : Stores) (locations sums : List Float) (counts : List ℕ)
    (flags ports : List Bool) (ring numbers : List ℕ) where
  abbrev scanned : Scan
  scanned = scan_in t day time readings a

  abbrev run_left : Held
  run_left = held_of locations sums counts flags ports ring numbers

  abbrev left : Stores
  left = stores (noting (place_of t) day (minute_of time) flags ports numbers a.state) locations sums counts ring

  -- but for the last scans, what the run left is what the state and the buffers hold
  put_together : (W : List ℕ) → noted t (moment_of scanned) (last_in a.state) ≡ last_in left.state
      → memory_of run_left W (noted t (moment_of scanned) (last_in a.state)) ≡ with_waiting run_left.out.waiting (memory_in left W)
  unfolding noting
  put_together W e = ap (memory_of run_left W) e

  leaves : StoresSound p a → 1 ≤ day → RunLeaves p scanned (held_at_start a) run_left → Leaves p scanned a left
  unfolding noting numbers_of
  leaves h some_day r =
      let last : Timed → Option Moment = noted t (moment_of scanned) (last_in a.state) in
      let aged : List ℕ = words_in a in
      leaves_together p scanned a left r.words run_left.out.waiting (r.ends aged last).0
      (subst (λ (m : Memory). Ends p scanned (start scanned (memory_in a aged)) (r.ends aged last).0 m)
      (put_together (aged ++ r.words) (noted_all t day (minute_of time) flags ports numbers a.state h.tables some_day))
      (subst (λ (m : Memory). Ends p scanned (at (table_of t) 0 [] [] m) (r.ends aged last).0 (memory_of run_left (aged ++ r.words) last))
      (started scanned a aged h.fits.flags)
      (r.ends aged last).1))
      r.tape
      h
      (record {
        fits = record {
          locations = r.fits.locations;
          sums = r.fits.sums;
          counts = r.fits.counts;
          flags = r.fits.flags;
          ports = r.fits.ports;
          ring = r.fits.ring;
        };
        array = r.array;
        counts = r.few;
        tables = (length-set a.state.days (place_of t) day ∙ h.tables.0, length-set a.state.minutes (place_of t) (minute_of time) ∙ h.tables.1);
      })
      refl
      refl

  pub leaves_with : (f : List Bool) (n : List ℕ) → f ≡ lowered a.state.flags → n ≡ numbers_of a.state → (s : State) → s ≡ left.state
      → StoresSound p a → 1 ≤ day → RunLeaves p scanned (held_of a.locations a.sums a.counts f a.state.ports a.ring n) run_left
      → Leaves p scanned a (stores s locations sums counts ring)
  leaves_with f n low same s e h some_day r =
      subst (λ (z : State). Leaves p scanned a (stores z locations sums counts ring)) (sym e)
      (leaves h some_day (subst (λ (z : Held). RunLeaves p scanned z run_left) (begun a f n low same) r))
