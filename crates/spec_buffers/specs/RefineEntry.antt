-- An entry that is in range and in reach does to what is held what it does to the plain machine's memory: by cases on the instruction. Assumes
-- nothing.
use Rattle.std.specs.Prelude.{◌≡◌, false, ◌&&◌, get_or, set, eqb, leb}
use Rattle.std.proofs.Math.Path.{refl, ap, fun_ext}
use Rattle.std.proofs.Common.{sym, ◌∙◌, subst, arith, length-set, leb-true}
use Prim.Native.Nat.{ℕ, zero, suc, ◌+◌, ◌-◌, ◌*◌, ◌≤◌, ◌<◌}
use Rattle.std.proofs.Math.Bool.{Bool, true, cond}
use mathlib.Core.List.{List, [], ◌∷◌, ◌++◌}
use Rattle.std.proofs.Math.Option.{Option}
use Rattle.std.proofs.Math.ListN.{length}
use Rattle.std.proofs.Math.Dec.{ltb}
use Rattle.std.specs.Float.Ieee.{Float, binary32, add, sub, mul, div}
use Rattle.base_float.specs.Finite.{finite, zero_float}
use Rattle.base_program.specs.declared.Command.{Command}
use Rattle.base_program.specs.declared.Command.TheVariants.{Stop, Call, Raise, Lower, Then, ExitIfTrue, ExitIfFalse, PortHigh, PortLow}
use Rattle.base_program.specs.declared.Instruction.{Instruction}
use Rattle.base_program.specs.declared.Instruction.TheVariants.{End, Else, MeasureSingle, MeasureDifferential, SetFixed, Copy, Increment, Add, AddFixed, Subtract, Multiply, MultiplyFixed, Divide, Sample, Average, Total, Maximum, Minimum, StoreTime, Subroutine, Do, Loop, IfLocations, IfFixed, IfFlag, IfTime}
use Rattle.base_program.specs.declared.Program.{Program}
use Rattle.base_program.specs.declared.Table.{Table}
use Rattle.base_program.specs.declared.TimeCode.{TimeCode}
use Rattle.base_program.specs.declared.TimeCode.TheVariants.{HoursMinutes, Day, DayHoursMinutes}
use Rattle.base_program.specs.declared.Timed.{Timed}
use Rattle.base_program.specs.Entries.{slot, first_sum}
use Rattle.base_program.specs.Measure.{scaled}
use Rattle.base_program.specs.Reach.{numbers_from, locations, sums, moved}
use Rattle.spec_check.specs.Ranges.{in_range, command_in_range, is_unconditional}
use Rattle.base_program.specs.Codes.{between}
use Rattle.spec_machine.specs.Memory.{Memory, Moment, set_sum, set_count, set_flag}
use Rattle.spec_machine.specs.Values.{Scan, each, reps, load, store, difference, one_float}
use Rattle.spec_machine.specs.Output.{begin, raise, commanded, write, sample, whole, clock, write_time, Statistic, average, total, maximum, minimum, sampled, take_sample, store_results, clear, samples, statistic}
use Rattle.spec_machine.specs.Machine.{test, effect, array_id}
use Rattle.spec_machine.specs.Calls.{reading_of}
use Rattle.base_laws.specs.Tests.{and_both}
use Rattle.spec_machine.specs.Limits.{spanned, Each, InReach}
use Rattle.spec_buffers.specs.Held.{Held, Fits, memory_of}
use Rattle.spec_buffers.specs.Cells.{load_at, store_at, store_each, single_value, differential_value}
use Rattle.spec_buffers.specs.Output.{write_out, write_each, sample_out, time_out, take_sums, store_out, clear_sums, result_of, begin_out}
use Rattle.spec_buffers.specs.Effects.{on_locations, on_out, on_sums, on_flags, flag_of, count_of, take_held, store_held, statistic_held, raise_held, command_held, test_held, effect_held}
use Rattle.spec_buffers.specs.Refine.{Refines, unchanged, alike, both, under, unless, under_test, store_refines, write_refines, count_refines, flag_refines, port_refines, stores_refine, writes_refine, sums_each, sums_refine}

-- ---- tests

pub test_refines : (p : Program) (x : Scan) (s : ℕ) (i : Instruction) (h : Held) (W : List ℕ) (l : Timed → Option Moment)
    → test p x s i (memory_of h W l) ≡ test_held x s i h
unfolding test test_held
test_refines p x s End h W l = refl
test_refines p x s Else h W l = refl
test_refines p x s (MeasureSingle n range channel location scale) h W l = refl
test_refines p x s (MeasureDifferential n range channel location scale) h W l = refl
test_refines p x s (SetFixed f z) h W l = refl
test_refines p x s (Copy a z) h W l = refl
test_refines p x s (Increment z) h W l = refl
test_refines p x s (Add a b z) h W l = refl
test_refines p x s (AddFixed a f z) h W l = refl
test_refines p x s (Subtract a b z) h W l = refl
test_refines p x s (Multiply a b z) h W l = refl
test_refines p x s (MultiplyFixed a f z) h W l = refl
test_refines p x s (Divide a b z) h W l = refl
test_refines p x s (Sample n a) h W l = refl
test_refines p x s (Average n a) h W l = refl
test_refines p x s (Total n a) h W l = refl
test_refines p x s (Maximum n a) h W l = refl
test_refines p x s (Minimum n a) h W l = refl
test_refines p x s (StoreTime code) h W l = refl
test_refines p x s (Subroutine k) h W l = refl
test_refines p x s (Do c) h W l = refl
test_refines p x s (Loop delay count) h W l = refl
test_refines p x s (IfLocations a r b c) h W l = refl
test_refines p x s (IfFixed a r f c) h W l = refl
test_refines p x s (IfFlag f high c) h W l = refl
test_refines p x s (IfTime into interval c) h W l = refl

-- ---- reps

each_front : (P : ℕ → Type 0) (a b : List ℕ) → Each P (a ++ b) → Each P a
each_front P [] b h = tt
each_front P (k ∷ a) b h = (h.0, each_front P a b h.1)

-- numbers from a on, as a and the reps from 0
each_reps : (P : ℕ → Type 0) (a j n : ℕ) → Each P (numbers_from (a + j) n) → Each (λ k. P (a + k)) (numbers_from j n)
unfolding numbers_from
each_reps P a j zero h = tt
each_reps P a j (suc n) h =
    (h.0, each_reps P a (suc j) n (subst (λ z. Each P (numbers_from z n)) (let g : suc (a + j) ≡ a + suc j = omega arith in g) h.1))

from_zero : (P : ℕ → Type 0) (a n : ℕ) → Each P (numbers_from a n) → Each (λ k. P (a + k)) (reps n)
from_zero P a n h = each_reps P a 0 n (subst (λ z. Each P (numbers_from z n)) (let g : a ≡ a + 0 = omega arith in g) h)

-- ---- 71 to 74

sums_length : (ks : List ℕ) (s : ℕ) (G : ℕ → List Float → Float) (u : List Float) → length (each ks (λ k w. set w (s + k) (G k w)) u) ≡ length u
unfolding each
sums_length [] s G u = refl
sums_length (k ∷ r) s G u = sums_length r s G (set u (s + k) (G k u)) ∙ length-set u (s + k) (G k u)

module _ (q : Statistic) (n s c : ℕ) where
  abbrev pub SumsIn : Held → Type 0
  SumsIn h = Each (λ k. s + k < length h.sums) (reps n) × (c < length h.counts)

  abbrev taken : ℕ → Held → Held
  taken at h = on_sums (take_sums q n s (count_of c h) h.locations at h.sums) (set h.counts c (count_of c h + 1)) h.out h

  take_refines : (at : ℕ) (h : Held) → SumsIn h → Refines (take_sample q n s c at) h (taken at h)
  unfolding take_sums
  take_refines at h i =
      let old : ℕ = count_of c h in
      let G : ℕ → List Float → Float = λ k u. sampled q old (get_or u (s + k) zero_float) (load_at h.locations (at + k)) in
      let g : ℕ → Memory → Float = λ k m. sampled q old (m.cells.sums (s + k)) (load (at + k) m) in
      let f : Memory → Memory = λ m. set_count c (old + 1) (each (reps n) (λ k w. set_sum (s + k) (g k w) w) m) in
      alike f (take_sample q n s c at) h (taken at h) (λ W l. refl)
      (both (each (reps n) (λ k m. set_sum (s + k) (g k m) m)) (set_count c (old + 1)) h (sums_each (reps n) s G h) (taken at h)
      (sums_refine (reps n) s g G h (λ k u W l. refl) i.0)
      (count_refines c (old + 1) (sums_each (reps n) s G h) i.1))

  samples_refine : (at : ℕ) (h : Held) → SumsIn h → Refines (λ m. samples m c (take_sample q n s c at m)) h (take_held q n s c at h)
  unfolding take_held
  samples_refine at h i =
      let few : Bool = ltb (count_of c h) 16777215 in
      let f : Memory → Memory = λ m. cond few (take_sample q n s c at m) m in
      alike (λ m. cond (flag_of h 9) m (f m)) (λ m. samples m c (take_sample q n s c at m)) h (take_held q n s c at h) (λ W l. refl)
      (unless (flag_of h 9) f h (cond few (taken at h) h) (under few (take_sample q n s c at) h (taken at h) (take_refines at h i)))

  results_refine : (h : Held) → Refines (store_results q n s c) h (on_out (store_out q n s (count_of c h) h.sums) h)
  unfolding write_each
  results_refine h =
      let old : ℕ = count_of c h in
      let g : ℕ → Memory → Float = λ k m. result_of q old (m.cells.sums (s + k)) in
      alike (each (reps n) (λ k m. write (g k m) m)) (store_results q n s c) h (on_out (store_out q n s old h.sums) h) (λ W l. refl)
      (writes_refine (reps n) g (λ k. result_of q old (get_or h.sums (s + k) zero_float)) h (λ k o W l. refl))

  abbrev cleared : Held → Held
  cleared h = on_sums (clear_sums n s h.sums) (set h.counts c 0) h.out h

  clear_refines : (h : Held) → SumsIn h → Refines (clear n s c) h (cleared h)
  unfolding clear_sums
  clear_refines h i =
      let G : ℕ → List Float → Float = λ k u. zero_float in
      both (each (reps n) (λ k m. set_sum (s + k) zero_float m)) (set_count c 0) h (sums_each (reps n) s G h) (cleared h)
      (sums_refine (reps n) s (λ k m. zero_float) G h (λ k u W l. refl) i.0)
      (count_refines c 0 (sums_each (reps n) s G h) i.1)

  output_refines : (h : Held) → SumsIn h → Refines (λ m. cond (m.signals.flags 0) (clear n s c (store_results q n s c m)) m) h (store_held q n s c h)
  unfolding store_held
  output_refines h i =
      let next : Held = on_out (store_out q n s (count_of c h) h.sums) h in
      under_test (λ m. m.signals.flags 0) (flag_of h 0) (λ m. clear n s c (store_results q n s c m)) h (cleared next) (λ W l. refl)
      (both (store_results q n s c) (clear n s c) h next (cleared next) (results_refine h) (clear_refines next i))

  -- a sample leaves the lengths
  taken_in : (at : ℕ) (h : Held) → SumsIn h → SumsIn (take_held q n s c at h)
  unfolding take_held take_sums
  taken_in at h i = by (flag_of h 9) (ltb (count_of c h) 16777215)
    where
      old : ℕ
      old = count_of c h

      G : ℕ → List Float → Float
      G k w = sampled q old (get_or w (s + k) zero_float) (load_at h.locations (at + k))

      new : Held
      new = on_sums (take_sums q n s old h.locations at h.sums) (set h.counts c (old + 1)) h.out h

      by : (a b : Bool) → SumsIn (cond a h (cond b new h))
      by true b = i
      by false true = (
        subst (λ z. Each (λ k. s + k < z) (reps n)) (sym (sums_length (reps n) s G h.sums)) i.0,
        subst (λ z. c < z) (sym (length-set h.counts c (old + 1))) i.1,
      )
      by false false = i

  pub statistic_refines : (at : ℕ) (h : Held) → SumsIn h → Refines (statistic q n s c at) h (statistic_held q n s c at h)
  unfolding statistic
  statistic_refines at h i =
      both (λ m. samples m c (take_sample q n s c at m)) (λ m. cond (m.signals.flags 0) (clear n s c (store_results q n s c m)) m)
      h (take_held q n s c at h) (statistic_held q n s c at h)
      (samples_refine at h i) (output_refines (take_held q n s c at h) (taken_in at h i))

-- ---- commands and the clock

raise_refines : (id f : ℕ) (h : Held) → f < length h.flags → Refines (raise id f) h (raise_held id f h)
unfolding raise raise_held
raise_refines id f h low = by (eqb f 0)
  where
    by : (b : Bool) → Refines (λ m. cond b (begin id (set_flag f true m)) (set_flag f true m)) h
        (on_flags (set h.flags f true) h.ports (cond b (begin_out id h.out) h.out) h)
    by true = let z = flag_refines f true (begin_out id h.out) h low refl in record { words = z.words; memory = z.memory; tape = z.tape }
    by false = let z = flag_refines f true h.out h low refl in record { words = z.words; memory = z.memory; tape = z.tape }

command_refines : (id : ℕ) (c : Command) (h : Held) → command_in_range c ≡ true → length h.flags ≡ 10 → length h.ports ≡ 8
    → Refines (commanded id c) h (command_held id c h)
unfolding commanded command_held command_in_range
command_refines id Stop h r f q = unchanged h
command_refines id (Call k) h r f q = unchanged h
command_refines id (Raise g) h r f q = raise_refines id g h (omega (arith, leb-true g 9 r))
command_refines id (Lower g) h r f q =
    let z = flag_refines g false h.out h (omega (arith, leb-true g 9 r)) refl in
    record { words = z.words; memory = z.memory; tape = z.tape }
command_refines id Then h r f q = unchanged h
command_refines id ExitIfTrue h r f q = unchanged h
command_refines id ExitIfFalse h r f q = unchanged h
command_refines id (PortHigh g) h r f q =
    let b = and_both (leb 1 g) (leb g 8) r in
    port_refines g true h (leb-true 1 g b.0) (omega (arith, leb-true g 8 b.1))
command_refines id (PortLow g) h r f q =
    let b = and_both (leb 1 g) (leb g 8) r in
    port_refines g false h (leb-true 1 g b.0) (omega (arith, leb-true g 8 b.1))

time_refines : (x : Scan) (code : TimeCode) (h : Held) → Refines (write_time x code) h (on_out (time_out code x.day (clock x)) h)
unfolding write_time time_out
time_refines x HoursMinutes h = write_refines (whole (clock x)) h
time_refines x Day h = write_refines (whole x.day) h
time_refines x DayHoursMinutes h =
    let next : Held = on_out (write_out (whole x.day)) h in
    both (write (whole x.day)) (write (whole (clock x))) h next (on_out (write_out (whole (clock x))) next)
    (write_refines (whole x.day) h) (write_refines (whole (clock x)) next)

-- ---- an entry

-- what an entry asks of what is held
pub record EntryReady (p : Program) (t : Table) (e s : ℕ) (i : Instruction) (h : Held) : Type 0 where
  pub fits : Fits p h
  pub reach : InReach p t e s i
  pub range : in_range i ≡ true
  pub slot_in : slot t e < 297

module _ (p : Program) (x : Scan) (r : List Float) (readings_are : x.readings ≡ reading_of r) (t : Table) (e s : ℕ) where
  -- the location of one rep, at its place among those reached
  one_store : (n : ℕ) (v : Memory → Float) (y : Float) (h : Held) → ((W : List ℕ) (l : Timed → Option Moment) → v (memory_of h W l) ≡ y)
      → (1 ≤ n) × (n ≤ p.locations) → length h.locations ≡ p.locations → Refines (λ m. store n (v m) m) h (on_locations (store_at n y) h)
  one_store n v y h same a long =
      let z = store_refines n y h a.0 (omega (arith, a.1)) in
      record { words = z.words; memory = λ W l. ap (λ u. store n u (memory_of h W l)) (same W l) ∙ z.memory W l; tape = z.tape }

  reps_store : (n at : ℕ) (v w : ℕ → Float) (h : Held) → ((k : ℕ) → v k ≡ w k) → Each (λ k. (1 ≤ k) × (k ≤ p.locations)) (numbers_from at n ++ [])
      → length h.locations ≡ p.locations → Refines (each (reps n) (λ k. store (at + k) (v k))) h (on_locations (store_each n at w) h)
  unfolding store_each
  reps_store n at v w h same a long =
      let inside =
      from_zero (λ k. (1 ≤ k) × (k ≤ length h.locations)) at n
      (subst (λ z. Each (λ k. (1 ≤ k) × (k ≤ z)) (numbers_from at n)) (sym long) (each_front _ (numbers_from at n) [] a)) in
      let z = stores_refine (reps n) at w h inside in
      record {
        words = z.words;
        memory = λ W l. ap (λ (f : ℕ → Float). each (reps n) (λ k. store (at + k) (f k)) (memory_of h W l)) (fun_ext same) ∙ z.memory W l;
        tape = z.tape;
      }

  stat : (q : Statistic) (n at : ℕ) (h : Held) (i : Instruction) → EntryReady p t e s i h → sums i ≡ n
      → Refines (statistic q n (first_sum p t e) (slot t e) at) h (statistic_held q n (first_sum p t e) (slot t e) at h)
  stat q n at h i d same =
      statistic_refines q n (first_sum p t e) (slot t e) at h (
        from_zero (λ k. k < length h.sums) (first_sum p t e) n
            (subst (λ z. Each (λ k. k < z) (numbers_from (first_sum p t e) n)) (sym d.fits.sums)
            (subst (λ z. Each (λ k. k < p.sums) (numbers_from (first_sum p t e) z)) same d.reach.sums)),
        omega (arith, d.slot_in, d.fits.counts),
      )

  carried_if : (i : Instruction) (c : Command) (h : Held) → EntryReady p t e s i h → command_in_range c ≡ true → (P : Memory → Bool) (b : Bool)
      → ((W : List ℕ) (l : Timed → Option Moment) → P (memory_of h W l) ≡ b)
      → Refines (λ m. cond (P m) (commanded (array_id t e) c m) m) h (cond b (command_held (array_id t e) c h) h)
  carried_if i c h d range P b same =
      under_test P b (commanded (array_id t e) c) h (command_held (array_id t e) c h) same (command_refines (array_id t e) c h range d.fits.flags d.fits.ports)

  abbrev Entry : Instruction → Held → Type 0
  Entry i h = EntryReady p t e s i h → Refines (effect p x t e s i) h (effect_held p x r t e s i h)

  pub effect_refines : (i : Instruction) (h : Held) → Entry i h
  unfolding effect effect_held in_range spanned locations numbers_from sums sample write_each test test_held
  effect_refines End h d = unchanged h
  effect_refines Else h d = unchanged h
  effect_refines (MeasureSingle n range channel location scale) h d =
      reps_store n (moved s location) (λ k. scaled (x.readings (channel.0 + k)) scale) (single_value r channel.0 scale) h
      (λ k. ap (λ (f : ℕ → Float). scaled (f (channel.0 + k)) scale) readings_are)
      d.reach.locations
      d.fits.locations
  effect_refines (MeasureDifferential n range channel location scale) h d =
      reps_store n (moved s location) (λ k. scaled (difference x (channel.0 + k)) scale) (differential_value r channel.0 scale) h
      (λ k.
      ap (λ (f : ℕ → Float). scaled (sub binary32 (f (2 * (channel.0 + k) - 1)) (f (2 * (channel.0 + k)))) scale) readings_are)
      d.reach.locations
      d.fits.locations
  effect_refines (SetFixed f z) h d = one_store (moved s z) (λ m. f) f h (λ W l. refl) d.reach.locations.0 d.fits.locations
  effect_refines (Copy a z) h d =
      one_store (moved s z) (λ m. load (moved s a) m) (load_at h.locations (moved s a)) h (λ W l. refl) d.reach.locations.1.0 d.fits.locations
  effect_refines (Increment z) h d =
      one_store (moved s z) (λ m. add binary32 (load (moved s z) m) one_float) (add binary32 (load_at h.locations (moved s z)) one_float) h (λ W l. refl)
      d.reach.locations.0 d.fits.locations
  effect_refines (Add a b z) h d =
      one_store (moved s z) (λ m. add binary32 (load (moved s a) m) (load (moved s b) m))
      (add binary32 (load_at h.locations (moved s a)) (load_at h.locations (moved s b))) h (λ W l. refl) d.reach.locations.1.1.0 d.fits.locations
  effect_refines (AddFixed a f z) h d =
      one_store (moved s z) (λ m. add binary32 (load (moved s a) m) f) (add binary32 (load_at h.locations (moved s a)) f) h (λ W l. refl)
      d.reach.locations.1.0 d.fits.locations
  effect_refines (Subtract a b z) h d =
      one_store (moved s z) (λ m. sub binary32 (load (moved s a) m) (load (moved s b) m))
      (sub binary32 (load_at h.locations (moved s a)) (load_at h.locations (moved s b))) h (λ W l. refl) d.reach.locations.1.1.0 d.fits.locations
  effect_refines (Multiply a b z) h d =
      one_store (moved s z) (λ m. mul binary32 (load (moved s a) m) (load (moved s b) m))
      (mul binary32 (load_at h.locations (moved s a)) (load_at h.locations (moved s b))) h (λ W l. refl) d.reach.locations.1.1.0 d.fits.locations
  effect_refines (MultiplyFixed a f z) h d =
      one_store (moved s z) (λ m. mul binary32 (load (moved s a) m) f) (mul binary32 (load_at h.locations (moved s a)) f) h (λ W l. refl)
      d.reach.locations.1.0 d.fits.locations
  effect_refines (Divide a b z) h d =
      one_store (moved s z) (λ m. div binary32 (load (moved s a) m) (load (moved s b) m))
      (div binary32 (load_at h.locations (moved s a)) (load_at h.locations (moved s b))) h (λ W l. refl) d.reach.locations.1.1.0 d.fits.locations
  effect_refines (Sample n a) h d =
      under_test (λ m. m.signals.flags 0) (flag_of h 0) (each (reps n) (λ k m. write (load (moved s a + k) m) m)) h
      (on_out (sample_out h.locations n (moved s a)) h) (λ W l. refl)
      (writes_refine (reps n) (λ k m. load (moved s a + k) m) (λ k. load_at h.locations (moved s a + k)) h (λ k o W l. refl))
  effect_refines (Average n a) h d = stat average n (moved s a) h (Average n a) d refl
  effect_refines (Total n a) h d = stat total n (moved s a) h (Total n a) d refl
  effect_refines (Maximum n a) h d = stat maximum n (moved s a) h (Maximum n a) d refl
  effect_refines (Minimum n a) h d = stat minimum n (moved s a) h (Minimum n a) d refl
  effect_refines (StoreTime code) h d =
      under_test (λ m. m.signals.flags 0) (flag_of h 0) (write_time x code) h (on_out (time_out code x.day (clock x)) h) (λ W l. refl) (time_refines x code h)
  effect_refines (Subroutine k) h d = unchanged h
  effect_refines (Do c) h d =
      carried_if (Do c) c h d (and_both (command_in_range c) (is_unconditional c) d.range).0 (λ m. true) true (λ W l. refl)
  effect_refines (Loop delay count) h d = unchanged h
  effect_refines (IfLocations a k b c) h d =
      carried_if (IfLocations a k b c) c h d d.range (λ m. test p x s (IfLocations a k b c) m) (test_held x s (IfLocations a k b c) h) (λ W l. refl)
  effect_refines (IfFixed a k f c) h d =
      carried_if (IfFixed a k f c) c h d (and_both (finite f) (command_in_range c) d.range).1 (λ m. test p x s (IfFixed a k f c) m)
      (test_held x s (IfFixed a k f c) h) (λ W l. refl)
  effect_refines (IfFlag f high c) h d =
      carried_if (IfFlag f high c) c h d (and_both (leb f 9) (command_in_range c) d.range).1 (λ m. test p x s (IfFlag f high c) m)
      (test_held x s (IfFlag f high c) h) (λ W l. refl)
  effect_refines (IfTime into interval c) h d =
      carried_if (IfTime into interval c) c h d
      (and_both (between 1 1440 interval) (command_in_range c) (and_both (leb into 1439) (between 1 1440 interval && command_in_range c) d.range).1).1
      (λ m. test p x s (IfTime into interval c) m) (test_held x s (IfTime into interval c) h) (λ W l. refl)
