-- What a step reaches is all that it reads and writes, proved: an instruction at a time, from the changes that it is made of. Assumes nothing.
use Rattle.std.specs.Prelude.{◌≡◌, refl, ℕ, ◌+◌, ◌-◌, ◌*◌, ◌≤◌, ◌<◌, ◌/◌, ◌%◌, Bool, true, cond, ◌&&◌, [], ◌++◌, eqb, ltb, Float}
use Rattle.std.proofs.Common.{ap, ap₂, arith}
use Rattle.std.specs.Bool.{beq}
use Rattle.std.specs.Float.{binary32}
use Rattle.std.specs.Float.Ieee.{add, sub, mul, div}
use Rattle.base_float.specs.Finite.{stored, zero_float}
use Rattle.base_program.specs.declared.Command.{Command}
use Rattle.base_program.specs.declared.Instruction.{Instruction}
use Rattle.base_program.specs.declared.Instruction.TheVariants.{End, Else, MeasureSingle, MeasureDifferential, SetFixed, Copy, Increment, Add, AddFixed, Subtract, Multiply, MultiplyFixed, Divide, Sample, Average, Total, Maximum, Minimum, StoreTime, Subroutine, Do, Loop, IfLocations, IfFixed, IfFlag, IfTime}
use Rattle.base_program.specs.declared.Location.{Location}
use Rattle.base_program.specs.declared.Program.{Program}
use Rattle.base_program.specs.declared.Table.{Table}
use Rattle.base_program.specs.declared.TimeCode.{TimeCode}
use Rattle.base_program.specs.declared.TimeCode.TheVariants.{HoursMinutes, Day, DayHoursMinutes}
use Rattle.base_program.specs.Entries.{slot, first_sum}
use Rattle.base_program.specs.Measure.{scaled}
use Rattle.base_program.specs.Reach.{numbers_from, locations, readings, sums, moved}
use Rattle.spec_machine.specs.Memory.{Memory}
use Rattle.spec_machine.specs.Values.{Scan, load, store, difference, one_float, minute_of, another, holds, time_is, each, reps}
use Rattle.spec_machine.specs.Output.{commanded, write, sample, whole, clock, write_time, Statistic, average, total, maximum, minimum, sampled, nothing, result, take_sample, store_results, clear, samples, statistic}
use Rattle.spec_machine.specs.Machine.{array_id, test, effect}
use Rattle.spec_machine.specs.Limits.{spanned, reached_locations, reached_sums, Each}
use Rattle.spec_machine.specs.Frame.{FrameKept, NothingElseChanges, Alike, AlikeScan, NothingElseMatters}
use Rattle.spec_machine.proofs.FrameSteps.{In, rep_in, number_in, in_front, keep_all, keep_location, keep_sum, keep_count, keep_write, keep_either, keep_each, keep_command, load_alike, sum_alike, location_alike, set_sum_alike, set_count_alike, write_alike, either_alike, each_alike, command_alike}

-- ---- nothing else changes

module _ {p : Program} {t : Table} {e s : ℕ} {i : Instruction} {m : Memory} where
  -- 1 and 2: rep k of n stores at the location k further on
  keep_stores : (n l : ℕ) (v : ℕ → Float) → ((k : ℕ) → k < n → In (l + k) (reached_locations s i))
      → FrameKept p t e s i m (each (reps n) (λ k. store (l + k) (v k)) m)
  keep_stores n l v at =
      keep_each n (λ k. store (l + k) (v k)) (λ k q w. keep_location w (l + k) (stored (v k)) (at k q)) m keep_all

  keep_sample : (n l : ℕ) → FrameKept p t e s i m (sample n l m)
  unfolding sample
  keep_sample n l =
      keep_either (m.signals.flags 0)
      (keep_each n (λ k w. write (load (l + k) w) w) (λ k q w. keep_write (load (l + k) w) w) m keep_all)
      keep_all

  keep_time : (x : Scan) (code : TimeCode) → FrameKept p t e s i m (write_time x code m)
  unfolding write_time
  keep_time x HoursMinutes = keep_write (whole (clock x)) m keep_all
  keep_time x Day = keep_write (whole x.day) m keep_all
  keep_time x DayHoursMinutes =
      keep_write (whole (clock x)) (write (whole x.day) m) (keep_write (whole x.day) m keep_all)

  keep_if : (b : Bool) (c : Command) → FrameKept p t e s i m (cond b (commanded (array_id t e) c m) m)
  keep_if b c = keep_either b (keep_command (array_id t e) c m keep_all) keep_all

  -- 71 to 74, with the entry's sums from f on
  module _ (q : Statistic) (n f l : ℕ) (at : (k : ℕ) → k < n → In (f + k) (reached_sums p t e i)) where
    keep_take : FrameKept p t e s i m (take_sample q n f (slot t e) l m)
    keep_take = keep_count _ _ (keep_each n _ (λ k r w. keep_sum w (f + k) _ (at k r)) m keep_all)

    keep_results : (w : Memory) → FrameKept p t e s i m w → FrameKept p t e s i m (store_results q n f (slot t e) w)
    keep_results w = keep_each n _ (λ k r v. keep_write _ v) w

    keep_clear : (w : Memory) → FrameKept p t e s i m w → FrameKept p t e s i m (clear n f (slot t e) w)
    keep_clear w h = keep_count _ 0 (keep_each n _ (λ k r v. keep_sum v (f + k) zero_float (at k r)) w h)

    keep_statistic : FrameKept p t e s i m (statistic q n f (slot t e) l m)
    unfolding statistic
    keep_statistic = keep_either (taken.signals.flags 0) (keep_clear _ (keep_results taken kept)) kept
      where
        taken : Memory
        taken = samples m (slot t e) (take_sample q n f (slot t e) l m)

        kept : FrameKept p t e s i m taken
        kept =
            keep_either (m.signals.flags 9) keep_all
            (keep_either (ltb (m.cells.counts (slot t e)) 16777215) keep_take keep_all)

-- rep k of an entry that takes n locations from l on
rep_at : (s n : ℕ) (l : Location) (k : ℕ) → k < n → In (moved s l + k) (numbers_from (moved s l) n ++ [])
rep_at s n l k q = in_front (numbers_from (moved s l) n) [] (rep_in (moved s l) n k q)

pub nothing_else_changes : NothingElseChanges
unfolding effect locations spanned numbers_from sums
nothing_else_changes p x t e s End m = keep_all
nothing_else_changes p x t e s Else m = keep_all
nothing_else_changes p x t e s (MeasureSingle n range channel location scale) m =
    keep_stores n (moved s location) (λ k. scaled (x.readings (channel.0 + k)) scale) (rep_at s n location)
nothing_else_changes p x t e s (MeasureDifferential n range channel location scale) m =
    keep_stores n (moved s location) (λ k. scaled (difference x (channel.0 + k)) scale) (rep_at s n location)
nothing_else_changes p x t e s (SetFixed f z) m = keep_location m (moved s z) _ (λ P h. h.0) keep_all
nothing_else_changes p x t e s (Copy a z) m = keep_location m (moved s z) _ (λ P h. h.1.0) keep_all
nothing_else_changes p x t e s (Increment z) m = keep_location m (moved s z) _ (λ P h. h.0) keep_all
nothing_else_changes p x t e s (Add a b z) m = keep_location m (moved s z) _ (λ P h. h.1.1.0) keep_all
nothing_else_changes p x t e s (AddFixed a f z) m = keep_location m (moved s z) _ (λ P h. h.1.0) keep_all
nothing_else_changes p x t e s (Subtract a b z) m = keep_location m (moved s z) _ (λ P h. h.1.1.0) keep_all
nothing_else_changes p x t e s (Multiply a b z) m = keep_location m (moved s z) _ (λ P h. h.1.1.0) keep_all
nothing_else_changes p x t e s (MultiplyFixed a f z) m = keep_location m (moved s z) _ (λ P h. h.1.0) keep_all
nothing_else_changes p x t e s (Divide a b z) m = keep_location m (moved s z) _ (λ P h. h.1.1.0) keep_all
nothing_else_changes p x t e s (Sample n l) m = keep_sample n (moved s l)
nothing_else_changes p x t e s (Average n l) m = keep_statistic average n (first_sum p t e) (moved s l) (rep_in (first_sum p t e) n)
nothing_else_changes p x t e s (Total n l) m = keep_statistic total n (first_sum p t e) (moved s l) (rep_in (first_sum p t e) n)
nothing_else_changes p x t e s (Maximum n l) m = keep_statistic maximum n (first_sum p t e) (moved s l) (rep_in (first_sum p t e) n)
nothing_else_changes p x t e s (Minimum n l) m = keep_statistic minimum n (first_sum p t e) (moved s l) (rep_in (first_sum p t e) n)
nothing_else_changes p x t e s (StoreTime code) m = keep_either (m.signals.flags 0) (keep_time x code) keep_all
nothing_else_changes p x t e s (Subroutine k) m = keep_all
nothing_else_changes p x t e s (Do c) m = keep_if true c
nothing_else_changes p x t e s (Loop delay count) m = keep_all
nothing_else_changes p x t e s (IfLocations a r b c) m = keep_if (test p x s (IfLocations a r b c) m) c
nothing_else_changes p x t e s (IfFixed a r f c) m = keep_if (test p x s (IfFixed a r f c) m) c
nothing_else_changes p x t e s (IfFlag f high c) m = keep_if (test p x s (IfFlag f high c) m) c
nothing_else_changes p x t e s (IfTime into interval c) m = keep_if (test p x s (IfTime into interval c) m) c

-- ---- nothing else matters

time_alike : {i : Instruction} (x y : Scan) (into interval : ℕ) → AlikeScan i x y → time_is x into interval ≡ time_is y into interval
unfolding time_is
time_alike x y into interval q =
    λ j. eqb (minute_of (q.time j) % interval) into && another (q.previous j) (q.day j) (minute_of (q.time j))

clock_alike : (x y : Scan) → x.time ≡ y.time → clock x ≡ clock y
clock_alike x y q = ap (λ time. minute_of time / 60 * 100 + minute_of time % 60) q

-- the single-ended reading k further on
reading_alike : (x y : Scan) (c n k : ℕ) → k < n → Each (λ r. x.readings r ≡ y.readings r) (numbers_from c n)
    → x.readings (c + k) ≡ y.readings (c + k)
reading_alike x y c n k q h = rep_in c n k q (λ r. x.readings r ≡ y.readings r) h

-- both inputs of the differential channel k further on
difference_alike : (x y : Scan) (c n k : ℕ) → k < n → Each (λ r. x.readings r ≡ y.readings r) (numbers_from (2 * c - 1) (2 * n))
    → difference x (c + k) ≡ difference y (c + k)
difference_alike x y c n k q h =
    ap₂ (sub binary32) (input (2 * (c + k) - 1) (omega arith) (omega arith)) (input (2 * (c + k)) (omega arith) (omega arith))
  where
    input : (r : ℕ) → 2 * c - 1 ≤ r → r < 2 * c - 1 + 2 * n → x.readings r ≡ y.readings r
    input r low high = number_in (2 * c - 1) (2 * n) r low high (λ a. x.readings a ≡ y.readings a) h

module _ {p : Program} {t : Table} {e s : ℕ} {i : Instruction} where
  -- 1 and 2
  stores_alike : (n l : ℕ) (v v' : ℕ → Float) → ((k : ℕ) → k < n → v k ≡ v' k) → (m m' : Memory) → Alike p t e s i m m'
      → Alike p t e s i (each (reps n) (λ k. store (l + k) (v k)) m) (each (reps n) (λ k. store (l + k) (v' k)) m')
  stores_alike n l v v' h = each_alike n _ _ (λ k q m m'. location_alike (l + k) _ _ m m' (ap stored (h k q)))

  -- 30 to 38, whose value goes by one location or by two
  one_alike : (g : Float → Float) (a z : Location) (m m' : Memory) → In (moved s a) (reached_locations s i) → Alike p t e s i m m'
      → Alike p t e s i (store (moved s z) (g (load (moved s a) m)) m) (store (moved s z) (g (load (moved s a) m')) m')
  one_alike g a z m m' at h =
      location_alike (moved s z) _ _ m m' (ap (λ v. stored (g v)) (load_alike (moved s a) m m' at h)) h

  two_alike : (g : Float → Float → Float) (a b z : Location) (m m' : Memory) → In (moved s a) (reached_locations s i)
      → In (moved s b) (reached_locations s i) → Alike p t e s i m m'
      → Alike p t e s i
      (store (moved s z) (g (load (moved s a) m) (load (moved s b) m)) m)
      (store (moved s z) (g (load (moved s a) m') (load (moved s b) m')) m')
  two_alike g a b z m m' at_a at_b h =
      location_alike (moved s z) _ _ m m'
      (ap₂ (λ u v. stored (g u v)) (load_alike (moved s a) m m' at_a h) (load_alike (moved s b) m m' at_b h))
      h

  sample_alike : (n l : ℕ) → ((k : ℕ) → k < n → In (l + k) (reached_locations s i)) → (m m' : Memory) → Alike p t e s i m m'
      → Alike p t e s i (sample n l m) (sample n l m')
  unfolding sample
  sample_alike n l at m m' a =
      either_alike _ _ (ap (λ g. g.flags 0) a.signals)
      (each_alike n _ _ (λ k q w w' b. write_alike _ _ w w' (load_alike (l + k) w w' (at k q) b) b) m m' a)
      a

  write_time_alike : (x y : Scan) (code : TimeCode) (m m' : Memory) → AlikeScan i x y → Alike p t e s i m m'
      → Alike p t e s i (write_time x code m) (write_time y code m')
  unfolding write_time
  write_time_alike x y HoursMinutes m m' q a = write_alike _ _ m m' (ap whole (clock_alike x y q.time)) a
  write_time_alike x y Day m m' q a = write_alike _ _ m m' (ap whole q.day) a
  write_time_alike x y DayHoursMinutes m m' q a =
      write_alike _ _ _ _ (ap whole (clock_alike x y q.time)) (write_alike _ _ m m' (ap whole q.day) a)

  if_alike : (b b' : Bool) (c : Command) (m m' : Memory) → b ≡ b' → Alike p t e s i m m'
      → Alike p t e s i (cond b (commanded (array_id t e) c m) m) (cond b' (commanded (array_id t e) c m') m')
  if_alike b b' c m m' q a = either_alike b b' q (command_alike (array_id t e) c m m' a) a

  -- 71 to 74, with the entry's sums from f on
  module _ (q : Statistic) (n f l : ℕ) (sum_at : (k : ℕ) → k < n → In (f + k) (reached_sums p t e i)) where
    take_alike : ((k : ℕ) → k < n → In (l + k) (reached_locations s i)) → (m m' : Memory) → Alike p t e s i m m'
        → Alike p t e s i (take_sample q n f (slot t e) l m) (take_sample q n f (slot t e) l m')
    take_alike at m m' a =
        set_count_alike (slot t e) _ _ _ _ (ap (λ c. c + 1) a.counts)
        (each_alike n _ _ (λ k r w w' b. set_sum_alike (f + k) _ _ w w' (value k r w w' b) b) m m' a)
      where
        value : (k : ℕ) → k < n → (w w' : Memory) → Alike p t e s i w w'
            → sampled q (m.cells.counts (slot t e)) (w.cells.sums (f + k)) (load (l + k) w)
            ≡ sampled q (m'.cells.counts (slot t e)) (w'.cells.sums (f + k)) (load (l + k) w')
        value k r w w' b =
            λ j. sampled q (a.counts j) (sum_alike (f + k) w w' (sum_at k r) b j) (load_alike (l + k) w w' (at k r) b j)

    results_alike : (m m' : Memory) → Alike p t e s i m m'
        → Alike p t e s i (store_results q n f (slot t e) m) (store_results q n f (slot t e) m')
    results_alike m m' a = each_alike n _ _ (λ k r w w' b. write_alike _ _ w w' (value k r w w' b) b) m m' a
      where
        value : (k : ℕ) → k < n → (w w' : Memory) → Alike p t e s i w w'
            → cond (eqb (m.cells.counts (slot t e)) 0) (nothing q) (result q (m.cells.counts (slot t e)) (w.cells.sums (f + k)))
            ≡ cond (eqb (m'.cells.counts (slot t e)) 0) (nothing q) (result q (m'.cells.counts (slot t e)) (w'.cells.sums (f + k)))
        value k r w w' b =
            λ j. cond (eqb (a.counts j) 0) (nothing q) (result q (a.counts j) (sum_alike (f + k) w w' (sum_at k r) b j))

    clear_alike : (m m' : Memory) → Alike p t e s i m m' → Alike p t e s i (clear n f (slot t e) m) (clear n f (slot t e) m')
    clear_alike m m' a =
        set_count_alike (slot t e) 0 0 _ _ refl
        (each_alike n _ _ (λ k r w w'. set_sum_alike (f + k) zero_float zero_float w w' refl) m m' a)

    statistic_alike : ((k : ℕ) → k < n → In (l + k) (reached_locations s i)) → (m m' : Memory) → Alike p t e s i m m'
        → Alike p t e s i (statistic q n f (slot t e) l m) (statistic q n f (slot t e) l m')
    unfolding statistic
    statistic_alike at m m' a =
        either_alike _ _ (ap (λ g. g.flags 0) taken_alike.signals) (clear_alike _ _ (results_alike _ _ taken_alike)) taken_alike
      where
        taken : Memory → Memory
        taken w = samples w (slot t e) (take_sample q n f (slot t e) l w)

        taken_alike : Alike p t e s i (taken m) (taken m')
        taken_alike =
            either_alike _ _ (ap (λ g. g.flags 9) a.signals) a
            (either_alike _ _ (ap (λ c. ltb c 16777215) a.counts) (take_alike at m m' a) a)

test_alike : (p : Program) (x y : Scan) (t : Table) (e s : ℕ) (i : Instruction) (m m' : Memory) → AlikeScan i x y → Alike p t e s i m m'
    → test p x s i m ≡ test p y s i m'
unfolding test locations spanned numbers_from
test_alike p x y t e s End m m' q h = refl
test_alike p x y t e s Else m m' q h = refl
test_alike p x y t e s (MeasureSingle n range channel location scale) m m' q h = refl
test_alike p x y t e s (MeasureDifferential n range channel location scale) m m' q h = refl
test_alike p x y t e s (SetFixed f z) m m' q h = refl
test_alike p x y t e s (Copy a z) m m' q h = refl
test_alike p x y t e s (Increment z) m m' q h = refl
test_alike p x y t e s (Add a b z) m m' q h = refl
test_alike p x y t e s (AddFixed a f z) m m' q h = refl
test_alike p x y t e s (Subtract a b z) m m' q h = refl
test_alike p x y t e s (Multiply a b z) m m' q h = refl
test_alike p x y t e s (MultiplyFixed a f z) m m' q h = refl
test_alike p x y t e s (Divide a b z) m m' q h = refl
test_alike p x y t e s (Sample n l) m m' q h = refl
test_alike p x y t e s (Average n l) m m' q h = refl
test_alike p x y t e s (Total n l) m m' q h = refl
test_alike p x y t e s (Maximum n l) m m' q h = refl
test_alike p x y t e s (Minimum n l) m m' q h = refl
test_alike p x y t e s (StoreTime code) m m' q h = refl
test_alike p x y t e s (Subroutine k) m m' q h = refl
test_alike p x y t e s (Do c) m m' q h = refl
test_alike p x y t e s (Loop delay count) m m' q h = refl
test_alike p x y t e s (IfLocations a r b c) m m' q h =
    ap₂ (holds r) (load_alike (moved s a) m m' (λ P u. u.0) h) (load_alike (moved s b) m m' (λ P u. u.1.0) h)
test_alike p x y t e s (IfFixed a r f c) m m' q h = ap (λ v. holds r v f) (load_alike (moved s a) m m' (λ P u. u.0) h)
test_alike p x y t e s (IfFlag f high c) m m' q h = ap (λ g. beq (g.flags f) high) h.signals
test_alike p x y t e s (IfTime into interval c) m m' q h = time_alike x y into interval q

effect_alike : (p : Program) (x y : Scan) (t : Table) (e s : ℕ) (i : Instruction) (m m' : Memory) → AlikeScan i x y → Alike p t e s i m m'
    → Alike p t e s i (effect p x t e s i m) (effect p y t e s i m')
unfolding effect locations spanned numbers_from sums readings
effect_alike p x y t e s End m m' q h = h
effect_alike p x y t e s Else m m' q h = h
effect_alike p x y t e s (MeasureSingle n range channel location scale) m m' q h =
    stores_alike n (moved s location) _ _ (λ k r. ap (λ v. scaled v scale) (reading_alike x y channel.0 n k r q.readings)) m m' h
effect_alike p x y t e s (MeasureDifferential n range channel location scale) m m' q h =
    stores_alike n (moved s location) _ _ (λ k r. ap (λ v. scaled v scale) (difference_alike x y channel.0 n k r q.readings)) m m' h
effect_alike p x y t e s (SetFixed f z) m m' q h = location_alike (moved s z) _ _ m m' refl h
effect_alike p x y t e s (Copy a z) m m' q h = one_alike (λ v. v) a z m m' (λ P u. u.0) h
effect_alike p x y t e s (Increment z) m m' q h = one_alike (λ v. add binary32 v one_float) z z m m' (λ P u. u.0) h
effect_alike p x y t e s (Add a b z) m m' q h = two_alike (add binary32) a b z m m' (λ P u. u.0) (λ P u. u.1.0) h
effect_alike p x y t e s (AddFixed a f z) m m' q h = one_alike (λ v. add binary32 v f) a z m m' (λ P u. u.0) h
effect_alike p x y t e s (Subtract a b z) m m' q h = two_alike (sub binary32) a b z m m' (λ P u. u.0) (λ P u. u.1.0) h
effect_alike p x y t e s (Multiply a b z) m m' q h = two_alike (mul binary32) a b z m m' (λ P u. u.0) (λ P u. u.1.0) h
effect_alike p x y t e s (MultiplyFixed a f z) m m' q h = one_alike (λ v. mul binary32 v f) a z m m' (λ P u. u.0) h
effect_alike p x y t e s (Divide a b z) m m' q h = two_alike (div binary32) a b z m m' (λ P u. u.0) (λ P u. u.1.0) h
effect_alike p x y t e s (Sample n l) m m' q h = sample_alike n (moved s l) (rep_at s n l) m m' h
effect_alike p x y t e s (Average n l) m m' q h =
    statistic_alike average n (first_sum p t e) (moved s l) (rep_in (first_sum p t e) n) (rep_at s n l) m m' h
effect_alike p x y t e s (Total n l) m m' q h =
    statistic_alike total n (first_sum p t e) (moved s l) (rep_in (first_sum p t e) n) (rep_at s n l) m m' h
effect_alike p x y t e s (Maximum n l) m m' q h =
    statistic_alike maximum n (first_sum p t e) (moved s l) (rep_in (first_sum p t e) n) (rep_at s n l) m m' h
effect_alike p x y t e s (Minimum n l) m m' q h =
    statistic_alike minimum n (first_sum p t e) (moved s l) (rep_in (first_sum p t e) n) (rep_at s n l) m m' h
effect_alike p x y t e s (StoreTime code) m m' q h =
    either_alike _ _ (ap (λ g. g.flags 0) h.signals) (write_time_alike x y code m m' q h) h
effect_alike p x y t e s (Subroutine k) m m' q h = h
effect_alike p x y t e s (Do c) m m' q h = command_alike (array_id t e) c m m' h
effect_alike p x y t e s (Loop delay count) m m' q h = h
effect_alike p x y t e s (IfLocations a r b c) m m' q h = if_alike _ _ c m m' (test_alike p x y t e s (IfLocations a r b c) m m' q h) h
effect_alike p x y t e s (IfFixed a r f c) m m' q h = if_alike _ _ c m m' (test_alike p x y t e s (IfFixed a r f c) m m' q h) h
effect_alike p x y t e s (IfFlag f high c) m m' q h = if_alike _ _ c m m' (test_alike p x y t e s (IfFlag f high c) m m' q h) h
effect_alike p x y t e s (IfTime into interval c) m m' q h =
    if_alike _ _ c m m' (test_alike p x y t e s (IfTime into interval c) m m' q h) h

pub nothing_else_matters : NothingElseMatters
nothing_else_matters p x y t e s i m m' q h = (test_alike p x y t e s i m m' q h, effect_alike p x y t e s i m m' q h)
