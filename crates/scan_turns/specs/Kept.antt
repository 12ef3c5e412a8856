-- What an entry leaves as it was: a ring that takes a word takes the next, counts stay at most 16,777,215, and the array id is the old one or the
-- entry's own. By cases on the instruction. Assumes nothing.
use Rattle.std.specs.Prelude.{◌≡◌, Bool, false, cond, List, [], ◌∷◌, get_or, set, eqb, ltb}
use Rattle.std.proofs.Math.Path.{refl}
use Rattle.std.proofs.Common.{sym, ◌∙◌, subst, arith}
use Prim.Native.Nat.{ℕ, ◌+◌, ◌≤◌}
use Rattle.std.proofs.Math.Bool.{true}
use Rattle.std.specs.Float.Ieee.{Float}
use Rattle.base_program.specs.declared.Command.{Command}
use Rattle.base_program.specs.declared.Command.TheVariants.{Stop, Call, Raise, Lower, Then, ExitIfTrue, ExitIfFalse, PortHigh, PortLow}
use Rattle.base_program.specs.declared.Instruction.{Instruction}
use Rattle.base_program.specs.declared.Instruction.TheVariants.{End, Else, MeasureSingle, MeasureDifferential, SetFixed, Copy, Increment, Add, AddFixed, Subtract, Multiply, MultiplyFixed, Divide, Sample, Average, Total, Maximum, Minimum, StoreTime, Subroutine, Do, Loop, IfLocations, IfFixed, IfFlag, IfTime}
use Rattle.base_program.specs.declared.Program.{Program}
use Rattle.base_program.specs.declared.Table.{Table}
use Rattle.base_program.specs.declared.TimeCode.{TimeCode}
use Rattle.base_program.specs.declared.TimeCode.TheVariants.{HoursMinutes, Day, DayHoursMinutes}
use Rattle.base_program.specs.Entries.{slot, first_sum}
use Rattle.base_float.specs.Finite.{zero_float}
use Rattle.spec_machine.specs.Values.{Scan, each, reps}
use Rattle.base_program.specs.Reach.{moved}
use Rattle.spec_machine.specs.Output.{Statistic, average, total, maximum, minimum, clock}
use Rattle.spec_machine.specs.Machine.{array_id}
use Rattle.spec_buffers.specs.Held.{Held, Out}
use Rattle.spec_buffers.specs.Cells.{load_at}
use Rattle.spec_buffers.specs.Output.{write_out, write_each, time_out, take_sums, store_out, clear_sums, result_of, begin_out}
use Rattle.spec_buffers.specs.Effects.{on_locations, on_out, on_sums, flag_of, count_of, take_held, store_held, statistic_held, raise_held, command_held, command_held_if, test_held, effect_held}
use Rattle.scan_output.specs.Lent.{RingReady}
use Rattle.scan_output.specs.Ready.{write_each_ready, time_ready, command_ready}
use Rattle.scan_statistics.specs.Held.{statistic_few, statistic_ready}

-- what stays true of what is held: the ring takes a word, the counts are few, and the array id is at most 399
pub record Keeps (h : Held) : Type 0 where
  pub ready : RingReady h.out
  pub few : (c : ℕ) → get_or h.counts c 0 ≤ 16777215
  pub array : h.out.array ≤ 399

-- ---- the array id

each_array : (ks : List ℕ) (v : ℕ → Float) (o : Out) → (each ks (λ k. write_out (v k)) o).array ≡ o.array
unfolding each write_out
each_array [] v o = refl
each_array (k ∷ ks) v o = each_array ks v (write_out (v k) o)

write_array : (n : ℕ) (v : ℕ → Float) (o : Out) → (write_each n v o).array ≡ o.array
unfolding write_each
write_array n v o = each_array (reps n) v o

time_array : (code : TimeCode) (day hour : ℕ) (o : Out) → (time_out code day hour o).array ≡ o.array
unfolding time_out write_out
time_array HoursMinutes day hour o = refl
time_array Day day hour o = refl
time_array DayHoursMinutes day hour o = refl

-- ---- either of two

arms : (P : Held → Type 0) (b : Bool) (h k : Held) → P h → P k → P (cond b h k)
arms P true h k a c = a
arms P false h k a c = c

module _ (q : Statistic) (n s c : ℕ) where
  abbrev taken : ℕ → Held → Held
  taken at h = on_sums (take_sums q n s (count_of c h) h.locations at h.sums) (set h.counts c (count_of c h + 1)) h.out h

  abbrev stored : Held → Held
  stored h = on_sums (clear_sums n s h.sums) (set h.counts c 0) (store_out q n s (count_of c h) h.sums h.out) h

  take_array : (at : ℕ) (h : Held) → (take_held q n s c at h).out.array ≡ h.out.array
  unfolding take_held
  take_array at h =
      let P : Held → Type 0 = λ k. k.out.array ≡ h.out.array in
      arms P (flag_of h 9) h (cond (ltb (count_of c h) 16777215) (taken at h) h) refl (arms P (ltb (count_of c h) 16777215) (taken at h) h refl refl)

  store_array : (h : Held) → (store_held q n s c h).out.array ≡ h.out.array
  unfolding store_held
  store_array h =
      let P : Held → Type 0 = λ k. k.out.array ≡ h.out.array in
      arms P (flag_of h 0) (stored h) h (write_array n (λ k. result_of q (count_of c h) (get_or h.sums (s + k) zero_float)) h.out) refl

  statistic_keeps : (at : ℕ) (h : Held) → Keeps h → Keeps (statistic_held q n s c at h)
  statistic_keeps at h k =
      record {
        ready = statistic_ready q n s c at h k.ready;
        few = λ j. statistic_few q n s c at j h (k.few j);
        array = subst (λ z. z ≤ 399) (sym (store_array (take_held q n s c at h) ∙ take_array at h)) k.array;
      }

-- ---- output and commands

out_keeps : (h : Held) (o : Out) → Keeps h → RingReady o → o.array ≡ h.out.array → Keeps (on_out (λ z. o) h)
out_keeps h o k r e = record { ready = r; few = k.few; array = subst (λ z. z ≤ 399) (sym e) k.array }

command_array : (id : ℕ) (c : Command) (h : Held) → id ≤ 399 → h.out.array ≤ 399 → (command_held id c h).out.array ≤ 399
unfolding command_held raise_held
command_array id Stop h new old = old
command_array id (Call j) h new old = old
command_array id (Raise f) h new old = by (eqb f 0)
  where
    by : (b : Bool) → (cond b (begin_out id h.out) h.out).array ≤ 399
    by true = new
    by false = old
command_array id (Lower f) h new old = old
command_array id Then h new old = old
command_array id ExitIfTrue h new old = old
command_array id ExitIfFalse h new old = old
command_array id (PortHigh j) h new old = old
command_array id (PortLow j) h new old = old

command_counts : (id : ℕ) (c : Command) (h : Held) → (command_held id c h).counts ≡ h.counts
unfolding command_held raise_held
command_counts id Stop h = refl
command_counts id (Call j) h = refl
command_counts id (Raise f) h = refl
command_counts id (Lower f) h = refl
command_counts id Then h = refl
command_counts id ExitIfTrue h = refl
command_counts id ExitIfFalse h = refl
command_counts id (PortHigh j) h = refl
command_counts id (PortLow j) h = refl

command_keeps : (b : Bool) (id : ℕ) (c : Command) (h : Held) → id ≤ 399 → Keeps h → Keeps (command_held_if b id c h)
command_keeps b id c h small k =
    arms Keeps b (command_held id c h) h
    (record {
      ready = command_ready id c h (omega arith) k.ready;
      few = λ j. subst (λ z. get_or z j 0 ≤ 16777215) (sym (command_counts id c h)) (k.few j);
      array = command_array id c h small k.array;
    })
    k

-- ---- an entry

locations_keep : (l : List Float) (h : Held) → Keeps h → Keeps (on_locations (λ z. l) h)
locations_keep l h k = record { ready = k.ready; few = k.few; array = k.array }

module _ (p : Program) (x : Scan) (r : List Float) (t : Table) (e s : ℕ) (id_in : array_id t e ≤ 399) where
  pub effect_keeps : (i : Instruction) (h : Held) → Keeps h → Keeps (effect_held p x r t e s i h)
  unfolding effect_held
  effect_keeps End h k = k
  effect_keeps Else h k = k
  effect_keeps (MeasureSingle n range channel location scale) h k = locations_keep _ h k
  effect_keeps (MeasureDifferential n range channel location scale) h k = locations_keep _ h k
  effect_keeps (SetFixed f z) h k = locations_keep _ h k
  effect_keeps (Copy a z) h k = locations_keep _ h k
  effect_keeps (Increment z) h k = locations_keep _ h k
  effect_keeps (Add a b z) h k = locations_keep _ h k
  effect_keeps (AddFixed a f z) h k = locations_keep _ h k
  effect_keeps (Subtract a b z) h k = locations_keep _ h k
  effect_keeps (Multiply a b z) h k = locations_keep _ h k
  effect_keeps (MultiplyFixed a f z) h k = locations_keep _ h k
  effect_keeps (Divide a b z) h k = locations_keep _ h k
  effect_keeps (Sample n a) h k =
      let v : ℕ → Float = λ j. load_at h.locations (moved s a + j) in
      arms Keeps (flag_of h 0) (on_out (write_each n v) h) h (out_keeps h (write_each n v h.out) k (write_each_ready n v h.out k.ready) (write_array n v h.out)) k
  effect_keeps (Average n a) h k = statistic_keeps average n (first_sum p t e) (slot t e) (moved s a) h k
  effect_keeps (Total n a) h k = statistic_keeps total n (first_sum p t e) (slot t e) (moved s a) h k
  effect_keeps (Maximum n a) h k = statistic_keeps maximum n (first_sum p t e) (slot t e) (moved s a) h k
  effect_keeps (Minimum n a) h k = statistic_keeps minimum n (first_sum p t e) (slot t e) (moved s a) h k
  effect_keeps (StoreTime code) h k =
      let o : Out = time_out code x.day (clock x) h.out in
      arms Keeps (flag_of h 0) (on_out (λ z. o) h) h (out_keeps h o k (time_ready code x.day (clock x) h.out k.ready) (time_array code x.day (clock x) h.out)) k
  effect_keeps (Subroutine j) h k = k
  effect_keeps (Do c) h k = command_keeps true (array_id t e) c h id_in k
  effect_keeps (Loop delay count) h k = k
  effect_keeps (IfLocations a j b c) h k = command_keeps (test_held x s (IfLocations a j b c) h) (array_id t e) c h id_in k
  effect_keeps (IfFixed a j f c) h k = command_keeps (test_held x s (IfFixed a j f c) h) (array_id t e) c h id_in k
  effect_keeps (IfFlag f high c) h k = command_keeps (test_held x s (IfFlag f high c) h) (array_id t e) c h id_in k
  effect_keeps (IfTime into interval c) h k = command_keeps (test_held x s (IfTime into interval c) h) (array_id t e) c h id_in k
