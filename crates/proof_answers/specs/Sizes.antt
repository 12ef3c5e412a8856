-- What an entry does to what is held changes no length. Assumes nothing.
use Rattle.std.specs.Prelude.{◌≡◌, refl, Bool, true, false, cond, List, [], ◌∷◌, length, get_or, ltb}
use Rattle.std.proofs.Common.{◌∙◌}
use Prim.Native.Nat.{ℕ, ◌+◌, ◌-◌}
use Rattle.std.proofs.Math.ListN.{set, length-set}
use Rattle.std.specs.Float.Ieee.{Float}
use Rattle.base_float.specs.Finite.{stored, zero_float}
use Rattle.base_program.specs.declared.Command.{Command}
use Rattle.base_program.specs.declared.Command.TheVariants.{Stop, Call, Raise, Lower, Then, ExitIfTrue, ExitIfFalse, PortHigh, PortLow}
use Rattle.base_program.specs.declared.Instruction.{Instruction}
use Rattle.base_program.specs.declared.Instruction.TheVariants.{End, Else, MeasureSingle, MeasureDifferential, SetFixed, Copy, Increment, Add, AddFixed, Subtract, Multiply, MultiplyFixed, Divide, Sample, Average, Total, Maximum, Minimum, StoreTime, Subroutine, Do, Loop, IfLocations, IfFixed, IfFlag, IfTime}
use Rattle.base_program.specs.declared.Program.{Program}
use Rattle.base_program.specs.declared.Table.{Table}
use Rattle.base_program.specs.Reach.{moved}
use Rattle.spec_machine.specs.Values.{Scan, each, reps}
use Rattle.spec_machine.specs.Output.{Statistic, sampled, clock}
use Rattle.spec_machine.specs.Machine.{array_id}
use Rattle.spec_buffers.specs.Held.{Held, Out}
use Rattle.spec_buffers.specs.Cells.{load_at, store_at, store_each, single_value, differential_value}
use Rattle.spec_buffers.specs.Output.{sample_out, time_out, take_sums, store_out, clear_sums}
use Rattle.spec_buffers.specs.Effects.{on_locations, on_out, on_sums, flag_of, count_of, take_held, store_held, statistic_held, raise_held, command_held, test_held, effect_held}

pub record Sizes (h k : Held) : Type 0 where
  pub locations : length k.locations ≡ length h.locations
  pub sums : length k.sums ≡ length h.sums
  pub counts : length k.counts ≡ length h.counts
  pub flags : length k.flags ≡ length h.flags
  pub ports : length k.ports ≡ length h.ports

pub same_sizes : (h : Held) → Sizes h h
same_sizes h = record { locations = refl; sums = refl; counts = refl; flags = refl; ports = refl }

pub sizes_then : (h k l : Held) → Sizes h k → Sizes k l → Sizes h l
sizes_then h k l a b =
    record {
      locations = b.locations ∙ a.locations;
      sums = b.sums ∙ a.sums;
      counts = b.counts ∙ a.counts;
      flags = b.flags ∙ a.flags;
      ports = b.ports ∙ a.ports;
    }

under : (b : Bool) (h k : Held) → Sizes h k → Sizes h (cond b k h)
under true h k s = s
under false h k s = same_sizes h

unless : (b : Bool) (h k : Held) → Sizes h k → Sizes h (cond b h k)
unless true h k s = same_sizes h
unless false h k s = s

each_length : {A : Type 0} (f : ℕ → List A → List A) → ((k : ℕ) (l : List A) → length (f k l) ≡ length l) → (ks : List ℕ) (l : List A)
    → length (each ks f l) ≡ length l
unfolding each
each_length f h [] l = refl
each_length f h (k ∷ ks) l = each_length f h ks (f k l) ∙ h k l

store_length : (n : ℕ) (v : Float) (l : List Float) → length (store_at n v l) ≡ length l
unfolding store_at
store_length n v l = length-set l (n - 1) (stored v)

stores_length : (n at : ℕ) (v : ℕ → Float) (l : List Float) → length (store_each n at v l) ≡ length l
unfolding store_each
stores_length n at v l = each_length (λ k. store_at (at + k) (v k)) (λ k. store_length (at + k) (v k)) (reps n) l

on_locations_lem : (f : List Float → List Float) (h : Held) → length (f h.locations) ≡ length h.locations → Sizes h (on_locations f h)
on_locations_lem f h g = record { locations = g; sums = refl; counts = refl; flags = refl; ports = refl }

stored_at : (n : ℕ) (v : Float) (h : Held) → Sizes h (on_locations (store_at n v) h)
stored_at n v h = on_locations_lem (store_at n v) h (store_length n v h.locations)

on_out_lem : (f : Out → Out) (h : Held) → Sizes h (on_out f h)
on_out_lem f h = record { locations = refl; sums = refl; counts = refl; flags = refl; ports = refl }

module _ (q : Statistic) (n s c : ℕ) where
  abbrev taken : ℕ → Held → Held
  taken at h = on_sums (take_sums q n s (count_of c h) h.locations at h.sums) (set h.counts c (count_of c h + 1)) h.out h

  take_sizes : (at : ℕ) (h : Held) → Sizes h (take_held q n s c at h)
  unfolding take_held take_sums
  take_sizes at h =
      unless (flag_of h 9) h (cond (ltb (count_of c h) 16777215) (taken at h) h)
      (under (ltb (count_of c h) 16777215) h (taken at h)
      (record {
        locations = refl;
        sums = each_length (λ k w. set w (s + k) (sampled q (count_of c h) (get_or w (s + k) zero_float) (load_at h.locations (at + k)))) (λ k l. length-set l (s + k) _) (reps n) h.sums;
        counts = length-set h.counts c (count_of c h + 1);
        flags = refl;
        ports = refl;
      }))

  store_sizes : (h : Held) → Sizes h (store_held q n s c h)
  unfolding store_held clear_sums
  store_sizes h =
      under (flag_of h 0) h (on_sums (clear_sums n s h.sums) (set h.counts c 0) (store_out q n s (count_of c h) h.sums h.out) h)
      (record {
        locations = refl;
        sums = each_length (λ k w. set w (s + k) zero_float) (λ k l. length-set l (s + k) zero_float) (reps n) h.sums;
        counts = length-set h.counts c 0;
        flags = refl;
        ports = refl;
      })

  statistic_sizes : (at : ℕ) (h : Held) → Sizes h (statistic_held q n s c at h)
  statistic_sizes at h = sizes_then h (take_held q n s c at h) (statistic_held q n s c at h) (take_sizes at h) (store_sizes (take_held q n s c at h))

command_sizes : (id : ℕ) (c : Command) (h : Held) → Sizes h (command_held id c h)
unfolding command_held raise_held
command_sizes id Stop h = same_sizes h
command_sizes id (Call k) h = same_sizes h
command_sizes id (Raise f) h = record { locations = refl; sums = refl; counts = refl; flags = length-set h.flags f true; ports = refl }
command_sizes id (Lower f) h = record { locations = refl; sums = refl; counts = refl; flags = length-set h.flags f false; ports = refl }
command_sizes id Then h = same_sizes h
command_sizes id ExitIfTrue h = same_sizes h
command_sizes id ExitIfFalse h = same_sizes h
command_sizes id (PortHigh q) h = record { locations = refl; sums = refl; counts = refl; flags = refl; ports = length-set h.ports (q - 1) true }
command_sizes id (PortLow q) h = record { locations = refl; sums = refl; counts = refl; flags = refl; ports = length-set h.ports (q - 1) false }

module _ (p : Program) (x : Scan) (r : List Float) (t : Table) (e s : ℕ) where
  if_sizes : (i : Instruction) (c : Command) (h : Held) → Sizes h (cond (test_held x s i h) (command_held (array_id t e) c h) h)
  if_sizes i c h = under (test_held x s i h) h (command_held (array_id t e) c h) (command_sizes (array_id t e) c h)

  pub effect_sizes : (i : Instruction) (h : Held) → Sizes h (effect_held p x r t e s i h)
  unfolding effect_held
  effect_sizes End h = same_sizes h
  effect_sizes Else h = same_sizes h
  effect_sizes (MeasureSingle n range channel location scale) h =
      let v : ℕ → Float = single_value r channel.0 scale in
      on_locations_lem (store_each n (moved s location) v) h (stores_length n (moved s location) v h.locations)
  effect_sizes (MeasureDifferential n range channel location scale) h =
      let v : ℕ → Float = differential_value r channel.0 scale in
      on_locations_lem (store_each n (moved s location) v) h (stores_length n (moved s location) v h.locations)
  effect_sizes (SetFixed f z) h = stored_at (moved s z) _ h
  effect_sizes (Copy a z) h = stored_at (moved s z) _ h
  effect_sizes (Increment z) h = stored_at (moved s z) _ h
  effect_sizes (Add a b z) h = stored_at (moved s z) _ h
  effect_sizes (AddFixed a f z) h = stored_at (moved s z) _ h
  effect_sizes (Subtract a b z) h = stored_at (moved s z) _ h
  effect_sizes (Multiply a b z) h = stored_at (moved s z) _ h
  effect_sizes (MultiplyFixed a f z) h = stored_at (moved s z) _ h
  effect_sizes (Divide a b z) h = stored_at (moved s z) _ h
  effect_sizes (Sample n l) h =
      let f : Out → Out = sample_out h.locations n (moved s l) in
      under (flag_of h 0) h (on_out f h) (on_out_lem f h)
  effect_sizes (Average n l) h = statistic_sizes _ n _ _ (moved s l) h
  effect_sizes (Total n l) h = statistic_sizes _ n _ _ (moved s l) h
  effect_sizes (Maximum n l) h = statistic_sizes _ n _ _ (moved s l) h
  effect_sizes (Minimum n l) h = statistic_sizes _ n _ _ (moved s l) h
  effect_sizes (StoreTime code) h =
      let f : Out → Out = time_out code x.day (clock x) in
      under (flag_of h 0) h (on_out f h) (on_out_lem f h)
  effect_sizes (Subroutine k) h = same_sizes h
  effect_sizes (Do c) h = command_sizes (array_id t e) c h
  effect_sizes (Loop delay count) h = same_sizes h
  effect_sizes (IfLocations a k b c) h = if_sizes (IfLocations a k b c) c h
  effect_sizes (IfFixed a k f c) h = if_sizes (IfFixed a k f c) c h
  effect_sizes (IfFlag f high c) h = if_sizes (IfFlag f high c) c h
  effect_sizes (IfTime into interval c) h = if_sizes (IfTime into interval c) c h
