-- Final Storage is written and never read: with other words written before, a scan goes through the same places, and leaves the same with its own
-- words behind those. So it only grows. Each entry does the same with any words put in front of those that there are. Assumes nothing.
use Rattle.std.specs.Prelude.{◌≡◌, drop, eqb, ltb, Float}
use Rattle.std.proofs.Math.Path.{refl, ap, subst}
use Rattle.std.proofs.Common.{sym, ◌∙◌, arith}
use Prim.Native.Nat.{ℕ, suc, ◌+◌}
use Rattle.std.proofs.Math.Bool.{Bool, true, false, cond}
use mathlib.Core.List.{List, [], ◌∷◌, ◌++◌, append_assoc, append-nil}
use Rattle.base_program.specs.declared.Command.{Command}
use Rattle.base_program.specs.declared.Command.TheVariants.{Stop, Call, Raise, Lower, Then, ExitIfTrue, ExitIfFalse, PortHigh, PortLow}
use Rattle.base_program.specs.declared.Instruction.{Instruction}
use Rattle.base_program.specs.declared.Instruction.TheVariants.{End, Else, MeasureSingle, MeasureDifferential, SetFixed, Copy, Increment, Add, AddFixed, Subtract, Multiply, MultiplyFixed, Divide, Sample, Average, Total, Maximum, Minimum, StoreTime, Subroutine, Do, Loop, IfLocations, IfFixed, IfFlag, IfTime}
use Rattle.base_program.specs.declared.Program.{Program}
use Rattle.base_program.specs.declared.Table.{Table}
use Rattle.base_program.specs.declared.TimeCode.{TimeCode}
use Rattle.base_program.specs.declared.TimeCode.TheVariants.{HoursMinutes, Day, DayHoursMinutes}
use Rattle.base_program.specs.Flow.{flow}
use Rattle.base_program.specs.Measure.{scaled}
use Rattle.base_program.specs.Entries.{entries, slot, first_sum}
use Rattle.spec_machine.specs.Memory.{Memory, set_sum, set_count, set_flag, set_storage}
use Rattle.base_float.specs.Finite.{zero_float}
use Rattle.spec_machine.specs.Values.{Scan, load, store, each, reps, difference}
use Rattle.base_program.specs.Reach.{moved}
use Rattle.spec_machine.specs.Output.{begin, raise, commanded, written, write, when_output, sample, whole, clock, write_time, Statistic, average, total, maximum, minimum, sampled, result, nothing, samples, take_sample, store_results, clear, statistic}
use Rattle.spec_machine.specs.Ends.{ways}
use Rattle.spec_machine.specs.Machine.{Open, Place, Config, Next, next, done, stuck, shift, test, effect, array_id, go_on, act, step}
use Rattle.spec_machine.specs.Run.{starting, start, Steps, here, onward, Ends}
use Rattle.proof_safety.specs.Natural.{config_with, next_with, go_with}

-- the same memory with these words written, and with words W written before its own
abbrev pub with_words : List ℕ → Memory → Memory
with_words w m = set_storage w m.storage.array m.storage.waiting m

abbrev behind : List ℕ → Memory → Memory
behind W m = with_words (W ++ m.storage.words) m

-- ---- an entry

module _ (W : List ℕ) where
  -- f does not look at the words written before
  abbrev Blind : (Memory → Memory) → Type 0
  Blind f = (m : Memory) → f (behind W m) ≡ behind W (f m)

  if_blind : (b : Bool) (m k k' : Memory) → k' ≡ behind W k → cond b k' (behind W m) ≡ behind W (cond b k m)
  if_blind true m k k' h = h
  if_blind false m k k' h = refl

  each_blind : (l : List ℕ) (f : ℕ → Memory → Memory) → ((k : ℕ) → Blind (f k)) → Blind (each l f)
  unfolding each
  each_blind [] f h m = refl
  each_blind (k ∷ l) f h m = ap (each l f) (h k m) ∙ each_blind l f h (f k m)

  write_blind : (v : Float) → Blind (write v)
  unfolding write
  write_blind v m =
      ap (λ w. set_storage w m.storage.array false m) (append_assoc W m.storage.words (written m v))

  module _ (q : Statistic) (n s c : ℕ) where
    take_blind : (l : ℕ) → Blind (take_sample q n s c l)
    take_blind l m = ap (set_count c (m.cells.counts c + 1)) (each_blind (reps n) f (λ k w. refl) m)
      where
        f : ℕ → Memory → Memory
        f k w = set_sum (s + k) (sampled q (m.cells.counts c) (w.cells.sums (s + k)) (load (l + k) w)) w

    results_blind : Blind (store_results q n s c)
    results_blind m = each_blind (reps n) (λ k w. write (v k w) w) (λ k w. write_blind (v k w) w) m
      where
        v : ℕ → Memory → Float
        v k w = cond (eqb (m.cells.counts c) 0) (nothing q) (result q (m.cells.counts c) (w.cells.sums (s + k)))

    clear_blind : Blind (clear n s c)
    clear_blind m = ap (set_count c 0) (each_blind (reps n) (λ k. set_sum (s + k) zero_float) (λ k w. refl) m)

    samples_blind : (l : ℕ) → Blind (λ m. samples m c (take_sample q n s c l m))
    samples_blind l m = by (m.signals.flags 9)
      where
        by : (b : Bool) → cond b (behind W m) (cond (ltb (m.cells.counts c) 16777215) (take_sample q n s c l (behind W m)) (behind W m))
            ≡ behind W (cond b m (cond (ltb (m.cells.counts c) 16777215) (take_sample q n s c l m) m))
        by true = refl
        by false = if_blind (ltb (m.cells.counts c) 16777215) m (take_sample q n s c l m) _ (take_blind l m)

    stored_blind : Blind (when_output (λ w. clear n s c (store_results q n s c w)))
    stored_blind m =
        if_blind (m.signals.flags 0) m (clear n s c (store_results q n s c m)) _
        (ap (clear n s c) (results_blind m) ∙ clear_blind (store_results q n s c m))

    statistic_blind : (l : ℕ) → Blind (statistic q n s c l)
    unfolding statistic
    statistic_blind l m =
        ap (when_output (λ w. clear n s c (store_results q n s c w))) (samples_blind l m) ∙ stored_blind (samples m c (take_sample q n s c l m))

  command_blind : (id : ℕ) (c : Command) → Blind (commanded id c)
  unfolding commanded raise
  command_blind id Stop m = refl
  command_blind id (Call k) m = refl
  command_blind id (Raise f) m = by (eqb f 0)
    where
      by : (b : Bool) → cond b (begin id (set_flag f true (behind W m))) (set_flag f true (behind W m))
          ≡ behind W (cond b (begin id (set_flag f true m)) (set_flag f true m))
      by true = refl
      by false = refl
  command_blind id (Lower f) m = refl
  command_blind id Then m = refl
  command_blind id ExitIfTrue m = refl
  command_blind id ExitIfFalse m = refl
  command_blind id (PortHigh q) m = refl
  command_blind id (PortLow q) m = refl

  time_blind : (x : Scan) (code : TimeCode) → Blind (write_time x code)
  unfolding write_time
  time_blind x HoursMinutes m = write_blind (whole (clock x)) m
  time_blind x Day m = write_blind (whole x.day) m
  time_blind x DayHoursMinutes m =
      ap (write (whole (clock x))) (write_blind (whole x.day) m) ∙ write_blind (whole (clock x)) (write (whole x.day) m)

  module _ (p : Program) (x : Scan) where
    test_blind : (s : ℕ) (i : Instruction) (m : Memory) → test p x s i (behind W m) ≡ test p x s i m
    unfolding test
    test_blind s End m = refl
    test_blind s Else m = refl
    test_blind s (MeasureSingle n range channel location scale) m = refl
    test_blind s (MeasureDifferential n range channel location scale) m = refl
    test_blind s (SetFixed f z) m = refl
    test_blind s (Copy a z) m = refl
    test_blind s (Increment z) m = refl
    test_blind s (Add a b z) m = refl
    test_blind s (AddFixed a f z) m = refl
    test_blind s (Subtract a b z) m = refl
    test_blind s (Multiply a b z) m = refl
    test_blind s (MultiplyFixed a f z) m = refl
    test_blind s (Divide a b z) m = refl
    test_blind s (Sample n l) m = refl
    test_blind s (Average n l) m = refl
    test_blind s (Total n l) m = refl
    test_blind s (Maximum n l) m = refl
    test_blind s (Minimum n l) m = refl
    test_blind s (StoreTime code) m = refl
    test_blind s (Subroutine k) m = refl
    test_blind s (Do c) m = refl
    test_blind s (Loop delay count) m = refl
    test_blind s (IfLocations a r b c) m = refl
    test_blind s (IfFixed a r f c) m = refl
    test_blind s (IfFlag f high c) m = refl
    test_blind s (IfTime into interval c) m = refl

    effect_blind : (t : Table) (e s : ℕ) (i : Instruction) → Blind (effect p x t e s i)
    unfolding effect sample test
    effect_blind t e s End m = refl
    effect_blind t e s Else m = refl
    effect_blind t e s (MeasureSingle n range channel location scale) m =
        each_blind (reps n) (λ k. store (moved s location + k) (scaled (x.readings (channel.0 + k)) scale)) (λ k w. refl) m
    effect_blind t e s (MeasureDifferential n range channel location scale) m =
        each_blind (reps n) (λ k. store (moved s location + k) (scaled (difference x (channel.0 + k)) scale)) (λ k w. refl) m
    effect_blind t e s (SetFixed f z) m = refl
    effect_blind t e s (Copy a z) m = refl
    effect_blind t e s (Increment z) m = refl
    effect_blind t e s (Add a b z) m = refl
    effect_blind t e s (AddFixed a f z) m = refl
    effect_blind t e s (Subtract a b z) m = refl
    effect_blind t e s (Multiply a b z) m = refl
    effect_blind t e s (MultiplyFixed a f z) m = refl
    effect_blind t e s (Divide a b z) m = refl
    effect_blind t e s (Sample n l) m =
        if_blind (m.signals.flags 0) m _ _ (each_blind (reps n) (λ k w. write (load (moved s l + k) w) w) (λ k w. write_blind (load (moved s l + k) w) w) m)
    effect_blind t e s (Average n l) m = statistic_blind average n (first_sum p t e) (slot t e) (moved s l) m
    effect_blind t e s (Total n l) m = statistic_blind total n (first_sum p t e) (slot t e) (moved s l) m
    effect_blind t e s (Maximum n l) m = statistic_blind maximum n (first_sum p t e) (slot t e) (moved s l) m
    effect_blind t e s (Minimum n l) m = statistic_blind minimum n (first_sum p t e) (slot t e) (moved s l) m
    effect_blind t e s (StoreTime code) m = if_blind (m.signals.flags 0) m _ _ (time_blind x code m)
    effect_blind t e s (Subroutine k) m = refl
    effect_blind t e s (Do c) m = command_blind (array_id t e) c m
    effect_blind t e s (Loop delay count) m = refl
    effect_blind t e s (IfLocations a r b c) m = if_blind (test p x s (IfLocations a r b c) m) m _ _ (command_blind (array_id t e) c m)
    effect_blind t e s (IfFixed a r f c) m = if_blind (test p x s (IfFixed a r f c) m) m _ _ (command_blind (array_id t e) c m)
    effect_blind t e s (IfFlag f high c) m = if_blind (test p x s (IfFlag f high c) m) m _ _ (command_blind (array_id t e) c m)
    effect_blind t e s (IfTime into interval c) m = if_blind (test p x s (IfTime into interval c) m) m _ _ (command_blind (array_id t e) c m)

    -- ---- a run

    act_blind : (l : List Instruction) (t : Table) (e : ℕ) (bs : List Open) (cs : List Place) (m : Memory)
        → act p x l t e bs cs (behind W m) ≡ next_with (behind W) (act p x l t e bs cs m)
    unfolding act
    act_blind [] t e [] [] m = refl
    act_blind [] t e [] (c ∷ cs) m = refl
    act_blind [] t e (b ∷ bs) cs m = refl
    act_blind (i ∷ r) t e bs cs m =
        let go : Bool → Memory → Next = λ b k. go_on p x (flow i) b (ways (suc e) r) t (suc e) bs cs k in
        ap (λ b. go b (effect p x t (suc e) (shift bs) i (behind W m))) (test_blind (shift bs) i m)
        ∙ ap (go (test p x (shift bs) i m)) (effect_blind t (suc e) (shift bs) i m)
        ∙ go_with (behind W) (effect p x t (suc e) (shift bs) i m) p x (flow i) (test p x (shift bs) i m) (ways (suc e) r) t (suc e) bs cs

    step_blind : (c : Config) → step p x (config_with (behind W) c) ≡ next_with (behind W) (step p x c)
    step_blind c =
        act_blind (drop c.place.before (entries p c.place.table)) c.place.table c.place.before c.place.blocks c.callers c.memory

    -- a step with W in front is a step without
    without : (y : Next) (d : Config) → next_with (behind W) y ≡ next d → (e : Config) × (y ≡ next e) × (d ≡ config_with (behind W) e)
    without (next e) d h = (e, refl, cc)
    without done d h = absurd (let z : ◌≡◌ {A = ℕ} 0 1 = cc in omega arith)
    without stuck d h = absurd (let z : ◌≡◌ {A = ℕ} 0 1 = cc in omega arith)

    none_without : (y : Next) → next_with (behind W) y ≡ done → y ≡ done
    none_without (next e) h = absurd (let z : ◌≡◌ {A = ℕ} 0 1 = cc in omega arith)
    none_without done h = refl
    none_without stuck h = absurd (let z : ◌≡◌ {A = ℕ} 0 1 = cc in omega arith)

    steps_with : {n : ℕ} {c d : Config} → Steps p x n c d → Steps p x n (config_with (behind W) c) (config_with (behind W) d)
    steps_with here = here
    steps_with (onward {c = c} q r) = onward (step_blind c ∙ ap (next_with (behind W)) q) (steps_with r)

    steps_without : {n : ℕ} {b d : Config} → Steps p x n b d → (c : Config) → b ≡ config_with (behind W) c
        → (e : Config) × Steps p x n c e × (d ≡ config_with (behind W) e)
    steps_without here c h = (c, here, h)
    steps_without (onward {d = d} q r) c h =
        let z = without (step p x c) d (sym (step_blind c) ∙ ap (step p x) (sym h) ∙ q) in
        let y = steps_without r z.0 z.2 in
        (y.0, onward z.1 y.1, y.2)

-- ---- a scan

module _ (p : Program) (x : Scan) where
  -- what a scan that led from m to m' has written: with any words W before it the scan is the same, and has written the same
  pub record Writes (m : Memory) (n : ℕ) (m' : Memory) : Type 0 where
    pub words : List ℕ
    pub grows : m'.storage.words ≡ m.storage.words ++ words
    pub whatever : (W : List ℕ) → Ends p x (start x (with_words W m)) n (with_words (W ++ words) m')

  pub scan_writes : (m m' : Memory) (n : ℕ) → Ends p x (start x m) n m' → Writes m n m'
  unfolding starting
  scan_writes m m' n h =
      let A : List ℕ = m.storage.words in
      let c : Config = start x (with_words [] m) in
      let first : start x m ≡ config_with (behind A) c = ap (λ w. start x (with_words w m)) (sym (append-nil A)) in
      let z = steps_without A p x h.steps c first in
      let e = z.0 in
      let left : behind A e.memory ≡ m' = ap (λ (d : Config). d.memory) (sym z.2) ∙ h.left in
      let ended : step p x e ≡ done = none_without A p x (step p x e) (sym (step_blind A p x e) ∙ ap (step p x) (sym z.2) ∙ h.ended) in
      record {
        words = e.memory.storage.words;
        grows = ap (λ (k : Memory). k.storage.words) (sym left);
        whatever =
            λ W. record {
              final = config_with (behind W) e;
              steps = subst (λ w. Steps p x n (start x (with_words w m)) (config_with (behind W) e)) (append-nil W) (steps_with W p x z.1);
              ended = step_blind W p x e ∙ ap (next_with (behind W)) ended;
              left = ap (with_words (W ++ e.memory.storage.words)) left;
            };
      }
