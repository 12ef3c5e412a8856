-- The safety of a passed table, proved: a scan's start runs well and has its table's stated count to go, each step leads on to a configuration
-- that runs well with less to go, and one that runs well keeps every limit. Assumes nothing.
use Rattle.std.specs.Prelude.{◌≡◌, Bool, true, false, cond, ◌&&◌, List, [], ◌∷◌, ◌++◌, length, drop, take, leb, ltb, eqb}
use Rattle.std.proofs.Math.Path.{refl}
use Rattle.std.proofs.Common.{sym, ap, ◌∙◌, subst, arith, le_refl, le_trans, take-append-drop, length-take-le, leb-true, ltb-false}
use Prim.Native.Nat.{ℕ, zero, suc, ◌+◌, ◌*◌, ◌-◌, ◌≤◌, ◌<◌}
use Rattle.std.proofs.lemmas.Bool.{eqb-false}
use Rattle.base_float.specs.Finite.{finite}
use Rattle.base_program.specs.declared.Instruction.{Instruction}
use Rattle.base_program.specs.declared.Instruction.TheVariants.{End, Else, MeasureSingle, MeasureDifferential, SetFixed, Copy, Increment, Add, AddFixed, Subtract, Multiply, MultiplyFixed, Divide, Sample, Average, Total, Maximum, Minimum, StoreTime, Subroutine, Do, Loop, IfLocations, IfFixed, IfFlag, IfTime}
use Rattle.base_program.specs.declared.Program.{Program}
use Rattle.base_program.specs.declared.Table.{Table}
use Rattle.base_program.specs.declared.Timed.{Timed}
use Rattle.base_program.specs.declared.Timed.TheVariants.{One, Two}
use Rattle.base_program.specs.Entries.{entries, first_sum}
use Rattle.base_program.specs.Reach.{LocationSpan, numbers_from, locations, readings, sums, moved}
use Rattle.spec_check.specs.Ranges.{in_range, is_reps}
use Rattle.base_program.specs.Codes.{between}
use Rattle.spec_check.specs.Blocks.{is_three}
use Rattle.spec_check.specs.Calls.{highest, outside, any_outside, any_beyond}
use Rattle.spec_check.specs.Counts.{stated_count}
use Rattle.proof_check.specs.Passed.{Passed, passed}
use Rattle.spec_machine.specs.Memory.{Memory}
use Rattle.spec_machine.specs.Values.{Scan}
use Rattle.spec_machine.specs.Machine.{Open, Place, Config, Next, next, done, stuck, shift, table_of, step}
use Rattle.spec_machine.specs.Run.{start, Steps, here, onward, Ends}
use Rattle.spec_machine.specs.Limits.{spanned, Each, Reaches, Within}
use Rattle.proof_safety.specs.Shape.{rounds, Scope, in_table, in_sub}
use Rattle.proof_safety.specs.Potential.{shapes, Well, Back, shift_rounds, Callers, RunsWell, Advances}
use Rattle.proof_safety.specs.Advance.{advance}
use Rattle.proof_safety.specs.Sound.{sums_fit}
use Rattle.base_laws.specs.Tests.{neither, and_both}
use Rattle.proof_safety.specs.Called.{table_well}
use Rattle.spec_machine.specs.Safety.{Safety}

-- ---- what is reached

abbrev Between : ℕ → ℕ → ℕ → Type 0
Between least most n = (least ≤ n) × (n ≤ most)

-- n numbers from k on
each_numbers_from : (P : ℕ → Type 0) (k n : ℕ) → ((j : ℕ) → k ≤ j → j < k + n → P j) → Each P (numbers_from k n)
unfolding numbers_from
each_numbers_from P k zero h = tt
each_numbers_from P k (suc n) h = (h k (le_refl k) (omega arith), each_numbers_from P (suc k) n (λ j a b. h j (omega arith) (omega arith)))

each_append : (P : ℕ → Type 0) (l r : List ℕ) → Each P l → Each P r → Each P (l ++ r)
each_append P [] r a b = b
each_append P (k ∷ l) r a b = (a.0, each_append P l r a.1 b)

-- moved up by less than n, every rep stays in reach
span_in : (most n s : ℕ) (x : LocationSpan) → s ≤ n - 1 → outside most n x ≡ false → Each (Between 1 most) (numbers_from (moved s x.location) x.reps)
span_in most n s x small h =
    each_numbers_from (Between 1 most) (moved s x.location) x.reps (within x.location.indexed inside.1)
  where
    inside : (eqb x.location.number 0 ≡ false) × (ltb most (highest n x) ≡ false)
    inside = neither (eqb x.location.number 0) (ltb most (highest n x)) h

    some_location : 1 ≤ x.location.number
    some_location = let g : x.location.number ≡ 0 → ⊥ = eqb-false x.location.number 0 inside.0 in positive x.location.number g
      where
        positive : (k : ℕ) → (k ≡ 0 → ⊥) → 1 ≤ k
        positive zero g = absurd (g refl)
        positive (suc k) g = omega arith

    within : (b : Bool) → ltb most (x.location.number + cond b (n - 1) 0 + (x.reps - 1)) ≡ false → (j : ℕ) → x.location.number + cond b s 0 ≤ j
        → j < x.location.number + cond b s 0 + x.reps → Between 1 most j
    within true q j a b =
        (omega (arith, some_location), omega (arith, ltb-false most (x.location.number + (n - 1) + (x.reps - 1)) q))
    within false q j a b = (omega (arith, some_location), omega (arith, ltb-false most (x.location.number + 0 + (x.reps - 1)) q))

locations_in_reach : (most n s : ℕ) (xs : List LocationSpan) → s ≤ n - 1 → any_outside most n xs ≡ false → Each (Between 1 most) (spanned s xs)
unfolding spanned any_outside
locations_in_reach most n s [] small h = tt
locations_in_reach most n s (x ∷ xs) small h =
    let z = neither (outside most n x) (any_outside most n xs) h in
    each_append (Between 1 most) (numbers_from (moved s x.location) x.reps) (spanned s xs) (span_in most n s x small z.0) (locations_in_reach most n s xs small z.1)

not_beyond : (P : ℕ → Type 0) (most : ℕ) (l : List ℕ) → Each P l → any_beyond most l ≡ false → Each (λ n. P n × (n ≤ most)) l
unfolding any_beyond
not_beyond P most [] a h = tt
not_beyond P most (k ∷ l) a h =
    let z = neither (ltb most k) (any_beyond most l) h in
    ((a.0, ltb-false most k z.0), not_beyond P most l a.1 z.1)

-- channels are counted from 1
first_channel : (i : Instruction) → in_range i ≡ true → Each (λ n. 1 ≤ n) (readings i)
unfolding readings in_range
first_channel End h = tt
first_channel Else h = tt
first_channel (MeasureSingle reps range channel location scale) h =
    let z = (and_both (between 1 196 channel.0) (finite scale.multiplier && finite scale.offset) (and_both (between 1 18 range) _ (and_both (is_reps reps) _ h).1).1).0 in
    let least : 1 ≤ channel.0 = leb-true 1 channel.0 (and_both (leb 1 channel.0) (leb channel.0 196) z).0 in
    each_numbers_from (λ n. 1 ≤ n) channel.0 reps (λ j a b. le_trans least a)
first_channel (MeasureDifferential reps range channel location scale) h =
    let z = (and_both (between 1 98 channel.0) (finite scale.multiplier && finite scale.offset) (and_both (between 1 18 range) _ (and_both (is_reps reps) _ h).1).1).0 in
    let least : 1 ≤ channel.0 = leb-true 1 channel.0 (and_both (leb 1 channel.0) (leb channel.0 98) z).0 in
    each_numbers_from (λ n. 1 ≤ n) (2 * channel.0 - 1) (2 * reps) (λ j a b. omega (arith, least, a))
first_channel (SetFixed f z) h = tt
first_channel (Copy x z) h = tt
first_channel (Increment z) h = tt
first_channel (Add x y z) h = tt
first_channel (AddFixed x f z) h = tt
first_channel (Subtract x y z) h = tt
first_channel (Multiply x y z) h = tt
first_channel (MultiplyFixed x f z) h = tt
first_channel (Divide x y z) h = tt
first_channel (Sample reps x) h = tt
first_channel (Average reps x) h = tt
first_channel (Total reps x) h = tt
first_channel (Maximum reps x) h = tt
first_channel (Minimum reps x) h = tt
first_channel (StoreTime code) h = tt
first_channel (Subroutine k) h = tt
first_channel (Do c) h = tt
first_channel (Loop delay count) h = tt
first_channel (IfLocations x r y c) h = tt
first_channel (IfFixed x r f c) h = tt
first_channel (IfFlag f high c) h = tt
first_channel (IfTime into interval c) h = tt

-- ---- a configuration that runs well keeps every limit

module _ (p : Program) (c : Passed p) where
  sums_in : (t : Table) (e : ℕ) (i : Instruction) (r : List Instruction) → drop e (entries p t) ≡ i ∷ r
      → Each (λ k. k < p.sums) (numbers_from (first_sum p t (suc e)) (sums i))
  sums_in t e i r h =
      let pre : List Instruction = take e (entries p t) in
      let split : entries p t ≡ pre ++ i ∷ r = sym (take-append-drop e (entries p t)) ∙ ap (λ l. pre ++ l) h in
      let taken : length pre ≡ e = length-take-le e (entries p t) (shorter e (entries p t) h) in
      let long : 1 + length pre ≡ suc e = omega arith in
      let fit : first_sum p t (suc e) + sums i ≤ p.sums =
      ltb-false p.sums (first_sum p t (suc e) + sums i) (ap (λ n. ltb p.sums (first_sum p t n + sums i)) (sym long) ∙ sums_fit p c t pre i r split) in
      each_numbers_from (λ k. k < p.sums) (first_sum p t (suc e)) (sums i) (λ j a b. omega (arith, fit))
    where
      shorter : (n : ℕ) (l : List Instruction) → drop n l ≡ i ∷ r → n ≤ length l
      shorter zero l g = omega arith
      shorter (suc n) [] g = absurd (let z : ◌≡◌ {A = ℕ} 0 1 = cc in omega arith)
      shorter (suc n) (x ∷ l) g = omega (arith, shorter n l g)

  reaches : (n : ℕ) (w : Scope) (t : Table) (e : ℕ) (bs : List Open) (cs : List ℕ) (l : List Instruction) → drop e (entries p t) ≡ l
      → Well p n w t (shapes bs) l → Back p n w t bs cs → Reaches p t (suc e) (shift bs) l
  reaches n w t e bs cs [] h ok bk = tt
  reaches n w t e bs cs (i ∷ r) h ok bk =
      record {
        locations = locations_in_reach p.locations (rounds (shapes bs)) (shift bs) (locations i) (shift_rounds p n w t bs cs bk) ok.0.locations_in;
        readings = not_beyond (λ k. 1 ≤ k) 196 (readings i) (first_channel i ok.0.is_in_range) ok.0.readings_in;
        sums = sums_in t e i r h;
      }

  depth : (n : ℕ) (w : Scope) (cs : List Place) (b : ℕ) → Callers p n w cs b → n + length cs ≡ 7
  depth n in_table [] b h = omega arith
  depth n in_table (g ∷ gs) b h = absurd h
  depth n in_sub [] b h = absurd h
  depth n in_sub (g ∷ gs) b h = omega (arith, depth (suc n) h.0 gs h.2 h.5)

  callers_few : (n : ℕ) (w : Scope) (cs : List Place) (b : ℕ) → Callers p n w cs b → Each (λ (a : Place). length a.blocks ≤ 11) cs
  callers_few n in_table [] b h = tt
  callers_few n in_table (g ∷ gs) b h = absurd h
  callers_few n in_sub [] b h = absurd h
  callers_few n in_sub (g ∷ gs) b h = (h.4.few, callers_few (suc n) h.0 gs h.2 h.5)

  pub within : (x : Scan) (d : Config) (b : ℕ) → RunsWell p d b → Within p x d
  within x d b h =
      record {
        goes_on = λ e. subst (λ y. Advances p y b) e (advance p x d b h);
        blocks = (h.stands.few, callers_few h.level h.scope d.callers h.theirs h.callers);
        depth = omega (arith, depth h.level h.scope d.callers h.theirs h.callers);
        reach =
            reaches h.level h.scope d.place.table d.place.before d.place.blocks _
            (drop d.place.before (entries p d.place.table)) refl h.stands.ok h.stands.back;
      }

  -- ---- a scan

  pub begins : (x : Scan) (m : Memory) → RunsWell p (start x m) (stated_count p (table_of x.table))
  begins x m =
      record {
        level = 7;
        scope = in_table;
        mine = stated_count p (table_of x.table);
        theirs = 0;
        sum = omega arith;
        stands = record { ok = table_well p c (table_of x.table) (timed x.table); back = tt; few = omega arith; less = le_refl _ };
        callers = refl;
      }
    where
      timed : (t : Timed) → is_three (table_of t) ≡ false
      timed One = refl
      timed Two = refl

  module _ (x : Scan) where
    -- after n steps at least n less is to go
    runs_on : {n : ℕ} {d e : Config} (b : ℕ) → Steps p x n d e → RunsWell p d b → (a : ℕ) × (n + a ≤ b) × RunsWell p e a
    runs_on b here h = (b, omega arith, h)
    runs_on {d = d} b (onward q r) h =
        let a = subst (λ y. Advances p y b) q (advance p x d b h) in
        let z = runs_on a.0 r a.2 in
        (z.0, omega (arith, a.1, z.1), z.2)

    Result : Config → ℕ → Type 0
    Result d b = (n : ℕ) × (m : Memory) × Ends p x d n m × (n ≤ b)

    -- f is at least what is left to go
    ends : (f : ℕ) (d : Config) (b : ℕ) → b ≤ f → RunsWell p d b → Result d b
    unfolding Result
    ends zero d b s h = by (step p x d) refl (advance p x d b h)
      where
        by : (y : Next) → step p x d ≡ y → Advances p y b → Result d b
        by (next e) q a = absurd (omega (arith, a.1))
        by done q a = (0, d.memory, record { final = d; steps = here; ended = q; left = refl }, omega arith)
        by stuck q a = absurd a
    ends (suc f) d b s h = by (step p x d) refl (advance p x d b h) (λ e a l r. ends f e a l r)
      where
        by : (y : Next) → step p x d ≡ y → Advances p y b → ((e : Config) (a : ℕ) → a ≤ f → RunsWell p e a → Result e a) → Result d b
        by (next e) q a ih =
            let z = ih e a.0 (omega (arith, a.1)) a.2 in
            (suc z.0, z.1, record { final = z.2.final; steps = onward q z.2.steps; ended = z.2.ended; left = z.2.left }, omega (arith, a.1, z.3))
        by done q a ih = (0, d.memory, record { final = d; steps = here; ended = q; left = refl }, omega arith)
        by stuck q a ih = absurd a

pub safety : Safety
unfolding Result
safety p first second h x m =
    let c = passed p first second h in
    let count : ℕ = stated_count p (table_of x.table) in
    (ends p c x count (start x m) count (le_refl count) (begins p c x m), λ n d s. within p c x d _ (runs_on p c x count s (begins p c x m)).2)
