-- What holds after every call, also where the lent lengths are not the record's: and with it a call answers the plain machine's refusal, since
-- the check has passed (so no 30) and the ring, the array id and the sample counts are in order (so no 32). Assumes nothing.
use Rattle.std.specs.Prelude.{◌≡◌, Bool, true, false, not, ◌&&◌, List, [], ◌∷◌, ◌++◌, length, get_or, replicate, eqb, leb, Float}
use Rattle.std.proofs.Math.Path.{refl, ap, fun_ext}
use Rattle.std.proofs.Common.{sym, ◌∙◌, arith, length-append, drop_of_length-le, lt-ltb, le-leb, leb-true}
use Prim.Native.Nat.{ℕ, zero, suc, ◌-◌, ◌≤◌, ◌<◌}
use Rattle.std.proofs.Math.Option.{Option, none}
use Rattle.std.proofs.lemmas.List.{length-replicate}
use Rattle.base_program.specs.declared.Program.{Program}
use Rattle.base_program.specs.declared.Timed.{Timed}
use Rattle.base_program.specs.declared.Timed.TheVariants.{One, Two}
use Rattle.spec_check.specs.declared.Verdict.{Verdict}
use Rattle.spec_check.specs.Check.{check, or}
use Rattle.base_program.specs.Codes.{between}
use Rattle.storage_ring.specs.Ring.{RingSound, by_age, latest}
use Rattle.spec_machine.specs.Memory.{Memory, Moment, fresh}
use Rattle.base_float.specs.Finite.{zero_float}
use Rattle.base_laws.specs.Tests.{and_both}
use Rattle.spec_machine.specs.Calls.{Lengths, scan, key_location, key_flag, locations_lent, all_lent, is_tick, is_keyed, refusal}
use Rattle.spec_buffers.specs.Held.{cell, port, sum_of, count_at, flag_at}
use Rattle.spec_calls.specs.Stores.{Stores, lengths_of, fresh_state, fresh_stores, ring_state, tape_in, last_in, memory_in}
use Rattle.spec_calls.specs.Holding.{with_waiting}
use Rattle.spec_calls.specs.Refusals.{is_pass, is_passed, few_samples, in_order, scan_refusal, key_refusal, flag_refusal}
use Rattle.spec_calls.specs.RingWords.{aged}

pub record StoresKept (n : Lengths) (s : Stores) (m : Memory) : Type 0 where
  pub lengths : lengths_of s ≡ n
  pub flags : length s.state.flags ≡ 10
  pub array : s.state.array ≤ 399
  pub counts : (c : ℕ) → get_or s.counts c 0 ≤ 16777215
  pub position : 1 ≤ length s.ring → s.state.position < length s.ring
  pub filled : s.state.filled ≤ length s.ring
  -- the plain machine's memory, but for whether a start word waits
  pub waiting : Bool
  pub memory : m ≡ with_waiting waiting (memory_in s m.storage.words)
  pub ring : aged (tape_in s) ≡ latest (length s.ring) m.storage.words

-- ---- fresh

zeros : {A : Type 0} (n k : ℕ) (a : A) → get_or (replicate n a) k a ≡ a
zeros zero k a = refl
zeros (suc n) zero a = refl
zeros (suc n) (suc k) a = zeros n k a

pub fresh_kept : (n : Lengths) → StoresKept n (fresh_stores n) fresh
unfolding fresh_state fresh by_age
fresh_kept n =
    record {
      lengths = long;
      flags = refl;
      array = omega arith;
      counts = λ c. omega (arith, zeros {A = ℕ} n.counts c 0);
      position = λ h. h;
      filled = omega arith;
      waiting = false;
      memory = held;
      ring = empty ∙ sym (drop_of_length-le [] {i = 0 - length (replicate {A = ℕ} n.ring 0)} (omega arith));
    }
  where
    long : lengths_of (fresh_stores n) ≡ n
    long =
        let a = length-replicate n.locations zero_float in
        let b = length-replicate n.sums zero_float in
        let c = length-replicate {A = ℕ} n.counts 0 in
        let d = length-replicate {A = ℕ} n.ring 0 in
        let g : lengths_of (fresh_stores n) ≡ record { locations = n.locations; sums = n.sums; counts = n.counts; ring = n.ring } = cc in
        g

    location : (k : ℕ) → zero_float ≡ cell (replicate n.locations zero_float) k
    location zero = refl
    location (suc k) = sym (zeros n.locations k zero_float)

    port_low_lem : (k : ℕ) → false ≡ port (replicate 8 false) k
    port_low_lem zero = refl
    port_low_lem (suc k) = sym (zeros 8 k false)

    no_scan : (t : Timed) → none ≡ last_in fresh_state t
    no_scan One = refl
    no_scan Two = refl

    held : fresh ≡ with_waiting false (memory_in (fresh_stores n) [])
    held =
        let a : ◌≡◌ {A = ℕ → Float} (λ k. zero_float) (cell (replicate n.locations zero_float)) = fun_ext location in
        let b : ◌≡◌ {A = ℕ → Float} (λ k. zero_float) (sum_of (replicate n.sums zero_float)) = fun_ext (λ k. sym (zeros n.sums k zero_float)) in
        let c : ◌≡◌ {A = ℕ → ℕ} (λ k. 0) (count_at (replicate n.counts 0)) = fun_ext (λ k. sym (zeros n.counts k 0)) in
        let d : ◌≡◌ {A = ℕ → Bool} (λ k. false) (flag_at (replicate 10 false)) = fun_ext (λ k. sym (zeros 10 k false)) in
        let e : ◌≡◌ {A = ℕ → Bool} (λ k. false) (port (replicate 8 false)) = fun_ext port_low_lem in
        let f : ◌≡◌ {A = Timed → Option Moment} (λ t. none) (last_in fresh_state) = fun_ext no_scan in
        cc

    empty : aged (tape_in (fresh_stores n)) ≡ []
    empty = drop_of_length-le (replicate n.ring 0 ++ []) {i = length (replicate n.ring 0) - 0} (omega (arith, length-append {A = ℕ} (replicate n.ring 0) []))

-- ---- refusals

-- a ring that 31 and 32 do not refuse
pub ring_sound : (n : Lengths) (s : Stores) (m : Memory) → StoresKept n s m → between 1 32768 n.ring ≡ true → RingSound (length s.ring) (ring_state s.state)
ring_sound n s m k h =
    record { least = low; most = omega (arith, leb-true n.ring 32768 b.1, long); position = k.position low; filled = k.filled }
  where
    b : (leb 1 n.ring ≡ true) × (leb n.ring 32768 ≡ true)
    b = and_both (leb 1 n.ring) (leb n.ring 32768) h

    long : length s.ring ≡ n.ring
    long = ap (λ (z : Lengths). z.ring) k.lengths

    low : 1 ≤ length s.ring
    low = omega (arith, leb-true 1 n.ring b.0, long)

few : (l : List ℕ) → ((c : ℕ) → get_or l c 0 ≤ 16777215) → few_samples l ≡ true
unfolding few_samples
few [] h = refl
few (c ∷ r) h = ap (λ z. z && few_samples r) (le-leb c 16777215 (h 0)) ∙ few r (λ j. h (suc j))

in_order_lem : (n : Lengths) (s : Stores) (m : Memory) → StoresKept n s m → between 1 32768 n.ring ≡ true → in_order s ≡ true
in_order_lem n s m k h =
    let r = ring_sound n s m k h in
    ap (λ z. (z && leb s.state.filled (length s.ring)) && rest) (lt-ltb s.state.position (length s.ring) r.position)
    ∙ ap (λ z. z && rest) (le-leb s.state.filled (length s.ring) r.filled)
    ∙ ap (λ z. z && few_samples s.counts) (le-leb s.state.array 399 k.array)
    ∙ few s.counts k.counts
  where
    rest : Bool
    rest = leb s.state.array 399 && few_samples s.counts

pub lent_ring : (p : Program) (n : Lengths) (r : List Float) → all_lent p n r ≡ true → between 1 32768 n.ring ≡ true
lent_ring p n r h =
    let a = and_both (locations_lent p n) _ h in
    let b = and_both (eqb n.sums p.sums) _ a.1 in
    let c = and_both (eqb n.counts 297) _ b.1 in
    (and_both (eqb (length r) 196) (between 1 32768 n.ring) c.1).1

module _ (p : Program) (first second : ℕ) (ok : check p ≡ Verdict.Pass first second) (n : Lengths) (s : Stores) (m : Memory) (k : StoresKept n s m) where
  -- 30 is not met
  passed : is_passed p ≡ true
  unfolding is_pass
  passed = ap is_pass ok

  pub scan_refused : (t : Timed) (day time : ℕ) (r : List Float) → scan_refusal p s day time r ≡ refusal p n (scan t day time r)
  unfolding scan_refusal refusal
  scan_refused t day time r =
      ap (λ z. or (not z) 30 (or (not (all_lent p (lengths_of s) r)) 31 (or (not (in_order s)) 32 tick))) passed
      ∙ ap (λ z. or (not (all_lent p z r)) 31 (or (not (in_order s)) 32 tick)) k.lengths
      ∙ by (all_lent p n r) refl
    where
      tick : ℕ
      tick = or (not (is_tick day time)) 33 0

      by : (b : Bool) → all_lent p n r ≡ b → or (not b) 31 (or (not (in_order s)) 32 tick) ≡ or (not b) 31 tick
      by true e = ap (λ z. or (not z) 32 tick) (in_order_lem n s m k (lent_ring p n r e))
      by false e = refl

  pub key_refused : (l : ℕ) (v : Float) → key_refusal p (length s.locations) l v ≡ refusal p n (key_location l v)
  unfolding key_refusal refusal
  key_refused l v =
      ap (λ z. or (not z) 30 (or (not (eqb (length s.locations) p.locations)) 31 keyed)) passed
      ∙ ap (λ (z : Lengths). or (not (locations_lent p z)) 31 keyed) k.lengths
    where
      keyed : ℕ
      keyed = or (not (is_keyed p l v)) 34 0

  pub flag_refused : (f : ℕ) → flag_refusal p f ≡ refusal p n (key_flag f)
  unfolding flag_refusal refusal
  flag_refused f = ap (λ z. or (not z) 30 (or (not (between 1 8 f)) 34 0)) passed
