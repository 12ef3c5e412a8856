-- A run of values, found in the ring part by part: the words by age go on from the ring's last word to its first. Assumes nothing.
use Rattle.std.specs.Prelude.{◌≡◌, refl, ℕ, zero, suc, ◌+◌, ◌-◌, ◌≤◌, ◌<◌, Bool, true, false, List, length, get_or, ltb}
use Rattle.std.proofs.Common.{sym, ap, subst, ◌∙◌, arith, ltb-true, ltb-false}
use Rattle.storage_word.specs.Word.{is_start, is_value}
use Rattle.storage_ring.specs.declared.RingState.{RingState}
use Rattle.storage_ring.specs.Ring.{RingSound, by_age}
use Rattle.storage_ring.specs.RingLaws.{word_before_end, word_round}
use Rattle.storage_listing.specs.Seek.{Seeking, seeking_word}

pub record ValueAt (l : List ℕ) (j : ℕ) : Type 0 where
  pub value : is_value (get_or l j 0) ≡ true
  pub other : is_start (get_or l j 0) ≡ false

-- the words of l from `at` on are values up to r, and the one there, before `end`, is none
pub record ValuesTo (l : List ℕ) (at end r : ℕ) : Type 0 where
  pub least : at ≤ r
  pub most : r ≤ end
  pub values : (j : ℕ) → at ≤ j → j < r → ValueAt l j
  pub stop : r < end → is_value (get_or l r 0) ≡ false

-- ---- the loop over one part

pub values_none : (l : List ℕ) (at j : ℕ) → at ≤ j → j < at → ValueAt l j
values_none l at j h g = absurd (omega (arith, h, g))

pub values_more : (l : List ℕ) (at i : ℕ) → ((j : ℕ) → at ≤ j → j < i → ValueAt l j) → ValueAt l i → (j : ℕ) → at ≤ j → j < i + 1 → ValueAt l j
values_more l at i before here j h g = by (ltb j i) refl
  where
    by : (b : Bool) → ltb j i ≡ b → ValueAt l j
    by true e = before j h (ltb-true j i e)
    by false e = let z : i ≡ j = omega (arith, g, ltb-false j i e) in subst (ValueAt l) z here

-- ---- the words by age

module _ (ring : List ℕ) (s : RingState) (sound : RingSound (length ring) s) where
  abbrev base : ℕ
  base = s.position + (length ring - s.filled)

  same_value : (j k : ℕ) → get_or ring k 0 ≡ get_or (by_age ring s) j 0 → ValueAt ring k → ValueAt (by_age ring s) j
  same_value j k e v = record { value = ap is_value (sym e) ∙ v.value; other = ap is_start (sym e) ∙ v.other }

  before : (j : ℕ) → j < s.filled → base + j < length ring → ValueAt ring (base + j) → ValueAt (by_age ring s) j
  before j h g v = same_value j (base + j) (word_before_end ring s sound j h g) v

  behind : (j : ℕ) → j < s.filled → length ring ≤ base + j → ValueAt ring (base + j - length ring) → ValueAt (by_age ring s) j
  behind j h g v = same_value j (base + j - length ring) (word_round ring s sound j h g) v

  stop_behind : (r k : ℕ) → r < s.filled → length ring ≤ base + r → base + r - length ring ≡ k → is_value (get_or ring k 0) ≡ false
      → is_value (get_or (by_age ring s) r 0) ≡ false
  stop_behind r k h g e q = ap is_value (sym (word_round ring s sound r h g) ∙ ap (λ m. get_or ring m 0) e) ∙ q

  module _ (i : ℕ) (within : i ≤ s.filled) where
    -- all that is left lies from the ring's first word on
    pub run_round : (r : ℕ) → length ring ≤ base + i → ValuesTo ring (base + i - length ring) s.position r
        → ValuesTo (by_age ring s) i s.filled (r + length ring - base)
    run_round r g v =
        let a = v.least in
        let b = v.most in
        let f = sound.filled in
        record {
          least = omega (arith, a, g);
          most = omega (arith, a, b, g, f);
          values = λ j h k. behind j (omega (arith, a, b, g, f, k)) (omega (arith, g, h)) (v.values (base + j - length ring) (omega (arith, g, h)) (omega (arith, a, b, g, f, h, k)));
          stop = λ h. stop_behind (r + length ring - base) r h (omega (arith, a, g)) (omega (arith, a, g)) (v.stop (omega (arith, a, b, g, f, h)));
        }

    -- the run ends before the ring's last word
    pub run_stopped : (r : ℕ) → base + i < length ring → ValuesTo ring (base + i) (length ring) r → r < length ring
        → ValuesTo (by_age ring s) i s.filled (r - base)
    run_stopped r g v last =
        let a = v.least in
        let f = sound.filled in
        let here : base + (r - base) ≡ r = omega (arith, a) in
        record {
          least = omega (arith, a);
          most = omega (arith, a, f, last);
          values = λ j h k. before j (omega (arith, a, f, last, k)) (omega (arith, a, last, k)) (v.values (base + j) (omega (arith, h)) (omega (arith, a, k)));
          stop =
              λ h. ap is_value (sym (word_before_end ring s sound (r - base) h (omega (arith, here, last))) ∙ ap (λ m. get_or ring m 0) here) ∙ v.stop last;
        }

    -- it goes on from the ring's first word
    pub run_joined : (r q : ℕ) → base + i < length ring → ValuesTo ring (base + i) (length ring) r → length ring ≤ r → ValuesTo ring 0 s.position q
        → ValuesTo (by_age ring s) i s.filled (q + (length ring - base))
    run_joined r q g v last u =
        let b = u.most in
        let f = sound.filled in
        record {
          least = omega (arith, g);
          most = omega (arith, b, f, g);
          values = λ j h k. by j h k (ltb (base + j) (length ring)) refl;
          stop = λ h. stop_behind (q + (length ring - base)) q h (omega (arith, g)) (omega (arith, g)) (u.stop (omega (arith, b, f, g, h)));
        }
      where
        by : (j : ℕ) → i ≤ j → j < q + (length ring - base) → (t : Bool) → ltb (base + j) (length ring) ≡ t → ValueAt (by_age ring s) j
        by j h k true e =
            let x = ltb-true (base + j) (length ring) e in
            before j (omega (arith, k, u.most, sound.filled, g)) x (v.values (base + j) (omega (arith, h)) (omega (arith, x, last)))
        by j h k false e =
            let x = ltb-false (base + j) (length ring) e in
            behind j (omega (arith, k, u.most, sound.filled, g)) x (u.values (base + j - length ring) (omega arith) (omega (arith, k, x, g)))

-- ---- a run in the search

-- the array that has begun goes on over a run of values
pub seeking_run : (ws : List ℕ) (from start i : ℕ) (n : ℕ) → i + n ≤ length ws → ((j : ℕ) → i ≤ j → j < i + n → ValueAt ws j) → Seeking ws from i start true
    → Seeking ws from (i + n) start true
seeking_run ws from start i zero h v g = subst (λ k. Seeking ws from k start true) (omega arith) g
seeking_run ws from start i (suc n) h v g =
    let at = v i (omega arith) (omega arith) in
    subst (λ k. Seeking ws from k start true) (omega arith)
    (seeking_run ws from start (i + 1) n (omega (arith, h)) (λ j a b. v j (omega (arith, a)) (omega (arith, b)))
    (seeking_word ws i (omega (arith, h)) from start at.other g true (sym at.value)))

pub seeking_to : (ws : List ℕ) (from start i r : ℕ) → ValuesTo ws i (length ws) r → Seeking ws from i start true → Seeking ws from r start true
seeking_to ws from start i r v g =
    let e : i + (r - i) ≡ r = omega (arith, v.least) in
    subst (λ k. Seeking ws from k start true) e
    (seeking_run ws from start i (r - i) (omega (arith, v.least, v.most)) (λ j a b. v.values j a (omega (arith, b, v.least))) g)
