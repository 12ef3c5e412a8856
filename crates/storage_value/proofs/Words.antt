-- What the code's returns say of words: each test that led to one decides a part of the definition, and a value without its sign is shown alike. Assumes nothing.
use mathlib.Core.Path.{◌≡◌, refl, sym, ap, ◌∙◌, subst}
use mathlib.Core.Logic.{◌⊎◌, inl, inr}
use mathlib.Core.Bool.{Bool, true, false, cond, ◌&&◌, false≢true}
use Prim.Native.Nat.{ℕ, zero, suc, ◌+◌, ◌*◌, ◌/◌, ◌^◌, ◌≤◌, ◌<◌}
use native.Mathlib.Nat.{zero-mul, le-div_iff_mul-le}
use native.Mathlib.Omega.{arith}
use lib.Dec.{T, ltb, lt→ltb}
use lib.IntN.{pos}
use lib.Pow.{pow_pos}
use lib.Ieee.{Float, nan, inf, fin, up, down, neg, lt}
use lib.Ieee.Positive.{num, den, positive, first_pos, den_pos}
use borrow.Author.Tests.{ltb-true, ltb-false, lt-ltb}
use Rattle.base_float.specs.Finite.{finite, stored}
use Rattle.storage_word.specs.Word.{nearest_up, digits_at, places_within, digits_within, places, digits, minus, negative, value_word}
use Rattle.storage_value.specs.Shown.{Quotient, Shows}
use Rattle.storage_word.proofs.Rounding.{nearest_only, digits_cut, places_only, more_places, digits_same}

-- ---- figures_of

-- with the digits over the limit at the next place
shows_at : (x : Float) (p : ℕ) → p ≤ 3 → digits_at p x ≤ 6999 → (p ≡ 3) ⊎ (6999 < digits_at (suc p) x) → Shows x p (digits_at p x)
unfolding digits_within
shows_at x p g h o =
    let q : places x ≡ p = places_only 6999 3 p x g (inl h) (over o) in
    record {
      places_are = sym q;
      digits_are = rw q (omega arith);
      few_places = g;
      few_digits = h;
    }
  where
    over : (p ≡ 3) ⊎ (6999 < digits_at (suc p) x) → (q : ℕ) → p < q → q ≤ 3 → 6999 < digits_at q x
    over (inl f) q l m = absurd (let z : ⊥ = omega arith in z)
    over (inr f) q l m = let b = more_places (suc p) q x l in omega arith

shows_over : (x : Float) → 6999 < digits_at 0 x → Shows x 0 6999
unfolding digits_within
shows_over x l =
    let q : places x ≡ 0 = places_only 6999 3 0 x (omega arith) (inr refl) (λ (q : ℕ) (f : 0 < q) (k : q ≤ 3). let b = more_places 0 q x (omega arith) in omega arith) in
    record {
      places_are = sym q;
      digits_are = rw q (omega arith);
      few_places = omega arith;
      few_digits = omega arith;
    }

module _ (x : Float) (s n : ℕ) (q : Quotient x s n) where
  digits_are : (p r : ℕ) → r ≡ nearest_up (s * 10 ^ p) (2 ^ n) → r ≡ digits_at p x
  digits_are p r e = e ∙ sym (digits_same p x s (2 ^ n) (pow_pos n) q.value)

  shows_here : (p r : ℕ) → p ≤ 3 → r ≡ nearest_up (s * 10 ^ p) (2 ^ n) → r ≤ 6999 → (p ≡ 3) ⊎ (6999 < digits_at (suc p) x) → Shows x p r
  shows_here p r g e h o = let d = digits_are p r e in subst (λ (z : ℕ). Shows x p z) (sym d) (shows_at x p g (omega arith) o)

  pub shows_most : (r : ℕ) → r ≡ nearest_up (s * 10 ^ 3) (2 ^ n) → r ≤ 6999 → Shows x 3 r
  shows_most r e h = shows_here 3 r (omega arith) e h (inl refl)

  pub shows_next : (p r o : ℕ) → p < 3 → r ≡ nearest_up (s * 10 ^ p) (2 ^ n) → r ≤ 6999 → o ≡ nearest_up (s * 10 ^ suc p) (2 ^ n) → 6999 < o → Shows x p r
  shows_next p r o g e h f k = let d = digits_are (suc p) o f in shows_here p r (omega arith) e h (inr (omega arith))

  pub shows_none : (o : ℕ) → o ≡ nearest_up (s * 10 ^ 0) (2 ^ n) → 6999 < o → Shows x 0 6999
  shows_none o f k = let d = digits_are 0 o f in shows_over x (omega arith)

-- ---- shown

pub shows_large : (x : Float) → 8192 * den x ≤ num x → Shows x 0 6999
shows_large x h =
    let c : 8192 ≤ num x * 10 ^ 0 / den x = (le-div_iff_mul-le (den_pos x)).1 (omega arith) in
    let d = digits_cut 0 x in
    shows_over x (omega arith)

-- ---- word_of_finite

abbrev nought : Float
nought = fin false 0 (pos 0)

pub above_zero : (x : Float) → finite x ≡ true → lt nought x ≡ true → T (positive x)
unfolding finite lt
above_zero nan f t = absurd (false≢true f)
above_zero (inf s) f t = absurd (false≢true f)
above_zero (fin true m e) f t = absurd (false≢true t)
above_zero (fin false m e) f t =
    let h : 0 * 1 * down e < m * up e * 1 = ltb-true (0 * 1 * down e) (m * up e * 1) t in
    lt→ltb 0 m (first_pos m (up e) (omega arith))

pub below_zero : (x : Float) → finite x ≡ true → lt x nought ≡ true → T (positive (neg x))
unfolding finite lt neg
below_zero nan f t = absurd (false≢true f)
below_zero (inf s) f t = absurd (false≢true f)
below_zero (fin true m e) f t =
    let h : 0 < m * up e * 1 + 0 * 1 * down e = ltb-true 0 (m * up e * 1 + 0 * 1 * down e) t in
    let z : 0 * 1 * down e ≡ 0 = zero-mul (down e) in
    lt→ltb 0 m (first_pos m (up e) (omega arith))
below_zero (fin false m e) f t =
    let h : m * up e * 1 < 0 * 1 * down e = ltb-true (m * up e * 1) (0 * 1 * down e) t in
    let z : 0 * 1 * down e ≡ 0 = zero-mul (down e) in
    absurd (let y : ⊥ = omega arith in y)

-- neither above zero nor below it
nothing : (x : Float) → lt nought x ≡ false → lt x nought ≡ false → num x ≡ 0
unfolding lt
nothing nan t u = refl
nothing (inf s) t u = refl
nothing (fin false m e) t u =
    let h : m * up e * 1 ≤ 0 * 1 * down e = ltb-false (0 * 1 * down e) (m * up e * 1) t in
    let z : 0 * 1 * down e ≡ 0 = zero-mul (down e) in
    omega arith
nothing (fin true m e) t u =
    let h : m * up e * 1 + 0 * 1 * down e ≤ 0 = ltb-false 0 (m * up e * 1 + 0 * 1 * down e) u in
    omega arith

no_digits : (p : ℕ) (x : Float) → num x ≡ 0 → digits_at p x ≡ 0
unfolding digits_at
no_digits p x n =
    let e : num x * 10 ^ p ≡ 0 = ap (λ (z : ℕ). z * 10 ^ p) n ∙ zero-mul (10 ^ p) in
    nearest_only (num x * 10 ^ p) (den x) 0 (omega arith) (let D = den_pos x in omega arith)

-- 0 is shown as 0.000
pub at_zero : (x : Float) → lt nought x ≡ false → lt x nought ≡ false → 24576 ≡ value_word x
unfolding value_word negative digits_within
at_zero x t u =
    let n : num x ≡ 0 = nothing x t u in
    let z : (p : ℕ) → digits_at p x ≡ 0 = λ (p : ℕ). no_digits p x n in
    let q : places x ≡ 3 = places_only 6999 3 3 x (omega arith) (inl (let k = z 3 in omega arith)) (λ (q : ℕ) (f : 3 < q) (k : q ≤ 3). omega arith) in
    rw (q, z 3) (go (minus x))
  where
    go : (s : Bool) → 24576 ≡ cond (s && ltb 0 0) 32768 0 + 8192 * 3 + 0
    go true = refl
    go false = refl

positive_plain : (x : Float) → T (positive x) → minus x ≡ false
positive_plain nan p = absurd p
positive_plain (inf s) p = absurd p
positive_plain (fin true m e) p = absurd p
positive_plain (fin false m e) p = refl

pub plain : (x : Float) (p d : ℕ) → T (positive x) → Shows x p d → 8192 * p + d ≡ value_word x
unfolding value_word negative
plain x p d t s =
    let a = s.places_are in
    let b = s.digits_are in
    rw (positive_plain x t) (omega arith)

-- the sign changes neither places nor digits
places_neg : (x : Float) → places (neg x) ≡ places x
unfolding neg places_within digits_at
places_neg nan = refl
places_neg (inf s) = refl
places_neg (fin s m e) = refl

digits_neg : (x : Float) → digits (neg x) ≡ digits x
unfolding neg digits_within places_within digits_at
digits_neg nan = refl
digits_neg (inf s) = refl
digits_neg (fin s m e) = refl

minus_neg : (x : Float) → T (positive (neg x)) → minus x ≡ true
unfolding neg
minus_neg nan p = absurd p
minus_neg (inf s) p = absurd p
minus_neg (fin true m e) p = refl
minus_neg (fin false m e) p = absurd p

-- below zero: with the sign where there are digits
pub signed_none : (x : Float) (p d : ℕ) → T (positive (neg x)) → Shows (neg x) p d → d ≡ 0 → 8192 * p ≡ value_word x
unfolding value_word negative
signed_none x p d t s z =
    let a : p ≡ places x = s.places_are ∙ places_neg x in
    let b : digits x ≡ 0 = sym (digits_neg x) ∙ sym s.digits_are ∙ z in
    rw (minus_neg x t, b) (omega arith)

pub signed_some : (x : Float) (p d : ℕ) → T (positive (neg x)) → Shows (neg x) p d → (d ≡ 0 → ⊥) → 32768 + 8192 * p + d ≡ value_word x
unfolding value_word negative
signed_some x p d t s z =
    let a : p ≡ places x = s.places_are ∙ places_neg x in
    let b : d ≡ digits x = s.digits_are ∙ digits_neg x in
    rw (minus_neg x t, lt-ltb 0 (digits x) (omega arith)) (omega arith)

-- ---- value_word

pub stored_finite : (x : Float) → finite (stored x) ≡ true
unfolding stored finite
stored_finite nan = refl
stored_finite (inf s) = refl
stored_finite (fin s m e) = refl
