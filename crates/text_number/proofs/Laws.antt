-- Laws of what is keyed: the digits' value and its bound, the bounds of a whole number and of a location, and the sign and finiteness of a fixed value. Assumes nothing.
use Rattle.std.specs.Prelude.{ℕ, zero, suc, ◌+◌, ◌-◌, ◌*◌, ◌^◌, ◌≤◌, ◌<◌, ◌≡◌, refl, Bool, true, false, cond, ◌&&◌, List, [], ◌∷◌, ◌++◌, length, take, drop, pos, T, leb, ltb, eqb, Float, Option, Some, None}
use Rattle.std.proofs.Common.{add-zero, zero-add, add-suc, suc-add, zero-mul, pow-suc, lt_of_lt_of_le, zero-lt-suc, arith, sym, ap, ◌∙◌, subst, leb-true, lt-ltb}
use Rattle.std.proofs.Math.Nat.{pow-le-pow_right}
use Rattle.std.specs.Float.{nan, inf, fin, Format, binary32}
use Rattle.std.specs.Float.Ieee.{prec, emax, low, odd, units, round, neg, le, lt, eq}
use Rattle.std.specs.Float.Ieee.Fits.{round_is}
use Rattle.std.specs.Float.Ieee.Order.{round_mono}
use Rattle.std.specs.Float.Ieee.Scale.{round_same, finite}
use Rattle.text_number.specs.declared.KeyedLocation.{KeyedLocation}
use Rattle.text_number.specs.Keyed.{is_digit, all_digits, value_from, value, is_numeral, whole_of, is_dashed, located, location_keyed, nearest, before_point, pointed, unsigned_of, fixed_of}

-- ---- digits

-- Digits are read on from what those before them say.
pub value_from_append : (v : ℕ) (s t : List ℕ) → value_from v (s ++ t) ≡ value_from (value_from v s) t
unfolding value_from
value_from_append v [] t = refl
value_from_append v (b ∷ s) t = value_from_append (v * 10 + (b - 48)) s t

-- One more digit: ten times the number and the digit.
pub value_last : (s : List ℕ) (d : ℕ) → value (s ++ d ∷ []) ≡ value s * 10 + (d - 48)
unfolding value_from
value_last s d = value_from_append 0 s (d ∷ [])

-- Leading zeros say nothing.
pub leading_zero : (s : List ℕ) → value (48 ∷ s) ≡ value s
unfolding value_from
leading_zero s = refl

pub all_digits_append : (s t : List ℕ) → all_digits (s ++ t) ≡ (all_digits s && all_digits t)
unfolding all_digits
all_digits_append [] t = refl
all_digits_append (b ∷ s) t = ap (λ x. is_digit b && x) (all_digits_append s t) ∙ regroup (is_digit b) (all_digits s) (all_digits t)
  where
    regroup : (p q r : Bool) → (p && (q && r)) ≡ (p && q && r)
    regroup true q r = refl
    regroup false q r = refl

pub and_left : (p q : Bool) → (p && q) ≡ true → p ≡ true
and_left true q h = refl
and_left false q h = h

pub and_right : (p q : Bool) → (p && q) ≡ true → q ≡ true
and_right true q h = h
and_right false q h = absurd (no h)
  where
    no : false ≡ true → ⊥
    no e = let z : ◌≡◌ {A = ℕ} 0 1 = cc in omega arith

-- What is read is no less than what stood before it.
pub value_from_grows : (v : ℕ) (s : List ℕ) → v ≤ value_from v s
unfolding value_from
value_from_grows v [] = omega arith
value_from_grows v (b ∷ s) = omega (arith, value_from_grows (v * 10 + (b - 48)) s)

next_small : (v b p : ℕ) → b ≤ 57 → v < p → v * 10 + (b - 48) < p * 10
next_small v b p h l = omega arith

value_from_small : (k v : ℕ) (s : List ℕ) → all_digits s ≡ true → v < 10 ^ k → value_from v s < 10 ^ (k + length s)
unfolding all_digits value_from
value_from_small k v [] h l = subst (λ x. v < 10 ^ x) (sym (add-zero k)) l
value_from_small k v (b ∷ s) h l =
    let digit : b ≤ 57 = leb-true b 57 (and_right (leb 48 b) (leb b 57) (and_left (is_digit b) (all_digits s) h)) in
    let here : v * 10 + (b - 48) < 10 ^ suc k = subst (λ x. v * 10 + (b - 48) < x) (sym (pow-suc 10 k)) (next_small v b (10 ^ k) digit l) in
    subst (λ x. value_from (v * 10 + (b - 48)) s < 10 ^ x) (suc-add k (length s) ∙ sym (add-suc k (length s)))
    (value_from_small (suc k) (v * 10 + (b - 48)) s (and_right (is_digit b) (all_digits s) h) here)

-- n digits say a number below 10 ^ n.
pub value_small : (s : List ℕ) → all_digits s ≡ true → value s < 10 ^ length s
value_small s h = subst (λ x. value s < 10 ^ x) (zero-add (length s)) (value_from_small 0 0 s h (zero-lt-suc 0))

pub value_within : (most : ℕ) (s : List ℕ) → length s ≤ most → all_digits s ≡ true → value s < 10 ^ most
value_within most s short h = lt_of_lt_of_le (value_small s h) (pow-le-pow_right (zero-lt-suc 9) short)

pub numeral_digits : (most : ℕ) (s : List ℕ) → is_numeral most s ≡ true → all_digits s ≡ true
numeral_digits most s h = and_right (leb (length s) most) (all_digits s) (and_right (leb 1 (length s)) (leb (length s) most && all_digits s) h)

pub numeral_small : (most : ℕ) (s : List ℕ) → is_numeral most s ≡ true → value s < 10 ^ most
numeral_small most s h =
    let rest = and_right (leb 1 (length s)) (leb (length s) most && all_digits s) h in
    value_within most s (leb-true (length s) most (and_left (leb (length s) most) (all_digits s) rest)) (and_right (leb (length s) most) (all_digits s) rest)

-- ---- whole numbers and locations

-- A whole number has 7 digits at most.
pub whole_small : (s : List ℕ) (n : ℕ) → whole_of s ≡ Some n → n < 10 ^ 7
unfolding whole_of
whole_small s n h = go (is_numeral 7 s) refl h
  where
    go : (t : Bool) → is_numeral 7 s ≡ t → cond t (Some (value s)) None ≡ Some n → n < 10 ^ 7
    go true e h = let q : value s ≡ n = cc in subst (λ x. x < 10 ^ 7) q (numeral_small 7 s e)
    go false e h = absurd (let z : ◌≡◌ {A = ℕ} 0 1 = cc in omega arith)

located_small : (s : List ℕ) (w : Option ℕ) (t : Bool) (n : ℕ) (indexed : Bool) → whole_of s ≡ w → located w t ≡ Some (record { number = n; indexed = indexed }) → n < 10 ^ 7
located_small s (Some m) t n indexed e h =
    let r : ◌≡◌ {A = KeyedLocation} (record { number = m; indexed = t }) (record { number = n; indexed = indexed }) = cc in
    let q : m ≡ n = ap (λ l. l.number) r in
    subst (λ x. x < 10 ^ 7) q (whole_small s m e)
located_small s None t n indexed e h = absurd (let z : ◌≡◌ {A = ℕ} 0 1 = cc in omega arith)

pub location_small : (s : List ℕ) (n : ℕ) (indexed : Bool) → location_keyed s ≡ Some (record { number = n; indexed = indexed }) → n < 10 ^ 7
unfolding location_keyed
location_small s n indexed h = go (is_dashed s) h
  where
    go : (t : Bool) → cond t (located (whole_of (take (length s - 2) s)) true) (located (whole_of s) false) ≡ Some (record { number = n; indexed = indexed }) → n < 10 ^ 7
    go true h = located_small (take (length s - 2) s) (whole_of (take (length s - 2) s)) true n indexed refl h
    go false h = located_small s (whole_of s) false n indexed refl h

-- ---- fixed values

pub ten_pos : (k : ℕ) → 0 < 10 ^ k
ten_pos k = pow-le-pow_right (zero-lt-suc 9) {i = 0} {j = k} (omega arith)

zero_rounds : round binary32 false 0 1 ≡ fin false 0 (pos 0)
unfolding round
zero_rounds = refl

no_sign : (negative : Bool) → (negative && ltb 0 0) ≡ false
no_sign true = refl
no_sign false = refl

-- Zero is +0, with `-` and without.
pub nearest_zero : (negative : Bool) (k : ℕ) → nearest negative 0 k ≡ fin false 0 (pos 0)
unfolding nearest
nearest_zero negative k =
    ap (λ t. round binary32 t 0 (10 ^ k)) (no_sign negative)
    ∙ round_same binary32 false 0 (10 ^ k) 0 1 (ten_pos k) (zero-lt-suc 0) (sym (zero-mul (10 ^ k)))
    ∙ zero_rounds

neg_odd : (d q k l : ℕ) → neg (odd d false q k l) ≡ odd d true q k l
unfolding odd neg
neg_odd d zero k l = refl
neg_odd d (suc q) k l = refl

neg_units : (f : Format) (q k : ℕ) → neg (units f false q k) ≡ units f true q k
unfolding units neg
neg_units f q k = go (ltb (q * 2 ^ k) (2 ^ (low f + suc (emax f))))
  where
    go : (t : Bool) → neg (cond t (odd (suc (prec f)) false q k (low f)) (inf false)) ≡ cond t (odd (suc (prec f)) true q k (low f)) (inf true)
    go true = neg_odd (suc (prec f)) q k (low f)
    go false = refl

-- Rounding is the same on both sides of zero.
pub neg_round : (f : Format) (a c : ℕ) → neg (round f false a c) ≡ round f true a c
neg_round f a c = ap neg (round_is f false a c) ∙ neg_units f _ _ ∙ sym (round_is f true a c)

-- `-` negates what is not zero.
pub nearest_negative : (n k : ℕ) → 0 < n → nearest true n k ≡ neg (nearest false n k)
unfolding nearest
nearest_negative n k h = ap (λ t. round binary32 t n (10 ^ k)) (lt-ltb 0 n h) ∙ sym (neg_round binary32 n (10 ^ k))

finite_between : (x y : Float) → T (le (fin false 0 (pos 0)) x) → T (le x y) → T (finite y) → T (finite x)
unfolding le lt eq
finite_between nan y h k f = absurd h
finite_between (inf true) y h k f = absurd h
finite_between (inf false) nan h k f = absurd f
finite_between (inf false) (inf t) h k f = absurd f
finite_between (inf false) (fin t m e) h k f = absurd k
finite_between (fin t m e) y h k f = tt

finite_neg : (x : Float) → T (finite x) → T (finite (neg x))
unfolding neg
finite_neg nan h = h
finite_neg (inf s) h = h
finite_neg (fin s m e) h = h

top_finite : T (finite (round binary32 false (10 ^ 5) 1))
unfolding round
top_finite = tt

plus_finite : (n d : ℕ) → n < 10 ^ 5 → 0 < d → T (finite (round binary32 false n d))
plus_finite n d h D =
    let from_zero : T (le (fin false 0 (pos 0)) (round binary32 false n d)) =
    subst (λ z. T (le z (round binary32 false n d))) zero_rounds (round_mono binary32 0 1 n d (zero-lt-suc 0) D (subst (λ z. z ≤ n * 1) (sym (zero-mul d)) (omega arith))) in
    let small : n * 1 ≤ 10 ^ 5 * d = omega arith in
    finite_between (round binary32 false n d) (round binary32 false (10 ^ 5) 1) from_zero (round_mono binary32 n d (10 ^ 5) 1 D (zero-lt-suc 0) small) top_finite

round_finite : (negative : Bool) (n d : ℕ) → n < 10 ^ 5 → 0 < d → T (finite (round binary32 negative n d))
round_finite false n d h D = plus_finite n d h D
round_finite true n d h D = subst (λ z. T (finite z)) (neg_round binary32 n d) (finite_neg (round binary32 false n d) (plus_finite n d h D))

pub nearest_finite : (negative : Bool) (n k : ℕ) → n < 10 ^ 5 → T (finite (nearest negative n k))
unfolding nearest
nearest_finite negative n k h = round_finite (negative && ltb 0 n) n (10 ^ k) h (ten_pos k)

valued : (t negative : Bool) (n k : ℕ) (x : Float) → (t ≡ true → n < 10 ^ 5) → cond t (Some (nearest negative n k)) None ≡ Some x → T (finite x)
valued true negative n k x h e = let q : nearest negative n k ≡ x = cc in subst (λ z. T (finite z)) q (nearest_finite negative n k (h refl))
valued false negative n k x h e = absurd (let z : ◌≡◌ {A = ℕ} 0 1 = cc in omega arith)

unsigned_finite : (negative : Bool) (s : List ℕ) (x : Float) → unsigned_of negative s ≡ Some x → T (finite x)
unfolding unsigned_of
unsigned_finite negative s x h = go (ltb (before_point s) (length s)) h
  where
    go : (t : Bool) → cond t (pointed negative (take (before_point s) s) (drop (before_point s + 1) s)) (cond (is_numeral 5 s) (Some (nearest negative (value s) 0)) None) ≡ Some x → T (finite x)
    go true e =
        valued _ negative _ (length (drop (before_point s + 1) s)) x
        (λ p. numeral_small 5 (take (before_point s) s ++ drop (before_point s + 1) s) (and_right (leb 1 (length (drop (before_point s + 1) s))) _ (and_right (leb 1 (length (take (before_point s) s))) _ p))) e
    go false e = valued (is_numeral 5 s) negative (value s) 0 x (λ p. numeral_small 5 s p) e

-- A fixed value is finite.
pub fixed_finite : (s : List ℕ) (x : Float) → fixed_of s ≡ Some x → T (finite x)
unfolding fixed_of
fixed_finite [] x h = absurd (let z : ◌≡◌ {A = ℕ} 0 1 = cc in omega arith)
fixed_finite (b ∷ s) x h = go (eqb b 45) h
  where
    go : (t : Bool) → cond t (unsigned_of true s) (unsigned_of false (b ∷ s)) ≡ Some x → T (finite x)
    go true e = unsigned_finite true s x e
    go false e = unsigned_finite false (b ∷ s) x e
