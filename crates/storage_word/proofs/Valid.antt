-- The value words are the words with `is_value`, each the word of a finite binary32: a word's fields are read off again, and n / 2048, with n the least that reaches the digits, has the word asked for. Assumes nothing.
use Rattle.std.specs.Prelude.{◌≡◌, ◌⊎◌, Bool, cond, not, ◌&&◌, ◌||◌, ℕ, zero, suc, ◌+◌, ◌-◌, ◌*◌, ◌/◌, ◌%◌, ◌^◌, ◌≤◌, ◌<◌, T, leb, eqb, Float}
use Rattle.std.proofs.Math.Path.{refl}
use Rattle.std.proofs.Common.{sym, ap, ◌∙◌, subst, inl, inr, lt_of_lt_of_le, mul_assoc, mul_left_comm, arith, lit<, lit≤, shl_lt}
use Rattle.std.proofs.Math.Bool.{true, false}
use Rattle.std.proofs.lemmas.Bool.{false≢true}
use Rattle.std.proofs.Math.Nat.{min-eq_left, pow-succ'}
use Rattle.std.proofs.Math.Dec.{ltb}
use Rattle.std.specs.Float.{nan, inf, fin}
use Rattle.std.specs.Float.Ieee.{binary32, round, fits}
use Rattle.std.specs.Float.Ieee.Exact.{HasValue, round_exact}
use Rattle.std.specs.Float.Ieee.Fits.{round-fits}
use Rattle.std.specs.Float.Ieee.Positive.{num, den}
use Rattle.base_float.specs.Finite.{finite}
use borrow.Author.Tests.{leb-true, leb-false, le-leb, lt-leb, lt-ltb, ltb-true, eqb-true, eq-eqb, not-true}
use Rattle.storage_word.specs.Word.{nearest_up, digits_at, digits_within, places, digits, minus, negative, value_word, start_word, is_start, decimal_of, is_value}
use Rattle.storage_word.proofs.Rounding.{nearest_least, nearest_only, places_most, places_only, more_places, digits_same, digits_limit, digits_least}

-- ---- a word put together from a sign, places and digits, and its fields again

abbrev pub joined : Bool → ℕ → ℕ → ℕ
joined s p d = cond s 32768 0 + 8192 * p + d

pub joined_digits : (s : Bool) (p d : ℕ) → d ≤ 6999 → joined s p d % 8192 ≡ d
joined_digits true p d h = omega arith
joined_digits false p d h = omega arith

pub joined_places : (s : Bool) (p d : ℕ) → p ≤ 3 → d ≤ 6999 → joined s p d / 8192 % 4 ≡ p
joined_places true p d g h = omega arith
joined_places false p d g h = omega arith

pub joined_sign : (s : Bool) (p d : ℕ) → p ≤ 3 → d ≤ 6999 → leb 32768 (joined s p d) ≡ s
joined_sign true p d g h = le-leb 32768 (joined true p d) (omega arith)
joined_sign false p d g h = lt-leb 32768 (joined false p d) (omega arith)

pub joined_small : (s : Bool) (p d : ℕ) → p ≤ 3 → d ≤ 6999 → joined s p d < 64512
joined_small true p d g h = omega arith
joined_small false p d g h = omega arith

pub apart : (w : ℕ) → w < 65536 → joined (leb 32768 w) (w / 8192 % 4) (w % 8192) ≡ w
apart w h = go (leb 32768 w) refl
  where
    go : (s : Bool) → leb 32768 w ≡ s → joined s (w / 8192 % 4) (w % 8192) ≡ w
    go true e = let k = leb-true 32768 w e in omega arith
    go false e = let k = leb-false 32768 w e in omega arith

-- ---- the word of a value

few_places : (x : Float) → places x ≤ 3
few_places x = places_most 6999 3 x

few_digits : (x : Float) → digits x ≤ 6999
few_digits x = digits_limit 6999 3 x

word_is : (x : Float) → value_word x ≡ joined (negative x) (places x) (digits x)
unfolding value_word
word_is x = refl

-- below every start word
pub value_below : (x : Float) → value_word x < 64512
value_below x = rw word_is (joined_small (negative x) (places x) (digits x) (few_places x) (few_digits x))

pub value_word_small : (x : Float) → value_word x < 65536
value_word_small x = let h = value_below x in omega arith

pub value_never_start : (x : Float) → is_start (value_word x) ≡ false
unfolding is_start
value_never_start x = lt-leb 64512 (value_word x) (value_below x)

-- and no start word is a value word
pub start_never_value : (w : ℕ) → w < 65536 → is_start w ≡ true → is_value w ≡ false
unfolding is_start is_value
start_never_value w h k =
    let g = leb-true 64512 w k in
    rw (lt-leb (w % 8192) 6999 (omega arith))

-- an id has a start word of its own
pub start_is_start : (id : ℕ) → id < 1024 → (is_start (start_word id) ≡ true) × (start_word id < 65536)
unfolding is_start start_word
start_is_start id h = (le-leb 64512 (64512 + id) (omega arith), omega arith)

-- the sign, places and digits are read back
pub value_decimal : (x : Float) → decimal_of (value_word x) ≡ record { negative = negative x; places = places x; digits = digits x }
unfolding decimal_of
value_decimal x =
    rw (word_is x, joined_sign (negative x) (places x) (digits x) (few_places x) (few_digits x), joined_places (negative x) (places x) (digits x) (few_places x) (few_digits x), joined_digits (negative x) (places x) (digits x) (few_digits x))

-- ---- the fields of a value word

abbrev judged : Bool → ℕ → ℕ → Bool
judged s p d = leb d 6999 && ((eqb p 3 || leb 700 d) && (not s || ltb 0 d))

record Judged (s : Bool) (p d : ℕ) : Type 0 where
  few : d ≤ 6999
  filled : (p ≡ 3) ⊎ (700 ≤ d)
  signed : (s ≡ false) ⊎ (0 < d)

or_true : (a b : Bool) → (a ≡ true) ⊎ (b ≡ true) → a || b ≡ true
or_true true b h = refl
or_true false b (inl h) = absurd (false≢true h)
or_true false b (inr h) = h

or_cases : (a b : Bool) → a || b ≡ true → (a ≡ true) ⊎ (b ≡ true)
or_cases true b h = inl refl
or_cases false b h = inr h

and_true : (a b : Bool) → a ≡ true → b ≡ true → a && b ≡ true
and_true true b g h = h
and_true false b g h = g

and_first : (a b : Bool) → a && b ≡ true → a ≡ true
and_first true b h = refl
and_first false b h = h

and_second : (a b : Bool) → a && b ≡ true → b ≡ true
and_second true b h = h
and_second false b h = absurd (false≢true h)

judged_true : (s : Bool) (p d : ℕ) → Judged s p d → judged s p d ≡ true
judged_true s p d j =
    and_true (leb d 6999) ((eqb p 3 || leb 700 d) && (not s || ltb 0 d)) (le-leb d 6999 j.few)
    (and_true (eqb p 3 || leb 700 d) (not s || ltb 0 d) (or_true (eqb p 3) (leb 700 d) (full j.filled)) (or_true (not s) (ltb 0 d) (sign j.signed)))
  where
    full : (p ≡ 3) ⊎ (700 ≤ d) → (eqb p 3 ≡ true) ⊎ (leb 700 d ≡ true)
    full (inl h) = inl (eq-eqb p 3 h)
    full (inr h) = inr (le-leb 700 d h)

    sign : (s ≡ false) ⊎ (0 < d) → (not s ≡ true) ⊎ (ltb 0 d ≡ true)
    sign (inl h) = inl (ap not h)
    sign (inr h) = inr (lt-ltb 0 d h)

true_judged : (s : Bool) (p d : ℕ) → judged s p d ≡ true → Judged s p d
true_judged s p d h =
    let a = leb d 6999 in
    let b = eqb p 3 || leb 700 d in
    let c = not s || ltb 0 d in
    record {
      few = leb-true d 6999 (and_first a (b && c) h);
      filled = full (or_cases (eqb p 3) (leb 700 d) (and_first b c (and_second a (b && c) h)));
      signed = sign (or_cases (not s) (ltb 0 d) (and_second b c (and_second a (b && c) h)));
    }
  where
    full : (eqb p 3 ≡ true) ⊎ (leb 700 d ≡ true) → (p ≡ 3) ⊎ (700 ≤ d)
    full (inl h) = inl (eqb-true p 3 h)
    full (inr h) = inr (leb-true 700 d h)

    sign : (not s ≡ true) ⊎ (ltb 0 d ≡ true) → (s ≡ false) ⊎ (0 < d)
    sign (inl h) = inl (not-true s h)
    sign (inr h) = inr (ltb-true 0 d h)

zero_plain : (m : Bool) (d : ℕ) → (m && ltb 0 d ≡ false) ⊎ (0 < d)
zero_plain m d = go m (ltb 0 d) (ltb-true 0 d)
  where
    go : (m b : Bool) → (b ≡ true → 0 < d) → (m && b ≡ false) ⊎ (0 < d)
    go m true h = inr (h refl)
    go true false h = inl refl
    go false false h = inl refl

value_judged : (x : Float) → Judged (negative x) (places x) (digits x)
unfolding negative
value_judged x = record { few = few_digits x; filled = digits_least 6999 3 700 x (lit≤ tt); signed = zero_plain (minus x) (digits x) }

-- every word of a value is a value word
pub value_word_valid : (x : Float) → is_value (value_word x) ≡ true
unfolding is_value
value_word_valid x =
    rw (word_is x, joined_sign (negative x) (places x) (digits x) (few_places x) (few_digits x), joined_places (negative x) (places x) (digits x) (few_places x) (few_digits x), joined_digits (negative x) (places x) (digits x) (few_digits x))
    (judged_true (negative x) (places x) (digits x) (value_judged x))

-- what a value word says: at most 3 places, digits up to 6,999, and a sign only where there are digits
pub decimal_of_value : (w : ℕ) → is_value w ≡ true → ((decimal_of w).places ≤ 3) × ((decimal_of w).digits ≤ 6999) × (((decimal_of w).negative ≡ false) ⊎ (0 < (decimal_of w).digits))
unfolding decimal_of is_value
decimal_of_value w h =
    let j = true_judged (leb 32768 w) (w / 8192 % 4) (w % 8192) h in
    (omega arith, j.few, j.signed)

-- ---- a finite binary32 that has the word asked for

-- the least n with n / 2048 not below d / 10 ^ p
abbrev least : ℕ → ℕ → ℕ
least p d = (d * 2048 + (10 ^ p - 1)) / 10 ^ p

record Reaches (p d : ℕ) : Type 0 where
  small : least p d < 16777216
  reach : d * 2048 ≤ least p d * 10 ^ p
  near : least p d * 10 ^ p < d * 2048 + 1024

reaches : (p d : ℕ) → p ≤ 3 → d ≤ 6999 → Reaches p d
reaches zero d g h = omega arith
reaches (suc zero) d g h = omega arith
reaches (suc (suc zero)) d g h = omega arith
reaches (suc (suc (suc zero))) d g h = omega arith
reaches (suc (suc (suc (suc p)))) d g h = absurd (let z : ⊥ = omega arith in z)

-- any value that is a / c in size, c above 0
cross : (x : Float) (s : Bool) (a c : ℕ) → HasValue x s a c → num x * c ≡ a * den x
cross nan s a c h = absurd h
cross (inf t) s a c h = absurd h
cross (fin t m e) s a c h = h.1

minus_of : (x : Float) (s : Bool) (a c : ℕ) → HasValue x s a c → minus x ≡ s
minus_of nan s a c h = absurd h
minus_of (inf t) s a c h = absurd h
minus_of (fin t m e) s a c h = h.0

finite_of : (x : Float) (s : Bool) (a c : ℕ) → HasValue x s a c → finite x ≡ true
unfolding finite
finite_of nan s a c h = absurd h
finite_of (inf t) s a c h = absurd h
finite_of (fin t m e) s a c h = refl

pub digits_of : (p : ℕ) (x : Float) (s : Bool) (a c : ℕ) → 0 < c → HasValue x s a c → digits_at p x ≡ nearest_up (a * 10 ^ p) c
digits_of p x s a c C h = digits_same p x a c C (cross x s a c h)

example : Bool → ℕ → ℕ → Float
example s p d = round binary32 s (least p d) 2048

module _ (s : Bool) (p d : ℕ) (j : Judged s p d) (g : p ≤ 3) where
  abbrev x : Float
  x = example s p d

  abbrev n : ℕ
  n = least p d

  r : Reaches p d
  r = reaches p d g j.few

  value : HasValue x s n 2048
  unfolding example
  value = round_exact binary32 s n 2048 n 138 (lit< tt) r.small (lt_of_lt_of_le (shl_lt 24 138 r.small) (lit≤ tt)) (sym (mul_assoc n (2 ^ 138) 2048))

  digits_there : digits_at p x ≡ d
  digits_there = digits_of p x s n 2048 (lit< tt) value ∙ (let l = r.reach in let h = r.near in nearest_only (n * 10 ^ p) 2048 d (omega arith) (omega arith))

  next_place : 10 * d ≤ digits_at (suc p) x
  next_place =
      let e : n * 10 ^ suc p ≡ 10 * (n * 10 ^ p) = ap (λ (z : ℕ). n * z) (pow-succ' 10 p) ∙ mul_left_comm n 10 (10 ^ p) in
      let h = r.reach in
      subst (λ (z : ℕ). 10 * d ≤ z) (sym (digits_of (suc p) x s n 2048 (lit< tt) value)) (nearest_least (n * 10 ^ suc p) 2048 (10 * d) (lit< tt) (omega arith))

  over : (q : ℕ) → p < q → q ≤ 3 → 6999 < digits_at q x
  over q h k = go j.filled
    where
      go : (p ≡ 3) ⊎ (700 ≤ d) → 6999 < digits_at q x
      go (inl f) = absurd (let z : ⊥ = omega arith in z)
      go (inr f) = let a = next_place in let b = more_places (suc p) q x h in omega arith

  places_are : places x ≡ p
  places_are = places_only 6999 3 p x g (inl (let h = digits_there in let k = j.few in omega arith)) over

  digits_are : digits x ≡ d
  unfolding digits_within
  digits_are = rw (places_are, digits_there) (min-eq_left j.few)

  sign_is : negative x ≡ s
  unfolding negative
  sign_is = rw (minus_of x s n 2048 value, digits_are) (go s j.signed)
    where
      go : (s : Bool) → (s ≡ false) ⊎ (0 < d) → s && ltb 0 d ≡ s
      go true (inl h) = absurd (false≢true (sym h))
      go true (inr h) = lt-ltb 0 d h
      go false h = refl

  word_there : value_word x ≡ joined s p d
  word_there = rw (word_is x, sign_is, places_are, digits_are)

  fits_there : T (fits binary32 x)
  unfolding example
  fits_there = round-fits binary32 s n 2048

  finite_there : finite x ≡ true
  finite_there = finite_of x s n 2048 value

-- every value word is the word of a finite binary32
pub valid_word : (w : ℕ) → w < 65536 → is_value w ≡ true → (x : Float) × (T (fits binary32 x)) × (finite x ≡ true) × (value_word x ≡ w)
unfolding is_value
valid_word w h k =
    let s = leb 32768 w in
    let p = w / 8192 % 4 in
    let d = w % 8192 in
    let j = true_judged s p d k in
    let g : p ≤ 3 = omega arith in
    (example s p d, fits_there s p d j g, finite_there s p d j g, word_there s p d j g ∙ apart w h)
