-- What a run of bytes says as a whole number, as a location, or as a fixed value. Assumes nothing.
use Rattle.std.specs.Prelude.{ℕ, suc, ◌+◌, ◌-◌, ◌*◌, ◌^◌, Bool, true, false, cond, ◌&&◌, List, [], ◌∷◌, ◌++◌, length, get_or, take, drop, leb, ltb, eqb, Float, Option, Some, None}
use Rattle.std.specs.Float.{binary32}
use Rattle.std.specs.Float.Ieee.{round}
use Rattle.text_number.specs.declared.KeyedLocation.{KeyedLocation}

-- ---- digits

-- The bytes 48 to 57 are the digits 0 to 9.
abbrev pub is_digit : ℕ → Bool
is_digit b = leb 48 b && leb b 57

unfoldable pub all_digits : List ℕ → Bool
all_digits [] = true
all_digits (b ∷ s) = is_digit b && all_digits s

-- The number that is written by v's digits and then those of s, in decimal.
unfoldable pub value_from : ℕ → List ℕ → ℕ
value_from v [] = v
value_from v (b ∷ s) = value_from (v * 10 + (b - 48)) s

abbrev pub value : List ℕ → ℕ
value s = value_from 0 s

-- 1 to `most` digits and nothing else
abbrev pub is_numeral : ℕ → List ℕ → Bool
is_numeral most s = leb 1 (length s) && (leb (length s) most && all_digits s)

-- ---- whole numbers

-- 'Whole numbers have 1 to 7 digits; leading zeros are allowed.'
unfoldable pub whole_of : List ℕ → Option ℕ
whole_of s = cond (is_numeral 7 s) (Some (value s)) None

-- ---- locations

-- the last two bytes are `--`
abbrev pub is_dashed : List ℕ → Bool
is_dashed s = leb 2 (length s) && (eqb (get_or s (length s - 2) 0) 45 && eqb (get_or s (length s - 1) 0) 45)

abbrev pub located : Option ℕ → Bool → Option KeyedLocation
located (Some n) indexed = Some (record { number = n; indexed = indexed })
located None indexed = None

-- 'A location with `--` behind it is indexed.'
unfoldable pub location_keyed : List ℕ → Option KeyedLocation
location_keyed s = cond (is_dashed s) (located (whole_of (take (length s - 2) s)) true) (located (whole_of s) false)

-- ---- F, multiplier and offset

-- 'the value is the nearest binary32, halves to the even last bit. Zero keyed with `-` is +0.': n / 10 ^ k, negated where `negative`
unfoldable pub nearest : Bool → ℕ → ℕ → Float
nearest negative n k = round binary32 (negative && ltb 0 n) n (10 ^ k)

-- how many bytes stand before the first point (46), or in all where there is none
unfoldable pub before_point : List ℕ → ℕ
before_point [] = 0
before_point (b ∷ s) = cond (eqb b 46) 0 (suc (before_point s))

-- digits `a`, and behind a point digits `b`: at least one on each side and at most 5 in all
abbrev pub pointed : Bool → List ℕ → List ℕ → Option Float
pointed negative a b =
    cond (leb 1 (length a) && (leb 1 (length b) && is_numeral 5 (a ++ b)))
    (Some (nearest negative (value (a ++ b)) (length b)))
    None

-- '1 to 5 digits, and at most one point with a digit on each side'
unfoldable pub unsigned_of : Bool → List ℕ → Option Float
unsigned_of negative s =
    cond (ltb (before_point s) (length s))
    (pointed negative (take (before_point s) s) (drop (before_point s + 1) s))
    (cond (is_numeral 5 s) (Some (nearest negative (value s) 0)) None)

-- 'an optional `-`' (45)
unfoldable pub fixed_of : List ℕ → Option Float
fixed_of [] = None
fixed_of (b ∷ s) = cond (eqb b 45) (unsigned_of true s) (unsigned_of false (b ∷ s))
