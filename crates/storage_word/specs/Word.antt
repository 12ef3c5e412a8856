-- The 16-bit words of Final Storage: what word a value is stored as, and what a word says. Assumes nothing.
use Rattle.std.specs.Prelude.{ℕ, zero, suc, ◌+◌, ◌*◌, ◌/◌, ◌%◌, ◌^◌, min, Bool, true, false, cond, not, ◌&&◌, ◌||◌, leb, ltb, eqb, Float}
use Rattle.std.specs.Float.{nan, inf, fin}
use Rattle.std.specs.Float.Ieee.Positive.{num, den}
use Rattle.storage_word.specs.declared.Decimal.{Decimal}

-- ---- rounding a value to decimal digits: |x| is exactly num x / den x

-- a / c to the nearest whole number, halves up
abbrev pub nearest_up : ℕ → ℕ → ℕ
nearest_up a c = (2 * a + c) / (2 * c)

-- the digits of x with p places: |x| * 10 ^ p rounded, halves away from zero
unfoldable pub digits_at : ℕ → Float → ℕ
digits_at p x = nearest_up (num x * 10 ^ p) (den x)

-- 'Places is the largest of 3, 2, 1, 0 whose rounded digits are at most 6,999', with `most` for the 3 and `limit` for the 6,999
unfoldable pub places_within : ℕ → ℕ → Float → ℕ
places_within limit zero x = zero
places_within limit (suc most) x = cond (leb (digits_at (suc most) x) limit) (suc most) (places_within limit most x)

-- 'if none, 6,999 with 0 places'
unfoldable pub digits_within : ℕ → ℕ → Float → ℕ
digits_within limit most x = min (digits_at (places_within limit most x) x) limit

-- ---- the word of a value

abbrev pub places : Float → ℕ
places x = places_within 6999 3 x

abbrev pub digits : Float → ℕ
digits x = digits_within 6999 3 x

-- x has the sign -
abbrev pub minus : Float → Bool
minus nan = false
minus (inf s) = s
minus (fin s m e) = s

-- 'Digits 0 are never negative.'
unfoldable pub negative : Float → Bool
negative x = minus x && ltb 0 (digits x)

-- 'Value word: 32,768 if negative, plus 8,192 × places, plus digits.'
unfoldable pub value_word : Float → ℕ
value_word x = cond (negative x) 32768 0 + 8192 * places x + digits x

-- ---- what a word says

-- 'Start word: 64,512 + id.'
unfoldable pub start_word : ℕ → ℕ
start_word id = 64512 + id

-- 'a start word (64,512 or more)'
unfoldable pub is_start : ℕ → Bool
is_start w = leb 64512 w

-- the sign, places and digits in a word
unfoldable pub decimal_of : ℕ → Decimal
decimal_of w = record { negative = leb 32768 w; places = w / 8192 % 4; digits = w % 8192 }

-- Some value has this word: digits are at most 6,999; with fewer than 3 places at least 700, or there would have been a place more; and 0 is not negative.
unfoldable pub is_value : ℕ → Bool
is_value w =
    leb (w % 8192) 6999 && ((eqb (w / 8192 % 4) 3 || leb 700 (w % 8192)) && (not (leb 32768 w) || ltb 0 (w % 8192)))
