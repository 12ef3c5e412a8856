-- What the listing program prints: a whole array as a line, and a refusal. Assumes nothing.
use Rattle.std.specs.Prelude.{Option, Some, None, Result, Ok, Err, ℕ, zero, suc, ◌+◌, ◌-◌, ◌/◌, ◌%◌, ◌^◌, Bool, true, false, cond, List, [], ◌∷◌, ◌++◌, length, ltb}
use Rattle.storage_word.specs.declared.Decimal.{Decimal}
use Rattle.storage_word.specs.Word.{decimal_of}
use Rattle.storage_listing.specs.declared.Item.{Item}
use Rattle.storage_ring.specs.declared.RingState.{RingState}
use Rattle.storage_ring.specs.Ring.{by_age}
use Rattle.storage_listing.specs.Listing.{Array, arrays, shown, ring_refusal}

-- ---- numbers

-- the last k decimal digits of n; the bytes 48 to 57 are the digits 0 to 9
unfoldable pub figures : ℕ → ℕ → List ℕ
figures zero n = []
figures (suc k) n = (48 + n / 10 ^ k % 10) ∷ figures k n

-- how many digits a number below 100,000 has
unfoldable pub width : ℕ → ℕ
width n = cond (ltb n 10) 1 (cond (ltb n 100) 2 (cond (ltb n 1000) 3 (cond (ltb n 10000) 4 5)))

unfoldable pub numeral : ℕ → List ℕ
numeral n = figures (width n) n

-- ---- a value 'with its places'

-- `-` (45)
unfoldable pub sign : Bool → List ℕ
sign true = 45 ∷ []
sign false = []

-- a point (46) and the places behind it; with 0 places no point
unfoldable pub fraction : ℕ → ℕ → List ℕ
fraction zero n = []
fraction (suc k) n = 46 ∷ figures (suc k) n

unfoldable pub value_bytes : Decimal → List ℕ
value_bytes d = sign d.negative ++ (numeral (d.digits / 10 ^ d.places) ++ fraction d.places d.digits)

-- ---- 'one whole array a line: id, then each value with its places, after commas'

-- what a listing call answers: an id, or a comma (44) and a value; of none and of a refusal nothing
unfoldable pub item_bytes : Result (Option Item) ℕ → List ℕ
item_bytes (Ok None) = []
item_bytes (Err n) = []
item_bytes (Ok (Some (Item.Id id))) = numeral id
item_bytes (Ok (Some (Item.Value d))) = 44 ∷ value_bytes d

unfoldable pub values_bytes : List ℕ → List ℕ
values_bytes [] = []
values_bytes (w ∷ ws) = item_bytes (Ok (Some (Item.Value (decimal_of w)))) ++ values_bytes ws

unfoldable pub line_of_array : Array → List ℕ
line_of_array a = item_bytes (Ok (Some (Item.Id (a.start - 64512)))) ++ (values_bytes a.values ++ (10 ∷ []))

unfoldable pub lines_of_arrays : List Array → List ℕ
lines_of_arrays [] = []
lines_of_arrays (a ∷ rest) = line_of_array a ++ lines_of_arrays rest

-- ---- the arrays of a ring

abbrev pub arrays_unless : Result (Unit {0}) ℕ → List Array → List Array
arrays_unless (Ok u) l = l
arrays_unless (Err n) l = []

-- the arrays that the listing shows; none where the ring is refused
unfoldable pub held_arrays : List ℕ → RingState → List Array
held_arrays ring s = arrays_unless (ring_refusal (length ring) s) (shown (arrays (by_age ring s)))

-- ---- a refusal: '`E` and its number, table and entry', 69 and numbers after spaces

unfoldable pub spaced : ℕ → List ℕ
spaced k = 32 ∷ numeral k

unfoldable pub refusal_bytes : ℕ → ℕ → ℕ → List ℕ
refusal_bytes number table entry = 69 ∷ (spaced number ++ (spaced table ++ (spaced entry ++ (10 ∷ []))))
