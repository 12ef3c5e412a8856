-- Examples, each by computation: what is printed. Assumes nothing.
use Rattle.std.specs.Prelude.{◌≡◌, refl, false, [], ◌∷◌}
use Rattle.storage_word.specs.Word.{decimal_of}
use Rattle.storage_listing.specs.Listing.{array}
use Rattle.listing_output.specs.Shown.{figures, width, numeral, sign, fraction, value_bytes, item_bytes, values_bytes, line_of_array, refusal_bytes, spaced}

-- 102,2.500
worked : line_of_array (array 64614 (27076 ∷ [])) ≡ 49 ∷ 48 ∷ 50 ∷ 44 ∷ 50 ∷ 46 ∷ 53 ∷ 48 ∷ 48 ∷ 10 ∷ []
unfolding line_of_array values_bytes item_bytes value_bytes decimal_of sign fraction numeral width figures
worked = refl

-- 102,-0.063
worked_negative : line_of_array (array 64614 (57407 ∷ [])) ≡ 49 ∷ 48 ∷ 50 ∷ 44 ∷ 45 ∷ 48 ∷ 46 ∷ 48 ∷ 54 ∷ 51 ∷ 10 ∷ []
unfolding line_of_array values_bytes item_bytes value_bytes decimal_of sign fraction numeral width figures
worked_negative = refl

-- 6999, with 0 places
no_point : value_bytes (record { negative = false; places = 0; digits = 6999 }) ≡ 54 ∷ 57 ∷ 57 ∷ 57 ∷ []
unfolding value_bytes sign fraction numeral width figures
no_point = refl

-- 70.0
one_place : value_bytes (record { negative = false; places = 1; digits = 700 }) ≡ 55 ∷ 48 ∷ 46 ∷ 48 ∷ []
unfolding value_bytes sign fraction numeral width figures
one_place = refl

-- an array of no values
alone : line_of_array (array 64512 []) ≡ 48 ∷ 10 ∷ []
unfolding line_of_array values_bytes item_bytes numeral width figures
alone = refl

-- E 22 1 0
refused : refusal_bytes 22 1 0 ≡ 69 ∷ 32 ∷ 50 ∷ 50 ∷ 32 ∷ 49 ∷ 32 ∷ 48 ∷ 10 ∷ []
unfolding refusal_bytes spaced numeral width figures
refused = refl
