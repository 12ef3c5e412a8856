-- Words of some values and what some words say: each is computed from the definitions. Assumes nothing.
use Rattle.std.specs.Prelude.{◌≡◌, refl, true, false, pos, negsuc}
use Rattle.std.specs.Float.{nan, inf, fin}
use Rattle.base_float.specs.Finite.{stored}
use Rattle.storage_word.specs.Word.{digits_at, places_within, digits_within, negative, value_word, is_value, decimal_of}

-- 1 is 1.000
one : value_word (fin false 1 (pos 0)) ≡ 25576
unfolding value_word negative digits_within places_within digits_at
one = refl

-- 0.0625 is 0.063 and -0.0625 is -0.063: halves go away from zero
half : value_word (fin false 1 (negsuc 3)) ≡ 24639
unfolding value_word negative digits_within places_within digits_at
half = refl

minus_half : value_word (fin true 1 (negsuc 3)) ≡ 57407
unfolding value_word negative digits_within places_within digits_at
minus_half = refl

-- 14335 / 2048, which is 6.9995 and a little, is 7.00: its thousandths round to 7,000
rounds_over : value_word (fin false 14335 (negsuc 10)) ≡ 17084
unfolding value_word negative digits_within places_within digits_at
rounds_over = refl

-- 14333 / 2048, which is 6.9985 and a little, is 6.999
last_thousandth : value_word (fin false 14333 (negsuc 10)) ≡ 31575
unfolding value_word negative digits_within places_within digits_at
last_thousandth = refl

-- 6999.5 and more is 6999, with 0 places
large : value_word (fin false 13999 (negsuc 0)) ≡ 6999
unfolding value_word negative digits_within places_within digits_at
large = refl

-- what is not finite is -99,999, and that is -6999
not_a_number : value_word (stored nan) ≡ 39767
unfolding stored value_word negative digits_within places_within digits_at
not_a_number = refl

infinite : value_word (stored (inf false)) ≡ 39767
unfolding stored value_word negative digits_within places_within digits_at
infinite = refl

-- -0 and -1 / 8192 are 0.000 with no sign
minus_zero : value_word (fin true 0 (pos 0)) ≡ 24576
unfolding value_word negative digits_within places_within digits_at
minus_zero = refl

tiny : value_word (fin true 1 (negsuc 12)) ≡ 24576
unfolding value_word negative digits_within places_within digits_at
tiny = refl

-- 57407 says -0.063
said : decimal_of 57407 ≡ record { negative = true; places = 3; digits = 63 }
unfolding decimal_of
said = refl

-- 57344 would be -0.000, 17083 6.99 and 7000 7000 with 0 places: no value has these words
no_minus_zero : is_value 57344 ≡ false
unfolding is_value
no_minus_zero = refl

no_short : is_value 17083 ≡ false
unfolding is_value
no_short = refl

no_long : is_value 7000 ≡ false
unfolding is_value
no_long = refl
