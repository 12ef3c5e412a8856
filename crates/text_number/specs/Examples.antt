-- Examples, each by computation: what a run of bytes says. Assumes nothing.
use Rattle.std.specs.Prelude.{◌≡◌, refl, true, false, [], ◌∷◌, pos, negsuc, Some, None}
use Rattle.std.specs.Float.{fin}
use Rattle.std.specs.Float.Ieee.{round}
use Rattle.text_number.specs.Keyed.{all_digits, value_from, whole_of, location_keyed, nearest, before_point, unsigned_of, fixed_of}

-- 0012345
leading_zeros : whole_of (48 ∷ 48 ∷ 49 ∷ 50 ∷ 51 ∷ 52 ∷ 53 ∷ []) ≡ Some 12345
unfolding whole_of all_digits value_from
leading_zeros = refl

-- 8 digits
eight_digits : whole_of (48 ∷ 48 ∷ 48 ∷ 48 ∷ 48 ∷ 48 ∷ 48 ∷ 48 ∷ []) ≡ None
unfolding whole_of all_digits value_from
eight_digits = refl

nothing : whole_of [] ≡ None
unfolding whole_of all_digits value_from
nothing = refl

-- 12--
indexed : location_keyed (49 ∷ 50 ∷ 45 ∷ 45 ∷ []) ≡ Some (record { number = 12; indexed = true })
unfolding location_keyed whole_of all_digits value_from
indexed = refl

-- 12-
one_dash : location_keyed (49 ∷ 50 ∷ 45 ∷ []) ≡ None
unfolding location_keyed whole_of all_digits value_from
one_dash = refl

-- --
only_dashes : location_keyed (45 ∷ 45 ∷ []) ≡ None
unfolding location_keyed whole_of all_digits value_from
only_dashes = refl

-- 0.1 is 13,421,773 / 2 ^ 27
tenth : fixed_of (48 ∷ 46 ∷ 49 ∷ []) ≡ Some (fin false 13421773 (negsuc 26))
unfolding fixed_of unsigned_of before_point all_digits value_from nearest round
tenth = refl

-- -2.5 is -5 / 2
minus : fixed_of (45 ∷ 50 ∷ 46 ∷ 53 ∷ []) ≡ Some (fin true 5 (negsuc 0))
unfolding fixed_of unsigned_of before_point all_digits value_from nearest round
minus = refl

-- -0.0
minus_zero : fixed_of (45 ∷ 48 ∷ 46 ∷ 48 ∷ []) ≡ Some (fin false 0 (pos 0))
unfolding fixed_of unsigned_of before_point all_digits value_from nearest round
minus_zero = refl

-- .5
no_digit_before : fixed_of (46 ∷ 53 ∷ []) ≡ None
unfolding fixed_of unsigned_of before_point all_digits value_from nearest round
no_digit_before = refl

-- 5.
no_digit_behind : fixed_of (53 ∷ 46 ∷ []) ≡ None
unfolding fixed_of unsigned_of before_point all_digits value_from nearest round
no_digit_behind = refl

-- 1.2.3
two_points : fixed_of (49 ∷ 46 ∷ 50 ∷ 46 ∷ 51 ∷ []) ≡ None
unfolding fixed_of unsigned_of before_point all_digits value_from nearest round
two_points = refl

-- 123.456
six_digits : fixed_of (49 ∷ 50 ∷ 51 ∷ 46 ∷ 52 ∷ 53 ∷ 54 ∷ []) ≡ None
unfolding fixed_of unsigned_of before_point all_digits value_from nearest round
six_digits = refl
