-- Examples, each by computation: what lines say, and where texts end. Assumes nothing.
use Rattle.std.specs.Prelude.{◌≡◌, refl, false, [], ◌∷◌, negsuc, Some, None}
use Rattle.std.specs.Float.{fin}
use Rattle.std.specs.Float.Ieee.{round}
use Rattle.text_number.specs.Keyed.{all_digits, value_from, whole_of, nearest, before_point, unsigned_of, fixed_of}
use Rattle.text_items.specs.Split.{split, all_plain, is_item, all_items, items_of, is_same}
use Rattle.text_parameters.specs.Parameter.{fixed_in}
use Rattle.base_lines.specs.Line.{is_close}
use Rattle.listing_input.specs.declared.Line.{Line}
use Rattle.listing_input.specs.Line.{reading_of, tick_of, line_in, line_of}
use Rattle.listing_input.specs.Extent.{two_closes, extent_from, extent_of}

-- (reading 1 2.5)
reading : line_of (40 ∷ 114 ∷ 101 ∷ 97 ∷ 100 ∷ 105 ∷ 110 ∷ 103 ∷ 32 ∷ 49 ∷ 32 ∷ 50 ∷ 46 ∷ 53 ∷ 41 ∷ []) ≡ Some (Line.Reading 1 (fin false 5 (negsuc 0)))
unfolding line_of line_in items_of split all_items is_item all_plain is_same reading_of whole_of all_digits value_from fixed_in fixed_of unsigned_of before_point nearest round
reading = refl

-- (reading 0 1)
reading_none : line_of (40 ∷ 114 ∷ 101 ∷ 97 ∷ 100 ∷ 105 ∷ 110 ∷ 103 ∷ 32 ∷ 48 ∷ 32 ∷ 49 ∷ 41 ∷ []) ≡ None
unfolding line_of line_in items_of split all_items is_item all_plain is_same reading_of whole_of all_digits value_from fixed_in fixed_of unsigned_of before_point nearest round
reading_none = refl

-- (tick 1 80)
tick : line_of (40 ∷ 116 ∷ 105 ∷ 99 ∷ 107 ∷ 32 ∷ 49 ∷ 32 ∷ 56 ∷ 48 ∷ 41 ∷ []) ≡ Some (Line.Tick 1 80)
unfolding line_of line_in items_of split all_items is_item all_plain is_same tick_of whole_of all_digits value_from
tick = refl

-- (tick 1 8.0)
tick_pointed : line_of (40 ∷ 116 ∷ 105 ∷ 99 ∷ 107 ∷ 32 ∷ 49 ∷ 32 ∷ 56 ∷ 46 ∷ 48 ∷ 41 ∷ []) ≡ None
unfolding line_of line_in items_of split all_items is_item all_plain is_same tick_of whole_of all_digits value_from
tick_pointed = refl

-- a blank line
blank : line_of [] ≡ None
unfolding line_of
blank = refl

-- `x)`, then two lines `)`, and more
after_two : extent_of (120 ∷ 41 ∷ 10 ∷ 41 ∷ 10 ∷ 41 ∷ 10 ∷ 40 ∷ []) ≡ Some 7
unfolding extent_of extent_from two_closes is_close
after_two = refl

-- two lines `)`, the second with no byte 10
not_yet : extent_of (41 ∷ 10 ∷ 41 ∷ []) ≡ None
unfolding extent_of extent_from two_closes is_close
not_yet = refl
