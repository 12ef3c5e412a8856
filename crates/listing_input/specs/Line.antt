-- What a line behind the keyed text says: a reading, a tick, or neither. Assumes nothing.
use Rattle.std.specs.Prelude.{ℕ, ◌-◌, cond, ◌&&◌, List, [], ◌∷◌, length, get_or, take, drop, leb, eqb, Float, Option, Some, None}
use Rattle.text_number.specs.Keyed.{whole_of}
use Rattle.text_items.specs.Split.{items_of, is_same}
use Rattle.text_parameters.specs.Parameter.{item, fixed_in}
use Rattle.base_program.specs.Ranges.{within}
use Rattle.base_program.specs.Channel.{single_numbers}
use Rattle.listing_input.specs.declared.Line.{Line}

-- 'There are 196 single-ended readings': 'a later line of another form, or a reading outside 1 to 196, prints `E 1 0 0`'
unfoldable pub reading_of : Option ℕ → Option Float → Option Line
reading_of (Some n) (Some v) = cond (within single_numbers n) (Some (Line.Reading n v)) None
reading_of (Some n) None = None
reading_of None v = None

-- a day and T; their ranges are 33's matter
unfoldable pub tick_of : Option ℕ → Option ℕ → Option Line
tick_of (Some day) (Some time) = Some (Line.Tick day time)
tick_of (Some day) None = None
tick_of None time = None

-- `reading`
abbrev pub the_reading : List ℕ
the_reading = 114 ∷ 101 ∷ 97 ∷ 100 ∷ 105 ∷ 110 ∷ 103 ∷ []

-- `tick`
abbrev pub the_tick : List ℕ
the_tick = 116 ∷ 105 ∷ 99 ∷ 107 ∷ []

-- '`(reading n v)` and `(tick day T)` lines, v written as F': the items between `(` and `)`
unfoldable pub line_in : List (List ℕ) → Option Line
line_in ws =
    cond (eqb (length ws) 3)
    (cond (is_same (item ws 0) the_reading)
    (reading_of (whole_of (item ws 1)) (fixed_in ws 2))
    (cond (is_same (item ws 0) the_tick) (tick_of (whole_of (item ws 1)) (whole_of (item ws 2))) None))
    None

-- a line without its byte 10
unfoldable pub line_of : List ℕ → Option Line
line_of l =
    cond (leb 2 (length l) && (eqb (get_or l 0 0) 40 && eqb (get_or l (length l - 1) 0) 41))
    (line_in (items_of (take (length l - 1 - 1) (drop 1 l))))
    None
