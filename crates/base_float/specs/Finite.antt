-- Which values are finite, and what is stored in place of one that is not. Assumes nothing.
use Rattle.std.specs.Prelude.{Bool, true, false, cond, pos, Float}
use Rattle.std.specs.Float.{nan, inf, fin}

-- Neither an infinity nor `nan`.
unfoldable pub finite : Float → Bool
finite nan = false
finite (inf s) = false
finite (fin s m e) = true

-- -99,999
abbrev pub overrange : Float
overrange = fin true 99999 (pos 0)

-- 'What would be stored and isn't finite is stored as -99,999; a location or sum that isn't finite is read so.'
unfoldable pub stored : Float → Float
unfolding finite
stored x = cond (finite x) x overrange

-- 'Fresh means all zero, .. low and empty, no scan yet.'
abbrev pub zero_float : Float
zero_float = fin false 0 (pos 0)
