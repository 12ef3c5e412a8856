-- How much of the input is the keyed text. Assumes nothing.
use Rattle.std.specs.Prelude.{ℕ, ◌+◌, Bool, true, cond, ◌&&◌, List, [], ◌∷◌, length, drop, eqb, Option, Some, None}
use Rattle.base_lines.specs.Line.{is_close}

-- two `)` lines stand first, each with its byte 10
unfoldable pub two_closes : List ℕ → Bool
two_closes s = is_close s && is_close (drop 2 s)

-- from the place with n bytes before it, where a line `starts` or not
unfoldable pub extent_from : Bool → ℕ → List ℕ → Option ℕ
extent_from starts n [] = None
extent_from starts n (b ∷ s) = cond (starts && two_closes (b ∷ s)) (Some (n + 4)) (extent_from (eqb b 10) (n + 1) s)

-- 'The text is the input up to the first `)` line straight after a `)` line, or all of it.'
unfoldable pub extent_of : List ℕ → Option ℕ
extent_of s = extent_from true 0 s

-- how many bytes of s are the text
abbrev pub length_in : Option ℕ → List ℕ → ℕ
length_in None s = length s
length_in (Some n) s = n

unfoldable pub text_length : List ℕ → ℕ
text_length s = length_in (extent_of s) s
