-- Bytes cut at one byte: a text into lines at byte 10, a line into items at the space. Assumes nothing.
use Rattle.std.specs.Prelude.{ℕ, Bool, true, false, cond, not, ◌&&◌, ◌||◌, List, [], ◌∷◌, eqb}

-- a byte in front of the first piece
abbrev pub on_first : ℕ → List (List ℕ) → List (List ℕ)
on_first b [] = (b ∷ []) ∷ []
on_first b (w ∷ ws) = (b ∷ w) ∷ ws

-- The pieces between the bytes k, in order: n bytes k leave n + 1 pieces.
unfoldable pub split : ℕ → List ℕ → List (List ℕ)
split k [] = [] ∷ []
split k (b ∷ s) = cond (eqb b k) ([] ∷ split k s) (on_first b (split k s))

-- 'An item is one or more bytes other than space, `(`, `)` and 10': 32, 40, 41 and 10
abbrev pub is_plain : ℕ → Bool
is_plain b = not (eqb b 32 || (eqb b 40 || (eqb b 41 || eqb b 10)))

unfoldable pub all_plain : List ℕ → Bool
all_plain [] = true
all_plain (b ∷ s) = is_plain b && all_plain s

abbrev pub is_some : List ℕ → Bool
is_some [] = false
is_some (b ∷ s) = true

unfoldable pub is_item : List ℕ → Bool
is_item s = is_some s && all_plain s

unfoldable pub all_items : List (List ℕ) → Bool
all_items [] = true
all_items (w ∷ ws) = is_item w && all_items ws

-- the items between single spaces; none where one of them is no item
unfoldable pub items_of : List ℕ → List (List ℕ)
items_of s = cond (all_items (split 32 s)) (split 32 s) []

-- two runs of bytes are the same
unfoldable pub is_same : List ℕ → List ℕ → Bool
is_same [] [] = true
is_same [] (b ∷ t) = false
is_same (a ∷ s) [] = false
is_same (a ∷ s) (b ∷ t) = eqb a b && is_same s t
