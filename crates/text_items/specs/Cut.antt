-- Where pieces end, by number: what the code says of a text in terms of positions. Assumes nothing.
use Rattle.std.specs.Prelude.{ℕ, suc, ◌+◌, ◌-◌, ◌≤◌, ◌<◌, ◌≡◌, cond, List, [], ◌∷◌, length, get_or, take, drop, eqb}
use Rattle.text_items.specs.Split.{is_plain, items_of}

-- how many bytes stand before the first byte k, or in all where there is none
unfoldable pub before : ℕ → List ℕ → ℕ
before k [] = 0
before k (b ∷ s) = cond (eqb b k) 0 (suc (before k s))

-- how many bytes that items have stand first
unfoldable pub plain_first : List ℕ → ℕ
plain_first [] = 0
plain_first (b ∷ s) = cond (is_plain b) (suc (plain_first s)) 0

-- the end e of what starts at `at`, ended by byte k or by the end of s
pub record ByteFound (k : ℕ) (s : List ℕ) (at e : ℕ) : Type 0 where
  pub is : e ≡ at + before k (drop at s)
  pub from : at ≤ e
  pub within : e ≤ length s

-- the end e of the bytes of an item that start at `at`
pub record Word (s : List ℕ) (at e : ℕ) : Type 0 where
  pub is : e ≡ at + plain_first (drop at s)
  pub from : at ≤ e
  pub within : e ≤ length s

-- piece k of s, which is ws's, starts at `starts` k and ends one byte before the next one starts
pub record Piece (s starts : List ℕ) (ws : List (List ℕ)) (k : ℕ) : Type 0 where
  pub order : get_or starts k 0 < get_or starts (k + 1) 0
  pub within : get_or starts (k + 1) 0 ≤ length s + 1
  pub is : take (get_or starts (k + 1) 0 - 1 - get_or starts k 0) (drop (get_or starts k 0) s) ≡ get_or ws k []

-- the first 8 items of s have their starts
pub record ItemsCut (s starts : List ℕ) : Type 0 where
  pub room : length starts ≡ 10
  pub each : (k : ℕ) → k < length (items_of s) → k < 8 → Piece s starts (items_of s) k
