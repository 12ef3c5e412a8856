-- Lines of bytes, each ended by byte 10, and the line of a place of a keyed text. Assumes nothing.
use Rattle.std.specs.Prelude.{ℕ, zero, suc, ◌-◌, ◌≤◌, ◌≡◌, Bool, cond, ◌&&◌, List, [], ◌∷◌, length, get_or, drop, eqb}

-- from the first byte 10 on
unfoldable pub ending : List ℕ → List ℕ
ending [] = []
ending (b ∷ s) = cond (eqb b 10) (b ∷ s) (ending s)

-- behind the first line
abbrev pub behind : List ℕ → List ℕ
behind s = drop 1 (ending s)

-- behind n lines
unfoldable pub behind_lines : ℕ → List ℕ → List ℕ
behind_lines zero s = s
behind_lines (suc n) s = behind_lines n (behind s)

-- the first line is `)`
unfoldable pub is_close : List ℕ → Bool
is_close s = eqb (get_or s 0 0) 41 && eqb (get_or s 1 0) 10

-- behind the first k lines `)`, looking at n lines
unfoldable pub behind_closes : ℕ → ℕ → List ℕ → List ℕ
behind_closes zero k s = s
behind_closes (suc n) k s = cond (eqb k 0) s (behind_closes n (cond (is_close s) (k - 1) k) (behind s))

-- 'A line's place is its table and entry: a table's first line is entry 0, its `)` one past the last entry': from that line on, where table t is 1 to 3. A keyed text has at most 305 lines, 101 of each table and the program's own two.
unfoldable pub from_place : ℕ → ℕ → List ℕ → List ℕ
from_place t e s = behind_lines e (behind_closes 400 (t - 1) (behind s))

-- `at` stands in s from `from` on, and what stands there is `rest`
pub record Stands (s : List ℕ) (from at : ℕ) (rest : List ℕ) : Type 0 where
  pub is : drop at s ≡ rest
  pub on : from ≤ at
  pub within : at ≤ length s

-- from word k on, the first being word 0
unfoldable pub from_word : ℕ → List ℕ → List ℕ
from_word zero s = s
from_word (suc k) [] = []
from_word (suc k) (b ∷ s) = cond (eqb b 32) (from_word k s) (from_word (suc k) s)

-- b before the first of the lines
abbrev pub longer : ℕ → List (List ℕ) → List (List ℕ)
longer b [] = (b ∷ []) ∷ []
longer b (l ∷ ls) = (b ∷ l) ∷ ls

-- the lines, each without its byte 10; behind the last byte 10 there is none
unfoldable pub lines : List ℕ → List (List ℕ)
lines [] = []
lines (b ∷ s) = cond (eqb b 10) ([] ∷ lines s) (longer b (lines s))
