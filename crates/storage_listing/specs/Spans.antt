-- Where the arrays that are shown lie among the words by age. Assumes nothing.
use Rattle.std.specs.Prelude.{Option, Some, None, ℕ, ◌+◌, ◌-◌, Bool, false, cond, ◌&&◌, ◌||◌, List, [], ◌∷◌, length, take, drop, eqb}
use Rattle.storage_word.specs.Word.{is_start}
use Rattle.storage_listing.specs.declared.ArraySpan.{ArraySpan}
use Rattle.storage_listing.specs.Listing.{up_to_start, all_values}

abbrev pub span : ℕ → ℕ → ArraySpan
span start end = record { start = start; end = end }

-- the arrays that are shown, oldest first, of words with n older ones in front: a start word and all words up to the next one, if they are values
unfoldable pub spans : ℕ → List ℕ → List ArraySpan
unfolding up_to_start all_values
spans n [] = []
spans n (w ∷ ws) = cond (is_start w && all_values (up_to_start ws)) (span n (n + 1 + length (up_to_start ws)) ∷ spans (n + 1) ws) (spans (n + 1) ws)

-- those from the word on that has n older ones
abbrev pub spans_from : List ℕ → ℕ → List ArraySpan
spans_from ws n = spans n (drop n ws)

abbrev pub first : List ArraySpan → Option ArraySpan
first [] = None
first (p ∷ rest) = Some p

-- the words behind the start word at `start` and before i
abbrev pub held : List ℕ → ℕ → ℕ → List ℕ
held ws start i = take (i - (start + 1)) (drop (start + 1) ws)

-- of one of the arrays the place asked for, where it begins or where it ends, is word n
unfoldable pub any_at : (ArraySpan → ℕ) → List ArraySpan → ℕ → Bool
any_at place [] n = false
any_at place (p ∷ rest) n = eqb (place p) n || any_at place rest n

-- one of them begins at word n
abbrev pub begins_at : List ArraySpan → ℕ → Bool
begins_at l n = any_at (λ p. p.start) l n

-- one of them ends before word n
abbrev pub ends_at : List ArraySpan → ℕ → Bool
ends_at l n = any_at (λ p. p.end) l n
