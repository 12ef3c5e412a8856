-- What a search finds: an array by its place among the words by age, and which words are its own. Assumes nothing.
use Rattle.std.specs.Prelude.{◌≡◌, ℕ, ◌≤◌, ◌<◌, true, Option, Some, None, List, length, get_or}
use Rattle.storage_word.specs.Word.{is_start}
use Rattle.storage_listing.specs.declared.ArraySpan.{ArraySpan}
use Rattle.storage_listing.specs.Listing.{Array, array}
use Rattle.storage_listing.specs.Spans.{first, held}

-- the array that is found
abbrev pub array_of : List ℕ → Option ArraySpan → Option Array
array_of ws None = None
array_of ws (Some p) = Some (array (get_or ws p.start 0) (held ws p.start p.end))

-- it lies within the words and begins with a start word
abbrev pub Within : List ℕ → ArraySpan → Type 0
Within ws p = (p.start < p.end) × (p.end ≤ length ws) × (is_start (get_or ws p.start 0) ≡ true)

abbrev pub Bounds : List ℕ → Option ArraySpan → Type 0
Bounds ws None = Unit {0}
Bounds ws (Some p) = Within ws p

-- what is found is the first of the arrays left
pub record Sought (ws : List ℕ) (left : List ArraySpan) (r : Option ArraySpan) : Type 0 where
  pub is : r ≡ first left
  pub bounds : Bounds ws r
