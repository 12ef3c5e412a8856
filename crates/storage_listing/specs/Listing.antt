-- The listing of Final Storage: the arrays of a list of words, which of them are shown, and their items. Assumes nothing.
use Rattle.std.specs.Prelude.{ℕ, zero, suc, ◌-◌, Bool, true, cond, ◌&&◌, Option, Some, None, Result, Ok, Err, List, [], ◌∷◌, length, get_or, ltb}
use Rattle.storage_word.specs.Word.{is_start, is_value, decimal_of}
use Rattle.storage_ring.specs.declared.RingState.{RingState}
use Rattle.storage_ring.specs.Ring.{by_age, sound_length, sound_state}
use Rattle.storage_listing.specs.declared.Item.{Item}

-- 'A whole array is a start word (64,512 or more) and all words up to the next start word or the newest word'
pub record Array : Type 0 where
  pub start : ℕ
  pub values : List ℕ

abbrev pub array : ℕ → List ℕ → Array
array w ws = record { start = w; values = ws }

unfoldable pub up_to_start : List ℕ → List ℕ
up_to_start [] = []
up_to_start (w ∷ ws) = cond (is_start w) [] (w ∷ up_to_start ws)

-- the whole arrays of words by age, oldest first; words before the first start word belong to none
unfoldable pub arrays : List ℕ → List Array
unfolding up_to_start
arrays [] = []
arrays (w ∷ ws) = cond (is_start w) (array w (up_to_start ws) ∷ arrays ws) (arrays ws)

unfoldable pub all_values : List ℕ → Bool
all_values [] = true
all_values (w ∷ ws) = is_value w && all_values ws

-- 'one that holds a word no value has is not shown, and the listing goes on at the next start word'
unfoldable pub shown : List Array → List Array
unfolding all_values
shown [] = []
shown (a ∷ rest) = cond (all_values a.values) (a ∷ shown rest) (shown rest)

-- array k, from 0
unfoldable pub nth : ℕ → List Array → Option Array
nth k [] = None
nth zero (a ∷ rest) = Some a
nth (suc k) (a ∷ rest) = nth k rest

-- item j, from 0: 'the id (item 0) or the value's sign, places and digits, or that there is none'
unfoldable pub item_of : ℕ → Option Array → Option Item
item_of j None = None
item_of zero (Some a) = Some (Item.Id (a.start - 64512))
item_of (suc j) (Some a) = cond (ltb j (length a.values)) (Some (Item.Value (decimal_of (get_or a.values j 0)))) None

-- 'the listing: 31 and 32 for the ring', of n words
unfoldable pub ring_refusal : ℕ → RingState → Result (Unit {0}) ℕ
ring_refusal n s = cond (sound_length n) (cond (sound_state n s) (Ok tt) (Err 32)) (Err 31)

abbrev pub unless_refused : Result (Unit {0}) ℕ → Option Item → Result (Option Item) ℕ
unless_refused (Ok u) o = Ok o
unless_refused (Err n) o = Err n

-- 'A listing call names array k and item j, both from 0'
unfoldable pub listed : List ℕ → RingState → ℕ → ℕ → Result (Option Item) ℕ
unfolding by_age arrays shown nth item_of ring_refusal
listed ring s k j = unless_refused (ring_refusal (length ring) s) (item_of j (nth k (shown (arrays (by_age ring s)))))
