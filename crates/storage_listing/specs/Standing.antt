-- Where an array that is shown begins, what bounds it, and whether one is open at a word: what the search for where a cursor stands goes by. Assumes nothing.
use Rattle.std.specs.Prelude.{Option, Some, None, Bool, ◌&&◌, ◌||◌, List, length, get_or, eqb}
use Prim.Native.Nat.{ℕ, zero, suc}
use Rattle.std.proofs.Math.Bool.{false, cond}
use Rattle.std.proofs.Math.Dec.{ltb}
use Rattle.storage_word.specs.Word.{is_start, is_value}
use Rattle.storage_listing.specs.declared.ArraySpan.{ArraySpan}

-- what is found begins at word n
unfoldable pub found_at : Option ArraySpan → ℕ → Bool
found_at None n = false
found_at (Some p) n = eqb p.start n

-- word n is a start word, or the one behind the newest
unfoldable pub is_bound : List ℕ → ℕ → Bool
is_bound ws n = cond (ltb n (length ws)) (is_start (get_or ws n 0)) (eqb n (length ws))

-- before word n an array has begun and is whole so far
unfoldable pub open_at : List ℕ → ℕ → Bool
open_at ws zero = false
open_at ws (suc i) = is_start (get_or ws i 0) || (open_at ws i && is_value (get_or ws i 0))
