-- The listing array by array: what is left to write from a word on. Assumes nothing.
use Rattle.std.specs.Prelude.{Result, Some, None, Ok, Err, ◌≡◌, length, get_or, take, drop}
use Rattle.std.proofs.Math.Path.{refl, ap}
use Rattle.std.proofs.Common.{sym, ◌∙◌, arith, add-one, drop-cons}
use Prim.Native.Nat.{ℕ, suc, ◌+◌, ◌-◌, ◌≤◌, ◌<◌}
use mathlib.Core.List.{List, [], ◌∷◌, ◌++◌}
use Rattle.storage_word.specs.Word.{decimal_of}
use Rattle.storage_ring.specs.declared.RingState.{RingState}
use Rattle.storage_ring.specs.Ring.{by_age}
use Rattle.storage_listing.specs.declared.ArraySpan.{ArraySpan}
use Rattle.storage_listing.specs.declared.Item.{Item}
use Rattle.storage_listing.specs.Listing.{Array, array, arrays, shown, ring_refusal}
use Rattle.storage_listing.specs.Spans.{spans_from, first, held}
use Rattle.storage_listing.proofs.Spots.{array_at}
use Rattle.storage_listing.proofs.Laws.{found_array, found_none}
use Rattle.listing_output.specs.Shown.{item_bytes, values_bytes, line_of_array, lines_of_arrays, arrays_unless, held_arrays}

-- ---- the values of an array

-- the words from i on and before `end`
abbrev pub until : List ℕ → ℕ → ℕ → List ℕ
until ws i end = take (end - i) (drop i ws)

pub until_next : (ws : List ℕ) (i end : ℕ) → i < end → end ≤ length ws
    → values_bytes (until ws i end) ≡ item_bytes (Ok (Some (Item.Value (decimal_of (get_or ws i 0))))) ++ values_bytes (until ws (i + 1) end)
unfolding values_bytes
until_next ws i end h most =
    ap values_bytes
    (ap (λ l. take (end - i) l) (drop-cons ws i 0 (omega (arith, h, most)) ∙ ap (λ n. get_or ws i 0 ∷ drop n ws) (sym (add-one i)))
    ∙ ap (λ n. take n (get_or ws i 0 ∷ drop (i + 1) ws)) (let g : end - i ≡ suc (end - (i + 1)) = omega arith in g))

pub until_over : (ws : List ℕ) (i end : ℕ) → end ≤ i → values_bytes (until ws i end) ≡ []
unfolding values_bytes
until_over ws i end h = ap (λ n. values_bytes (take n (drop i ws))) (let g : end - i ≡ 0 = omega arith in g)

-- ---- the arrays

-- what is left to write from word n on
abbrev pub lines_from : List ℕ → ℕ → List ℕ
lines_from ws n = lines_of_arrays (shown (arrays (drop n ws)))

-- the array that lies there
abbrev pub line_at : List ℕ → ArraySpan → List ℕ
line_at ws p = line_of_array (array_at ws p)

pub lines_next : (ws : List ℕ) (n : ℕ) (p : ArraySpan) → Some p ≡ first (spans_from ws n) → lines_from ws n ≡ line_at ws p ++ lines_from ws p.end
unfolding lines_of_arrays
lines_next ws n p h = ap lines_of_arrays (found_array ws n p (sym h)).shown_on

pub lines_over : (ws : List ℕ) (n : ℕ) → None ≡ first (spans_from ws n) → lines_from ws n ≡ []
unfolding lines_of_arrays
lines_over ws n h = ap lines_of_arrays (found_none ws n (sym h))

module _ (ring : List ℕ) (s : RingState) where
  pub lines_held : ring_refusal (length ring) s ≡ Ok tt → lines_of_arrays (held_arrays ring s) ≡ lines_from (by_age ring s) 0
  unfolding held_arrays
  lines_held h = ap (λ n. lines_of_arrays (arrays_unless n (shown (arrays (by_age ring s))))) h

  pub lines_refused : (n : ℕ) → ring_refusal (length ring) s ≡ Err n → lines_of_arrays (held_arrays ring s) ≡ []
  unfolding held_arrays lines_of_arrays
  lines_refused n h = ap (λ r. lines_of_arrays (arrays_unless r (shown (arrays (by_age ring s))))) h
