-- Item j of the array that a search found: it is read at its place among the words by age, since an array's words lie side by side.
-- Assumes nothing.
use Rattle.std.specs.Prelude.{◌≡◌, refl, true, Some, None, List, length, drop}
use Rattle.std.proofs.Math.Path.{sym, ap}
use Rattle.std.proofs.Common.{◌∙◌, length-take, length-drop, get_or-take, lt-ltb, le-ltb, leb-true}
use Prim.Native.Nat.{ℕ, zero, suc, ◌+◌, ◌-◌, ◌≤◌, ◌<◌}
use native.Mathlib.Omega.{arith}
use Rattle.std.proofs.Math.Bool.{cond}
use Rattle.std.proofs.Math.ListN.{get_or}
use Rattle.std.proofs.Math.Seq.{get_or-drop}
use Rattle.storage_word.specs.Word.{is_start, decimal_of}
use Rattle.storage_listing.specs.declared.Item.{Item}
use Rattle.storage_listing.specs.Listing.{item_of}
use Rattle.storage_listing.specs.Search.{array_of}
use Rattle.storage_listing.specs.Spans.{span, held}

module _ (ws : List ℕ) (a e : ℕ) (within : e ≤ length ws) where
  pub length_held : length (held ws a e) ≡ e - (a + 1)
  length_held = length-take (e - (a + 1)) (drop (a + 1) ws) ∙ omega (arith, length-drop (a + 1) ws, within)

  pub item_value : (j : ℕ) → 0 < j → j < e - a → Some (Item.Value (decimal_of (get_or ws (a + j) 0))) ≡ item_of j (array_of ws (Some (span a e)))
  unfolding item_of
  item_value zero p h = absurd (omega arith)
  item_value (suc j) p h =
      ap (λ w. Some (Item.Value (decimal_of w)))
      (ap (λ n. get_or ws n 0) (let g : a + suc j ≡ a + 1 + j = omega arith in g) ∙ sym (get_or-take (e - (a + 1)) (drop (a + 1) ws) j 0 (omega arith) ∙ get_or-drop (a + 1) ws j 0))
      ∙ sym (ap (λ b. cond b (Some (Item.Value (decimal_of (get_or (held ws a e) j 0)))) None) (lt-ltb j (length (held ws a e)) (omega (arith, length_held))))

  pub item_none : (j : ℕ) → 0 < j → e - a ≤ j → None ≡ item_of j (array_of ws (Some (span a e)))
  unfolding item_of
  item_none zero p h = absurd (omega arith)
  item_none (suc j) p h =
      sym (ap (λ b. cond b (Some (Item.Value (decimal_of (get_or (held ws a e) j 0)))) None) (le-ltb j (length (held ws a e)) (omega (arith, length_held))))

pub item_id : (ws : List ℕ) (a e j : ℕ) → j ≡ 0 → Some (Item.Id (get_or ws a 0 - 64512)) ≡ item_of j (array_of ws (Some (span a e)))
unfolding item_of
item_id ws a e j h = sym (ap (λ n. item_of n (array_of ws (Some (span a e)))) h)

pub item_missing : (ws : List ℕ) (j : ℕ) → None ≡ item_of j (array_of ws None)
unfolding item_of
item_missing ws j = refl

-- a start word is 64,512 or more
pub start_least : (w : ℕ) → is_start w ≡ true → 64512 ≤ w
unfolding is_start
start_least w h = leb-true 64512 w h
