-- The items found so far and those that are left. Assumes nothing.
use Prim.Native.Nat.{ℕ, suc, ◌+◌, ◌-◌, ◌≤◌, ◌<◌, min}
use native.Mathlib.Omega.{arith}
use mathlib.Core.Path.{◌≡◌, refl, sym, ap, ◌∙◌, subst}
use mathlib.Core.Bool.{Bool, true, false, ◌&&◌}
use mathlib.Core.List.{List, [], ◌∷◌}
use lib.ListN.{length, get_or, take, drop, set, length-set, length-drop}
use lib.Seq.{get_or-drop, drop-drop, get_or-set_same, get_or-set_other, take_all}
use lib.Dec.{ltb}
use borrow.Author.Tests.{ltb-true, ltb-false}
use Rattle.text_items.specs.Split.{split, is_item, all_items, items_of}
use Rattle.text_items.specs.Cut.{before, plain_first, Word, Piece, ItemsCut}
use Rattle.base_laws.specs.Tests.{yes, no}
use Rattle.text_items.specs.Pieces.{before_most, plain_most, split_more, split_last, plain_space, plain_end, item_taken, first_piece, none_bad, other_bad}

pub record Going (s starts : List ℕ) (n at : ℕ) : Type 0 where
  pub rest : drop n (split 32 s) ≡ split 32 (drop at s)
  pub sound : all_items (split 32 s) ≡ all_items (split 32 (drop at s))
  pub count : n + length (split 32 (drop at s)) ≡ length (split 32 s)
  pub within : at ≤ length s
  pub below : n ≤ at
  pub room : length starts ≡ 10
  pub here : n < 9 → get_or starts n 0 ≡ at
  pub each : (k : ℕ) → k < n → k < 8 → Piece s starts (split 32 s) k

pub going_start : (s starts : List ℕ) → length starts ≡ 10 → get_or starts 0 0 ≡ 0 → Going s starts 0 0
going_start s starts h z =
    record {
      rest = refl;
      sound = refl;
      count = omega arith;
      within = omega arith;
      below = omega arith;
      room = h;
      here = λ _. z;
      each = λ k l _. absurd (omega arith);
    }

-- one of them is no item
pub refused : (s starts : List ℕ) → length starts ≡ 10 → all_items (split 32 s) ≡ false → (0 ≡ length (items_of s)) × ItemsCut s starts
unfolding items_of
refused s starts h e =
    let z : items_of s ≡ [] = no _ _ e in
    (sym (ap length z), record { room = h; each = λ k l _. absurd (let l2 : k < 0 = subst (λ x. k < length x) z l in omega arith) })

module _ (s starts : List ℕ) (n at e : ℕ) (g : Going s starts n at) (w : Word s at e) where
  abbrev left : List ℕ
  left = drop at s

  pub bad_none : e ≡ at → all_items (split 32 s) ≡ false
  bad_none h = g.sound ∙ none_bad left (let z = w.is in omega arith)

  byte : get_or left (plain_first left) 0 ≡ get_or s e 0
  byte = get_or-drop at s (plain_first left) 0 ∙ ap (λ x. get_or s x 0) (sym w.is)

  short : e < length s → plain_first left < length left
  short h = omega (arith, length-drop at s, w.is)

  pub bad_other : e < length s → (get_or s e 0 ≡ 32 → ⊥) → all_items (split 32 s) ≡ false
  bad_other h x = g.sound ∙ other_bad left (short h) (λ y. x (sym byte ∙ y))

  -- what is stored behind item n
  abbrev next : List ℕ
  next = set starts (min (n + 1) 9) (e + 1)

  next_room : length next ≡ 10
  next_room = length-set starts (min (n + 1) 9) (e + 1) ∙ g.room

  kept : (k : ℕ) → k < n + 1 → k < 9 → get_or next k 0 ≡ get_or starts k 0
  kept k l h = get_or-set_other starts (min (n + 1) 9) k (e + 1) 0 (λ z. omega (arith, z, l, h))

  stored : n < 8 → get_or next (n + 1) 0 ≡ e + 1
  stored h =
      ap (λ x. get_or (set starts x (e + 1)) (n + 1) 0) (let z : min (n + 1) 9 ≡ n + 1 = omega arith in z)
      ∙ get_or-set_same starts (n + 1) (e + 1) 0 (omega (arith, g.room))

  next_each : at < e → before 32 left ≡ plain_first left → (k : ℕ) → k < n + 1 → k < 8 → Piece s next (split 32 s) k
  next_each m q k l h = go (ltb k n) refl
    where
      go : (t : Bool) → ltb k n ≡ t → Piece s next (split 32 s) k
      go true x =
          let old = g.each k (ltb-true k n x) h in
          let a : get_or next k 0 ≡ get_or starts k 0 = kept k (omega arith) (omega arith) in
          let b : get_or next (k + 1) 0 ≡ get_or starts (k + 1) 0 = kept (k + 1) (omega (arith, ltb-true k n x)) (omega arith) in
          record {
            order = omega (arith, a, b, old.order);
            within = omega (arith, b, old.within);
            is = ap (λ y. take (y - 1 - get_or next k 0) (drop (get_or next k 0) s)) b ∙ ap (λ y. take (get_or starts (k + 1) 0 - 1 - y) (drop y s)) a ∙ old.is;
          }
      go false x =
          let same : k ≡ n = omega (arith, ltb-false k n x) in
          let a : get_or next k 0 ≡ at = kept k l (omega arith) ∙ ap (λ y. get_or starts y 0) same ∙ g.here (omega arith) in
          let b : get_or next (k + 1) 0 ≡ e + 1 = ap (λ y. get_or next (y + 1) 0) same ∙ stored (omega arith) in
          record {
            order = omega (arith, a, b);
            within = omega (arith, b, w.within);
            is =
                ap (λ y. take (y - 1 - get_or next k 0) (drop (get_or next k 0) s)) b
                ∙ ap (λ y. take (e + 1 - 1 - y) (drop y s)) a
                ∙ ap (λ y. take y left) (let z : e + 1 - 1 - at ≡ before 32 left = omega (arith, w.is, q) in z)
                ∙ sym (first_piece 32 left)
                ∙ ap (λ y. get_or y 0 []) (sym g.rest)
                ∙ get_or-drop n (split 32 s) 0 []
                ∙ ap (λ y. get_or (split 32 s) y []) (let z : n + 0 ≡ k = omega arith in z);
          }

  -- the last item
  pub done : at < e → e ≡ length s → (n + 1 ≡ length (items_of s)) × ItemsCut s next
  unfolding items_of all_items
  done m h =
      let l : length left ≤ plain_first left = omega (arith, length-drop at s, w.is) in
      let b : length left ≤ before 32 left = plain_end left l in
      let whole : split 32 left ≡ left ∷ [] = split_last 32 left b in
      let good : is_item left ≡ true = ap is_item (sym (take_all (plain_first left) left l)) ∙ item_taken left (omega (arith, w.is)) in
      let all : all_items (split 32 s) ≡ true = g.sound ∙ ap all_items whole ∙ ap (λ x. x && true) good in
      let are : items_of s ≡ split 32 s = yes _ _ all in
      let q : before 32 left ≡ plain_first left = omega (arith, b, l, w.is, length-drop at s, before_most 32 left, plain_most left) in
      let count : n + 1 ≡ length (split 32 s) = ap (λ x. n + length x) (sym whole) ∙ g.count in (
        count ∙ ap length (sym are),
        record {
          room = next_room;
          each = λ k x y. subst (λ ws. Piece s next ws k) (sym are) (next_each m q k (omega (arith, count, subst (λ ws. k < length ws) are x)) y);
        },
      )

  -- a space behind item n
  pub going_next : at < e → e < length s → get_or s e 0 ≡ 32 → Going s next (n + 1) (e + 1)
  unfolding all_items
  going_next m h x =
      let q : before 32 left ≡ plain_first left = plain_space left (short h) (byte ∙ x) in
      let more : split 32 left ≡ take (before 32 left) left ∷ split 32 (drop (suc (before 32 left)) left) = split_more 32 left (omega (arith, q, short h)) in
      let there : drop (suc (before 32 left)) left ≡ drop (e + 1) s = drop-drop (suc (before 32 left)) at s ∙ ap (λ y. drop y s) (let z : at + suc (before 32 left) ≡ e + 1 = omega (arith, q, w.is) in z) in
      let cut : split 32 left ≡ take (before 32 left) left ∷ split 32 (drop (e + 1) s) = more ∙ ap (λ y. take (before 32 left) left ∷ split 32 y) there in
      let good : is_item (take (before 32 left) left) ≡ true = ap (λ y. is_item (take y left)) q ∙ item_taken left (omega (arith, w.is)) in
      record {
        rest = ap (λ y. drop y (split 32 s)) (let z : n + 1 ≡ n + 1 = refl in z) ∙ sym (drop-drop 1 n (split 32 s)) ∙ ap (drop 1) (g.rest ∙ cut);
        sound = g.sound ∙ ap all_items cut ∙ ap (λ y. y && all_items (split 32 (drop (e + 1) s))) good;
        count = omega (arith, g.count, ap length cut);
        within = omega arith;
        below = omega (arith, g.below);
        room = next_room;
        here = λ l. stored (omega arith);
        each = next_each m q;
      }
