-- The arrays by their places are the arrays that are shown, and behind an array come those from its end on: up to there it has no start word.
-- So searches from end to end come to array k. Assumes nothing.
use Rattle.std.specs.Prelude.{◌≡◌, Some, None, Bool, ◌&&◌, get_or, take, drop}
use Rattle.std.proofs.Math.Path.{refl, ap, subst}
use Rattle.std.proofs.Common.{sym, ◌∙◌, arith, add-one, add-zero, length-drop, drop_of_length-le, drop-drop, get_or-drop}
use Prim.Native.Nat.{ℕ, zero, suc, ◌+◌, ◌-◌, ◌≤◌, ◌<◌}
use Rattle.std.proofs.Math.Bool.{true, false, cond}
use mathlib.Core.List.{List, [], ◌∷◌, map}
use Rattle.std.proofs.Math.Option.{Option, none, some}
use Rattle.std.specs.Prelude as Core
use Rattle.std.proofs.lemmas.Option.{none-some, same_Some}
use Rattle.std.proofs.Math.ListN.{length, get_elem?}
use Rattle.storage_word.specs.Word.{is_start}
use Rattle.storage_listing.specs.declared.ArraySpan.{ArraySpan}
use Rattle.storage_listing.specs.Listing.{Array, array, up_to_start, arrays, all_values, shown, nth}
use Rattle.storage_listing.specs.Search.{array_of}
use Rattle.storage_listing.specs.Spans.{span, spans, spans_from, first, held}

-- the array that lies there
abbrev pub array_at : List ℕ → ArraySpan → Array
array_at ws p = array (get_or ws p.start 0) (held ws p.start p.end)

-- an array's place, and the arrays behind it
pub record Spot (ws : List ℕ) (p : ArraySpan) (rest : List ArraySpan) : Type 0 where
  pub behind : rest ≡ spans_from ws p.end
  pub least : p.start < p.end
  pub most : p.end ≤ length ws

-- ---- lists

some_inj : {a b : ArraySpan} → some a ≡ some b → a ≡ b
some_inj {a} {b} e = ap (λ o. or o) e
  where
    or : Option ArraySpan → ArraySpan
    or none = a
    or (some x) = x

none_some : {a : ArraySpan} → ◌≡◌ {A = Option ArraySpan} none (some a) → ⊥
none_some {a} e = let z : ◌≡◌ {A = ℕ} 0 1 = ap count e in omega arith
  where
    count : Option ArraySpan → ℕ
    count none = 0
    count (some x) = 1

pub up_short : (l : List ℕ) → length (up_to_start l) ≤ length l
unfolding up_to_start
up_short [] = omega arith
up_short (w ∷ l) = by (is_start w) (up_short l)
  where
    by : (b : Bool) → length (up_to_start l) ≤ length l → length (cond b [] (w ∷ up_to_start l)) ≤ suc (length l)
    by true h = omega arith
    by false h = omega (arith, h)

up_take : (l : List ℕ) → take (length (up_to_start l)) l ≡ up_to_start l
unfolding up_to_start
up_take [] = refl
up_take (w ∷ l) = by (is_start w) (up_take l)
  where
    by : (b : Bool) → take (length (up_to_start l)) l ≡ up_to_start l → take (length (cond b [] (w ∷ up_to_start l))) (w ∷ l) ≡ cond b [] (w ∷ up_to_start l)
    by true h = refl
    by false h = ap (λ x. w ∷ x) h

-- no array begins before the next start word
spans_up : (n : ℕ) (l : List ℕ) → spans n l ≡ spans (n + length (up_to_start l)) (drop (length (up_to_start l)) l)
unfolding spans up_to_start
spans_up n [] = refl
spans_up n (w ∷ l) = by (is_start w) refl (spans_up (n + 1) l)
  where
    by : (b : Bool) → is_start w ≡ b → spans (n + 1) l ≡ spans (n + 1 + length (up_to_start l)) (drop (length (up_to_start l)) l)
        → spans n (w ∷ l) ≡ spans (n + length (cond b [] (w ∷ up_to_start l))) (drop (length (cond b [] (w ∷ up_to_start l))) (w ∷ l))
    by true e ih = ap (λ k. spans k (w ∷ l)) (sym (add-zero n))
    by false e ih =
        ap (λ b. cond (b && all_values (up_to_start l)) (span n (n + 1 + length (up_to_start l)) ∷ spans (n + 1) l) (spans (n + 1) l)) e
        ∙ ih
        ∙ ap (λ k. spans k (drop (length (up_to_start l)) l)) (let g : n + 1 + length (up_to_start l) ≡ n + suc (length (up_to_start l)) = omega arith in g)

-- ---- the words from n on

module _ (ws : List ℕ) where
  drop_next : (n w : ℕ) (l : List ℕ) → drop n ws ≡ w ∷ l → drop (n + 1) ws ≡ l
  drop_next n w l h = sym (drop-drop 1 n ws) ∙ ap (drop 1) h

  drop_size : (n w : ℕ) (l : List ℕ) → drop n ws ≡ w ∷ l → n + suc (length l) ≡ length ws
  drop_size n w l h = let a : length ws - n ≡ suc (length l) = sym (length-drop n ws) ∙ ap length h in omega (arith, a)

  drop_word : (n w : ℕ) (l : List ℕ) → drop n ws ≡ w ∷ l → get_or ws n 0 ≡ w
  drop_word n w l h = ap (λ k. get_or ws k 0) (sym (add-zero n)) ∙ sym (get_or-drop n ws 0 0) ∙ ap (λ x. get_or x 0 0) h

  -- an array that begins at n
  spot_here : (n w : ℕ) (l : List ℕ) → drop n ws ≡ w ∷ l → Spot ws (span n (n + 1 + length (up_to_start l))) (spans (n + 1) l)
  spot_here n w l h =
      record {
        behind =
            spans_up (n + 1) l
            ∙ ap (λ x. spans (n + 1 + length (up_to_start l)) (drop (length (up_to_start l)) x)) (sym (drop_next n w l h))
            ∙ ap (spans (n + 1 + length (up_to_start l))) (drop-drop (length (up_to_start l)) (n + 1) ws);
        least = omega arith;
        most = omega (arith, up_short l, drop_size n w l h);
      }

  pub spot : (k n : ℕ) (l : List ℕ) (p : ArraySpan) → drop n ws ≡ l → get_elem? (spans n l) k ≡ some p → Spot ws p (drop (suc k) (spans n l))
  unfolding spans
  spot k n [] p h e = absurd (none_some e)
  spot k n (w ∷ l) p h e = by (is_start w && all_values (up_to_start l)) k e (λ m. spot m (n + 1) l p (drop_next n w l h))
    where
      by : (b : Bool) (k : ℕ)
          → get_elem? (cond b (span n (n + 1 + length (up_to_start l)) ∷ spans (n + 1) l) (spans (n + 1) l)) k ≡ some p
          → ((m : ℕ) → get_elem? (spans (n + 1) l) m ≡ some p → Spot ws p (drop (suc m) (spans (n + 1) l)))
          → Spot ws p (drop (suc k) (cond b (span n (n + 1 + length (up_to_start l)) ∷ spans (n + 1) l) (spans (n + 1) l)))
      by true zero e ih = subst (λ q. Spot ws q (spans (n + 1) l)) (some_inj e) (spot_here n w l h)
      by true (suc m) e ih = ih m e
      by false m e ih = ih m e

  array_here : (n w : ℕ) (l : List ℕ) → drop n ws ≡ w ∷ l → array_at ws (span n (n + 1 + length (up_to_start l))) ≡ array w (up_to_start l)
  array_here n w l h =
      ap (λ x. array x (held ws n (n + 1 + length (up_to_start l)))) (drop_word n w l h)
      ∙ ap (λ k. array w (take k (drop (n + 1) ws))) (let g : n + 1 + length (up_to_start l) - (n + 1) ≡ length (up_to_start l) = omega arith in g)
      ∙ ap (λ x. array w (take (length (up_to_start l)) x)) (drop_next n w l h)
      ∙ ap (array w) (up_take l)

  pub shown_spans : (n : ℕ) (l : List ℕ) → drop n ws ≡ l → map (array_at ws) (spans n l) ≡ shown (arrays l)
  unfolding spans arrays shown
  shown_spans n [] h = refl
  shown_spans n (w ∷ l) h = by (is_start w) (all_values (up_to_start l)) refl (shown_spans (n + 1) l (drop_next n w l h))
    where
      by : (t v : Bool) → all_values (up_to_start l) ≡ v → map (array_at ws) (spans (n + 1) l) ≡ shown (arrays l)
          → map (array_at ws) (cond (t && v) (span n (n + 1 + length (up_to_start l)) ∷ spans (n + 1) l) (spans (n + 1) l))
          ≡ shown (cond t (array w (up_to_start l) ∷ arrays l) (arrays l))
      by true true e ih =
          ap (λ a. a ∷ map (array_at ws) (spans (n + 1) l)) (array_here n w l h)
          ∙ ap (λ r. array w (up_to_start l) ∷ r) ih
          ∙ ap (λ b. cond b (array w (up_to_start l) ∷ shown (arrays l)) (shown (arrays l))) (sym e)
      by true false e ih = ih ∙ ap (λ b. cond b (array w (up_to_start l) ∷ shown (arrays l)) (shown (arrays l))) (sym e)
      by false v e ih = ih

-- ---- array k

nth_map : (f : ArraySpan → Array) (l : List ArraySpan) (k : ℕ) (p : ArraySpan) → get_elem? l k ≡ some p → nth k (map f l) ≡ Some (f p)
unfolding nth
nth_map f [] k p e = absurd (none_some e)
nth_map f (q ∷ l) zero p e = ap (λ x. Some (f x)) (some_inj e)
nth_map f (q ∷ l) (suc k) p e = nth_map f l k p e

nth_none : (f : ArraySpan → Array) (l : List ArraySpan) (k : ℕ) → get_elem? l k ≡ none → nth k (map f l) ≡ None
unfolding nth
nth_none f [] k e = refl
nth_none f (q ∷ l) zero e = absurd (none_some (sym e))
nth_none f (q ∷ l) (suc k) e = nth_none f l k e

module _ (ws : List ℕ) (k : ℕ) where
  pub shown_some : (p : ArraySpan) → get_elem? (spans 0 ws) k ≡ some p → nth k (shown (arrays ws)) ≡ Some (array_at ws p)
  shown_some p e = ap (nth k) (sym (shown_spans ws 0 ws refl)) ∙ nth_map (array_at ws) (spans 0 ws) k p e

  pub shown_none : get_elem? (spans 0 ws) k ≡ none → nth k (shown (arrays ws)) ≡ None
  shown_none e = ap (nth k) (sym (shown_spans ws 0 ws refl)) ∙ nth_none (array_at ws) (spans 0 ws) k e

pub first_some : (l : List ArraySpan) (k : ℕ) (p : ArraySpan) → get_elem? l k ≡ some p → first (drop k l) ≡ Some p
first_some [] k p e = absurd (none_some e)
first_some (q ∷ l) zero p e = ap (λ x. Some x) (some_inj e)
first_some (q ∷ l) (suc k) p e = first_some l k p e

pub first_none : (l : List ArraySpan) (k : ℕ) → get_elem? l k ≡ none → first (drop k l) ≡ None
first_none [] zero e = refl
first_none [] (suc k) e = refl
first_none (q ∷ l) zero e = absurd (none_some (sym e))
first_none (q ∷ l) (suc k) e = first_none l k e

pub none_behind : (l : List ArraySpan) (k : ℕ) → get_elem? l k ≡ none → get_elem? l (suc k) ≡ none
none_behind [] k e = refl
none_behind (q ∷ l) zero e = absurd (none_some (sym e))
none_behind (q ∷ l) (suc k) e = none_behind l k e

-- ---- the search for array k, from one array's end to the next

pub missing_array : {p : ArraySpan} → None ≡ Some p → ⊥
missing_array {p} h = none-some p h

module _ (ws : List ℕ) (i from : ℕ) (left : spans_from ws from ≡ drop i (spans 0 ws)) where
  -- an array is found: behind it come the arrays from its end on
  pub search_on : (q : ArraySpan) → Some q ≡ first (spans_from ws from) → spans_from ws q.end ≡ drop (i + 1) (spans 0 ws)
  search_on q h = by (get_elem? (spans 0 ws) i) refl
    where
      by : (o : Option ArraySpan) → get_elem? (spans 0 ws) i ≡ o → spans_from ws q.end ≡ drop (i + 1) (spans 0 ws)
      by none n = absurd (missing_array (sym (h ∙ ap first left ∙ first_none (spans 0 ws) i n)))
      by (some p) s =
          let end_is : q.end ≡ p.end = ap (λ x. x.end) (same_Some q p (h ∙ ap first left ∙ first_some (spans 0 ws) i p s)) in
          ap (spans_from ws) end_is
          ∙ sym (spot ws i 0 ws p refl s).behind
          ∙ ap (λ n. drop n (spans 0 ws)) (sym (add-one i))

  -- none is found: then there is no later one
  pub search_over : (k : ℕ) → i ≤ k → None ≡ first (spans_from ws from) → None ≡ first (drop k (spans 0 ws))
  search_over k h n =
      ap first
      (sym
      (ap (λ m. drop m (spans 0 ws)) (let g : k ≡ i + (k - i) = omega arith in g)
      ∙ sym (drop-drop (k - i) i (spans 0 ws))
      ∙ ap (drop (k - i)) (by (drop i (spans 0 ws)) (n ∙ ap first left))
      ∙ drop_of_length-le [] {i = k - i} (omega arith)))
    where
      by : (l : List ArraySpan) → None ≡ first l → l ≡ []
      by [] e = refl
      by (q ∷ l) e = absurd (missing_array e)

-- what is found is array k of those that are shown
pub sought_array : (ws : List ℕ) (k : ℕ) (r : Core.Option ArraySpan) → r ≡ first (drop k (spans 0 ws)) → array_of ws r ≡ nth k (shown (arrays ws))
sought_array ws k r h = ap (array_of ws) h ∙ by (get_elem? (spans 0 ws) k) refl
  where
    by : (o : Option ArraySpan) → get_elem? (spans 0 ws) k ≡ o → array_of ws (first (drop k (spans 0 ws))) ≡ nth k (shown (arrays ws))
    by none n = ap (array_of ws) (first_none (spans 0 ws) k n) ∙ sym (shown_none ws k n)
    by (some p) s = ap (array_of ws) (first_some (spans 0 ws) k p s) ∙ sym (shown_some ws k p s)
