-- The first piece of a list cut at a byte, and the pieces behind it, by where that byte stands. Assumes nothing.
use Rattle.std.specs.Prelude.{ℕ, suc, ◌≤◌, ◌<◌, ◌≡◌, refl, Bool, true, false, cond, not, ◌&&◌, ◌||◌, List, [], ◌∷◌, length, get_or, take, drop, ltb, eqb}
use Rattle.std.proofs.Common.{arith, sym, ap, ◌∙◌, take_all, eqb-true, ltb-true, ltb-false}
use Rattle.std.proofs.lemmas.Bool.{eqb-false}
use Rattle.text_items.specs.Split.{on_first, split, is_plain, all_plain, is_item, is_some, all_items}
use Rattle.text_items.specs.Cut.{before, plain_first}
use Rattle.base_laws.specs.Tests.{not_first, not_second}

pub before_most : (k : ℕ) (s : List ℕ) → before k s ≤ length s
unfolding before
before_most k [] = omega arith
before_most k (b ∷ s) = go (eqb b k) (before_most k s)
  where
    go : (t : Bool) → before k s ≤ length s → cond t 0 (suc (before k s)) ≤ suc (length s)
    go true h = omega arith
    go false h = omega arith

pub split_more : (k : ℕ) (s : List ℕ) → before k s < length s → split k s ≡ take (before k s) s ∷ split k (drop (suc (before k s)) s)
unfolding split before
split_more k [] h = absurd (omega arith)
split_more k (b ∷ s) h = go (eqb b k) (split_more k s) h
  where
    go : (t : Bool) → (before k s < length s → split k s ≡ take (before k s) s ∷ split k (drop (suc (before k s)) s)) → cond t 0 (suc (before k s)) < suc (length s)
        → cond t ([] ∷ split k s) (on_first b (split k s)) ≡ take (cond t 0 (suc (before k s))) (b ∷ s) ∷ split k (drop (suc (cond t 0 (suc (before k s)))) (b ∷ s))
    go true ih h = refl
    go false ih h = ap (on_first b) (ih (omega arith))

pub split_last : (k : ℕ) (s : List ℕ) → length s ≤ before k s → split k s ≡ s ∷ []
unfolding split before
split_last k [] h = refl
split_last k (b ∷ s) h = go (eqb b k) (split_last k s) h
  where
    go : (t : Bool) → (length s ≤ before k s → split k s ≡ s ∷ []) → suc (length s) ≤ cond t 0 (suc (before k s)) → cond t ([] ∷ split k s) (on_first b (split k s)) ≡ (b ∷ s) ∷ []
    go true ih h = absurd (omega arith)
    go false ih h = ap (on_first b) (ih (omega arith))

-- ---- the bytes of an item, against the first space

pub plain_space : (s : List ℕ) → plain_first s < length s → get_or s (plain_first s) 0 ≡ 32 → before 32 s ≡ plain_first s
unfolding before plain_first
plain_space [] h e = absurd (omega arith)
plain_space (b ∷ s) h e = go (eqb b 32) (eqb b 40 || (eqb b 41 || eqb b 10)) (eqb-false b 32) (plain_space s) h e
  where
    go : (t u : Bool) → (t ≡ false → b ≡ 32 → ⊥) → (plain_first s < length s → get_or s (plain_first s) 0 ≡ 32 → before 32 s ≡ plain_first s)
        → cond (not (t || u)) (suc (plain_first s)) 0 < suc (length s) → get_or (b ∷ s) (cond (not (t || u)) (suc (plain_first s)) 0) 0 ≡ 32
        → cond t 0 (suc (before 32 s)) ≡ cond (not (t || u)) (suc (plain_first s)) 0
    go true u z ih h e = refl
    go false true z ih h e = absurd (z refl e)
    go false false z ih h e = ap suc (ih (omega arith) e)

pub plain_end : (s : List ℕ) → length s ≤ plain_first s → length s ≤ before 32 s
unfolding before plain_first
plain_end [] h = omega arith
plain_end (b ∷ s) h = go (eqb b 32) (eqb b 40 || (eqb b 41 || eqb b 10)) (plain_end s) h
  where
    go : (t u : Bool) → (length s ≤ plain_first s → length s ≤ before 32 s) → suc (length s) ≤ cond (not (t || u)) (suc (plain_first s)) 0 → suc (length s) ≤ cond t 0 (suc (before 32 s))
    go true u ih h = absurd (omega arith)
    go false true ih h = absurd (omega arith)
    go false false ih h = let z = ih (omega arith) in omega arith

pub plain_other : (s : List ℕ) → plain_first s < length s → (get_or s (plain_first s) 0 ≡ 32 → ⊥) → all_plain (take (before 32 s) s) ≡ false
unfolding before plain_first all_plain
plain_other [] h e = absurd (omega arith)
plain_other (b ∷ s) h e = go (eqb b 32) (eqb b 40 || (eqb b 41 || eqb b 10)) refl refl (eqb-true b 32) (plain_other s) h e
  where
    go : (t u : Bool) → eqb b 32 ≡ t → (eqb b 40 || (eqb b 41 || eqb b 10)) ≡ u → (t ≡ true → b ≡ 32)
        → (plain_first s < length s → (get_or s (plain_first s) 0 ≡ 32 → ⊥) → all_plain (take (before 32 s) s) ≡ false)
        → cond (not (t || u)) (suc (plain_first s)) 0 < suc (length s) → (get_or (b ∷ s) (cond (not (t || u)) (suc (plain_first s)) 0) 0 ≡ 32 → ⊥)
        → all_plain (take (cond t 0 (suc (before 32 s))) (b ∷ s)) ≡ false
    go true u p q z ih h e = absurd (e (z refl))
    go false true p q z ih h e = ap (λ x. not (x || (eqb b 40 || (eqb b 41 || eqb b 10))) && all_plain (take (before 32 s) s)) p ∙ ap (λ x. not x && all_plain (take (before 32 s) s)) q
    go false false p q z ih h e =
        ap (λ x. not (x || (eqb b 40 || (eqb b 41 || eqb b 10))) && all_plain (take (before 32 s) s)) p ∙ ap (λ x. not x && all_plain (take (before 32 s) s)) q ∙ ih (omega arith) e

pub plain_taken : (s : List ℕ) → all_plain (take (plain_first s) s) ≡ true
unfolding plain_first all_plain
plain_taken [] = refl
plain_taken (b ∷ s) = go (is_plain b) refl (plain_taken s)
  where
    go : (t : Bool) → is_plain b ≡ t → all_plain (take (plain_first s) s) ≡ true → all_plain (take (cond t (suc (plain_first s)) 0) (b ∷ s)) ≡ true
    go true e ih = ap (λ x. x && all_plain (take (plain_first s) s)) e ∙ ih
    go false e ih = refl

some_taken : (s : List ℕ) → 0 < plain_first s → is_some (take (plain_first s) s) ≡ true
unfolding plain_first
some_taken [] h = absurd (omega arith)
some_taken (b ∷ s) h = go (is_plain b) h
  where
    go : (t : Bool) → 0 < cond t (suc (plain_first s)) 0 → is_some (take (cond t (suc (plain_first s)) 0) (b ∷ s)) ≡ true
    go true h = refl
    go false h = absurd (omega arith)

pub item_taken : (s : List ℕ) → 0 < plain_first s → is_item (take (plain_first s) s) ≡ true
unfolding is_item
item_taken s h = ap (λ x. x && all_plain (take (plain_first s) s)) (some_taken s h) ∙ plain_taken s

pub plain_most : (s : List ℕ) → plain_first s ≤ length s
unfolding plain_first
plain_most [] = omega arith
plain_most (b ∷ s) = go (is_plain b) (plain_most s)
  where
    go : (t : Bool) → plain_first s ≤ length s → cond t (suc (plain_first s)) 0 ≤ suc (length s)
    go true h = omega arith
    go false h = omega arith

-- ---- the first piece

pub first_piece : (k : ℕ) (s : List ℕ) → get_or (split k s) 0 [] ≡ take (before k s) s
first_piece k s = go (ltb (before k s) (length s)) refl
  where
    go : (t : Bool) → ltb (before k s) (length s) ≡ t → get_or (split k s) 0 [] ≡ take (before k s) s
    go true e = ap (λ x. get_or x 0 []) (split_more k s (ltb-true (before k s) (length s) e))
    go false e =
        let h : length s ≤ before k s = ltb-false (before k s) (length s) e in
        ap (λ x. get_or x 0 []) (split_last k s h) ∙ sym (take_all (before k s) s h)

pub first_bad : (s : List ℕ) → is_item (take (before 32 s) s) ≡ false → all_items (split 32 s) ≡ false
unfolding all_items
first_bad s h = go (ltb (before 32 s) (length s)) refl
  where
    go : (t : Bool) → ltb (before 32 s) (length s) ≡ t → all_items (split 32 s) ≡ false
    go true e = ap all_items (split_more 32 s (ltb-true (before 32 s) (length s) e)) ∙ not_first _ h
    go false e =
        let l : length s ≤ before 32 s = ltb-false (before 32 s) (length s) e in
        ap all_items (split_last 32 s l) ∙ not_first true (ap is_item (sym (take_all (before 32 s) s l)) ∙ h)

none_first : (s : List ℕ) → plain_first s ≡ 0 → is_item (take (before 32 s) s) ≡ false
unfolding before plain_first all_plain is_item
none_first [] h = refl
none_first (b ∷ s) h = go (eqb b 32) (eqb b 40 || (eqb b 41 || eqb b 10)) refl refl h
  where
    go : (t u : Bool) → eqb b 32 ≡ t → (eqb b 40 || (eqb b 41 || eqb b 10)) ≡ u → cond (not (t || u)) (suc (plain_first s)) 0 ≡ 0
        → (is_some (take (cond t 0 (suc (before 32 s))) (b ∷ s)) && all_plain (take (cond t 0 (suc (before 32 s))) (b ∷ s))) ≡ false
    go true u p q h = refl
    go false true p q h = ap (λ x. not (x || (eqb b 40 || (eqb b 41 || eqb b 10))) && all_plain (take (before 32 s) s)) p ∙ ap (λ x. not x && all_plain (take (before 32 s) s)) q
    go false false p q h = absurd (omega arith)

pub none_bad : (s : List ℕ) → plain_first s ≡ 0 → all_items (split 32 s) ≡ false
none_bad s h = first_bad s (none_first s h)

pub other_bad : (s : List ℕ) → plain_first s < length s → (get_or s (plain_first s) 0 ≡ 32 → ⊥) → all_items (split 32 s) ≡ false
unfolding is_item
other_bad s h e = first_bad s (not_second (is_some (take (before 32 s) s)) (plain_other s h e))
