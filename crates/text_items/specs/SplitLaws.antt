-- Laws of `split`: its pieces joined by k are the bytes that were cut, no piece has a k, and such pieces joined by k are cut into the same pieces. Assumes nothing.
use Rattle.std.specs.Prelude.{ℕ, ◌≡◌, refl, Bool, true, false, cond, not, ◌&&◌, List, [], ◌∷◌, ◌++◌, eqb}
use Rattle.std.proofs.Common.{arith, sym, ap, ◌∙◌, eqb-true, eq-eqb}
use Rattle.text_number.proofs.Laws.{and_left, and_right}
use Rattle.text_items.specs.Split.{on_first, split}

-- the pieces with a byte k between each two
unfoldable pub joined : ℕ → List (List ℕ) → List ℕ
joined k [] = []
joined k (w ∷ []) = w
joined k (w ∷ v ∷ ws) = w ++ k ∷ joined k (v ∷ ws)

unfoldable pub lacks : ℕ → List ℕ → Bool
lacks k [] = true
lacks k (b ∷ s) = not (eqb b k) && lacks k s

unfoldable pub all_lack : ℕ → List (List ℕ) → Bool
all_lack k [] = true
all_lack k (w ∷ ws) = lacks k w && all_lack k ws

-- ---- the pieces joined

joined_first : (k b : ℕ) (ws : List (List ℕ)) → joined k (on_first b ws) ≡ b ∷ joined k ws
unfolding joined
joined_first k b [] = refl
joined_first k b (w ∷ []) = refl
joined_first k b (w ∷ v ∷ ws) = refl

-- a piece, and what was cut behind it
pub split_next : (k : ℕ) (s : List ℕ) → joined k ([] ∷ split k s) ≡ k ∷ joined k (split k s)
unfolding joined split
split_next k [] = refl
split_next k (b ∷ s) = go (eqb b k) (split k s)
  where
    go : (t : Bool) (ws : List (List ℕ)) → joined k ([] ∷ cond t ([] ∷ ws) (on_first b ws)) ≡ k ∷ joined k (cond t ([] ∷ ws) (on_first b ws))
    go true ws = refl
    go false [] = refl
    go false (w ∷ ws) = refl

-- The pieces joined by k give the bytes back.
pub split_joined : (k : ℕ) (s : List ℕ) → joined k (split k s) ≡ s
unfolding split joined
split_joined k [] = refl
split_joined k (b ∷ s) = go (eqb b k) refl (split_joined k s)
  where
    go : (t : Bool) → eqb b k ≡ t → joined k (split k s) ≡ s → joined k (cond t ([] ∷ split k s) (on_first b (split k s))) ≡ b ∷ s
    go true e ih = split_next k s ∙ ap (λ x. x ∷ joined k (split k s)) (sym (eqb-true b k e)) ∙ ap (λ x. b ∷ x) ih
    go false e ih = joined_first k b (split k s) ∙ ap (λ x. b ∷ x) ih

-- ---- no k in a piece

-- No piece has a byte k.
pub split_lacks : (k : ℕ) (s : List ℕ) → all_lack k (split k s) ≡ true
unfolding split all_lack lacks
split_lacks k [] = refl
split_lacks k (b ∷ s) = go (eqb b k) refl (split k s) (split_lacks k s)
  where
    go : (t : Bool) → eqb b k ≡ t → (ws : List (List ℕ)) → all_lack k ws ≡ true → all_lack k (cond t ([] ∷ ws) (on_first b ws)) ≡ true
    go true e ws ih = ih
    go false e [] ih = ap (λ x. not x && true && true) e
    go false e (w ∷ ws) ih = ap (λ x. not x && lacks k w && all_lack k ws) e ∙ ih

-- ---- and back

split_one : (k : ℕ) (w : List ℕ) → lacks k w ≡ true → split k w ≡ w ∷ []
unfolding split lacks
split_one k [] h = refl
split_one k (b ∷ w) h = go (eqb b k) h (split_one k w)
  where
    go : (t : Bool) → (not t && lacks k w) ≡ true → (lacks k w ≡ true → split k w ≡ w ∷ []) → cond t ([] ∷ split k w) (on_first b (split k w)) ≡ (b ∷ w) ∷ []
    go true h ih = absurd (let y : ◌≡◌ {A = ℕ} 0 1 = cc in omega arith)
    go false h ih = ap (on_first b) (ih h)

split_first : (k : ℕ) (w r : List ℕ) → lacks k w ≡ true → split k (w ++ k ∷ r) ≡ w ∷ split k r
unfolding split lacks
split_first k [] r h = ap (λ t. cond t ([] ∷ split k r) (on_first k (split k r))) (eq-eqb k k refl)
split_first k (b ∷ w) r h = go (eqb b k) h (split_first k w r)
  where
    go : (t : Bool) → (not t && lacks k w) ≡ true → (lacks k w ≡ true → split k (w ++ k ∷ r) ≡ w ∷ split k r)
        → cond t ([] ∷ split k (w ++ k ∷ r)) (on_first b (split k (w ++ k ∷ r))) ≡ (b ∷ w) ∷ split k r
    go true h ih = absurd (let y : ◌≡◌ {A = ℕ} 0 1 = cc in omega arith)
    go false h ih = ap (on_first b) (ih h)

-- Pieces without k, joined by k, are cut into the same pieces.
pub joined_split : (k : ℕ) (ws : List (List ℕ)) (w : List ℕ) → all_lack k (w ∷ ws) ≡ true → split k (joined k (w ∷ ws)) ≡ w ∷ ws
unfolding joined all_lack
joined_split k [] w h = split_one k w (and_left (lacks k w) true h)
joined_split k (v ∷ ws) w h =
    split_first k w (joined k (v ∷ ws)) (and_left (lacks k w) (all_lack k (v ∷ ws)) h) ∙ ap (λ x. w ∷ x) (joined_split k ws v (and_right (lacks k w) (all_lack k (v ∷ ws)) h))
