-- Lines of bytes that come in pieces: the lines of what is there, then those of what is left of it with the next piece behind it. By the first
-- byte. Assumes nothing.
use Rattle.std.specs.Prelude.{ℕ, ◌≡◌, refl, Bool, true, false, cond, List, [], ◌∷◌, ◌++◌, eqb}
use Rattle.std.proofs.Common.{arith, sym, ap, subst, ◌∙◌}
use Rattle.base_program.specs.declared.Program.{Program}
use Rattle.text_items.specs.Split.{split, on_first}
use Rattle.text_keyed.specs.Text.{all_but_last, last_of, lines_of, bytes_behind}
use Rattle.spec_listing.specs.Step.{Run, LinesLead, ended, onward, stopped}

-- ---- pieces between bytes k

pub record Cons (ws : List (List ℕ)) : Type 0 where
  pub head : List ℕ
  pub tail : List (List ℕ)
  pub is : ws ≡ head ∷ tail

first_some : (b : ℕ) (ws : List (List ℕ)) → Cons (on_first b ws)
first_some b [] = record { head = b ∷ []; tail = []; is = refl }
first_some b (w ∷ ws) = record { head = b ∷ w; tail = ws; is = refl }

pub split_some : (k : ℕ) (s : List ℕ) → Cons (split k s)
unfolding split
split_some k [] = record { head = []; tail = []; is = refl }
split_some k (b ∷ s) = go (eqb b k)
  where
    go : (t : Bool) → Cons (cond t ([] ∷ split k s) (on_first b (split k s)))
    go true = record { head = []; tail = split k s; is = refl }
    go false = first_some b (split k s)

pub front_next : (w : List ℕ) (ws : List (List ℕ)) → Cons ws → all_but_last (w ∷ ws) ≡ w ∷ all_but_last ws
front_next w ws c = ap (λ x. all_but_last (w ∷ x)) c.is ∙ ap (λ x. w ∷ all_but_last x) (sym c.is)

pub last_next : (w : List ℕ) (ws : List (List ℕ)) → Cons ws → last_of (w ∷ ws) ≡ last_of ws
last_next w ws c = ap (λ x. last_of (w ∷ x)) c.is ∙ ap last_of (sym c.is)

-- ---- the first byte of the first piece

-- either there is one piece, which is all of s, or the first of several has a byte k behind it
data Cut (k : ℕ) (s : List ℕ) : Type 0 where
  whole : split k s ≡ s ∷ [] → Cut k s
  more : (w v : List ℕ) (ws : List (List ℕ)) → split k s ≡ w ∷ v ∷ ws → Cut k s

cut : (k : ℕ) (s : List ℕ) → Cut k s
unfolding split
cut k [] = whole refl
cut k (b ∷ s) = go (eqb b k) refl (cut k s)
  where
    go : (t : Bool) → eqb b k ≡ t → Cut k s → Cut k (b ∷ s)
    go true e c = let z = split_some k s in more [] z.head z.tail (ap (λ t. cond t ([] ∷ split k s) (on_first b (split k s))) e ∙ ap (λ x. [] ∷ x) z.is)
    go false e (whole q) = whole (ap (λ t. cond t ([] ∷ split k s) (on_first b (split k s))) e ∙ ap (on_first b) q)
    go false e (more w v ws q) = more (b ∷ w) v ws (ap (λ t. cond t ([] ∷ split k s) (on_first b (split k s))) e ∙ ap (on_first b) q)

front_first : (b : ℕ) (ws : List (List ℕ)) (x : List ℕ) (y : List (List ℕ)) → all_but_last ws ≡ x ∷ y → (all_but_last (on_first b ws) ≡ (b ∷ x) ∷ y) × (last_of (on_first b ws) ≡ last_of ws)
front_first b [] x y h = absurd (let z : ◌≡◌ {A = ℕ} 0 1 = cc in omega arith)
front_first b (w ∷ []) x y h = absurd (let z : ◌≡◌ {A = ℕ} 0 1 = cc in omega arith)
front_first b (w ∷ v ∷ ws) x y h =
    let p : w ≡ x = cc in
    let q : all_but_last (v ∷ ws) ≡ y = cc in
    (ap (λ z. (b ∷ z) ∷ all_but_last (v ∷ ws)) p ∙ ap (λ z. (b ∷ x) ∷ z) q, refl)

-- ---- a piece behind

record Joined (s r : List ℕ) : Type 0 where
  lines : all_but_last (split 10 (s ++ r)) ≡ all_but_last (split 10 s) ++ all_but_last (split 10 (last_of (split 10 s) ++ r))
  rest : last_of (split 10 (s ++ r)) ≡ last_of (split 10 (last_of (split 10 s) ++ r))

joined : (s r : List ℕ) → Joined s r
unfolding split
joined [] r = record { lines = refl; rest = refl }
joined (b ∷ s) r = go (eqb b 10) refl (joined s r)
  where
    next : (t : Bool) → eqb b 10 ≡ t → (x : List ℕ) → split 10 (b ∷ x) ≡ cond t ([] ∷ split 10 x) (on_first b (split 10 x))
    next t e x = ap (λ t. cond t ([] ∷ split 10 x) (on_first b (split 10 x))) e

    go : (t : Bool) → eqb b 10 ≡ t → Joined s r → Joined (b ∷ s) r
    go true e ih =
        let l : last_of (split 10 (b ∷ s)) ≡ last_of (split 10 s) = ap last_of (next true e s) ∙ last_next [] (split 10 s) (split_some 10 s) in
        let f : all_but_last (split 10 (b ∷ s)) ≡ [] ∷ all_but_last (split 10 s) = ap all_but_last (next true e s) ∙ front_next [] (split 10 s) (split_some 10 s) in
        record {
          lines =
              ap all_but_last (next true e (s ++ r))
              ∙ front_next [] (split 10 (s ++ r)) (split_some 10 (s ++ r))
              ∙ ap (λ x. [] ∷ x) ih.lines
              ∙ sym (ap (λ x. x ++ all_but_last (split 10 (last_of (split 10 (b ∷ s)) ++ r))) f ∙ ap (λ x. [] ∷ all_but_last (split 10 s) ++ all_but_last (split 10 (x ++ r))) l);
          rest =
              ap last_of (next true e (s ++ r))
              ∙ last_next [] (split 10 (s ++ r)) (split_some 10 (s ++ r))
              ∙ ih.rest
              ∙ sym (ap (λ x. last_of (split 10 (x ++ r))) l);
        }
    go false e ih = by (cut 10 s)
      where
        by : Cut 10 s → Joined (b ∷ s) r
        by (whole q) =
            let l : last_of (split 10 (b ∷ s)) ≡ b ∷ s = ap last_of (next false e s) ∙ ap (λ x. last_of (on_first b x)) q in
            let f : all_but_last (split 10 (b ∷ s)) ≡ [] = ap all_but_last (next false e s) ∙ ap (λ x. all_but_last (on_first b x)) q in
            record {
              lines = sym (ap (λ x. x ++ all_but_last (split 10 (last_of (split 10 (b ∷ s)) ++ r))) f ∙ ap (λ x. all_but_last (split 10 (x ++ r))) l);
              rest = sym (ap (λ x. last_of (split 10 (x ++ r))) l);
            }
        by (more w v ws q) =
            let l : last_of (split 10 (b ∷ s)) ≡ last_of (split 10 s) = ap last_of (next false e s) ∙ ap (λ x. last_of (on_first b x)) q ∙ sym (ap last_of q) in
            let f : all_but_last (split 10 (b ∷ s)) ≡ (b ∷ w) ∷ all_but_last (v ∷ ws) = ap all_but_last (next false e s) ∙ ap (λ x. all_but_last (on_first b x)) q in
            let g : all_but_last (split 10 s) ≡ w ∷ all_but_last (v ∷ ws) = ap all_but_last q in
            let all = front_first b (split 10 (s ++ r)) w (all_but_last (v ∷ ws) ++ all_but_last (split 10 (last_of (split 10 s) ++ r)))
            (ih.lines ∙ ap (λ x. x ++ all_but_last (split 10 (last_of (split 10 s) ++ r))) g) in
            record {
              lines =
                  ap all_but_last (next false e (s ++ r)) ∙ all.0
                  ∙ sym (ap (λ x. x ++ all_but_last (split 10 (last_of (split 10 (b ∷ s)) ++ r))) f ∙ ap (λ x. (b ∷ w) ∷ all_but_last (v ∷ ws) ++ all_but_last (split 10 (x ++ r))) l);
              rest = ap last_of (next false e (s ++ r)) ∙ all.1 ∙ ih.rest ∙ sym (ap (λ x. last_of (split 10 (x ++ r))) l);
            }

pub lines_joined : (s r : List ℕ) → lines_of (s ++ r) ≡ lines_of s ++ lines_of (bytes_behind s ++ r)
unfolding lines_of bytes_behind
lines_joined s r = (joined s r).lines

pub rest_joined : (s r : List ℕ) → bytes_behind (s ++ r) ≡ bytes_behind (bytes_behind s ++ r)
unfolding bytes_behind
rest_joined s r = (joined s r).rest

-- ---- what is left holds no byte 10

pub rest_alone : (s : List ℕ) → split 10 (bytes_behind s) ≡ bytes_behind s ∷ []
unfolding bytes_behind split
rest_alone [] = refl
rest_alone (b ∷ s) = go (eqb b 10) refl (rest_alone s)
  where
    next : (t : Bool) → eqb b 10 ≡ t → (x : List ℕ) → split 10 (b ∷ x) ≡ cond t ([] ∷ split 10 x) (on_first b (split 10 x))
    next t e x = ap (λ t. cond t ([] ∷ split 10 x) (on_first b (split 10 x))) e

    go : (t : Bool) → eqb b 10 ≡ t → split 10 (last_of (split 10 s)) ≡ last_of (split 10 s) ∷ [] → split 10 (last_of (split 10 (b ∷ s))) ≡ last_of (split 10 (b ∷ s)) ∷ []
    go true e ih =
        let l : last_of (split 10 (b ∷ s)) ≡ last_of (split 10 s) = ap last_of (next true e s) ∙ last_next [] (split 10 s) (split_some 10 s) in
        subst (λ x. split 10 x ≡ x ∷ []) (sym l) ih
    go false e ih = by (cut 10 s)
      where
        by : Cut 10 s → split 10 (last_of (split 10 (b ∷ s))) ≡ last_of (split 10 (b ∷ s)) ∷ []
        by (whole q) =
            let l : last_of (split 10 (b ∷ s)) ≡ b ∷ s = ap last_of (next false e s) ∙ ap (λ x. last_of (on_first b x)) q in
            subst (λ x. split 10 x ≡ x ∷ []) (sym l) (next false e s ∙ ap (on_first b) q)
        by (more w v ws q) =
            let l : last_of (split 10 (b ∷ s)) ≡ last_of (split 10 s) = ap last_of (next false e s) ∙ ap (λ x. last_of (on_first b x)) q ∙ sym (ap last_of q) in
            subst (λ x. split 10 x ≡ x ∷ []) (sym l) ih

-- such bytes have no line, and are what is left of themselves
pub alone_none : (w : List ℕ) → split 10 w ≡ w ∷ [] → (lines_of w ≡ []) × (bytes_behind w ≡ w)
unfolding lines_of bytes_behind
alone_none w h = (ap all_but_last h, ap last_of h)

-- bytes without a byte 10, and more behind them: still no line, or a first one that begins with them
pub data Begun (w r : List ℕ) : Type 0 where
  unfinished : lines_of (w ++ r) ≡ [] → bytes_behind (w ++ r) ≡ w ++ r → Begun w r
  line : (v : List ℕ) (ls : List (List ℕ)) → lines_of (w ++ r) ≡ (w ++ v) ∷ ls → Begun w r

begins : (w r x : List ℕ) (xs : List (List ℕ)) → split 10 w ≡ w ∷ [] → split 10 (w ++ r) ≡ x ∷ xs → (v : List ℕ) × (x ≡ w ++ v)
unfolding split
begins [] r x xs h q = (x, refl)
begins (b ∷ w) r x xs h q = let z = split_some 10 (w ++ r) in go (eqb b 10) (cut 10 w) z (λ e. begins w r z.head z.tail e z.is) h q
  where
    go : (t : Bool) → Cut 10 w → (z : Cons (split 10 (w ++ r))) → (split 10 w ≡ w ∷ [] → (v : List ℕ) × (z.head ≡ w ++ v)) → cond t ([] ∷ split 10 w) (on_first b (split 10 w)) ≡ (b ∷ w) ∷ [] → cond t ([] ∷ split 10 (w ++ r)) (on_first b (split 10 (w ++ r))) ≡ x ∷ xs
        → (v : List ℕ) × (x ≡ b ∷ w ++ v)
    go true c z ih h q = absurd (let z : ◌≡◌ {A = ℕ} 0 1 = cc in omega arith)
    go false (whole e) z ih h q =
        let f : (b ∷ z.head) ∷ z.tail ≡ x ∷ xs = ap (on_first b) (sym z.is) ∙ q in
        let g : b ∷ z.head ≡ x = cc in
        ((ih e).0, sym g ∙ ap (λ y. b ∷ y) (ih e).1)
    go false (more u v ws e) z ih h q =
        let f : (b ∷ u) ∷ v ∷ ws ≡ (b ∷ w) ∷ [] = ap (on_first b) (sym e) ∙ h in
        absurd (let z : ◌≡◌ {A = ℕ} 0 1 = cc in omega arith)

pub begun : (w r : List ℕ) → split 10 w ≡ w ∷ [] → Begun w r
unfolding lines_of bytes_behind
begun w r h = by (cut 10 (w ++ r))
  where
    by : Cut 10 (w ++ r) → Begun w r
    by (whole q) = unfinished (ap all_but_last q) (ap last_of q)
    by (more x v ws q) =
        let y = begins w r x (v ∷ ws) h q in
        line y.0 (all_but_last (v ∷ ws)) (ap all_but_last q ∙ ap (λ z. z ∷ all_but_last (v ∷ ws)) y.1)

-- ---- lines one after the other

module _ (p : Program) where
  pub lead_then : {ls : List (List ℕ)} {a b : Run} {k : ℕ} → LinesLead p ls a k b → k ≡ 0 → (ms : List (List ℕ)) (n : ℕ) (c : Run) → LinesLead p ms b n c
      → LinesLead p (ls ++ ms) a n c
  lead_then ended z ms n c f = f
  lead_then (onward t g) z ms n c f = onward t (lead_then g z ms n c f)
  lead_then (stopped t y) z ms n c f = absurd (y z)

  pub lead_stopped : {ls : List (List ℕ)} {a b : Run} {k : ℕ} → LinesLead p ls a k b → (k ≡ 0 → ⊥) → (ms : List (List ℕ)) → LinesLead p (ls ++ ms) a k b
  lead_stopped ended z ms = absurd (z refl)
  lead_stopped (onward t g) z ms = onward t (lead_stopped g z ms)
  lead_stopped (stopped t y) z ms = stopped t y
