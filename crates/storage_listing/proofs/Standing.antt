-- Whether a cursor stands at an array that is shown. One begins at word n where the search from n on finds it there. One ends before word n where n is
-- a start word or behind the newest word, and the words before it, back to a start word, are values: up to each word it is known whether an array is
-- open and whole so far, and this goes back from n over values. Assumes nothing.
use Rattle.std.specs.Prelude.{◌≡◌, Some, Bool, ◌&&◌, ◌||◌, List, [], ◌∷◌, length, get_or, drop, eqb}
use Rattle.std.proofs.Math.Path.{refl, sym, ap, subst}
use Rattle.std.proofs.Common.{◌∙◌, arith, add-zero, drop_of_length-le}
use Prim.Native.Nat.{ℕ, zero, suc, ◌+◌, ◌≤◌, ◌<◌}
use Rattle.std.proofs.Math.Numerals.{add-one}
use Rattle.std.proofs.Math.Bool.{true, false, cond}
use Rattle.std.proofs.Math.Option.{some}
use Rattle.std.proofs.lemmas.Option.{same_Some}
use Rattle.std.proofs.Math.ListN.{get_elem?}
use Rattle.std.proofs.Math.Dec.{ltb}
use borrow.Author.Tests.{eq-eqb, ne_eqb, ltb-true, ltb-false, eqb-true}
use Rattle.storage_word.specs.Word.{is_start, is_value}
use Rattle.storage_listing.specs.declared.ArraySpan.{ArraySpan}
use Rattle.storage_listing.specs.Listing.{up_to_start, all_values}
use Rattle.storage_listing.specs.Seek.{begun_before, going, later_start, later_other, up_start, up_other, going_on_lem}
use Rattle.storage_listing.specs.Spans.{span, spans, spans_from, first, any_at, begins_at, ends_at}
use Rattle.storage_listing.proofs.Spots.{missing_array, up_short}
use Rattle.storage_listing.specs.Stepped.{stands}
use Rattle.storage_listing.specs.Standing.{found_at, is_bound, open_at}

and_false : (b : Bool) → b && false ≡ false
and_false true = refl
and_false false = refl

and_true : (b : Bool) → b && true ≡ b
and_true true = refl
and_true false = refl

pub or_true : (b : Bool) → b || true ≡ true
or_true true = refl
or_true false = refl

or_false : (b : Bool) → b || false ≡ b
or_false true = refl
or_false false = refl

-- no array of the words from m on has its place at word n, if none between their bounds has
none_at : (place : ArraySpan → ℕ) (m n : ℕ) (l : List ℕ) → ((i e : ℕ) → m ≤ i → i < e → e ≤ m + length l → place (span i e) ≡ n → ⊥)
    → any_at place (spans m l) n ≡ false
unfolding spans any_at
none_at place m n [] h = refl
none_at place m n (w ∷ l) h =
    by (is_start w && all_values (up_to_start l)) (none_at place (m + 1) n l (λ i e a b c. h i e (omega (arith, a)) b (omega (arith, c))))
  where
    here : place (span m (m + 1 + length (up_to_start l))) ≡ n → ⊥
    here = h m (m + 1 + length (up_to_start l)) (omega arith) (omega arith) (omega (arith, up_short l))

    by : (b : Bool) → any_at place (spans (m + 1) l) n ≡ false
        → any_at place (cond b (span m (m + 1 + length (up_to_start l)) ∷ spans (m + 1) l) (spans (m + 1) l)) n ≡ false
    by true e = ap (λ t. t || any_at place (spans (m + 1) l) n) (ne_eqb (place (span m (m + 1 + length (up_to_start l)))) n here) ∙ e
    by false e = e

-- ---- where one begins

begins_later : (m n : ℕ) (l : List ℕ) → n < m → begins_at (spans m l) n ≡ false
begins_later m n l h = none_at (λ p. p.start) m n l (λ i e a b c q. omega (arith, h, a, q))

-- those before word m + k begin elsewhere
begins_on : (k m : ℕ) (l : List ℕ) → begins_at (spans m l) (m + k) ≡ begins_at (spans (m + k) (drop k l)) (m + k)
unfolding spans any_at
begins_on zero m l = ap (λ n. begins_at (spans n l) (m + 0)) (sym (add-zero m))
begins_on (suc k) m [] = refl
begins_on (suc k) m (w ∷ l) =
    by (is_start w && all_values (up_to_start l))
    (subst (λ n. begins_at (spans (m + 1) l) n ≡ begins_at (spans n (drop k l)) n) (let g : m + 1 + k ≡ m + suc k = omega arith in g) (begins_on k (m + 1) l))
  where
    by : (b : Bool) → begins_at (spans (m + 1) l) (m + suc k) ≡ begins_at (spans (m + suc k) (drop k l)) (m + suc k)
        → begins_at (cond b (span m (m + 1 + length (up_to_start l)) ∷ spans (m + 1) l) (spans (m + 1) l)) (m + suc k)
        ≡ begins_at (spans (m + suc k) (drop k l)) (m + suc k)
    by true on = ap (λ t. t || begins_at (spans (m + 1) l) (m + suc k)) (ne_eqb m (m + suc k) (λ q. omega (arith, q))) ∙ on
    by false on = on

begins_first : (n : ℕ) (l : List ℕ) → begins_at (spans n l) n ≡ found_at (first (spans n l)) n
unfolding spans any_at found_at
begins_first n [] = refl
begins_first n (w ∷ l) = by (is_start w && all_values (up_to_start l))
  where
    later : (r : List ArraySpan) → begins_at r n ≡ false → found_at (first r) n ≡ false
    later [] e = refl
    later (p ∷ r) e = or (eqb p.start n) e
      where
        or : (b : Bool) → b || begins_at r n ≡ false → b ≡ false
        or true q = q
        or false q = refl

    by : (b : Bool)
        → begins_at (cond b (span n (n + 1 + length (up_to_start l)) ∷ spans (n + 1) l) (spans (n + 1) l)) n
        ≡ found_at (first (cond b (span n (n + 1 + length (up_to_start l)) ∷ spans (n + 1) l) (spans (n + 1) l))) n
    by true = ap (λ t. t || begins_at (spans (n + 1) l) n) (eq-eqb n n refl) ∙ sym (eq-eqb n n refl)
    by false = let e = begins_later (n + 1) n l (omega arith) in e ∙ sym (later (spans (n + 1) l) e)

pub begins_is : (ws : List ℕ) (n : ℕ) → begins_at (spans 0 ws) n ≡ found_at (first (spans_from ws n)) n
begins_is ws n =
    subst (λ k. begins_at (spans 0 ws) k ≡ begins_at (spans k (drop n ws)) k) (let g : 0 + n ≡ n = omega arith in g) (begins_on n 0 ws)
    ∙ begins_first n (drop n ws)

-- ---- where one ends

ends_later : (m n : ℕ) (l : List ℕ) → n ≤ m → ends_at (spans m l) n ≡ false
ends_later m n l h = none_at (λ p. p.end) m n l (λ i e a b c q. omega (arith, h, a, b, q))

ends_beyond : (m n : ℕ) (l : List ℕ) → m + length l < n → ends_at (spans m l) n ≡ false
ends_beyond m n l h = none_at (λ p. p.end) m n l (λ i e a b c q. omega (arith, h, c, q))

-- an array of those from word m + k on is one of those from m on
ends_on : (k m n : ℕ) (l : List ℕ) → ends_at (spans (m + k) (drop k l)) n ≡ true → ends_at (spans m l) n ≡ true
unfolding spans any_at
ends_on zero m n l h = ap (λ i. ends_at (spans i l) n) (sym (add-zero m)) ∙ h
ends_on (suc k) m n [] h = h
ends_on (suc k) m n (w ∷ l) h =
    by (is_start w && all_values (up_to_start l))
    (ends_on k (m + 1) n l (ap (λ i. ends_at (spans i (drop k l)) n) (let g : m + 1 + k ≡ m + suc k = omega arith in g) ∙ h))
  where
    by : (b : Bool) → ends_at (spans (m + 1) l) n ≡ true → ends_at (cond b (span m (m + 1 + length (up_to_start l)) ∷ spans (m + 1) l) (spans (m + 1) l)) n ≡ true
    by true e = ap (λ t. eqb (m + 1 + length (up_to_start l)) n || t) e ∙ or_true (eqb (m + 1 + length (up_to_start l)) n)
    by false e = e

module _ (ws : List ℕ) (n : ℕ) where
  -- what ends before n, of the arrays from word i on and of the one that is open there
  abbrev Left : ℕ → ℕ → Bool → Type 0
  Left i k o = (start : ℕ) × (ends_at (spans 0 ws) n ≡ ends_at (going o ws start k) n)

  module _ (i : ℕ) (before : i < n) (inside : i < length ws) where
    passed : (start : ℕ) (l : List ArraySpan) → ends_at (span start (i + 0) ∷ l) n ≡ ends_at l n
    unfolding any_at
    passed start l = ap (λ t. t || ends_at l n) (ne_eqb (i + 0) n (λ q. omega (arith, before, q)))

    turn : (t : Bool) → is_start (get_or ws i 0) ≡ t → (o : Bool) → Left i i o → Left i (i + 1) (t || (o && is_value (get_or ws i 0)))
    unfolding all_values
    turn true q false z = (i, z.1 ∙ ap (λ l. ends_at l n) (later_start ws i inside q))
    turn true q true z = (
      i,
      z.1
          ∙ ap (λ u. ends_at (begun_before z.0 i u (spans_from ws i)) n) (up_start ws i inside q)
          ∙ passed z.0 (spans_from ws i)
          ∙ ap (λ l. ends_at l n) (later_start ws i inside q),
    )
    turn false q false z = (z.0, z.1 ∙ ap (λ l. ends_at l n) (later_other ws i inside q))
    turn false q true z = (z.0, z.1 ∙ ap (λ l. ends_at l n) (going_on_lem ws i inside z.0 (is_value (get_or ws i 0)) refl q))

  left_to : (i : ℕ) → i ≤ n → n ≤ length ws → Left i i (open_at ws i)
  unfolding open_at
  left_to zero h m = (0, refl)
  left_to (suc i) h m =
      subst (λ k. Left i k (open_at ws (suc i))) (add-one i)
      (turn i (omega (arith, h)) (omega (arith, h, m)) (is_start (get_or ws i 0)) refl (open_at ws i) (left_to i (omega (arith, h)) m))

  whole : (start : ℕ) → ends_at (span start (n + 0) ∷ spans_from ws n) n ≡ true
  unfolding any_at
  whole start = ap (λ t. t || ends_at (spans_from ws n) n) (eq-eqb (n + 0) n (add-zero n))

  at_last : n ≤ length ws → (o : Bool) (start : ℕ) → ends_at (going o ws start n) n ≡ is_bound ws n && o
  unfolding is_bound up_to_start all_values any_at
  at_last m false start = ends_later n n (drop n ws) (omega arith) ∙ sym (and_false (is_bound ws n))
  at_last m true start = by (ltb n (length ws)) refl ∙ sym (and_true (is_bound ws n))
    where
      other : (b : Bool) (k : ℕ) → ends_at (cond b (span start (n + suc k) ∷ spans_from ws n) (spans_from ws n)) n ≡ false
      other true k = ap (λ t. t || ends_at (spans_from ws n) n) (ne_eqb (n + suc k) n (λ q. omega (arith, q))) ∙ ends_later n n (drop n ws) (omega arith)
      other false k = ends_later n n (drop n ws) (omega arith)

      by : (b : Bool) → ltb n (length ws) ≡ b → ends_at (going true ws start n) n ≡ cond b (is_start (get_or ws n 0)) (eqb n (length ws))
      by true e = on (is_start (get_or ws n 0)) refl
        where
          on : (t : Bool) → is_start (get_or ws n 0) ≡ t → ends_at (going true ws start n) n ≡ t
          on true q = ap (λ u. ends_at (begun_before start n u (spans_from ws n)) n) (up_start ws n (ltb-true n (length ws) e) q) ∙ whole start
          on false q =
              ap (λ u. ends_at (begun_before start n u (spans_from ws n)) n) (up_other ws n (ltb-true n (length ws) e) q)
              ∙ other (all_values (get_or ws n 0 ∷ up_to_start (drop (n + 1) ws))) (length (up_to_start (drop (n + 1) ws)))
      by false e =
          let out = ltb-false n (length ws) e in
          ap (λ r. ends_at (begun_before start n (up_to_start r) (spans_from ws n)) n) (drop_of_length-le ws {i = n} (omega (arith, out)))
          ∙ whole start
          ∙ sym (eq-eqb n (length ws) (omega (arith, out, m)))

  pub ends_is : ends_at (spans 0 ws) n ≡ is_bound ws n && open_at ws n
  unfolding is_bound
  ends_is = by (ltb (length ws) n) refl
    where
      by : (b : Bool) → ltb (length ws) n ≡ b → ends_at (spans 0 ws) n ≡ is_bound ws n && open_at ws n
      by true e =
          let out = ltb-true (length ws) n e in
          ends_beyond 0 n ws (omega (arith, out))
          ∙ sym (ap (λ t. cond t (is_start (get_or ws n 0)) (eqb n (length ws)) && open_at ws n) (far (ltb n (length ws)) refl)
          ∙ ap (λ t. t && open_at ws n) (ne_eqb n (length ws) (λ q. omega (arith, out, q))))
        where
          far : (b : Bool) → ltb n (length ws) ≡ b → b ≡ false
          far true q = absurd (omega (arith, ltb-true (length ws) n e, ltb-true n (length ws) q))
          far false q = refl
      by false e =
          let m = ltb-false (length ws) n e in
          let z = left_to n (omega arith) (omega (arith, m)) in
          z.1 ∙ at_last (omega (arith, m)) (open_at ws n) z.0

-- ---- the walk back

pub bound_most : (ws : List ℕ) (n : ℕ) → is_bound ws n ≡ true → n ≤ length ws
unfolding is_bound
bound_most ws n h = by (ltb n (length ws)) refl h
  where
    by : (b : Bool) → ltb n (length ws) ≡ b → cond b (is_start (get_or ws n 0)) (eqb n (length ws)) ≡ true → n ≤ length ws
    by true e q = omega (arith, ltb-true n (length ws) e)
    by false e q = omega (arith, eqb-true n (length ws) q)

module _ (ws : List ℕ) where
  -- over a value, word k, an array is open as it was before
  pub open_back : (i k : ℕ) → i ≡ k + 1 → is_value (get_or ws k 0) ≡ true → is_start (get_or ws k 0) ≡ false → open_at ws k ≡ open_at ws i
  unfolding open_at
  open_back i k h v e =
      sym
      (ap (open_at ws) (h ∙ add-one k)
      ∙ ap (λ t. t || (open_at ws k && is_value (get_or ws k 0))) e
      ∙ ap (λ t. open_at ws k && t) v
      ∙ and_true (open_at ws k))

  -- another word decides
  pub open_stop : (i k : ℕ) → i ≡ k + 1 → is_value (get_or ws k 0) ≡ false → is_start (get_or ws k 0) ≡ open_at ws i
  unfolding open_at
  open_stop i k h v =
      sym
      (ap (open_at ws) (h ∙ add-one k)
      ∙ ap (λ t. is_start (get_or ws k 0) || (open_at ws k && t)) v
      ∙ ap (λ t. is_start (get_or ws k 0) || t) (and_false (open_at ws k))
      ∙ or_false (is_start (get_or ws k 0)))

  pub open_none : (i : ℕ) → i ≤ 0 → false ≡ open_at ws i
  unfolding open_at
  open_none zero h = refl
  open_none (suc i) h = absurd (omega (arith, h))

-- ---- a cursor that a call gives

pub stands_given : (ws : List ℕ) (n : ℕ) (q : ArraySpan) → first (spans_from ws n) ≡ Some q → stands ws q.end ≡ true
unfolding stands any_at
stands_given ws n q h =
    ap (λ t. eqb q.end 0 || (begins_at (spans 0 ws) q.end || t)) (ends_on n 0 q.end ws (ap (λ k. ends_at (spans k (drop n ws)) q.end) (let g : 0 + n ≡ n = omega arith in g) ∙ here (spans_from ws n) h))
    ∙ ap (λ t. eqb q.end 0 || t) (or_true (begins_at (spans 0 ws) q.end))
    ∙ or_true (eqb q.end 0)
  where
    here : (l : List ArraySpan) → first l ≡ Some q → ends_at l q.end ≡ true
    here [] e = absurd (missing_array e)
    here (p ∷ rest) e = ap (λ t. t || ends_at rest q.end) (eq-eqb p.end q.end (ap (λ x. x.end) (same_Some p q e)))

-- ---- a cursor that stands at no array

pub stands_nowhere : (ws : List ℕ) (n : ℕ) → (n ≡ 0 → ⊥)
    → ((k : ℕ) (p : ArraySpan) → get_elem? (spans 0 ws) k ≡ some p → (p.start ≡ n → ⊥) × (p.end ≡ n → ⊥)) → stands ws n ≡ false
unfolding stands any_at
stands_nowhere ws n h none_there =
    ap (λ t. t || (begins_at (spans 0 ws) n || ends_at (spans 0 ws) n)) (ne_eqb n 0 h)
    ∙ ap (λ t. t || ends_at (spans 0 ws) n) (nowhere (λ p. p.start) (spans 0 ws) (λ k p e. (none_there k p e).0))
    ∙ nowhere (λ p. p.end) (spans 0 ws) (λ k p e. (none_there k p e).1)
  where
    nowhere : (place : ArraySpan → ℕ) (l : List ArraySpan) → ((k : ℕ) (p : ArraySpan) → get_elem? l k ≡ some p → place p ≡ n → ⊥) → any_at place l n ≡ false
    nowhere place [] g = refl
    nowhere place (p ∷ l) g = ap (λ t. t || any_at place l n) (ne_eqb (place p) n (g 0 p refl)) ∙ nowhere place l (λ k. g (suc k))
