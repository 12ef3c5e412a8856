-- A line of more than 25 bytes says nothing: a reading's line has 9 bytes, a number of 7 digits, a space, a sign, 5 digits and a point, and `)`.
-- Assumes nothing.
use Rattle.std.specs.Prelude.{ℕ, zero, suc, ◌+◌, ◌-◌, ◌≤◌, ◌<◌, min, ◌≡◌, refl, Bool, true, false, cond, ◌&&◌, List, [], ◌∷◌, ◌++◌, length, get_or, take, drop, leb, ltb, eqb, Float, Option, Some, None}
use Rattle.std.proofs.Common.{arith, sym, ap, ◌∙◌, length-append, length-take, length-drop, leb-true, ltb-true, eqb-true}
use Rattle.text_number.proofs.Laws.{and_left, and_right}
use Rattle.text_number.specs.Keyed.{all_digits, value, is_numeral, nearest, whole_of, before_point, pointed, unsigned_of, fixed_of}
use Rattle.text_items.specs.Split.{split, on_first, all_items, items_of, is_same}
use Rattle.text_parameters.specs.Parameter.{item, fixed_in}
use Rattle.listing_input.specs.declared.Line.{Line}
use Rattle.listing_input.specs.Line.{reading_of, tick_of, the_reading, the_tick, line_in, line_of}
use Rattle.spec_listing.specs.Pieces.{Cons, split_some}

clash : {A : Type 0} → true ≡ false → A
clash e = absurd (let z : ◌≡◌ {A = ℕ} 0 1 = cc in omega arith)

-- ---- numbers are short

numeral_short : (most : ℕ) (s : List ℕ) → is_numeral most s ≡ true → length s ≤ most
numeral_short most s h =
    leb-true (length s) most (and_left (leb (length s) most) (all_digits s) (and_right (leb 1 (length s)) (leb (length s) most && all_digits s) h))

whole_short : (s : List ℕ) (n : ℕ) → whole_of s ≡ Some n → length s ≤ 7
unfolding whole_of
whole_short s n h = go (is_numeral 7 s) refl h
  where
    go : (t : Bool) → is_numeral 7 s ≡ t → cond t (Some (value s)) None ≡ Some n → length s ≤ 7
    go true e h = numeral_short 7 s e
    go false e h = absurd (let z : ◌≡◌ {A = ℕ} 0 1 = cc in omega arith)

pointed_short : (negative : Bool) (a b : List ℕ) (v : Float) → pointed negative a b ≡ Some v → length a + length b ≤ 5
pointed_short negative a b v h = go (leb 1 (length a) && (leb 1 (length b) && is_numeral 5 (a ++ b))) refl h
  where
    go : (t : Bool) → (leb 1 (length a) && (leb 1 (length b) && is_numeral 5 (a ++ b))) ≡ t
        → cond t (Some (nearest negative (value (a ++ b)) (length b))) None ≡ Some v → length a + length b ≤ 5
    go true e h =
        let z = numeral_short 5 (a ++ b) (and_right (leb 1 (length b)) (is_numeral 5 (a ++ b)) (and_right (leb 1 (length a)) (leb 1 (length b) && is_numeral 5 (a ++ b)) e)) in
        omega (arith, z, length-append a b)
    go false e h = absurd (let z : ◌≡◌ {A = ℕ} 0 1 = cc in omega arith)

unsigned_short : (negative : Bool) (s : List ℕ) (v : Float) → unsigned_of negative s ≡ Some v → length s ≤ 6
unfolding unsigned_of
unsigned_short negative s v h = go (ltb (before_point s) (length s)) (is_numeral 5 s) refl refl h
  where
    go : (t u : Bool) → ltb (before_point s) (length s) ≡ t → is_numeral 5 s ≡ u
        → cond t (pointed negative (take (before_point s) s) (drop (before_point s + 1) s)) (cond u (Some (nearest negative (value s) 0)) None) ≡ Some v
        → length s ≤ 6
    go true u e f h =
        let z = pointed_short negative (take (before_point s) s) (drop (before_point s + 1) s) v h in
        let a = length-take (before_point s) s in
        let b = length-drop (before_point s + 1) s in
        let c = ltb-true (before_point s) (length s) e in
        omega (arith, z, a, b, c)
    go false true e f h = let z = numeral_short 5 s f in omega (arith, z)
    go false false e f h = absurd (let z : ◌≡◌ {A = ℕ} 0 1 = cc in omega arith)

fixed_short : (s : List ℕ) (v : Float) → fixed_of s ≡ Some v → length s ≤ 7
unfolding fixed_of
fixed_short [] v h = omega arith
fixed_short (b ∷ s) v h = go (eqb b 45) h
  where
    go : (t : Bool) → cond t (unsigned_of true s) (unsigned_of false (b ∷ s)) ≡ Some v → suc (length s) ≤ 7
    go true h = let z = unsigned_short true s v h in omega (arith, z)
    go false h = let z = unsigned_short false (b ∷ s) v h in omega (arith, z)

same_long : (s t : List ℕ) → is_same s t ≡ true → length s ≡ length t
unfolding is_same
same_long [] [] h = refl
same_long [] (b ∷ t) h = clash (sym h)
same_long (a ∷ s) [] h = clash (sym h)
same_long (a ∷ s) (b ∷ t) h = ap suc (same_long s t (and_right (eqb a b) (is_same s t) h))

-- ---- the items of a line, with a byte behind each

unfoldable total : List (List ℕ) → ℕ
total [] = 0
total (w ∷ ws) = suc (length w + total ws)

split_total : (k : ℕ) (s : List ℕ) → total (split k s) ≡ suc (length s)
unfolding split total
split_total k [] = refl
split_total k (b ∷ s) = go (eqb b k) (split_some k s) (split_total k s)
  where
    go : (t : Bool) → Cons (split k s) → total (split k s) ≡ suc (length s) → total (cond t ([] ∷ split k s) (on_first b (split k s))) ≡ suc (suc (length s))
    go true c ih = let g : suc (0 + total (split k s)) ≡ suc (suc (length s)) = omega (arith, ih) in g
    go false c ih =
        let e : total (split k s) ≡ suc (length c.head + total c.tail) = ap total c.is in
        ap (λ x. total (on_first b x)) c.is ∙ (let g : suc (suc (length c.head) + total c.tail) ≡ suc (suc (length s)) = omega (arith, e, ih) in g)

-- ---- a line

reading_long : (a b : List ℕ) → 14 < length a + length b → reading_of (whole_of a) (fixed_of b) ≡ None
unfolding reading_of
reading_long a b h = go (whole_of a) (fixed_of b) refl refl
  where
    go : (w : Option ℕ) (f : Option Float) → whole_of a ≡ w → fixed_of b ≡ f → reading_of w f ≡ None
    go None f p q = refl
    go (Some n) None p q = refl
    go (Some n) (Some v) p q =
        let x = whole_short a n p in
        let y = fixed_short b v q in
        absurd (let z : ⊥ = omega (arith, x, y, h) in z)

tick_long : (a b : List ℕ) → 14 < length a + length b → tick_of (whole_of a) (whole_of b) ≡ None
unfolding tick_of
tick_long a b h = go (whole_of a) (whole_of b) refl refl
  where
    go : (w f : Option ℕ) → whole_of a ≡ w → whole_of b ≡ f → tick_of w f ≡ None
    go None f p q = refl
    go (Some n) None p q = refl
    go (Some n) (Some v) p q =
        let x = whole_short a n p in
        let y = whole_short b v q in
        absurd (let z : ⊥ = omega (arith, x, y, h) in z)

three_long : (a b c : List ℕ) → 21 < length a + (length b + length c)
    → cond (is_same a the_reading) (reading_of (whole_of b) (fixed_of c)) (cond (is_same a the_tick) (tick_of (whole_of b) (whole_of c)) None) ≡ None
three_long a b c h = go (is_same a the_reading) (is_same a the_tick) refl refl
  where
    go : (t u : Bool) → is_same a the_reading ≡ t → is_same a the_tick ≡ u
        → cond t (reading_of (whole_of b) (fixed_of c)) (cond u (tick_of (whole_of b) (whole_of c)) None) ≡ None
    go true u p q = let z : length a ≡ 7 = same_long a the_reading p in reading_long b c (omega (arith, z, h))
    go false true p q = let z : length a ≡ 4 = same_long a the_tick q in tick_long b c (omega (arith, z, h))
    go false false p q = refl

items_long : (ws : List (List ℕ)) → 24 < total ws → line_in ws ≡ None
unfolding line_in fixed_in total
items_long [] h = refl
items_long (a ∷ []) h = refl
items_long (a ∷ b ∷ []) h = refl
items_long (a ∷ b ∷ c ∷ []) h = three_long a b c (omega (arith, h))
items_long (a ∷ b ∷ c ∷ d ∷ ws) h = go (eqb (length (a ∷ b ∷ c ∷ d ∷ ws)) 3) refl
  where
    go : (t : Bool) → eqb (length (a ∷ b ∷ c ∷ d ∷ ws)) 3 ≡ t
        → cond t (cond (is_same a the_reading) (reading_of (whole_of b) (fixed_of c)) (cond (is_same a the_tick) (tick_of (whole_of b) (whole_of c)) None)) None ≡ None
    go true e = absurd (let z = eqb-true (length (a ∷ b ∷ c ∷ d ∷ ws)) 3 e in let y : ⊥ = omega (arith, z) in y)
    go false e = refl

none_said : line_in [] ≡ None
unfolding line_in
none_said = refl

pub line_long : (l : List ℕ) → 25 < length l → line_of l ≡ None
unfolding line_of items_of
line_long l h = go (leb 2 (length l) && (eqb (get_or l 0 0) 40 && eqb (get_or l (length l - 1) 0) 41))
  where
    s : List ℕ
    s = take (length l - 1 - 1) (drop 1 l)

    long : 24 < total (split 32 s)
    long =
        let a = length-take (length l - 1 - 1) (drop 1 l) in
        let b = length-drop 1 l in
        let c = split_total 32 s in
        omega (arith, a, b, c, h)

    by : (t : Bool) → line_in (cond t (split 32 s) []) ≡ None
    by true = items_long (split 32 s) long
    by false = none_said

    go : (t : Bool) → cond t (line_in (cond (all_items (split 32 s)) (split 32 s) [])) None ≡ None
    go true = by (all_items (split 32 s))
    go false = refl
