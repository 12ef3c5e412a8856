-- Which case of a fixed value's definition each test of the code picks. Assumes nothing.
use Rattle.std.specs.Prelude.{Float, Option, Some, None}
use Prim.Native.Nat.{ℕ, suc, ◌+◌, ◌-◌, ◌^◌, ◌≤◌, ◌<◌}
use native.Mathlib.Nat.{not-suc-le-zero}
use native.Mathlib.Omega.{arith}
use mathlib.Core.Path.{◌≡◌, refl, sym, ap, ◌∙◌, subst}
use mathlib.Core.Bool.{Bool, true, false, cond, ◌&&◌}
use mathlib.Core.List.{List, [], ◌∷◌, ◌++◌}
use lib.ListN.{length, get_or, take, drop, length-append, length-drop}
use lib.Seq.{length-take-le}
use lib.Dec.{leb, ltb, eqb}
use Rattle.std.specs.List.{position_or_len}
use Rattle.std.proofs.lemmas.List.Recursion.{is_position_or_len}
use borrow.Author.Tests.{le-leb, lt-leb, lt-ltb, le-ltb, eq-eqb, ne_eqb, ltb-true, ltb-false}
use Rattle.text_number.specs.Keyed.{all_digits, value_from, value, is_numeral, nearest, before_point, pointed, unsigned_of, fixed_of}
use Rattle.text_number.proofs.Laws.{value_from_append, all_digits_append, value_within}
use Rattle.base_laws.specs.Tests.{yes, no, both, not_first, not_second}

-- ---- tests

pub picked : {A : Type 0} {t : Bool} (x y : A) → t ≡ true → x ≡ cond t x y
picked x y e = sym (yes x y e)

pub passed : {A : Type 0} {t : Bool} (x y : A) → t ≡ false → y ≡ cond t x y
passed x y e = sym (no x y e)

-- ---- the bytes before the point

point_is : (s : List ℕ) → before_point s ≡ position_or_len (λ b. eqb b 46) s
unfolding before_point
point_is = is_position_or_len before_point (λ b. eqb b 46) refl (λ b s. ap (cond (eqb b 46) 0) (let q : suc (before_point s) ≡ 1 + before_point s = omega arith in q))

-- what `position` finds
abbrev pub point_in : List ℕ → Option ℕ
point_in s = cond (ltb (before_point s) (length s)) (Some (before_point s)) None

pub point_found : (s : List ℕ) (r : Option ℕ) → r ≡ cond (ltb (position_or_len (λ b. eqb b 46) s) (length s)) (Some (position_or_len (λ b. eqb b 46) s)) None → r ≡ point_in s
point_found s r e = e ∙ ap (λ n. cond (ltb n (length s)) (Some n) None) (sym (point_is s))

-- ---- digits on both sides of a point

module _ (negative : Bool) (a b : List ℕ) where
  no_left : length a < 1 → None ≡ pointed negative a b
  no_left h = passed _ None (not_first _ (lt-leb 1 (length a) h))

  no_right : length b < 1 → None ≡ pointed negative a b
  no_right h = passed _ None (not_second (leb 1 (length a)) (not_first _ (lt-leb 1 (length b) h)))

  no_numeral : is_numeral 5 (a ++ b) ≡ false → None ≡ pointed negative a b
  no_numeral h = passed _ None (not_second (leb 1 (length a)) (not_second (leb 1 (length b)) h))

  pub too_many : 5 < length a + length b → None ≡ pointed negative a b
  too_many h =
      no_numeral (not_second (leb 1 (length (a ++ b))) (not_first _ (lt-leb (length (a ++ b)) 5 (subst (λ n. 5 < n) (sym (length-append a b)) h))))

  no_digits : (all_digits a && all_digits b) ≡ false → None ≡ pointed negative a b
  no_digits h = no_numeral (not_second (leb 1 (length (a ++ b))) (not_second (leb (length (a ++ b)) 5) (all_digits_append a b ∙ h)))

  pub not_left : all_digits a ≡ false → None ≡ pointed negative a b
  not_left h = no_digits (not_first (all_digits b) h)

  pub not_right : all_digits b ≡ false → None ≡ pointed negative a b
  not_right h = no_digits (not_second (all_digits a) h)

  module _ (few : length a + length b ≤ 5) (h : all_digits a ≡ true) (k : all_digits b ≡ true) where
    digits : all_digits (a ++ b) ≡ true
    digits = all_digits_append a b ∙ both h k

    short : length (a ++ b) ≤ 5
    short = subst (λ n. n ≤ 5) (sym (length-append a b)) few

    pub joined_small : value_from (value a) b < 10 ^ 5
    joined_small = subst (λ n. n < 10 ^ 5) (value_from_append 0 a b) (value_within 5 (a ++ b) short digits)

    pub pointed_is : 1 ≤ length a → 1 ≤ length b → Some (nearest negative (value_from (value a) b) (length b)) ≡ pointed negative a b
    pointed_is l r =
        let some : 1 ≤ length (a ++ b) = subst (λ n. 1 ≤ n) (sym (length-append a b)) (omega arith) in
        ap (λ n. Some (nearest negative n (length b))) (sym (value_from_append 0 a b))
        ∙ picked (Some (nearest negative (value (a ++ b)) (length b))) None
        (both (le-leb 1 (length a) l) (both (le-leb 1 (length b) r) (both (le-leb 1 (length (a ++ b)) some) (both (le-leb (length (a ++ b)) 5 short) digits))))

-- ---- what stands behind the sign

module _ (negative : Bool) (s : List ℕ) where
  abbrev plain : Option Float
  plain = cond (is_numeral 5 s) (Some (nearest negative (value s) 0)) None

  with_point : (p : ℕ) → p ≡ before_point s → p < length s → pointed negative (take p s) (drop (p + 1) s) ≡ unsigned_of negative s
  unfolding unsigned_of
  with_point p e h =
      ap (λ k. pointed negative (take k s) (drop (k + 1) s)) e
      ∙ picked (pointed negative (take (before_point s) s) (drop (before_point s + 1) s)) plain (lt-ltb (before_point s) (length s) (subst (λ k. k < length s) e h))

  without_point : (p : ℕ) → p ≡ before_point s → length s ≤ p → plain ≡ unsigned_of negative s
  unfolding unsigned_of
  without_point p e h =
      passed (pointed negative (take (before_point s) s) (drop (before_point s + 1) s)) plain (le-ltb (before_point s) (length s) (subst (λ k. length s ≤ k) e h))

  pub at_point : (p : ℕ) → Some p ≡ point_in s → (p < length s) × (pointed negative (take p s) (drop (p + 1) s) ≡ unsigned_of negative s)
  at_point p e = go (ltb (before_point s) (length s)) refl e
    where
      go : (t : Bool) → ltb (before_point s) (length s) ≡ t → Some p ≡ cond t (Some (before_point s)) None → (p < length s) × (pointed negative (take p s) (drop (p + 1) s) ≡ unsigned_of negative s)
      go true d e =
          let q : p ≡ before_point s = cc in
          let l : p < length s = subst (λ k. k < length s) (sym q) (ltb-true (before_point s) (length s) d) in
          (l, with_point p q l)
      go false d e = absurd (cc)

  pub no_point : None ≡ point_in s → plain ≡ unsigned_of negative s
  no_point e = go (ltb (before_point s) (length s)) refl e
    where
      go : (t : Bool) → ltb (before_point s) (length s) ≡ t → None ≡ cond t (Some (before_point s)) None → plain ≡ unsigned_of negative s
      go true d e = absurd (cc)
      go false d e = without_point (before_point s) refl (ltb-false (before_point s) (length s) d)

  pub too_long : 6 < length s → None ≡ unsigned_of negative s
  too_long h = go (ltb (before_point s) (length s)) refl
    where
      go : (t : Bool) → ltb (before_point s) (length s) ≡ t → None ≡ unsigned_of negative s
      go true e =
          let within : before_point s < length s = ltb-true (before_point s) (length s) e in
          let l : length (take (before_point s) s) ≡ before_point s = length-take-le (before_point s) s (omega arith) in
          let r : length (drop (before_point s + 1) s) ≡ length s - (before_point s + 1) = length-drop (before_point s + 1) s in
          too_many negative (take (before_point s) s) (drop (before_point s + 1) s) (omega (arith, l, r, within, h)) ∙ with_point (before_point s) refl within
      go false e =
          passed (Some (nearest negative (value s) 0)) None (not_second (leb 1 (length s)) (not_first _ (lt-leb (length s) 5 (omega (arith, h)))))
          ∙ without_point (before_point s) refl (ltb-false (before_point s) (length s) e)

-- ---- the sign

pub fixed_minus : (s : List ℕ) → 1 ≤ length s → get_or s 0 0 ≡ 45 → unsigned_of true (drop 1 s) ≡ fixed_of s
unfolding fixed_of
fixed_minus [] l h = absurd (not-suc-le-zero l)
fixed_minus (b ∷ s) l h = picked (unsigned_of true s) (unsigned_of false (b ∷ s)) (eq-eqb b 45 h)

pub fixed_plain : (s : List ℕ) → (1 ≤ length s → get_or s 0 0 ≡ 45 → ⊥) → unsigned_of false s ≡ fixed_of s
unfolding fixed_of unsigned_of before_point all_digits
fixed_plain [] h = refl
fixed_plain (b ∷ s) h = passed (unsigned_of true s) (unsigned_of false (b ∷ s)) (ne_eqb b 45 (h (omega arith)))
