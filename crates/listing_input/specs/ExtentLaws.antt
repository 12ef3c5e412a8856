-- The text's end lies within what was read, and stays where it is when more is read: it is found as soon as it is there. Assumes nothing.
use Rattle.std.specs.Prelude.{ℕ, suc, ◌+◌, ◌-◌, ◌≤◌, ◌<◌, ◌≡◌, refl, Bool, true, false, cond, ◌&&◌, List, [], ◌∷◌, ◌++◌, length, get_or, drop, eqb, leb, Some, None}
use Rattle.std.proofs.Common.{arith, sym, ap, ◌∙◌, length-drop, leb-true, leb-false}
use Rattle.std.proofs.Math.ListN.{get_or-eq_default}
use Rattle.text_number.proofs.Laws.{and_right}
use Rattle.base_lines.specs.Line.{is_close}
use Rattle.base_laws.specs.Tests.{yes, no, not_second}
use Rattle.listing_input.specs.Extent.{two_closes, extent_from, extent_of}

-- ---- two lines `)` have four bytes

short_close : (s : List ℕ) → length s < 2 → is_close s ≡ false
unfolding is_close
short_close s h = not_second (eqb (get_or s 0 0) 41) (ap (λ b. eqb b 10) (get_or-eq_default s 0 (omega (arith, h))))

pub short_two : (s : List ℕ) → length s < 4 → two_closes s ≡ false
unfolding two_closes
short_two s h =
    let m : length (drop 2 s) ≡ length s - 2 = length-drop 2 s in
    not_second (is_close s) (short_close (drop 2 s) (omega (arith, m, h)))

clash : {A : Type 0} → true ≡ false → A
clash e = absurd (let z : ◌≡◌ {A = ℕ} 0 1 = cc in omega arith)

pub two_long : (s : List ℕ) → two_closes s ≡ true → 4 ≤ length s
two_long s h = go (leb 4 (length s)) refl
  where
    go : (t : Bool) → leb 4 (length s) ≡ t → 4 ≤ length s
    go true e = leb-true 4 (length s) e
    go false e = clash (sym h ∙ short_two s (leb-false 4 (length s) e))

two_append : (s r : List ℕ) → 4 ≤ length s → two_closes (s ++ r) ≡ two_closes s
unfolding two_closes is_close
two_append [] r h = absurd (omega arith)
two_append (a ∷ []) r h = absurd (omega arith)
two_append (a ∷ b ∷ []) r h = absurd (omega arith)
two_append (a ∷ b ∷ c ∷ []) r h = absurd (omega arith)
two_append (a ∷ b ∷ c ∷ d ∷ s) r h = refl

-- ---- the end found

record EndsIn (m : ℕ) (s : List ℕ) (n : ℕ) : Type 0 where
  four : 4 ≤ length s
  within : n ≤ m + length s

ends_in : (t : Bool) (m : ℕ) (s : List ℕ) (n : ℕ) → extent_from t m s ≡ Some n → EndsIn m s n
unfolding extent_from
ends_in t m [] n h = absurd (let z : ◌≡◌ {A = ℕ} 0 1 = cc in omega arith)
ends_in t m (b ∷ s) n h = go (t && two_closes (b ∷ s)) refl (ends_in (eqb b 10) (m + 1) s n) h
  where
    go : (u : Bool) → (t && two_closes (b ∷ s)) ≡ u → (extent_from (eqb b 10) (m + 1) s ≡ Some n → EndsIn (m + 1) s n)
        → cond u (Some (m + 4)) (extent_from (eqb b 10) (m + 1) s) ≡ Some n → EndsIn m (b ∷ s) n
    go true e ih h =
        let q : m + 4 ≡ n = cc in
        let l : 4 ≤ suc (length s) = two_long (b ∷ s) (and_right t (two_closes (b ∷ s)) e) in
        record { four = l; within = omega (arith, q, l) }
    go false e ih h =
        let k = ih h in
        record { four = omega (arith, k.four); within = omega (arith, k.within) }

pub ends_within : (s : List ℕ) (n : ℕ) → extent_of s ≡ Some n → n ≤ length s
unfolding extent_of
ends_within s n h = let k = (ends_in true 0 s n h).within in omega (arith, k)

-- ---- more is read

from_stays : (t : Bool) (m : ℕ) (s r : List ℕ) (n : ℕ) → extent_from t m s ≡ Some n → extent_from t m (s ++ r) ≡ Some n
unfolding extent_from
from_stays t m [] r n h = absurd (let z : ◌≡◌ {A = ℕ} 0 1 = cc in omega arith)
from_stays t m (b ∷ s) r n h = go (t && two_closes (b ∷ s)) refl (from_stays (eqb b 10) (m + 1) s r n) h
  where
    go : (u : Bool) → (t && two_closes (b ∷ s)) ≡ u → (extent_from (eqb b 10) (m + 1) s ≡ Some n → extent_from (eqb b 10) (m + 1) (s ++ r) ≡ Some n)
        → cond u (Some (m + 4)) (extent_from (eqb b 10) (m + 1) s) ≡ Some n
        → cond (t && two_closes (b ∷ s ++ r)) (Some (m + 4)) (extent_from (eqb b 10) (m + 1) (s ++ r)) ≡ Some n
    go true e ih h =
        let l = two_long (b ∷ s) (and_right t (two_closes (b ∷ s)) e) in
        yes _ _ (ap (λ x. t && x) (two_append (b ∷ s) r l) ∙ e) ∙ h
    go false e ih h =
        let k = (ends_in (eqb b 10) (m + 1) s n h).four in
        let l : 4 ≤ suc (length s) = omega (arith, k) in
        no _ _ (ap (λ x. t && x) (two_append (b ∷ s) r l) ∙ e) ∙ ih h

-- What was read of the input shows the text's end for the whole of it.
pub ends_stays : (s r : List ℕ) (n : ℕ) → extent_of s ≡ Some n → extent_of (s ++ r) ≡ Some n
unfolding extent_of
ends_stays s r n h = from_stays true 0 s r n h

-- ---- an end that was not there

all_none : {A : Type 0} (n : ℕ) → Some n ≡ None → A
all_none n e = absurd (let z : ◌≡◌ {A = ℕ} 0 1 = cc in omega arith)

past : (t : Bool) (m : ℕ) (s : List ℕ) (n : ℕ) → extent_from t m s ≡ Some n → m < n
unfolding extent_from
past t m [] n h = absurd (let z : ◌≡◌ {A = ℕ} 0 1 = cc in omega arith)
past t m (b ∷ s) n h = go (t && two_closes (b ∷ s)) (past (eqb b 10) (m + 1) s n) h
  where
    go : (u : Bool) → (extent_from (eqb b 10) (m + 1) s ≡ Some n → m + 1 < n) → cond u (Some (m + 4)) (extent_from (eqb b 10) (m + 1) s) ≡ Some n → m < n
    go true ih h = let q : m + 4 ≡ n = cc in omega (arith, q)
    go false ih h = let k = ih h in omega (arith, k)

from_later : (t : Bool) (m : ℕ) (s r : List ℕ) (n : ℕ) → extent_from t m s ≡ None → extent_from t m (s ++ r) ≡ Some n → m + length s < n
unfolding extent_from
from_later t m [] r n a h = let k = past t m r n h in omega (arith, k)
from_later t m (b ∷ s) r n a h = go (t && two_closes (b ∷ s)) (t && two_closes (b ∷ s ++ r)) refl refl (from_later (eqb b 10) (m + 1) s r n) a h
  where
    go : (u v : Bool) → (t && two_closes (b ∷ s)) ≡ u → (t && two_closes (b ∷ s ++ r)) ≡ v
        → (extent_from (eqb b 10) (m + 1) s ≡ None → extent_from (eqb b 10) (m + 1) (s ++ r) ≡ Some n → m + 1 + length s < n)
        → cond u (Some (m + 4)) (extent_from (eqb b 10) (m + 1) s) ≡ None → cond v (Some (m + 4)) (extent_from (eqb b 10) (m + 1) (s ++ r)) ≡ Some n
        → m + suc (length s) < n
    go true v e f ih a h = all_none (m + 4) a
    go false true e f ih a h = by (leb 4 (suc (length s))) refl
      where
        by : (c : Bool) → leb 4 (suc (length s)) ≡ c → m + suc (length s) < n
        by true d = clash (sym f ∙ ap (λ x. t && x) (two_append (b ∷ s) r (leb-true 4 (suc (length s)) d)) ∙ e)
        by false d =
            let q : m + 4 ≡ n = cc in
            let l = leb-false 4 (suc (length s)) d in
            omega (arith, q, l)
    go false false e f ih a h = let k = ih a h in omega (arith, k)

-- Where no end was there yet, it stands behind all that was read.
pub ends_later : (s r : List ℕ) (n : ℕ) → extent_of s ≡ None → extent_of (s ++ r) ≡ Some n → length s < n
unfolding extent_of
ends_later s r n a h = let k = from_later true 0 s r n a h in omega (arith, k)
