-- What one turn of a loop over bytes does to the definitions, and which case of a definition a test picks. Assumes nothing.
use Prim.Native.Nat.{ℕ, ◌+◌, ◌-◌, ◌*◌, ◌^◌, ◌≤◌, ◌<◌}
use native.Mathlib.Numerals.{add-one}
use native.Mathlib.Omega.{arith}
use mathlib.Core.Path.{◌≡◌, sym, ap, ◌∙◌}
use mathlib.Core.Bool.{Bool, true, false, cond, ◌&&◌}
use mathlib.Core.List.{List}
use lib.ListN.{length, get_or, take, drop}
use lib.Seq.{drop-cons}
use Rattle.std.proofs.Common.{take_all}
use lib.Dec.{leb}
use borrow.Author.Tests.{leb-true}
use Rattle.text_number.specs.Keyed.{is_digit, all_digits, value_from, is_dashed, whole_of, located, location_keyed}
use Rattle.text_number.proofs.Laws.{and_left, and_right, value_from_grows}

-- ---- tests

pub picked : {A : Type 0} {t : Bool} (x y : A) → t ≡ true → x ≡ cond t x y
picked x y e = ap (λ b. cond b x y) (sym e)

pub passed : {A : Type 0} {t : Bool} (x y : A) → t ≡ false → y ≡ cond t x y
passed x y e = ap (λ b. cond b x y) (sym e)

-- ---- a turn

pub digits_at_lem : (s : List ℕ) (i : ℕ) → i < length s → all_digits (drop i s) ≡ (is_digit (get_or s i 0) && all_digits (drop (i + 1) s))
unfolding all_digits
digits_at_lem s i h = ap all_digits (drop-cons s i 0 h) ∙ ap (λ k. is_digit (get_or s i 0) && all_digits (drop k s)) (sym (add-one i))

pub value_at : (v : ℕ) (s : List ℕ) (i : ℕ) → i < length s → value_from v (drop i s) ≡ value_from (v * 10 + (get_or s i 0 - 48)) (drop (i + 1) s)
unfolding value_from
value_at v s i h = ap (value_from v) (drop-cons s i 0 h) ∙ ap (λ k. value_from (v * 10 + (get_or s i 0 - 48)) (drop k s)) (sym (add-one i))

-- the byte at i, of digits from i on, and that those behind it are digits
pub first_digit : (s : List ℕ) (i : ℕ) → i < length s → all_digits (drop i s) ≡ true → (48 ≤ get_or s i 0) × (get_or s i 0 ≤ 57) × (all_digits (drop (i + 1) s) ≡ true)
first_digit s i h e =
    let b = get_or s i 0 in
    let t : (is_digit b && all_digits (drop (i + 1) s)) ≡ true = sym (digits_at_lem s i h) ∙ e in
    let d : is_digit b ≡ true = and_left (is_digit b) (all_digits (drop (i + 1) s)) t in
    (leb-true 48 b (and_left (leb 48 b) (leb b 57) d), leb-true b 57 (and_right (leb 48 b) (leb b 57) d), and_right (is_digit b) (all_digits (drop (i + 1) s)) t)

-- the number with one more digit is within the bound of the whole
pub turn_small : (v : ℕ) (s : List ℕ) (i n : ℕ) → i < length s → value_from v (drop i s) ≡ n → n < 10 ^ 7 → v * 10 + (get_or s i 0 - 48) < 10 ^ 7
turn_small v s i n h e l =
    let w = v * 10 + (get_or s i 0 - 48) in
    omega (arith, value_from_grows w (drop (i + 1) s), sym (value_at v s i h) ∙ e, l)

-- ---- locations

-- the number stands before `e`, which leaves `--` out where it stands
pub location_before : (s : List ℕ) (t : Bool) (e : ℕ) → t ≡ is_dashed s → e ≡ cond t (length s - 2) (length s) → located (whole_of (take e s)) t ≡ location_keyed s
unfolding location_keyed
location_before s true e d p = ap (λ k. located (whole_of (take k s)) true) p ∙ picked _ _ (sym d)
location_before s false e d p = ap (λ w. located (whole_of w) false) (ap (λ k. take k s) p ∙ take_all (length s) s (omega arith)) ∙ passed _ _ (sym d)
