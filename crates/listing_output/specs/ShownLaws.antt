-- How long a listing can be: a word takes 7 bytes at most, an id and its line's end 6, a value and its comma 7. Assumes nothing.
use Rattle.std.specs.Prelude.{ℕ, zero, suc, ◌+◌, ◌-◌, ◌*◌, ◌/◌, ◌^◌, ◌≤◌, ◌<◌, ◌≡◌, refl, Bool, true, false, cond, ◌&&◌, List, [], ◌∷◌, ◌++◌, length, ltb}
use Rattle.std.proofs.Common.{arith, ap, length-append, lt-ltb}
use Rattle.storage_word.specs.declared.Decimal.{Decimal}
use Rattle.storage_word.specs.Word.{is_start, is_value, decimal_of}
use Rattle.storage_word.proofs.Valid.{decimal_of_value}
use Rattle.storage_listing.specs.Listing.{Array, up_to_start, arrays, all_values, shown}
use Rattle.listing_output.specs.Shown.{figures, width, numeral, sign, fraction, value_bytes, item_bytes, values_bytes, line_of_array, lines_of_arrays}

-- ---- numbers

pub length_figures : (k n : ℕ) → length (figures k n) ≡ k
unfolding figures
length_figures zero n = refl
length_figures (suc k) n = ap suc (length_figures k n)

pub length_numeral : (n : ℕ) → length (numeral n) ≡ width n
unfolding numeral
length_numeral n = length_figures (width n) n

pub width_most : (n : ℕ) → width n ≤ 5
unfolding width
width_most n = go (ltb n 10) (ltb n 100) (ltb n 1000) (ltb n 10000)
  where
    go : (a b c d : Bool) → cond a 1 (cond b 2 (cond c 3 (cond d 4 5))) ≤ 5
    go true b c d = omega arith
    go false true c d = omega arith
    go false false true d = omega arith
    go false false false true = omega arith
    go false false false false = omega arith

width_one : (n : ℕ) → n < 10 → width n ≤ 1
unfolding width
width_one n h = go (ltb n 10) (lt-ltb n 10 h)
  where
    go : (a : Bool) → a ≡ true → cond a 1 (cond (ltb n 100) 2 (cond (ltb n 1000) 3 (cond (ltb n 10000) 4 5))) ≤ 1
    go true e = omega arith
    go false e = absurd (let z : ◌≡◌ {A = ℕ} 0 1 = cc in omega arith)

width_two : (n : ℕ) → n < 100 → width n ≤ 2
unfolding width
width_two n h = go (ltb n 10) (ltb n 100) (lt-ltb n 100 h)
  where
    go : (a b : Bool) → b ≡ true → cond a 1 (cond b 2 (cond (ltb n 1000) 3 (cond (ltb n 10000) 4 5))) ≤ 2
    go true b e = omega arith
    go false true e = omega arith
    go false false e = absurd (let z : ◌≡◌ {A = ℕ} 0 1 = cc in omega arith)

width_three : (n : ℕ) → n < 1000 → width n ≤ 3
unfolding width
width_three n h = go (ltb n 10) (ltb n 100) (ltb n 1000) (lt-ltb n 1000 h)
  where
    go : (a b c : Bool) → c ≡ true → cond a 1 (cond b 2 (cond c 3 (cond (ltb n 10000) 4 5))) ≤ 3
    go true b c e = omega arith
    go false true c e = omega arith
    go false false true e = omega arith
    go false false false e = absurd (let z : ◌≡◌ {A = ℕ} 0 1 = cc in omega arith)

width_four : (n : ℕ) → n < 10000 → width n ≤ 4
unfolding width
width_four n h = go (ltb n 10) (ltb n 100) (ltb n 1000) (ltb n 10000) (lt-ltb n 10000 h)
  where
    go : (a b c d : Bool) → d ≡ true → cond a 1 (cond b 2 (cond c 3 (cond d 4 5))) ≤ 4
    go true b c d e = omega arith
    go false true c d e = omega arith
    go false false true d e = omega arith
    go false false false true e = omega arith
    go false false false false e = absurd (let z : ◌≡◌ {A = ℕ} 0 1 = cc in omega arith)

-- ---- a value: with its sign 6 bytes at most

-- before the point and behind it
unsigned_short : (p d : ℕ) → p ≤ 3 → d ≤ 6999 → width (d / 10 ^ p) + length (fraction p d) ≤ 5
unfolding fraction
unsigned_short zero d g h =
    let w = width_four (d / 10 ^ 0) (omega arith) in omega (arith, w)
unsigned_short (suc zero) d g h =
    let w = width_three (d / 10 ^ 1) (omega arith) in
    let l = length_figures 1 d in omega (arith, w, l)
unsigned_short (suc (suc zero)) d g h =
    let w = width_two (d / 10 ^ 2) (omega arith) in
    let l = length_figures 2 d in omega (arith, w, l)
unsigned_short (suc (suc (suc zero))) d g h =
    let w = width_one (d / 10 ^ 3) (omega arith) in
    let l = length_figures 3 d in omega (arith, w, l)
unsigned_short (suc (suc (suc (suc p)))) d g h = absurd (let z : ⊥ = omega arith in z)

sign_short : (s : Bool) → length (sign s) ≤ 1
unfolding sign
sign_short true = omega arith
sign_short false = omega arith

value_short : (d : Decimal) → d.places ≤ 3 → d.digits ≤ 6999 → length (value_bytes d) ≤ 6
unfolding value_bytes
value_short d g h =
    let whole = numeral (d.digits / 10 ^ d.places) in
    let tail = fraction d.places d.digits in
    let a = length-append (sign d.negative) (whole ++ tail) in
    let b = length-append whole tail in
    let c = length_numeral (d.digits / 10 ^ d.places) in
    let e = sign_short d.negative in
    let f = unsigned_short d.places d.digits g h in
    omega (arith, a, b, c, e, f)

-- ---- lines

first_value : (a b : Bool) → (a && b) ≡ true → (a ≡ true) × (b ≡ true)
first_value true b h = (refl, h)
first_value false b h = absurd (let z : ◌≡◌ {A = ℕ} 0 1 = cc in omega arith)

values_short : (ws : List ℕ) → all_values ws ≡ true → length (values_bytes ws) ≤ 7 * length ws
unfolding all_values values_bytes item_bytes
values_short [] h = omega arith
values_short (w ∷ ws) h =
    let both = first_value (is_value w) (all_values ws) h in
    let v = decimal_of_value w both.0 in
    let s = value_short (decimal_of w) v.0 v.1 in
    let a = length-append (44 ∷ value_bytes (decimal_of w)) (values_bytes ws) in
    let r = values_short ws both.1 in
    omega (arith, s, a, r)

line_short : (a : Array) → all_values a.values ≡ true → length (line_of_array a) ≤ 6 + 7 * length a.values
unfolding line_of_array item_bytes
line_short a h =
    let id = numeral (a.start - 64512) in
    let b = length-append id (values_bytes a.values ++ (10 ∷ [])) in
    let c = length-append (values_bytes a.values) (10 ∷ []) in
    let d = length_numeral (a.start - 64512) in
    let e = width_most (a.start - 64512) in
    let f = values_short a.values h in
    omega (arith, b, c, d, e, f)

-- how many words arrays have
unfoldable pub words : List Array → ℕ
words [] = 0
words (a ∷ rest) = suc (length a.values) + words rest

lines_short : (l : List Array) → length (lines_of_arrays (shown l)) ≤ 7 * words l
unfolding shown lines_of_arrays words
lines_short [] = omega arith
lines_short (a ∷ rest) = go (all_values a.values) refl (lines_short rest)
  where
    go : (t : Bool) → all_values a.values ≡ t → length (lines_of_arrays (shown rest)) ≤ 7 * words rest
        → length (lines_of_arrays (cond t (a ∷ shown rest) (shown rest))) ≤ 7 * (suc (length a.values) + words rest)
    go true e ih =
        let l = line_short a e in
        let b = length-append (line_of_array a) (lines_of_arrays (shown rest)) in
        omega (arith, l, b, ih)
    go false e ih = omega (arith, ih)

-- a word belongs to one array at most
pub words_few : (ws : List ℕ) → words (arrays ws) + length (up_to_start ws) ≤ length ws
unfolding arrays up_to_start words
words_few [] = omega arith
words_few (w ∷ ws) = go (is_start w) (words_few ws)
  where
    go : (t : Bool) → words (arrays ws) + length (up_to_start ws) ≤ length ws
        → words (cond t (record { start = w; values = up_to_start ws } ∷ arrays ws) (arrays ws)) + length (cond t [] (w ∷ up_to_start ws)) ≤ suc (length ws)
    go true ih = omega (arith, ih)
    go false ih = omega (arith, ih)

-- The listing of n words has at most 7 n bytes: of a ring of 64 words at most 448.
pub listing_short : (ws : List ℕ) → length (lines_of_arrays (shown (arrays ws))) ≤ 7 * length ws
listing_short ws =
    let a = lines_short (arrays ws) in
    let b = words_few ws in
    omega (arith, a, b)
