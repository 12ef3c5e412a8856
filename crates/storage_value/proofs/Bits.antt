-- The bits of a binary32 say its size: by `of_bits` it is q * 2 ^ k units of 2 ^ -149, with q and k read from the exponent's field and the digits below it. Assumes nothing.
use mathlib.Core.Path.{◌≡◌, refl, sym, ap, ◌∙◌, subst}
use mathlib.Core.Bool.{Bool, true, false, cond, not, true≢false}
use Prim.Native.Nat.{ℕ, zero, suc, ◌+◌, ◌-◌, ◌*◌, ◌/◌, ◌%◌, ◌^◌, ◌≤◌, ◌<◌}
use native.Mathlib.Nat.{le_trans, le_of_eq, mod-eq_of_lt, mul-one, mul_assoc, mul_right_comm, mul-le-mul_right, mul-le-mul, le_of_mul-le-mul_right, eq_of_mul-eq-mul_right}
use native.Mathlib.Omega.{arith}
use lib.Dec.{T, leb, eqb, lit≤}
use lib.Pow.{pow-add, pow_pos, pow_mono}
use lib.Ieee.{Float, nan, inf, fin, binary32, is_nan, odd, fits, of_fields, of_bits, to_bits}
use lib.Ieee.Bits.{of_bits-to_bits}
use lib.Ieee.Exact.{HasValue, odd_sign}
use lib.Ieee.Positive.{num, den, positive, value→cross}
use borrow.Author.Tests.{leb-false, lt-leb, eq-eqb, ne_eqb}
use Rattle.storage_value.specs.Shown.{Quotient}

-- a positive value is no NaN
pub no_nan : (x : Float) → T (positive x) → T (not (is_nan x))
unfolding is_nan
no_nan nan p = absurd p
no_nan (inf s) p = absurd p
no_nan (fin s m e) p = tt

-- ---- the fields

-- without a sign they are the quotient and the remainder by 2 ^ 23
plain : (b : ℕ) → b < 2 ^ 31 → of_bits binary32 b ≡ of_fields binary32 false (b / 2 ^ 23) (b % 2 ^ 23)
unfolding of_bits
plain b h = rw (lt-leb (2 ^ 31) b h, mod-eq_of_lt h)

-- an exponent of 0
lowest : (t : ℕ) → num (of_fields binary32 false 0 t) * 2 ^ 149 ≡ t * den (of_fields binary32 false 0 t)
unfolding of_fields
lowest t =
    let x = odd 24 false t 0 149 in
    value→cross x (t * 2 ^ 0) (2 ^ 149) (odd_sign 24 false t 0 149) ∙ ap (λ (z : ℕ). z * den x) (mul-one t)

-- any other but the last, which has no numbers
normal : (k t : ℕ) → k < 254 → num (of_fields binary32 false (suc k) t) * 2 ^ 149 ≡ (2 ^ 23 + t) * 2 ^ k * den (of_fields binary32 false (suc k) t)
unfolding of_fields
normal k t h = rw (ne_eqb (suc k) 255 (λ (e : suc k ≡ 255). omega arith)) (value→cross (odd 24 false (2 ^ 23 + t) k 149) ((2 ^ 23 + t) * 2 ^ k) (2 ^ 149) (odd_sign 24 false (2 ^ 23 + t) k 149))

-- ---- below 8,192, whose exponent is 140

fewer_units : (n q d k j : ℕ) → j + k ≡ 149 → n * 2 ^ 149 ≡ q * 2 ^ k * d → n * 2 ^ j ≡ q * d
fewer_units n q d k j s e =
    let f : 2 ^ j * 2 ^ k ≡ 2 ^ 149 = sym (pow-add 2 j k) ∙ ap (λ (z : ℕ). 2 ^ z) s in
    eq_of_mul-eq-mul_right (2 ^ k) (pow_pos k) (n * 2 ^ j) (q * d) (mul_assoc n (2 ^ j) (2 ^ k) ∙ ap (λ (z : ℕ). n * z) f ∙ e ∙ mul_right_comm q (2 ^ k) d)

pub quotient_lowest : (b : ℕ) → b < 0x4600_0000 → b / 8388608 ≡ 0 → Quotient (of_bits binary32 b) (b % 8388608) 149
quotient_lowest b h z =
    let e : of_bits binary32 b ≡ of_fields binary32 false 0 (b % 2 ^ 23) = plain b (omega arith) ∙ ap (λ (y : ℕ). of_fields binary32 false y (b % 2 ^ 23)) z in
    record { value = rw e (lowest (b % 2 ^ 23)); few_bits = omega arith }

pub quotient_normal : (b : ℕ) → b < 0x4600_0000 → (b / 8388608 ≡ 0 → ⊥) → Quotient (of_bits binary32 b) (8388608 + b % 8388608) (150 - b / 8388608)
quotient_normal b h z = go (b / 8388608) refl
  where
    go : (k : ℕ) → b / 8388608 ≡ k → Quotient (of_bits binary32 b) (8388608 + b % 8388608) (150 - k)
    go zero f = absurd (z f)
    go (suc k) f =
        let e : of_bits binary32 b ≡ of_fields binary32 false (suc k) (b % 2 ^ 23) = plain b (omega arith) ∙ ap (λ (y : ℕ). of_fields binary32 false y (b % 2 ^ 23)) f in
        let x = of_fields binary32 false (suc k) (b % 2 ^ 23) in
        record {
          value = rw e (fewer_units (num x) (2 ^ 23 + b % 2 ^ 23) (den x) k (150 - suc k) (omega arith) (normal k (b % 2 ^ 23) (omega arith)));
          few_bits = omega arith;
        }

-- ---- from 8,192

no_sign : (y : Float) (a c : ℕ) → HasValue y true a c → T (positive y) → ⊥
no_sign nan a c h p = p
no_sign (inf s) a c h p = p
no_sign (fin true m e) a c h p = p
no_sign (fin false m e) a c h p = true≢false (sym h.0)

-- a positive value's bits have no sign
sign : (s : Bool) (k t : ℕ) → T (positive (of_fields binary32 s k t)) → s ≡ false
unfolding of_fields
sign false k t p = refl
sign true zero t p = absurd (no_sign (odd 24 true t 0 149) (t * 2 ^ 0) (2 ^ 149) (odd_sign 24 true t 0 149) p)
sign true (suc k) t p = absurd (go (eqb (suc k) 255) (eqb t 0) p)
  where
    go : (a b : Bool) → T (positive (cond a (cond b (inf true) nan) (odd 24 true (2 ^ 23 + t) k 149))) → ⊥
    go true true p = p
    go true false p = p
    go false b p = no_sign (odd 24 true (2 ^ 23 + t) k 149) ((2 ^ 23 + t) * 2 ^ k) (2 ^ 149) (odd_sign 24 true (2 ^ 23 + t) k 149) p

-- and not the last exponent
numbers : (k t : ℕ) → T (positive (of_fields binary32 false k t)) → k ≡ 255 → ⊥
unfolding of_fields
numbers zero t p e = omega arith
numbers (suc k) t p e = go (eqb t 0) (subst (λ (b : Bool). T (positive (cond b (cond (eqb t 0) (inf false) nan) (odd 24 false (2 ^ 23 + t) k 149)))) (eq-eqb (suc k) 255 e) p)
  where
    go : (b : Bool) → T (positive (cond b (inf false) nan)) → ⊥
    go true p = p
    go false p = p

many_units : (n q d k : ℕ) → 2 ^ 23 ≤ q → 139 ≤ k → n * 2 ^ 149 ≡ q * 2 ^ k * d → 8192 * d ≤ n
many_units n q d k g h e =
    le_of_mul-le-mul_right
    (le_trans (le_of_eq (mul_right_comm 8192 d (2 ^ 149))) (le_trans (mul-le-mul_right d (le_trans (lit≤ tt) (mul-le-mul g (pow_mono h)))) (le_of_eq (sym e))))
    (pow_pos 149)

many_of_fields : (k t : ℕ) → 140 ≤ k → k < 256 → T (positive (of_fields binary32 false k t)) → 8192 * den (of_fields binary32 false k t) ≤ num (of_fields binary32 false k t)
many_of_fields zero t g l p = absurd (let z : ⊥ = omega arith in z)
many_of_fields (suc k) t g l p =
    let x = of_fields binary32 false (suc k) t in
    many_units (num x) (2 ^ 23 + t) (den x) k (omega arith) (omega arith) (normal k t (below (numbers (suc k) t p)))
  where
    below : (suc k ≡ 255 → ⊥) → k < 254
    below n = omega arith

many_of_bits : (b : ℕ) → 0x4600_0000 ≤ b → T (positive (of_bits binary32 b)) → 8192 * den (of_bits binary32 b) ≤ num (of_bits binary32 b)
unfolding of_bits
many_of_bits b h p =
    let l : b < 2 ^ 31 = leb-false (2 ^ 31) b (sign (leb (2 ^ 31) b) (b % 2 ^ 31 / 2 ^ 23) (b % 2 ^ 23) p) in
    let e = plain b l in
    subst (λ (y : Float). 8192 * den y ≤ num y) (sym e) (many_of_fields (b / 2 ^ 23) (b % 2 ^ 23) (omega arith) (omega arith) (subst (λ (y : Float). T (positive y)) e p))

pub many : (x : Float) → T (fits binary32 x) → T (positive x) → 0x4600_0000 ≤ to_bits binary32 x → 8192 * den x ≤ num x
many x f p h =
    let e = of_bits-to_bits binary32 x f in
    subst (λ (y : Float). 8192 * den y ≤ num y) e (many_of_bits (to_bits binary32 x) h (subst (λ (y : Float). T (positive y)) (sym e) p))

pub quotient_of : (x : Float) (q n : ℕ) → T (fits binary32 x) → Quotient (of_bits binary32 (to_bits binary32 x)) q n → Quotient x q n
quotient_of x q n f = subst (λ (y : Float). Quotient y q n) (of_bits-to_bits binary32 x f)
