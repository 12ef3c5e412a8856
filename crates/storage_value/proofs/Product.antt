-- A significand times a factor up to 2,000 is below 2 ^ 35, so it fits 64 bits and a shift by 64 leaves nothing of it; and one more than twice a quotient, cut, and halved is the quotient rounded, by its two bounds. Assumes nothing.
use mathlib.Core.Path.{◌≡◌, sym, ap, ◌∙◌}
use Prim.Native.Nat.{ℕ, ◌+◌, ◌*◌, ◌/◌, ◌^◌, ◌≤◌, ◌<◌}
use native.Mathlib.Nat.{le_trans, lt_of_lt_of_le, mul_left_comm, mul-le-mul_left, mul-le-mul_right, add-mul, one-mul, div-le_self, div-eq_of_lt, div-mul-le_self, lt-div-mul-add}
use native.Mathlib.Omega.{arith}
use lib.Dec.{lit≤}
use lib.Pow.{pow_pos, pow_mono}
use Rattle.storage_word.specs.Word.{nearest_up}
use Rattle.storage_value.specs.Shown.{Factors}
use Rattle.storage_word.proofs.Rounding.{nearest_only}

pub product_small : (s k : ℕ) → Factors 2000 s k → s * k < 2 ^ 35
product_small s k f =
    let g : s * k ≤ s * 2000 = mul-le-mul_left s f.few in
    let h = f.few_bits in
    omega arith

pub quotient_small : (s n k t : ℕ) → Factors 1000 s k → t ≡ s * (2 * k) / 2 ^ n → t < 2 ^ 35
quotient_small s n k t f e =
    let h = f.few in
    let q = div-le_self (s * (2 * k)) (2 ^ n) in
    let p = product_small s (2 * k) (record { few_bits = f.few_bits; few = omega arith }) in
    omega arith

pub nothing_left : (s n k : ℕ) → Factors 2000 s k → 64 ≤ n → 0 ≡ s * k / 2 ^ n
nothing_left s n k f h = sym (div-eq_of_lt (lt_of_lt_of_le (product_small s k f) (pow_mono {i = 35} (le_trans (lit≤ tt) h))))

-- ---- halves

halves : (a c : ℕ) → 0 < c → (2 * a / c + 1) / 2 ≡ nearest_up a c
halves a c h =
    let t = 2 * a / c in
    let r = (t + 1) / 2 in
    let l : t * c ≤ 2 * r * c = mul-le-mul_right c (omega arith) in
    let m : 2 * r * c ≤ (t + 1) * c = mul-le-mul_right c (omega arith) in
    let u = div-mul-le_self (2 * a) c in
    let v : 2 * a < t * c + c = lt-div-mul-add h in
    sym (nearest_only a c r (omega (arith, one_more_lem t c)) (omega (arith, one_more_lem (2 * r) c)))
  where
    one_more_lem : (t c : ℕ) → (t + 1) * c ≡ t * c + c
    one_more_lem t c = simp (add-mul, one-mul)

pub rounded : (s n k t : ℕ) → t ≡ s * (2 * k) / 2 ^ n → (t + 1) / 2 ≡ nearest_up (s * k) (2 ^ n)
rounded s n k t e = ap (λ (z : ℕ). (z + 1) / 2) (e ∙ ap (λ (z : ℕ). z / 2 ^ n) (mul_left_comm s 2 k)) ∙ halves (s * k) (2 ^ n) (pow_pos n)
