-- Counts that stop at 60,001: what is added to or multiplied by a larger count may as well be 60,001. Assumes nothing.
use Rattle.std.specs.Prelude.{◌≡◌, refl, ℕ, zero, suc, ◌+◌, ◌*◌, ◌≤◌, ◌<◌, min, Bool, true, false, ltb}
use Rattle.std.proofs.Common.{sym, ap, ◌∙◌, arith, zero-mul, suc-mul, ltb-true, ltb-false}

-- 'stopped at 60,001'
abbrev pub sat : ℕ → ℕ
sat n = min n 60001

pub sat_add : (a b : ℕ) → sat (sat a + b) ≡ sat (a + b)
sat_add a b = omega arith

-- a product of one or more with a large count is large
large : (m x : ℕ) → 0 < m → x ≤ m * x
large zero x h = absurd (omega arith)
large (suc m) x h = let g : suc m * x ≡ m * x + x = suc-mul m x in omega arith

pub sat_mul : (a m x b : ℕ) → sat (a + m * sat x + b) ≡ sat (a + m * x + b)
sat_mul a zero x b = ap (λ k. sat (a + k + b)) (zero-mul (sat x) ∙ sym (zero-mul x))
sat_mul a (suc m) x b = by (ltb 60001 x) refl
  where
    by : (c : Bool) → ltb 60001 x ≡ c → sat (a + suc m * sat x + b) ≡ sat (a + suc m * x + b)
    by true e =
        let p : 60001 < x = ltb-true 60001 x e in
        let q : sat x ≤ suc m * sat x = large (suc m) (sat x) (omega arith) in
        let r : x ≤ suc m * x = large (suc m) x (omega arith) in
        omega arith
    by false e = ap (λ k. sat (a + suc m * k + b)) (let p : x ≤ 60001 = ltb-false 60001 x e in let g : sat x ≡ x = omega arith in g)
