-- A check is passed, or refused by a number. Assumes nothing.
use Rattle.std.specs.Prelude.{◌≡◌, refl, ℕ, true, false, Result, Ok, Err, is_err}
use Rattle.std.proofs.Common.{arith, ap}
use mathlib.Core.Bool.{cond}

pub passed : (r : Result (Unit {0}) ℕ) → is_err r ≡ false → r ≡ Ok tt
passed (Ok u) h = refl
passed (Err n) h = let z : ◌≡◌ {A = ℕ} 1 0 = ap (λ b. cond b 1 0) h in absurd (omega (arith, z))

pub refused : (r : Result (Unit {0}) ℕ) → is_err r ≡ true → (n : ℕ) × (r ≡ Err n)
refused (Ok u) h = let z : ◌≡◌ {A = ℕ} 0 1 = ap (λ b. cond b 1 0) h in absurd (omega (arith, z))
refused (Err n) h = (n, refl)
