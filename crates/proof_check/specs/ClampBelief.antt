-- A location that is kept as 65,535 is out of reach just as the one that was keyed. Assumes nothing.
use Rattle.std.specs.Prelude.{◌≡◌, refl, ℕ, ◌+◌, ◌-◌, ◌≤◌, ◌<◌, min, Bool, true, false, cond, ◌||◌, ltb, eqb, leb}
use Rattle.std.proofs.Common.{sym, ap, ◌∙◌, arith, lt-ltb, leb-true, leb-false, ne_eqb}
use Rattle.base_program.specs.Reach.{LocationSpan, following}
use Rattle.spec_check.specs.Calls.{highest, outside}

or_true : (b : Bool) → b || true ≡ true
or_true true = refl
or_true false = refl

pub clamp_alike : (most n reps m : ℕ) (indexed : Bool) → most ≤ 2000
    → outside most n (following reps (record { number = min m 65535; indexed = indexed })) ≡ outside most n (following reps (record { number = m; indexed = indexed }))
clamp_alike most n reps m indexed h = by (leb m 65535) refl
  where
    by : (b : Bool) → leb m 65535 ≡ b
        → eqb (min m 65535) 0 || ltb most (min m 65535 + cond indexed (n - 1) 0 + (reps - 1)) ≡ eqb m 0 || ltb most (m + cond indexed (n - 1) 0 + (reps - 1))
    by true e = ap (λ k. eqb k 0 || ltb most (k + cond indexed (n - 1) 0 + (reps - 1))) (let g : min m 65535 ≡ m = omega (arith, leb-true m 65535 e) in g)
    by false e =
        ap (λ c. eqb (min m 65535) 0 || c) (lt-ltb most (min m 65535 + cond indexed (n - 1) 0 + (reps - 1)) (omega (arith, leb-false m 65535 e)))
        ∙ or_true (eqb (min m 65535) 0)
        ∙ sym (or_true (eqb m 0))
        ∙ sym (ap (λ c. eqb m 0 || c) (lt-ltb most (m + cond indexed (n - 1) 0 + (reps - 1)) (omega (arith, leb-false m 65535 e))))
