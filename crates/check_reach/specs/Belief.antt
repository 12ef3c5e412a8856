-- What fault 20 says, in other words: a location is in reach exactly where it is on every rep and pass. Assumes nothing.
use Rattle.std.specs.Prelude.{◌≡◌, ℕ, ◌+◌, ◌-◌, ◌≤◌, ◌<◌, Bool, true, false, cond, ◌||◌, ltb, eqb}
use Rattle.std.proofs.Common.{ap, ◌∙◌, arith, ne_eqb, le-ltb, ltb-false}
use Rattle.std.proofs.lemmas.Bool.{eqb-false}
use Rattle.base_program.specs.Reach.{LocationSpan}
use Rattle.spec_check.specs.Calls.{highest, outside}
use Rattle.base_laws.specs.Tests.{neither}

-- every location that is taken from here, over the reps and the passes 1 to n
abbrev pub EachInside : ℕ → ℕ → LocationSpan → Type 0
EachInside most n s =
    (rep pass : ℕ) → rep < s.reps → 1 ≤ pass → pass ≤ n
    → (1 ≤ s.location.number + cond s.location.indexed (pass - 1) 0 + rep) × (s.location.number + cond s.location.indexed (pass - 1) 0 + rep ≤ most)

in_bounds : (b : Bool) (number n reps most rep pass : ℕ) → (number ≡ 0 → ⊥) → number + cond b (n - 1) 0 + (reps - 1) ≤ most → rep < reps → 1 ≤ pass → pass ≤ n
    → (1 ≤ number + cond b (pass - 1) 0 + rep) × (number + cond b (pass - 1) 0 + rep ≤ most)
in_bounds true number n reps most rep pass z h r l m = (omega arith, omega arith)
in_bounds false number n reps most rep pass z h r l m = (omega arith, omega arith)

not_zero : (b : Bool) (number : ℕ) → 1 ≤ number + cond b (1 - 1) 0 + 0 → number ≡ 0 → ⊥
not_zero true number h e = omega arith
not_zero false number h e = omega arith

pub in_reach : (most n : ℕ) (s : LocationSpan) → outside most n s ≡ false → EachInside most n s
in_reach most n s h rep pass r l m =
    in_bounds s.location.indexed s.location.number n s.reps most rep pass
    (eqb-false s.location.number 0 (neither (eqb s.location.number 0) (ltb most (highest n s)) h).0)
    (ltb-false most (highest n s) (neither (eqb s.location.number 0) (ltb most (highest n s)) h).1)
    r l m

pub not_outside : (most n : ℕ) (s : LocationSpan) → 1 ≤ s.reps → 1 ≤ n → EachInside most n s → outside most n s ≡ false
not_outside most n s r l h =
    ap (λ t. t || ltb most (highest n s)) (ne_eqb s.location.number 0 (not_zero s.location.indexed s.location.number (h 0 1 (omega arith) (omega arith) (omega arith)).0))
    ∙ le-ltb most (highest n s) (h (s.reps - 1) n (omega arith) (omega arith) (omega arith)).1
