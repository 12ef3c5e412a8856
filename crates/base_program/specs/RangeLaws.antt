-- What the test of a range says of a number. Assumes nothing.
use Rattle.std.specs.Prelude.{◌≡◌, refl, ℕ, zero, suc, ◌≤◌, ◌<◌, true, false, leb}
use Rattle.std.proofs.Common.{arith, leb-true, le-leb}
use Rattle.std.proofs.lemmas.Bool.{lt-leb}
use Rattle.base_laws.specs.Tests.{both, not_first, not_second, and_both}
use Rattle.base_program.specs.Ranges.{Range, not_below, within, Inside}

least_kept : (k n : ℕ) → k ≤ n → not_below k n ≡ true
least_kept zero n h = refl
least_kept (suc k) n h = le-leb (suc k) n h

least_missed : (k n : ℕ) → n < k → not_below k n ≡ false
least_missed zero n h = absurd (omega arith)
least_missed (suc k) n h = lt-leb (suc k) n h

least_is : (k n : ℕ) → not_below k n ≡ true → k ≤ n
least_is zero n h = omega arith
least_is (suc k) n h = leb-true (suc k) n h

pub inside : (r : Range) (n : ℕ) → Inside r n → within r n ≡ true
inside r n h = both (least_kept r.least n h.0) (le-leb n r.most h.1)

pub under : (r : Range) (n : ℕ) → n < r.least → within r n ≡ false
under r n h = not_first (leb n r.most) (least_missed r.least n h)

pub over : (r : Range) (n : ℕ) → r.most < n → within r n ≡ false
over r n h = not_second (not_below r.least n) (lt-leb n r.most h)

pub within_is : (r : Range) (n : ℕ) → within r n ≡ true → Inside r n
within_is r n h = let z = and_both (not_below r.least n) (leb n r.most) h in (least_is r.least n z.0, leb-true n r.most z.1)
