-- What a check that takes its buffers answers, from the verdict behind it, and what one that does not take them answers. By the test. Assumes
-- nothing.
use mathlib.Core.Path.{◌≡◌, sym, subst}
use Prim.Native.Nat.{ℕ}
use mathlib.Core.Bool.{Bool, true, false}
use Rattle.spec_check.specs.declared.Verdict.{Verdict}
use Rattle.base_laws.specs.Tests.{no}
use Rattle.firmware_verdict.specs.Told.{VerdictTold}

module _ (t : Bool) where
  pub told_refused : (v : Verdict) (x y a b : ℕ) → t ≡ false → VerdictTold t v x y a b 31 x y a b
  told_refused v x y a b h =
      record { number = sym (no _ _ h); table = sym (no _ _ h); entry = sym (no _ _ h); first = sym (no _ _ h); second = sym (no _ _ h) }

  pub told_taken : (v w : Verdict) (x y a b r x' y' a' b' : ℕ) → t ≡ true → v ≡ w → VerdictTold true v x y a b r x' y' a' b'
      → VerdictTold t w x y a b r x' y' a' b'
  told_taken v w x y a b r x' y' a' b' h e z =
      subst (λ (u : Bool). VerdictTold u w x y a b r x' y' a' b') (sym h) (subst (λ (u : Verdict). VerdictTold true u x y a b r x' y' a' b') e z)
