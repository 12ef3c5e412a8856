-- What is stored is finite, and a finite value is stored as itself; the test of std: by cases on the value. Assumes nothing.
use Rattle.std.specs.Prelude.{◌≡◌, refl, Bool, true, false, cond, Float}
use Rattle.std.proofs.Common.{ap}
use Rattle.std.specs.Float.{nan, inf, fin, float_is_finite}
use Rattle.base_float.specs.Finite.{finite, stored, overrange}

pub stored_finite : (x : Float) → finite (stored x) ≡ true
unfolding finite stored
stored_finite nan = refl
stored_finite (inf s) = refl
stored_finite (fin s m e) = refl

pub stored_same : (x : Float) → finite x ≡ true → stored x ≡ x
unfolding stored
stored_same x h = ap (λ b. cond b x overrange) h

-- what `is_finite` of std answers
pub is_finite_says : (x : Float) → float_is_finite x ≡ finite x
unfolding float_is_finite finite
is_finite_says nan = refl
is_finite_says (inf s) = refl
is_finite_says (fin s m e) = refl
