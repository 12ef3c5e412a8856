-- A fraction with places is its point and its figures. Assumes nothing.
use Prim.Native.Nat.{ℕ, zero, suc}
use mathlib.Core.Path.{◌≡◌, refl}
use mathlib.Core.List.{◌∷◌}
use Rattle.listing_output.specs.Shown.{figures, fraction}

pub fraction_some : (k n : ℕ) → (k ≡ 0 → ⊥) → fraction k n ≡ 46 ∷ figures k n
unfolding fraction
fraction_some zero n h = absurd (h refl)
fraction_some (suc k) n h = refl
