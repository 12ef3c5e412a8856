-- Three numbers are all of a cursor's buffer. Assumes nothing.
use mathlib.Core.Path.{◌≡◌, refl}
use Prim.Native.Nat.{ℕ}
use native.Mathlib.Omega.{arith}
use mathlib.Core.List.{List, [], ◌∷◌}
use lib.ListN.{length, set}

pub three_set : (l : List ℕ) → length l ≡ 3 → (a b c : ℕ) → set (set (set l 0 a) 1 b) 2 c ≡ a ∷ b ∷ c ∷ []
three_set [] h a b c = absurd (omega (arith, h))
three_set (x ∷ []) h a b c = absurd (omega (arith, h))
three_set (x ∷ y ∷ []) h a b c = absurd (omega (arith, h))
three_set (x ∷ y ∷ z ∷ []) h a b c = refl
three_set (x ∷ y ∷ z ∷ w ∷ l) h a b c = absurd (omega (arith, h))
