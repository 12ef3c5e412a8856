-- A cell that is there is read alike, whatever stands past the end: by cases on the list. Assumes nothing.
use Rattle.std.specs.Prelude.{◌≡◌, refl, ℕ, zero, suc, ◌-◌, ◌≤◌, ◌<◌, List, [], ◌∷◌, length, get_or, Float}
use Rattle.std.proofs.Common.{ap, ◌∙◌, arith}
use Rattle.base_float.specs.Finite.{zero_float}
use Rattle.spec_buffers.specs.Held.{cell}
use Rattle.base_laws.specs.Lists.{read_inside}

pub cell_inside : (l : List Float) (n : ℕ) (d : Float) → 1 ≤ n → n ≤ length l → get_or l (n - 1) d ≡ cell l n
cell_inside l zero d low high = absurd (omega arith)
cell_inside l (suc k) d low high =
    ap (λ j. get_or l j d) (let e : suc k - 1 ≡ k = omega arith in e) ∙ read_inside l k d zero_float (omega arith)
