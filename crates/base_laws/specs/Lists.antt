-- A place that is there is read alike, whatever stands past the end: by cases on the list. Assumes nothing.
use Rattle.std.specs.Prelude.{◌≡◌, refl, ℕ, zero, suc, ◌<◌, List, [], ◌∷◌, length, get_or, drop}
use Rattle.std.proofs.Common.{arith}

pub read_inside : {A : Type 0} (l : List A) (k : ℕ) (d e : A) → k < length l → get_or l k d ≡ get_or l k e
read_inside [] k d e h = absurd (omega arith)
read_inside (a ∷ l) zero d e h = refl
read_inside (a ∷ l) (suc k) d e h = read_inside l k d e (omega arith)

-- what stands behind the first of the rest
pub drop_next : {A : Type 0} {i : A} (e : ℕ) (l : List A) {r : List A} → drop e l ≡ i ∷ r → drop (suc e) l ≡ r
drop_next zero [] h = cc
drop_next zero (x ∷ l) h = cc
drop_next (suc e) [] h = cc
drop_next (suc e) (x ∷ l) h = drop_next e l h
