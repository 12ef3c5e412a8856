-- One turn of the search for the text's end. Assumes nothing.
use Rattle.std.specs.Prelude.{Some, None}
use Prim.Native.Nat.{ℕ, suc, ◌+◌, ◌≤◌, ◌<◌}
use native.Mathlib.Numerals.{add-one}
use mathlib.Core.Path.{◌≡◌, sym, ap, ◌∙◌}
use mathlib.Core.Bool.{Bool, true, false, ◌&&◌}
use mathlib.Core.List.{List, ◌∷◌}
use lib.ListN.{length, get_or, drop, drop_of_length-le}
use lib.Seq.{drop-cons}
use lib.Dec.{eqb}
use Rattle.base_laws.specs.Tests.{yes, no}
use Rattle.listing_input.specs.Extent.{two_closes, extent_from}

pub turn : (t : Bool) (n : ℕ) (s : List ℕ) (i : ℕ) → i < length s → (t && two_closes (drop i s)) ≡ false → extent_from (eqb (get_or s i 0) 10) (n + 1) (drop (i + 1) s) ≡ extent_from t n (drop i s)
unfolding extent_from
turn t n s i h e =
    let d : drop i s ≡ get_or s i 0 ∷ drop (suc i) s = drop-cons s i 0 h in
    ap (λ j. extent_from (eqb (get_or s i 0) 10) (n + 1) (drop j s)) (add-one i)
    ∙ sym (ap (extent_from t n) d ∙ no _ _ (ap (λ x. t && two_closes x) (sym d) ∙ e))

pub found : (t : Bool) (n : ℕ) (s : List ℕ) (i : ℕ) → i < length s → (t && two_closes (drop i s)) ≡ true → extent_from t n (drop i s) ≡ Some (n + 4)
unfolding extent_from
found t n s i h e =
    let d : drop i s ≡ get_or s i 0 ∷ drop (suc i) s = drop-cons s i 0 h in
    ap (extent_from t n) d ∙ yes _ _ (ap (λ x. t && two_closes x) (sym d) ∙ e)

pub over : (t : Bool) (n : ℕ) (s : List ℕ) (i : ℕ) → length s ≤ i → extent_from t n (drop i s) ≡ None
unfolding extent_from
over t n s i h = ap (extent_from t n) (drop_of_length-le s h)
