-- A number of a relation is read as one. By cases. Assumes nothing.
use Rattle.std.specs.Prelude.{◌≡◌, ℕ, true, refl, Ok, Err, Result, OkIff, IsOk}
use Rattle.std.proofs.Common.{sym}
use Rattle.std.proofs.lemmas.Result.{OkIff-at_ok}
use Rattle.base_program.specs.Ranges.{Inside, within, relations}
use Rattle.base_program.specs.RangeLaws.{inside}

pub read : {T E : Type 0} (v : T) (r : Result T E) (n : ℕ) → OkIff r (within relations n ≡ true) v → Inside relations n → IsOk r
read v (Ok x) n h i = refl
read v (Err e) n h i = absurd (h (inside relations n i))

pub read_as : {T E : Type 0} (v : T) (r : Result T E) (n : ℕ) {x : T} → OkIff r (within relations n ≡ true) v → r ≡ Ok x → x ≡ v
read_as v r n h e = (OkIff-at_ok r _ v _ h e).1
