-- What a field's number is read as: the value, where the number stands for one, else none. By cases. Assumes nothing.
use Rattle.std.specs.Prelude.{◌≡◌, Bool, true, false, Result, Ok, Err, Some, None, OkIff, refl}
use Rattle.std.specs.Result.{result_ok}
use Rattle.std.proofs.Common.{sym, ◌∙◌}
use Rattle.std.proofs.lemmas.Option.{same_Some, none-some}

pub refused : (b : Bool) → (b ≡ true → ⊥) → b ≡ false
refused true h = absurd (h refl)
refused false h = refl

pub read_ok : {T E : Type 0} {b : Bool} {v : T} (r : Result T E) {x : T} → OkIff r (b ≡ true) v → Some x ≡ result_ok r → (b ≡ true) × (x ≡ v)
read_ok (Ok y) h e = (h.0, same_Some _ _ e ∙ h.1)
read_ok (Err d) h e = absurd (none-some _ (sym e))

pub read_err : {T E : Type 0} {b : Bool} (v : T) (r : Result T E) → OkIff r (b ≡ true) v → None ≡ result_ok r → b ≡ false
read_err v (Ok y) h e = absurd (none-some _ e)
read_err v (Err d) h e = refused _ h
