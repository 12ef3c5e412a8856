-- A parameter that is of its kind goes on to what is made of it; one that is not is fault 2. Assumes nothing.
use Rattle.std.specs.Prelude.{ℕ, ◌≡◌, Option, Some, None, Result, Err}
use Rattle.std.proofs.Common.{ap}
use Rattle.base_program.specs.declared.Instruction.{Instruction}
use Rattle.text_parameters.specs.Parameter.{given}

pub given_is : {A : Type 0} {o : Option A} {x : A} (f : A → Result Instruction ℕ) → o ≡ Some x → given o f ≡ f x
given_is f e = ap (λ x. given x f) e

pub not_given : {A : Type 0} {o : Option A} (f : A → Result Instruction ℕ) → o ≡ None → given o f ≡ Err 2
not_given f e = ap (λ x. given x f) e
