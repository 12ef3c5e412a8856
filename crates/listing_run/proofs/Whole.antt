-- From what was read to all of the input.
use Rattle.std.proofs.Common.{◌≡◌, ℕ, List, [], ◌++◌, None, Some, IfSome, true, sym, ap, subst, ◌∙◌, append_assoc, refl}
use mathlib.Core.Bool.{false≢true}
use Rattle.std.specs.declared.option.Option.{Option}
use Rattle.std.specs.Io.KnownBytes.{Consumes}
use Rattle.spec_listing.specs.declared.Stage.{Stage}
use Rattle.spec_listing.specs.Step.{Run}
use Rattle.spec_listing.specs.Reading.{Reads}
use Rattle.listing_run.specs.Answered.{refused}

-- nothing is taken
pub taken_none : (a : Option (List ℕ)) → Consumes a a []
taken_none None = tt
taken_none (Some x) = refl

-- one read and then another
pub taken_both : (a b c : Option (List ℕ)) (bs cs : List ℕ) → Consumes a b bs → Consumes b c cs → Consumes a c (bs ++ cs)
taken_both None b c bs cs p q = tt
taken_both (Some x) None c bs cs p q = absurd p
taken_both (Some x) (Some y) None bs cs p q = absurd q
taken_both (Some x) (Some y) (Some z) bs cs p q = p ∙ ap (λ l. bs ++ l) q ∙ sym (append_assoc bs cs z)

-- what was read is the start of the input
pub start_taken : (a b : Option (List ℕ)) (s : List ℕ) (P : List ℕ → Type 0) → Consumes a b s → ((more : List ℕ) → P (s ++ more)) → IfSome a P
start_taken None b s P h t = tt
start_taken (Some x) None s P h t = absurd h
start_taken (Some x) (Some y) s P h t = subst P (sym h) (t y)

-- a refusal stands, whatever else is read
pub refused_on : (stage : Stage) (s w : List ℕ) (p : _) (a : Run) → refused stage ≡ true → Reads s stage w p a → (more : List ℕ)
    → Reads (s ++ more) stage w p a
refused_on Stage.Text s w p a e h more = absurd (false≢true e)
refused_on Stage.Lines s w p a e h more = absurd (false≢true e)
refused_on (Stage.Refused number table entry) s w p a e h more = λ m. rw (append_assoc s more m) (h (more ++ m))
