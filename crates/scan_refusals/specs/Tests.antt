-- Tests that are carried out one after the other: the first that fails decides. By cases on a test. Assumes nothing.
use Rattle.std.specs.Prelude.{◌≡◌, refl, ℕ, Bool, true, false, not}
use Rattle.std.proofs.Common.{sym, ap, ◌∙◌}
use Rattle.spec_check.specs.Check.{or}

-- a refusal, or what comes behind it
pub refused : (b : Bool) (n later : ℕ) → b ≡ false → n ≡ or (not b) n later
refused b n later h = sym (ap (λ z. or (not z) n later) h)

pub not_refused : (b : Bool) (n later r : ℕ) → b ≡ true → r ≡ later → r ≡ or (not b) n later
not_refused b n later r h e = e ∙ sym (ap (λ z. or (not z) n later) h)

pub none_refused : (b : Bool) (n later : ℕ) → (n ≡ 0 → ⊥) → or (not b) n later ≡ 0 → (b ≡ true) × (later ≡ 0)
none_refused true n later h e = (refl, e)
none_refused false n later h e = absurd (h e)
