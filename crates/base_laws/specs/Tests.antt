-- Which case of a definition a test picks. Assumes nothing.
use Rattle.std.specs.Prelude.{◌≡◌, refl, ℕ, Bool, true, false, cond, not, ◌&&◌, ◌||◌}
use Rattle.std.proofs.Common.{sym, ap, ◌∙◌, arith}

pub apart : true ≡ false → ⊥
apart e = let z : ◌≡◌ {A = ℕ} 0 1 = cc in omega arith

pub yes : {A : Type 0} {t : Bool} (x y : A) → t ≡ true → cond t x y ≡ x
yes x y e = ap (λ b. cond b x y) e

pub no : {A : Type 0} {t : Bool} (x y : A) → t ≡ false → cond t x y ≡ y
no x y e = ap (λ b. cond b x y) e

pub both : {p q : Bool} → p ≡ true → q ≡ true → (p && q) ≡ true
both {p} {q} h k = ap (λ b. b && q) h ∙ k

pub not_first : {p : Bool} (q : Bool) → p ≡ false → (p && q) ≡ false
not_first q h = ap (λ b. b && q) h

pub not_second : (p : Bool) {q : Bool} → q ≡ false → (p && q) ≡ false
not_second true h = h
not_second false h = refl

pub and_no : (a b : Bool) → a ≡ false → false ≡ a && b
and_no a b h = sym (ap (λ z. z && b) h)

pub and_stop : (a b : Bool) → a ≡ false → a ≡ a && b
and_stop a b h = h ∙ and_no a b h

pub and_yes : (a b r : Bool) → a ≡ true → r ≡ b → r ≡ a && b
and_yes a b r h e = e ∙ sym (ap (λ z. z && b) h)

pub and_both : (a b : Bool) → a && b ≡ true → (a ≡ true) × (b ≡ true)
and_both true b h = (refl, h)
and_both false b h = absurd (apart (sym h))

pub not-false : (b : Bool) → not b ≡ false → b ≡ true
not-false true h = refl
not-false false h = absurd (apart h)

pub neither : (a b : Bool) → a || b ≡ false → (a ≡ false) × (b ≡ false)
neither true b h = absurd (apart h)
neither false b h = (refl, h)
