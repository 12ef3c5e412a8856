-- The same of the same parts, and what the tests of a slot's numbers decide. Assumes nothing.
use Rattle.std.specs.Prelude.{◌≡◌, refl, Bool, true, false, ◌&&◌}
use Rattle.std.proofs.Common.{sym, ap, ◌∙◌}

pub of_two : {A B R : Type 0} (f : A → B → R) {a a' : A} {b b' : B} → a ≡ a' → b ≡ b' → f a b ≡ f a' b'
of_two f {a} {a'} {b} {b'} p q = ap (λ x. f x b) p ∙ ap (λ y. f a' y) q

pub of_three : {A B C R : Type 0} (f : A → B → C → R) {a a' : A} {b b' : B} {c c' : C} → a ≡ a' → b ≡ b' → c ≡ c' → f a b c ≡ f a' b' c'
of_three f {a} {a'} {b} {b'} {c} {c'} p q r = of_two (λ x y. f x y c) p q ∙ ap (λ z. f a' b' z) r

pub of_four : {A B C D R : Type 0} (f : A → B → C → D → R) {a a' : A} {b b' : B} {c c' : C} {d d' : D} → a ≡ a' → b ≡ b' → c ≡ c' → d ≡ d' → f a b c d ≡ f a' b' c' d'
of_four f {a} {a'} {b} {b'} {c} {c'} {d} {d'} p q r s = of_three (λ x y z. f x y z d) p q r ∙ ap (λ z. f a' b' c' z) s

pub of_five : {A B C D E R : Type 0} (f : A → B → C → D → E → R) {a a' : A} {b b' : B} {c c' : C} {d d' : D} {e e' : E}
    → a ≡ a' → b ≡ b' → c ≡ c' → d ≡ d' → e ≡ e' → f a b c d e ≡ f a' b' c' d' e'
of_five f {a} {a'} {b} {b'} {c} {c'} {d} {d'} {e} {e'} p q r s t = of_four (λ x y z w. f x y z w e) p q r s ∙ ap (λ z. f a' b' c' d' z) t
