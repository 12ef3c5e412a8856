-- A slot with a number that no instruction has is read as 85 0. By the definition's cases, each passed. Assumes nothing.
use Rattle.std.specs.Prelude.{◌≡◌, refl, Bool, true, false, ℕ, ◌+◌, ◌*◌, List, get_or, Float, eqb}
use Rattle.std.proofs.Common.{sym, ap, ◌∙◌, ne_eqb, eqb-true}
use Rattle.std.proofs.lemmas.Bool.{eqb-false}
use Rattle.base_laws.specs.Tests.{no}
use Rattle.record_layout.specs.Layout.{unknown, control_of, instruction_of}
use Rattle.base_program.specs.declared.Instruction.TheVariants.{Subroutine}
use Rattle.record_fields.specs.Numbers.{lies, is_85}

abbrev pub first : List ℕ → ℕ → ℕ
first ns s = get_or ns (9 + 8 * s + 0) 0

pub is_unknown : (ns : List ℕ) (vs : List Float) (s k : ℕ) → first ns s ≡ k
    → (k ≡ 1 → ⊥) → (k ≡ 2 → ⊥) → (k ≡ 30 → ⊥) → (k ≡ 31 → ⊥) → (k ≡ 32 → ⊥) → (k ≡ 33 → ⊥) → (k ≡ 34 → ⊥)
    → (k ≡ 35 → ⊥) → (k ≡ 36 → ⊥) → (k ≡ 37 → ⊥) → (k ≡ 38 → ⊥) → (k ≡ 70 → ⊥) → (k ≡ 71 → ⊥) → (k ≡ 72 → ⊥)
    → (k ≡ 73 → ⊥) → (k ≡ 74 → ⊥) → (k ≡ 77 → ⊥) → (k ≡ 85 → ⊥) → (k ≡ 86 → ⊥) → (k ≡ 87 → ⊥) → (k ≡ 88 → ⊥)
    → (k ≡ 89 → ⊥) → (k ≡ 91 → ⊥) → (k ≡ 92 → ⊥) → (k ≡ 94 → ⊥) → (k ≡ 95 → ⊥)
    → lies ns vs s ≡ unknown
unfolding lies instruction_of control_of
is_unknown ns vs s k e h1 h2 h30 h31 h32 h33 h34 h35 h36 h37 h38 h70 h71 h72 h73 h74 h77 h85 h86 h87 h88 h89 h91 h92 h94 h95 =
    let at : (n : ℕ) → (k ≡ n → ⊥) → first ns s ≡ n → ⊥ = λ n h z. h (sym e ∙ z) in
    no _ _ (ne_eqb (first ns s) 1 (at 1 h1))
    ∙ no _ _ (ne_eqb (first ns s) 2 (at 2 h2))
    ∙ no _ _ (ne_eqb (first ns s) 30 (at 30 h30))
    ∙ no _ _ (ne_eqb (first ns s) 31 (at 31 h31))
    ∙ no _ _ (ne_eqb (first ns s) 32 (at 32 h32))
    ∙ no _ _ (ne_eqb (first ns s) 33 (at 33 h33))
    ∙ no _ _ (ne_eqb (first ns s) 34 (at 34 h34))
    ∙ no _ _ (ne_eqb (first ns s) 35 (at 35 h35))
    ∙ no _ _ (ne_eqb (first ns s) 36 (at 36 h36))
    ∙ no _ _ (ne_eqb (first ns s) 37 (at 37 h37))
    ∙ no _ _ (ne_eqb (first ns s) 38 (at 38 h38))
    ∙ no _ _ (ne_eqb (first ns s) 70 (at 70 h70))
    ∙ no _ _ (ne_eqb (first ns s) 71 (at 71 h71))
    ∙ no _ _ (ne_eqb (first ns s) 72 (at 72 h72))
    ∙ no _ _ (ne_eqb (first ns s) 73 (at 73 h73))
    ∙ no _ _ (ne_eqb (first ns s) 74 (at 74 h74))
    ∙ no _ _ (ne_eqb (first ns s) 77 (at 77 h77))
    ∙ no _ _ (ne_eqb (first ns s) 85 (at 85 h85))
    ∙ no _ _ (ne_eqb (first ns s) 86 (at 86 h86))
    ∙ no _ _ (ne_eqb (first ns s) 87 (at 87 h87))
    ∙ no _ _ (ne_eqb (first ns s) 88 (at 88 h88))
    ∙ no _ _ (ne_eqb (first ns s) 89 (at 89 h89))
    ∙ no _ _ (ne_eqb (first ns s) 91 (at 91 h91))
    ∙ no _ _ (ne_eqb (first ns s) 92 (at 92 h92))
    ∙ no _ _ (ne_eqb (first ns s) 94 (at 94 h94))
    ∙ no _ _ (ne_eqb (first ns s) 95 (at 95 h95))

-- 85, or such a number
pub is_other : (ns : List ℕ) (vs : List Float) (s n : ℕ) → n ≡ first ns s
    → (n ≡ 95 → ⊥) → (n ≡ 94 → ⊥) → (n ≡ 1 → ⊥) → (n ≡ 2 → ⊥) → (n ≡ 30 → ⊥) → (n ≡ 31 → ⊥) → (n ≡ 32 → ⊥)
    → (n ≡ 33 → ⊥) → (n ≡ 34 → ⊥) → (n ≡ 35 → ⊥) → (n ≡ 36 → ⊥) → (n ≡ 37 → ⊥) → (n ≡ 38 → ⊥) → (n ≡ 70 → ⊥)
    → (n ≡ 71 → ⊥) → (n ≡ 72 → ⊥) → (n ≡ 73 → ⊥) → (n ≡ 74 → ⊥) → (n ≡ 77 → ⊥) → (n ≡ 87 → ⊥) → (n ≡ 86 → ⊥)
    → (n ≡ 88 → ⊥) → (n ≡ 89 → ⊥) → (n ≡ 91 → ⊥) → (n ≡ 92 → ⊥)
    → (k : ℕ) × (lies ns vs s ≡ Subroutine k)
is_other ns vs s n is h95 h94 h1 h2 h30 h31 h32 h33 h34 h35 h36 h37 h38 h70 h71 h72 h73 h74 h77 h87 h86 h88 h89 h91 h92 = by (eqb n 85) refl
  where
    by : (b : Bool) → eqb n 85 ≡ b → (k : ℕ) × (lies ns vs s ≡ Subroutine k)
    by true e = (_, is_85 ns vs s (sym is ∙ eqb-true n 85 e))
    by false e = (0, is_unknown ns vs s n (sym is) h1 h2 h30 h31 h32 h33 h34 h35 h36 h37 h38 h70 h71 h72 h73 h74 h77 (λ z. eqb-false n 85 e z) h86 h87 h88 h89 h91 h92 h94 h95)
