-- What a test of sizes says, by its parts, and what is left where a call takes its buffers and where it does not. Assumes nothing.
use Rattle.std.specs.Prelude.{◌≡◌, refl, ℕ, zero, suc, Bool, true, false, cond, List, length, eqb, Float}
use Rattle.std.proofs.Common.{sym, ap, ◌∙◌, eq-eqb, ne_eqb, eqb-true}
use Rattle.base_laws.specs.Tests.{no, and_both}
use Rattle.record_fields.specs.Entries.{Sized}
use Rattle.spec_calls.specs.declared.State.{State}
use Rattle.firmware_state.specs.State.{numbers_of_state}
use Rattle.firmware_buffers.specs.Sizes.{is_record, is_state, state_left}

pub sized : (ns : List ℕ) (vs : List Float) → is_record ns vs ≡ true → (length ns ≡ 2385) × (length vs ≡ 594)
sized ns vs h =
    let b = and_both (eqb (length ns) 2385) (eqb (length vs) 594) h in
    (eqb-true (length ns) 2385 b.0, eqb-true (length vs) 594 b.1)

pub lent_sized : (ns : List ℕ) (vs : List Float) → is_record ns vs ≡ true → Sized ns vs
lent_sized ns vs h = let b = sized ns vs h in record { numbers = b.0; values = b.1 }

pub a_state : (l : List ℕ) → length l ≡ 25 → is_state l ≡ true
a_state l h = eq-eqb (length l) 25 h

pub no_state : (l : List ℕ) → (length l ≡ 25 → ⊥) → is_state l ≡ false
no_state l h = ne_eqb (length l) 25 h

module _ (t : Bool) where
  pub left : {A : Type 0} (x y : A) → t ≡ false → y ≡ cond t x y
  left x y h = sym (no _ _ h)

  pub taken : {A : Type 0} (x y : A) → t ≡ true → x ≡ cond t x y
  taken x y h = sym (ap (λ b. cond b x y) h)

-- the state is written where the number is 0, and else left
pub state_written : (r : ℕ) (l : List ℕ) (s t : State) → r ≡ 0 → s ≡ t → numbers_of_state s ≡ state_left r l t
state_written r l s t h e = ap numbers_of_state e ∙ sym (ap (λ n. state_left n l t) h)

pub state_kept : (r : ℕ) (l : List ℕ) (t : State) → (r ≡ 0 → ⊥) → l ≡ state_left r l t
state_kept zero l t h = absurd (h refl)
state_kept (suc r) l t h = refl
