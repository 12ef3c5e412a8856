-- What fault 19 says, in other words: a circle of calls is a chain of any length. Assumes nothing.
use Rattle.std.specs.Prelude.{◌≡◌, refl, ℕ, zero, suc, Bool, true, false, ◌&&◌, ◌||◌, List, [], ◌∷◌, eqb}
use Rattle.std.proofs.Common.{ap, ◌∙◌, arith, eq-eqb, eqb-true}
use Rattle.base_program.specs.declared.Program.{Program}
use Rattle.spec_check.specs.Calls.{body, any_call, chain}
use Rattle.check_chains.specs.Heights.{any_mono}
use Rattle.base_laws.specs.Tests.{and_both}

-- ---- tests

apart : false ≡ true → ⊥
apart e = let z : ◌≡◌ {A = ℕ} 0 1 = cc in omega arith

or_later : (a : Bool) {b : Bool} → b ≡ true → a || b ≡ true
or_later true h = refl
or_later false h = h

-- Subroutines each of which calls one of them have chains of any length.
pub closed_chains : (p : Program) (s : ℕ → Bool) → ((k : ℕ) → s k ≡ true → any_call s (body p k) ≡ true) → (n k : ℕ) → s k ≡ true → chain p n k ≡ true
unfolding chain
closed_chains p s h zero k e = refl
closed_chains p s h (suc n) k e = any_mono s (chain p n) (closed_chains p s h n) (body p k) (h k e)

-- subroutine k calls subroutine j
abbrev pub calls : Program → ℕ → ℕ → Bool
calls p k j = any_call (λ i. eqb i j) (body p k)

pub self_chain : (p : Program) (k : ℕ) → calls p k k ≡ true → (n : ℕ) → chain p n k ≡ true
self_chain p k h n = closed_chains p (λ j. eqb j k) (λ j e. ap (λ i. any_call (λ x. eqb x k) (body p i)) (eqb-true j k e) ∙ h) n k (eq-eqb k k refl)

-- each calls the next, and the last calls `first`
abbrev pub linked : Program → ℕ → List ℕ → Bool
linked p first [] = true
linked p first (k ∷ []) = calls p k first
linked p first (k ∷ j ∷ r) = calls p k j && linked p first (j ∷ r)

abbrev pub among : List ℕ → ℕ → Bool
among [] k = false
among (j ∷ r) k = eqb k j || among r k

module _ (p : Program) (first : ℕ) (s : ℕ → Bool) (closed : s first ≡ true) where
  calls_one : (k j : ℕ) → calls p k j ≡ true → s j ≡ true → any_call s (body p k) ≡ true
  calls_one k j h e = any_mono (λ i. eqb i j) s (λ i q. ap s (eqb-true i j q) ∙ e) (body p k) h

  same_calls : (j k : ℕ) → eqb j k ≡ true → any_call s (body p k) ≡ true → any_call s (body p j) ≡ true
  same_calls j k q h = ap (λ i. any_call s (body p i)) (eqb-true j k q) ∙ h

  linked_calls : (l : List ℕ) → linked p first l ≡ true → ((j : ℕ) → among l j ≡ true → s j ≡ true) → (j : ℕ) → among l j ≡ true → any_call s (body p j) ≡ true
  linked_calls [] h within j e = absurd (apart e)
  linked_calls (k ∷ []) h within j e = by (eqb j k) refl e
    where
      by : (t : Bool) → eqb j k ≡ t → t || false ≡ true → any_call s (body p j) ≡ true
      by true q w = same_calls j k q (calls_one k first h closed)
      by false q w = absurd (apart w)
  linked_calls (k ∷ i ∷ r) h within j e =
      by (eqb j k) refl e (λ w. linked_calls (i ∷ r) (and_both (calls p k i) _ h).1 (λ x u. within x (or_later (eqb x k) u)) j w)
    where
      by : (t : Bool) → eqb j k ≡ t → t || among (i ∷ r) j ≡ true → (among (i ∷ r) j ≡ true → any_call s (body p j) ≡ true) → any_call s (body p j) ≡ true
      by true q w later =
          same_calls j k q
          (calls_one k i (and_both (calls p k i) _ h).0 (within i (or_later (eqb i k) (ap (λ t. t || among r i) (eq-eqb i i refl)))))
      by false q w later = later w

-- In a circle of calls each subroutine has chains of any length.
pub circle_chains : (p : Program) (k : ℕ) (r : List ℕ) → linked p k (k ∷ r) ≡ true → (n j : ℕ) → among (k ∷ r) j ≡ true → chain p n j ≡ true
circle_chains p k r h =
    closed_chains p (among (k ∷ r)) (linked_calls p k (among (k ∷ r)) (ap (λ t. t || among r k) (eq-eqb k k refl)) (k ∷ r) h (λ j e. e))

-- a longer chain has the shorter one in it
pub chain_less : (p : Program) (n k : ℕ) → chain p (suc n) k ≡ true → chain p n k ≡ true
unfolding chain
chain_less p zero k h = refl
chain_less p (suc n) k h = any_mono (chain p (suc n)) (chain p n) (chain_less p n) (body p k) h
