-- What one turn of a loop over bytes does to the definitions. Assumes nothing.
use Prim.Native.Nat.{ℕ, suc, ◌+◌, ◌≤◌, ◌<◌}
use native.Mathlib.Numerals.{add-one}
use native.Mathlib.Omega.{arith}
use mathlib.Core.Path.{◌≡◌, sym, ap, ◌∙◌, subst}
use mathlib.Core.Bool.{true, false}
use mathlib.Core.List.{List}
use lib.ListN.{length, get_or, drop}
use lib.Seq.{drop-cons}
use borrow.Author.Tests.{eq-eqb, ne_eqb}
use Rattle.text_items.specs.Split.{is_plain}
use Rattle.text_items.specs.Cut.{before, plain_first, ByteFound}
use Rattle.base_laws.specs.Tests.{yes, no}

-- ---- a turn of `find`

pub before_at : (k : ℕ) (s : List ℕ) (i : ℕ) → i < length s → get_or s i 0 ≡ k → before k (drop i s) ≡ 0
unfolding before
before_at k s i h e = ap (before k) (drop-cons s i 0 h) ∙ yes _ _ (eq-eqb (get_or s i 0) k e)

pub before_past : (k : ℕ) (s : List ℕ) (i : ℕ) → i < length s → (get_or s i 0 ≡ k → ⊥) → i + 1 + before k (drop (i + 1) s) ≡ i + before k (drop i s)
unfolding before
before_past k s i h e =
    let here : before k (drop i s) ≡ suc (before k (drop (i + 1) s)) =
    ap (before k) (drop-cons s i 0 h) ∙ no _ _ (ne_eqb (get_or s i 0) k e) ∙ ap (λ j. suc (before k (drop j s))) (sym (add-one i)) in
    omega arith

-- no byte k from `at` up to j
abbrev pub Passed : ℕ → List ℕ → ℕ → ℕ → Type 0
Passed k s at j = j + before k (drop j s) ≡ at + before k (drop at s)

pub pass_one : (k : ℕ) (s : List ℕ) (at i j : ℕ) → j ≡ i + 1 → i < length s → (get_or s i 0 ≡ k → ⊥) → Passed k s at i → Passed k s at j
pass_one k s at i j e h other p = subst (Passed k s at) (sym e) (before_past k s i h other ∙ p)

pub found_at : (k : ℕ) (s : List ℕ) (at j : ℕ) → at ≤ j → j < length s → get_or s j 0 ≡ k → Passed k s at j → ByteFound k s at j
found_at k s at j from h e p = let z = before_at k s j h e in record { is = omega (arith, z, p); from = from; within = omega arith }

-- ---- a turn of `word_end`

pub plain_at : (s : List ℕ) (i : ℕ) → i < length s → is_plain (get_or s i 0) ≡ false → plain_first (drop i s) ≡ 0
unfolding plain_first
plain_at s i h e = ap plain_first (drop-cons s i 0 h) ∙ no _ _ e

pub plain_past : (s : List ℕ) (i : ℕ) → i < length s → is_plain (get_or s i 0) ≡ true → i + 1 + plain_first (drop (i + 1) s) ≡ i + plain_first (drop i s)
unfolding plain_first
plain_past s i h e =
    let here : plain_first (drop i s) ≡ suc (plain_first (drop (i + 1) s)) =
    ap plain_first (drop-cons s i 0 h) ∙ yes _ _ e ∙ ap (λ j. suc (plain_first (drop j s))) (sym (add-one i)) in
    omega arith
