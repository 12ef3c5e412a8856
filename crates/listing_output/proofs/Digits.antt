-- Digits of numbers below 65,536. Assumes nothing.
use Prim.Native.Nat.{ℕ, zero, suc, ◌+◌, ◌-◌, ◌/◌, ◌%◌, ◌^◌, ◌≤◌, ◌<◌}
use native.Mathlib.Nat.{pow-le-pow_right, zero-lt-suc, lt_of_lt_of_le, div-eq_of_lt}
use native.Mathlib.Omega.{arith}
use mathlib.Core.Path.{◌≡◌, refl, sym, ap, subst, ◌∙◌}
use mathlib.Core.Bool.{Bool, true, false, cond}
use mathlib.Core.List.{List, [], ◌∷◌}
use Rattle.listing_output.specs.Written.{Put, Left}
use Rattle.listing_output.specs.WrittenLaws.{left_then, left_done}
use Rattle.listing_output.specs.Shown.{figures}

pub all_left : (n : ℕ) → n ≡ n / 10 ^ 0
all_left n = omega arith

-- five places are more than such a number has
pub none_left : (n k : ℕ) → n < 65536 → 5 ≤ k → 0 ≡ n / 10 ^ k
none_left n k h g =
    let l : n < 10 ^ 5 = omega (arith, h) in
    sym (div-eq_of_lt (lt_of_lt_of_le l (pow-le-pow_right (zero-lt-suc 9) g)))

-- ---- a turn of `put_figures`

figures_next : (left n : ℕ) → 0 < left → figures left n ≡ (48 + n / 10 ^ (left - 1) % 10) ∷ figures (left - 1) n
unfolding figures
figures_next zero n h = absurd (omega (arith, h))
figures_next (suc left) n h =
    let e : suc left - 1 ≡ left = omega arith in
    ap (λ k. (48 + n / 10 ^ k % 10) ∷ figures k n) (sym e)

pub figure_then : {out first all next : List ℕ} {m at r : ℕ} (left n d : ℕ) → 0 < left → d ≡ 48 + n / 10 ^ (left - 1) % 10
    → Left out m (figures left n) first at all → Put out m (d ∷ []) r next → Left next r (figures (left - 1) n) first at all
figure_then {out} {first} {all} {next} {m} {at} {r} left n d h e l p =
    left_then (d ∷ []) (figures (left - 1) n)
    (subst (λ w. Left out m w first at all) (figures_next left n h ∙ ap (λ b. b ∷ figures (left - 1) n) (sym e)) l) p

pub figures_done : {out first all : List ℕ} {m at : ℕ} (left n : ℕ) → left ≤ 0 → Left out m (figures left n) first at all → Put first at all m out
unfolding figures
figures_done zero n h l = left_done l
figures_done (suc left) n h l = absurd (omega (arith, h))

-- ---- with places a point
