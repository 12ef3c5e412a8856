-- One division of two whole numbers that binary32 holds is their fraction, rounded once. Assumes nothing.
use Prim.Native.Nat.{ℕ, ◌*◌, ◌^◌, ◌≤◌, ◌<◌}
use native.Mathlib.Nat.{mul-one, zero-mul, mul-pos, mul_comm, mul_assoc, mul_left_comm, lt_irrefl}
use mathlib.Core.Path.{◌≡◌, sym, ap, ◌∙◌, subst}
use mathlib.Core.Bool.{Bool, true, false, cond, true≢false}
use lib.Dec.{T, eqb, eqb→eq}
use lib.Ieee.{Float, nan, inf, fin, Format, binary32, up, down, round, div}
use lib.Ieee.Fits.{down_pos}
use lib.Ieee.Exact.{HasValue}
use lib.Ieee.Back.{round_whole}
use lib.Ieee.Scale.{round_same}

crossed : (a b p q x y : ℕ) → x ≡ a * p → y ≡ b * q → x * q * b ≡ a * (y * p)
crossed a b p q x y e h = rw (e, h) (simp (mul_assoc, mul_comm, mul_left_comm))

quotient_at : (f : Format) (x y : Float) (a b : ℕ) → 0 < b → HasValue x false a 1 → HasValue y false b 1 → div f x y ≡ round f false a b
unfolding div
quotient_at f nan y a b B h k = absurd h
quotient_at f (inf s) y a b B h k = absurd h
quotient_at f (fin true m e) y a b B h k = absurd (true≢false h.0)
quotient_at f (fin false m e) nan a b B h k = absurd k
quotient_at f (fin false m e) (inf t) a b B h k = absurd k
quotient_at f (fin false m e) (fin true n d) a b B h k = absurd (true≢false k.0)
quotient_at f (fin false m e) (fin false n d) a b B h k = go (eqb n 0) (eqb→eq n 0)
  where
    top : m * up e ≡ a * down e
    top = sym (mul-one (m * up e)) ∙ h.1

    bottom : n * up d ≡ b * down d
    bottom = sym (mul-one (n * up d)) ∙ k.1

    above : 0 < n * up d
    above = subst (λ z. 0 < z) (sym bottom) (mul-pos B (down_pos d))

    go : (t : Bool) → (T t → n ≡ 0) → cond t (cond (eqb m 0) nan (inf false)) (round f false (m * up e * down d) (n * up d * down e)) ≡ round f false a b
    go true z = absurd (lt_irrefl 0 (subst (λ x. 0 < x) (ap (λ x. x * up d) (z tt) ∙ zero-mul (up d)) above))
    go false z = round_same f false (m * up e * down d) (n * up d * down e) a b (mul-pos above (down_pos e)) B (crossed a b (down e) (down d) (m * up e) (n * up d) top bottom)

pub quotient : (n d : ℕ) → n ≤ 2 ^ 24 → d ≤ 2 ^ 24 → 0 < d → div binary32 (round binary32 false n 1) (round binary32 false d 1) ≡ round binary32 false n d
quotient n d h k D = quotient_at binary32 (round binary32 false n 1) (round binary32 false d 1) n d D (round_whole binary32 false n h) (round_whole binary32 false d k)
