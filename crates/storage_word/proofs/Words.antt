-- Each return of `is_value` decides the parts of the definition. Assumes nothing.
use mathlib.Core.Path.{◌≡◌, refl, sym, ◌∙◌}
use mathlib.Core.Bool.{Bool, true, false, not, ◌&&◌, ◌||◌}
use Prim.Native.Nat.{ℕ, ◌/◌, ◌%◌, ◌≤◌, ◌<◌}
use native.Mathlib.Omega.{arith}
use lib.Dec.{leb, ltb}
use borrow.Author.Tests.{leb-true, le-leb, lt-leb, lt-ltb, eq-eqb, ne_eqb}
use Rattle.storage_word.specs.Word.{is_value}

pub too_many : (w : ℕ) → 6999 < w % 8192 → false ≡ is_value w
unfolding is_value
too_many w h = rw (lt-leb (w % 8192) 6999 h)

pub three_plain : (w : ℕ) → w % 8192 ≤ 6999 → w / 8192 % 4 ≡ 3 → w < 32768 → ltb w 32768 ≡ is_value w
unfolding is_value
three_plain w h e l = lt-ltb w 32768 l ∙ rw (le-leb (w % 8192) 6999 h, eq-eqb (w / 8192 % 4) 3 e, lt-leb 32768 w l)

pub three_signed : (w : ℕ) → w % 8192 ≤ 6999 → w / 8192 % 4 ≡ 3 → 32768 ≤ w → ltb 0 (w % 8192) ≡ is_value w
unfolding is_value
three_signed w h e l = rw (le-leb (w % 8192) 6999 h, eq-eqb (w / 8192 % 4) 3 e, le-leb 32768 w l)

pub fewer : (w : ℕ) → w % 8192 ≤ 6999 → (w / 8192 % 4 ≡ 3 → ⊥) → leb 700 (w % 8192) ≡ is_value w
unfolding is_value
fewer w h e = rw (le-leb (w % 8192) 6999 h, ne_eqb (w / 8192 % 4) 3 e) (go (leb 700 (w % 8192)) (not (leb 32768 w)) refl)
  where
    go : (b s : Bool) → leb 700 (w % 8192) ≡ b → b ≡ (b && (s || ltb 0 (w % 8192)))
    go true true g = refl
    go true false g = let k = leb-true 700 (w % 8192) g in sym (lt-ltb 0 (w % 8192) (omega arith))
    go false s g = refl
