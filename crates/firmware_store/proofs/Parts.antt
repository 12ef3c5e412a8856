-- The parts of a state's buffer: bits in order, and three parts written over the whole of it. Assumes nothing.
use mathlib.Core.Path.{◌≡◌, refl, sym, ap, ◌∙◌}
use Prim.Native.Nat.{ℕ, zero, suc, ◌+◌, ◌-◌, ◌<◌, ◌≤◌}
use native.Mathlib.Omega.{arith}
use mathlib.Core.Bool.{Bool, true, false}
use mathlib.Core.List.{List, ◌∷◌, ◌++◌, append_assoc}
use lib.ListN.{length, get_or, drop}
use mir.Val.{bool_byte}
use borrow.Rule.Slice.PartMut.{put_mid}
use Rattle.std.specs.Prelude.{map}
use Rattle.std.proofs.Common.{length-append, length-drop}
use Rattle.std.proofs.lemmas.List.Edits.{length-paste}
use Rattle.std.proofs.lemmas.List.{take_at, take_all}
use Rattle.std.proofs.lemmas.Slice.{take-put_mid, put_mid-paste}
use Rattle.base_program.specs.Reach.{numbers_from}
use Rattle.record_layout.specs.Layout.{bit_of}
use Rattle.record_layout.specs.Laws.{places}

as_bit : (b : Bool) → bool_byte b ≡ bit_of b
as_bit true = refl
as_bit false = refl

alike : (a n : ℕ) (f g : ℕ → ℕ) → ((k : ℕ) → k < a + n → f k ≡ g k) → map f (numbers_from a n) ≡ map g (numbers_from a n)
unfolding numbers_from
alike a zero f g h = refl
alike a (suc n) f g h = ap (λ x. x ∷ map f (numbers_from (suc a) n)) (h a (omega arith)) ∙ ap (λ r. g a ∷ r) (alike (suc a) n f g (λ k l. h k (omega arith)))

pub bits : (n : ℕ) (l : List ℕ) (bs : List Bool) → length l ≡ n → ((k : ℕ) → k < n → get_or l k 0 ≡ bool_byte (get_or bs k false))
    → l ≡ map (λ k. bit_of (get_or bs k false)) (numbers_from 0 n)
bits n l bs h e = sym (places n l 0 h) ∙ alike 0 n (λ k. get_or l k 0) (λ k. bit_of (get_or bs k false)) (λ k m. e k (omega arith) ∙ as_bit (get_or bs k false))

length-put : (a k : ℕ) (l m : List ℕ) → a + k ≤ length l → length m ≡ k → length (put_mid a k l m) ≡ length l
length-put a k l m h e = ap length (put_mid-paste a k l m m k refl refl (sym e)) ∙ length-paste l a m k h (omega arith)

pub joined : {x x' y y' z z' : List ℕ} → x ≡ x' → y ≡ y' → z ≡ z' → x ++ (y ++ z) ≡ x' ++ (y' ++ z')
joined {x} {x'} {y} {y'} {z} {z'} p q r = ap (λ l. l ++ (y ++ z)) p ∙ ap (λ l. x' ++ (l ++ z)) q ∙ ap (λ l. x' ++ (y' ++ l)) r

pub stored : (s x y z : List ℕ) → length s ≡ 25 → length x ≡ 10 → length y ≡ 8 → length z ≡ 7
    → put_mid 18 (length (put_mid 10 8 (x ++ drop 10 s) y) - 18) (put_mid 10 8 (x ++ drop 10 s) y) z ≡ x ++ (y ++ z)
stored s x y z hs hx hy hz =
    let v = x ++ drop 10 s in
    let lv : length v ≡ 25 = omega (arith, length-append x (drop 10 s), length-drop 10 s) in
    let w = put_mid 10 8 v y in
    let lw : length w ≡ 25 = length-put 10 8 v y (omega arith) hy ∙ lv in
    let k = length w - 18 in
    let l : length (put_mid 18 k w z) ≤ 25 = omega (arith, length-put 18 k w z (omega arith) (omega arith)) in
    sym (take_all 25 (put_mid 18 k w z) l)
    ∙ take-put_mid 18 k w z 25 (omega arith) (omega arith)
    ∙ ap (λ m. m ++ z) (take-put_mid 10 8 v y 18 (omega arith) (omega arith) ∙ ap (λ m. m ++ y) (take_at x (drop 10 s) 10 (omega arith)))
    ∙ append_assoc x y z
