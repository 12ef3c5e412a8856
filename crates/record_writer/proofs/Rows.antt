-- The slots that are written so far, at each turn of the loop over slots: the buffers begin with them. Assumes nothing.
use mathlib.Core.Path.{◌≡◌, refl, sym, ap, ◌∙◌}
use Prim.Native.Nat.{ℕ, suc, ◌+◌, ◌*◌, ◌<◌}
use native.Mathlib.Omega.{arith}
use mathlib.Core.List.{List, ◌++◌, append_assoc}
use lib.ListN.{length, take}
use lib.Seq.{paste, take-paste, take_all}
use Rattle.std.proofs.lemmas.List.Edits.{length-paste}
use lib.Ieee.{Float}
use Rattle.base_program.specs.declared.Program.{Program}
use Rattle.record_layout.specs.Layout.{slot_numbers, slot_values, held, header, numbers_to, values_to, numbers_of, values_of}
use Rattle.record_layout.specs.RecordLaws.{eight_numbers, two_values}

pub record Rows (p : Program) (ns : List ℕ) (vs : List Float) (s : ℕ) : Type 0 where
  pub all : length ns ≡ 2385
  pub both : length vs ≡ 594
  pub numbers : take (9 + 8 * s) ns ≡ header p ++ numbers_to p s
  pub values : take (2 * s) vs ≡ values_to p s

module _ (p : Program) (ns : List ℕ) (vs : List Float) where
  pub rows_start : length ns ≡ 2385 → length vs ≡ 594 → take 9 ns ≡ header p → Rows p ns vs 0
  unfolding numbers_to values_to
  rows_start all both h = record { all = all; both = both; numbers = h; values = refl }

  module _ (s : ℕ) (f : Rows p ns vs s) where
    next_numbers : (x : List ℕ) → s < 297 → x ≡ slot_numbers (held p s) → take (9 + 8 * (s + 1)) (paste ns (9 + 8 * s) x 8) ≡ header p ++ numbers_to p (s + 1)
    unfolding numbers_to
    next_numbers x h e =
        let n : length x ≡ 8 = ap length e ∙ eight_numbers (held p s) in
        ap (λ k. take k (paste ns (9 + 8 * s) x 8)) (let g : 9 + 8 * (s + 1) ≡ 9 + 8 * s + 8 = omega arith in g)
        ∙ take-paste ns (9 + 8 * s) x 8 (omega (arith, f.all)) (omega arith)
        ∙ ap (λ l. l ++ take 8 x) f.numbers
        ∙ ap (λ l. (header p ++ numbers_to p s) ++ l) (take_all 8 x (omega arith) ∙ e)
        ∙ append_assoc (header p) (numbers_to p s) (slot_numbers (held p s))
        ∙ ap (λ k. header p ++ numbers_to p k) (let g : suc s ≡ s + 1 = omega arith in g)

    next_values : (x : List Float) → s < 297 → x ≡ slot_values (held p s) → take (2 * (s + 1)) (paste vs (2 * s) x 2) ≡ values_to p (s + 1)
    unfolding values_to
    next_values x h e =
        let n : length x ≡ 2 = ap length e ∙ two_values (held p s) in
        ap (λ k. take k (paste vs (2 * s) x 2)) (let g : 2 * (s + 1) ≡ 2 * s + 2 = omega arith in g)
        ∙ take-paste vs (2 * s) x 2 (omega (arith, f.both)) (omega arith)
        ∙ ap (λ l. l ++ take 2 x) f.values
        ∙ ap (λ l. values_to p s ++ l) (take_all 2 x (omega arith) ∙ e)
        ∙ ap (values_to p) (let g : suc s ≡ s + 1 = omega arith in g)

    pub rows_next : (x : List ℕ) (y : List Float) (ns' : List ℕ) (vs' : List Float) → s < 297 → x ≡ slot_numbers (held p s) → y ≡ slot_values (held p s)
        → ns' ≡ paste ns (9 + 8 * s) x 8 → vs' ≡ paste vs (2 * s) y 2 → Rows p ns' vs' (s + 1)
    rows_next x y ns' vs' h e d a b =
        let n : length x ≡ 8 = ap length e ∙ eight_numbers (held p s) in
        let m : length y ≡ 2 = ap length d ∙ two_values (held p s) in
        record {
          all = ap length a ∙ length-paste ns (9 + 8 * s) x 8 (omega (arith, f.all)) (omega arith) ∙ f.all;
          both = ap length b ∙ length-paste vs (2 * s) y 2 (omega (arith, f.both)) (omega arith) ∙ f.both;
          numbers = ap (take (9 + 8 * (s + 1))) a ∙ next_numbers x h e;
          values = ap (take (2 * (s + 1))) b ∙ next_values y h d;
        }

    pub rows_all : s ≡ 297 → (ns ≡ numbers_of p) × (vs ≡ values_of p)
    unfolding numbers_of values_of
    rows_all h = (
      sym (take_all (9 + 8 * s) ns (omega (arith, f.all))) ∙ f.numbers ∙ ap (λ k. header p ++ numbers_to p k) h,
      sym (take_all (2 * s) vs (omega (arith, f.both))) ∙ f.values ∙ ap (values_to p) h,
    )
