-- What a parameter that passed its range says of the number. Assumes nothing.
use Rattle.std.specs.Prelude.{ℕ, ◌≤◌, ◌≡◌, refl, Bool, true, false, cond, ◌||◌, List, Option, Some, None}
use Rattle.std.proofs.Common.{arith, subst}
use Rattle.text_number.specs.Keyed.{whole_of}
use Rattle.text_parameters.specs.Parameter.{item, ranged, number_in}
use Rattle.base_program.specs.Ranges.{Range, within, Inside, low_labels, high_labels}
use Rattle.base_program.specs.Codes.{is_label}
use Rattle.base_program.specs.RangeLaws.{within_is}

pub label_small : (n : ℕ) → is_label n ≡ true → n ≤ high_labels.most
label_small n h = go (within low_labels n) refl h
  where
    go : (t : Bool) → within low_labels n ≡ t → (t || within high_labels n) ≡ true → n ≤ high_labels.most
    go true e h = omega (arith, (within_is low_labels n e).1)
    go false e h = (within_is high_labels n h).1

pub ranged_is : (r : Range) (w : Option ℕ) (n : ℕ) → ranged r w ≡ Some n → Inside r n
unfolding ranged
ranged_is r (Some m) n h = go (within r m) refl h
  where
    go : (t : Bool) → within r m ≡ t → cond t (Some m) None ≡ Some n → Inside r n
    go true e h = let q : m ≡ n = cc in subst (Inside r) q (within_is r m e)
    go false e h = absurd (let y : ◌≡◌ {A = ℕ} 0 1 = cc in omega arith)
ranged_is r None n h = absurd (let y : ◌≡◌ {A = ℕ} 0 1 = cc in omega arith)

-- A number that was taken for a parameter is in the parameter's range.
pub number_is : (r : Range) (ws : List (List ℕ)) (k n : ℕ) → number_in r ws k ≡ Some n → Inside r n
unfolding number_in
number_is r ws k n h = ranged_is r (whole_of (item ws k)) n h
