-- The search for the next array in one pass. At word i an array may have begun, and hold only values so far: then it stands in front of the
-- arrays from word i on, if only values come up to the next start word. Assumes nothing.
use Rattle.std.specs.Prelude.{◌≡◌, Some, None, Bool, ◌&&◌, get_or, drop}
use Rattle.std.proofs.Math.Path.{refl, sym, ap}
use Rattle.std.proofs.Common.{◌∙◌, add-one, add-zero, drop_of_length-le, drop-cons}
use Prim.Native.Nat.{ℕ, suc, ◌+◌, ◌≤◌, ◌<◌}
use native.Mathlib.Omega.{arith}
use Rattle.std.proofs.Math.Bool.{true, false, cond}
use mathlib.Core.List.{List, [], ◌∷◌}
use Rattle.std.proofs.Math.ListN.{length}
use Rattle.storage_word.specs.Word.{is_start, is_value}
use Rattle.storage_listing.specs.declared.ArraySpan.{ArraySpan}
use Rattle.storage_listing.specs.Listing.{up_to_start, all_values}
use Rattle.storage_listing.specs.Search.{Sought}
use Rattle.storage_listing.specs.Spans.{span, spans, spans_from, first}

-- the arrays from word i on, with the one that began at `start` where it is whole so far
abbrev pub begun_before : ℕ → ℕ → List ℕ → List ArraySpan → List ArraySpan
begun_before start i up rest = cond (all_values up) (span start (i + length up) ∷ rest) rest

abbrev pub going : Bool → List ℕ → ℕ → ℕ → List ArraySpan
going true ws start i = begun_before start i (up_to_start (drop i ws)) (spans_from ws i)
going false ws start i = spans_from ws i

pub record Begun (ws : List ℕ) (start i : ℕ) : Type 0 where
  pub earlier : start < i
  pub most : i ≤ length ws
  pub at_start : is_start (get_or ws start 0) ≡ true

pub record Seeking (ws : List ℕ) (from i start : ℕ) (whole : Bool) : Type 0 where
  pub same : spans_from ws from ≡ going whole ws start i
  pub begun : whole ≡ true → Begun ws start i

true_false : false ≡ true → ⊥
true_false e = let z : ◌≡◌ {A = ℕ} 0 1 = ap (λ b. cond b 1 0) e in omega arith

-- ---- the turns

module _ (ws : List ℕ) (i : ℕ) (inside : i < length ws) where
  next : drop i ws ≡ get_or ws i 0 ∷ drop (i + 1) ws
  next = drop-cons ws i 0 inside ∙ ap (λ n. get_or ws i 0 ∷ drop n ws) (sym (add-one i))

  pub later_start : is_start (get_or ws i 0) ≡ true → spans_from ws i ≡ begun_before i (i + 1) (up_to_start (drop (i + 1) ws)) (spans_from ws (i + 1))
  unfolding spans
  later_start e =
      ap (spans i) next
      ∙ ap (λ b. cond (b && all_values (up_to_start (drop (i + 1) ws))) (span i (i + 1 + length (up_to_start (drop (i + 1) ws))) ∷ spans_from ws (i + 1)) (spans_from ws (i + 1))) e

  pub later_other : is_start (get_or ws i 0) ≡ false → spans_from ws i ≡ spans_from ws (i + 1)
  unfolding spans
  later_other e =
      ap (spans i) next
      ∙ ap (λ b. cond (b && all_values (up_to_start (drop (i + 1) ws))) (span i (i + 1 + length (up_to_start (drop (i + 1) ws))) ∷ spans_from ws (i + 1)) (spans_from ws (i + 1))) e

  pub up_start : is_start (get_or ws i 0) ≡ true → up_to_start (drop i ws) ≡ []
  unfolding up_to_start
  up_start e = ap up_to_start next ∙ ap (λ b. cond b [] (get_or ws i 0 ∷ up_to_start (drop (i + 1) ws))) e

  pub up_other : is_start (get_or ws i 0) ≡ false → up_to_start (drop i ws) ≡ get_or ws i 0 ∷ up_to_start (drop (i + 1) ws)
  unfolding up_to_start
  up_other e = ap up_to_start next ∙ ap (λ b. cond b [] (get_or ws i 0 ∷ up_to_start (drop (i + 1) ws))) e

  -- a further word of an array: it goes on with a value, and is spoiled by another
  pub going_on_lem : (start : ℕ) (b : Bool) → b ≡ is_value (get_or ws i 0) → is_start (get_or ws i 0) ≡ false → going true ws start i ≡ going b ws start (i + 1)
  unfolding all_values
  going_on_lem start b v e =
      ap (λ u. begun_before start i u (spans_from ws i)) (up_other e)
      ∙ ap (λ l. begun_before start i (get_or ws i 0 ∷ up_to_start (drop (i + 1) ws)) l) (later_other e)
      ∙ ap (λ t. cond (t && all_values (up_to_start (drop (i + 1) ws))) (span start (i + suc (length (up_to_start (drop (i + 1) ws)))) ∷ spans_from ws (i + 1)) (spans_from ws (i + 1))) (sym v)
      ∙ by b
    where
      by : (t : Bool)
          → cond (t && all_values (up_to_start (drop (i + 1) ws))) (span start (i + suc (length (up_to_start (drop (i + 1) ws)))) ∷ spans_from ws (i + 1)) (spans_from ws (i + 1))
          ≡ going t ws start (i + 1)
      by true =
          ap (λ n. cond (all_values (up_to_start (drop (i + 1) ws))) (span start n ∷ spans_from ws (i + 1)) (spans_from ws (i + 1)))
          (let g : i + suc (length (up_to_start (drop (i + 1) ws))) ≡ i + 1 + length (up_to_start (drop (i + 1) ws)) = omega arith in g)
      by false = refl

  module _ (from start : ℕ) where
    -- a word of an array, or one that spoils it
    pub seeking_word : is_start (get_or ws i 0) ≡ false → Seeking ws from i start true → (b : Bool) → b ≡ is_value (get_or ws i 0) → Seeking ws from (i + 1) start b
    seeking_word e g b v =
        record {
          same = g.same ∙ going_on_lem start b v e;
          begun = λ _. record { earlier = omega (arith, (g.begun refl).earlier); most = omega arith; at_start = (g.begun refl).at_start };
        }

    -- a word outside of an array
    pub seeking_outside : is_start (get_or ws i 0) ≡ false → Seeking ws from i start false → Seeking ws from (i + 1) start false
    seeking_outside e g = record { same = g.same ∙ later_other e; begun = λ f. absurd (true_false f) }

    -- an array begins, with none open before it
    pub seeking_first : is_start (get_or ws i 0) ≡ true → Seeking ws from i start false → Seeking ws from (i + 1) i true
    seeking_first e g = record { same = g.same ∙ later_start e; begun = λ _. record { earlier = omega arith; most = omega arith; at_start = e } }

    -- an array ends where the next begins
    pub sought_here : is_start (get_or ws i 0) ≡ true → Seeking ws from i start true → Sought ws (spans_from ws from) (Some (span start i))
    unfolding all_values
    sought_here e g =
        record {
          is =
              sym
              (ap first (g.same ∙ ap (λ u. begun_before start i u (spans_from ws i)) (up_start e))
              ∙ ap (λ k. Some (span start k)) (add-zero i));
          bounds = ((g.begun refl).earlier, (g.begun refl).most, (g.begun refl).at_start);
        }

-- ---- the ends

pub seeking_begin : (ws : List ℕ) (from : ℕ) → Seeking ws from from 0 false
seeking_begin ws from = record { same = refl; begun = λ f. absurd (true_false f) }

module _ (ws : List ℕ) (from start : ℕ) where
  -- the newest word ends the last array
  pub sought_last : (i n : ℕ) → length ws ≡ n → n ≤ i → Seeking ws from i start true → Sought ws (spans_from ws from) (Some (span start n))
  unfolding all_values up_to_start
  sought_last i n l h g =
      let i_is : i ≡ n = omega (arith, (g.begun refl).most, l, h) in
      record {
        is =
            sym
            (ap first (g.same ∙ ap (λ r. begun_before start i (up_to_start r) (spans i r)) (drop_of_length-le ws {i = i} (omega (arith, l, h))))
            ∙ ap (λ k. Some (span start k)) (add-zero i ∙ i_is));
        bounds = (omega (arith, (g.begun refl).earlier, i_is), omega (arith, l), (g.begun refl).at_start);
      }

  pub sought_none : (i n : ℕ) → length ws ≡ n → n ≤ i → Seeking ws from i start false → Sought ws (spans_from ws from) None
  unfolding spans
  sought_none i n l h g =
      record {
        is = sym (ap first (g.same ∙ ap (spans i) (drop_of_length-le ws {i = i} (omega (arith, l, h)))));
        bounds = tt;
      }

-- with none open it does not matter where the last one began
pub seeking_any : (ws : List ℕ) (from i a b : ℕ) → Seeking ws from i a false → Seeking ws from i b false
seeking_any ws from i a b g = record { same = g.same; begun = λ f. absurd (true_false f) }
