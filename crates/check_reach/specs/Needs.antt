-- How far an entry reaches, as two numbers: the least I that its locations that are not indexed need, and the same of those that are, on the
-- first pass. Location 0, and a reading behind the last card, need 65,536, which no I is. Assumes nothing.
use Rattle.std.specs.Prelude.{◌≡◌, ℕ, ◌+◌, ◌-◌, ◌≤◌, ◌<◌, max, Bool, cond, ◌&&◌, ◌||◌, eqb, leb}
use Rattle.std.proofs.Math.Path.{refl, sym, ap}
use Rattle.std.proofs.Common.{◌∙◌, arith, lt-ltb, le-ltb, ltb-true, ltb-false, leb-true, leb-false}
use Rattle.std.proofs.Math.Bool.{true, false}
use mathlib.Core.List.{List, [], ◌∷◌}
use Rattle.std.proofs.Math.Dec.{ltb}
use Rattle.std.proofs.lemmas.Bool.{eqb-false}
use Rattle.base_program.specs.declared.Instruction.{Instruction}
use Rattle.base_program.specs.Reach.{LocationSpan, locations, readings}
use Rattle.spec_check.specs.Calls.{outside, any_outside, any_beyond}

-- a location and following ones
abbrev pub need_of : LocationSpan → ℕ
need_of s = cond (eqb s.location.number 0) 65536 (s.location.number + (s.reps - 1))

abbrev pub fixed_need : LocationSpan → ℕ
fixed_need s = cond s.location.indexed 0 (need_of s)

abbrev pub moved_need : LocationSpan → ℕ
moved_need s = cond s.location.indexed (need_of s) 0

unfoldable pub fixed_needs : List LocationSpan → ℕ
fixed_needs [] = 0
fixed_needs (s ∷ r) = max (fixed_need s) (fixed_needs r)

unfoldable pub moved_needs : List LocationSpan → ℕ
moved_needs [] = 0
moved_needs (s ∷ r) = max (moved_need s) (moved_needs r)

-- the two numbers of an entry
abbrev pub fixed_reach : Instruction → ℕ
fixed_reach i = max (fixed_needs (locations i)) (cond (any_beyond 196 (readings i)) 65536 0)

abbrev pub moved_reach : Instruction → ℕ
moved_reach i = moved_needs (locations i)

-- beyond I, on the last of n passes
abbrev pub beyond_moved : ℕ → ℕ → ℕ → Bool
beyond_moved most n k = ltb 0 k && ltb most (k + (n - 1))

abbrev pub beyond : ℕ → ℕ → ℕ → ℕ → Bool
beyond most n fixed k = ltb most fixed || beyond_moved most n k

-- both as one number against I: 65,536 where the first is beyond it, else what is left for the last pass to judge
abbrev pub need_in : ℕ → ℕ → ℕ → ℕ
need_in most fixed k = cond (ltb most fixed) 65536 k

abbrev pub entry_need : ℕ → Instruction → ℕ
entry_need most i = need_in most (fixed_reach i) (moved_reach i)

-- ---- it is what fault 20 says

module _ (most n : ℕ) where
  -- both tests go up with their number
  fixed_max : (a b : ℕ) → ltb most (max a b) ≡ ltb most a || ltb most b
  fixed_max a b = by (ltb most a) (ltb most b) refl refl
    where
      by : (s t : Bool) → ltb most a ≡ s → ltb most b ≡ t → ltb most (max a b) ≡ s || t
      by true t h g = lt-ltb most (max a b) (omega (arith, ltb-true most a h))
      by false true h g = lt-ltb most (max a b) (omega (arith, ltb-true most b g))
      by false false h g = le-ltb most (max a b) (omega (arith, ltb-false most a h, ltb-false most b g))

  moved_max : (a b : ℕ) → beyond_moved most n (max a b) ≡ beyond_moved most n a || beyond_moved most n b
  moved_max a b = by (leb a b) refl
    where
      none_left : (c : Bool) → c ≡ c || false
      none_left true = refl
      none_left false = refl

      up : (x y : ℕ) → x ≤ y → beyond_moved most n x || beyond_moved most n y ≡ beyond_moved most n y
      up x y le = at (ltb 0 x) (ltb most (x + (n - 1))) refl refl
        where
          at : (s t : Bool) → ltb 0 x ≡ s → ltb most (x + (n - 1)) ≡ t → s && t || beyond_moved most n y ≡ beyond_moved most n y
          at true true h g =
              sym
              (ap (λ c. c && ltb most (y + (n - 1))) (lt-ltb 0 y (omega (arith, ltb-true 0 x h)))
              ∙ lt-ltb most (y + (n - 1)) (omega (arith, ltb-true most (x + (n - 1)) g)))
          at true false h g = refl
          at false t h g = refl

      swap : (c d : Bool) → c || d ≡ d || c
      swap true true = refl
      swap true false = refl
      swap false true = refl
      swap false false = refl

      by : (t : Bool) → leb a b ≡ t → beyond_moved most n (max a b) ≡ beyond_moved most n a || beyond_moved most n b
      by true h =
          let le : a ≤ b = leb-true a b h in
          ap (beyond_moved most n) (let g : max a b ≡ b = omega arith in g) ∙ sym (up a b le)
      by false h =
          let lt : b < a = leb-false a b h in
          ap (beyond_moved most n) (let g : max a b ≡ a = omega arith in g) ∙ sym (up b a (omega arith)) ∙ swap (beyond_moved most n b) (beyond_moved most n a)

  module _ (small : most ≤ 65535) where
    one_beyond : (s : LocationSpan) → outside most n s ≡ beyond most n (fixed_need s) (moved_need s)
    one_beyond s = by s.location.indexed (eqb s.location.number 0) refl
      where
        by : (ix z : Bool) → eqb s.location.number 0 ≡ z
            → z || ltb most (s.location.number + cond ix (n - 1) 0 + (s.reps - 1))
            ≡ ltb most (cond ix 0 (cond z 65536 (s.location.number + (s.reps - 1))))
            || beyond_moved most n (cond ix (cond z 65536 (s.location.number + (s.reps - 1))) 0)
        by true true h =
            sym
            (ap (λ c. c || beyond_moved most n 65536) (le-ltb most 0 (omega arith))
            ∙ ap (λ c. c && ltb most (65536 + (n - 1))) (lt-ltb 0 65536 (omega arith))
            ∙ lt-ltb most (65536 + (n - 1)) (omega arith))
        by true false h =
            let some_number : s.location.number ≡ 0 → ⊥ = eqb-false s.location.number 0 h in
            ap (ltb most) (let g : s.location.number + (n - 1) + (s.reps - 1) ≡ s.location.number + (s.reps - 1) + (n - 1) = omega arith in g)
            ∙ sym
            (ap (λ c. c || beyond_moved most n (s.location.number + (s.reps - 1))) (le-ltb most 0 (omega arith))
            ∙ ap (λ c. c && ltb most (s.location.number + (s.reps - 1) + (n - 1))) (lt-ltb 0 (s.location.number + (s.reps - 1)) (omega arith)))
        by false true h = sym (ap (λ c. c || beyond_moved most n 0) (lt-ltb most 65536 (omega arith)))
        by false false h =
            ap (ltb most) (let g : s.location.number + 0 + (s.reps - 1) ≡ s.location.number + (s.reps - 1) = omega arith in g)
            ∙ none_left (ltb most (s.location.number + (s.reps - 1)))
          where
            none_left : (c : Bool) → c ≡ c || false
            none_left true = refl
            none_left false = refl

    pub any_beyond_lem : (l : List LocationSpan) → any_outside most n l ≡ beyond most n (fixed_needs l) (moved_needs l)
    unfolding any_outside fixed_needs moved_needs
    any_beyond_lem [] = sym (ap (λ c. c || false) (le-ltb most 0 (omega arith)))
    any_beyond_lem (s ∷ r) =
        ap (λ c. c || any_outside most n r) (one_beyond s)
        ∙ ap (λ c. beyond most n (fixed_need s) (moved_need s) || c) (any_beyond_lem r)
        ∙ shuffle (ltb most (fixed_need s)) (beyond_moved most n (moved_need s)) (ltb most (fixed_needs r)) (beyond_moved most n (moved_needs r))
        ∙ ap (λ c. c || (beyond_moved most n (moved_need s) || beyond_moved most n (moved_needs r))) (sym (fixed_max (fixed_need s) (fixed_needs r)))
        ∙ ap (λ c. ltb most (max (fixed_need s) (fixed_needs r)) || c) (sym (moved_max (moved_need s) (moved_needs r)))
      where
        shuffle : (a b c d : Bool) → (a || b) || (c || d) ≡ (a || c) || (b || d)
        shuffle true b c d = refl
        shuffle false true true d = refl
        shuffle false true false d = refl
        shuffle false false true d = refl
        shuffle false false false d = refl

    -- as one number
    one_need : (fixed k : ℕ) → beyond most n fixed k ≡ beyond_moved most n (need_in most fixed k)
    one_need fixed k = by (ltb most fixed)
      where
        by : (b : Bool) → b || beyond_moved most n k ≡ beyond_moved most n (cond b 65536 k)
        by true = sym (ap (λ c. c && ltb most (65536 + (n - 1))) (lt-ltb 0 65536 (omega arith)) ∙ lt-ltb most (65536 + (n - 1)) (omega arith))
        by false = refl

    pub entry_beyond : (i : Instruction) → any_outside most n (locations i) || any_beyond 196 (readings i) ≡ beyond_moved most n (entry_need most i)
    entry_beyond i =
        ap (λ c. c || any_beyond 196 (readings i)) (any_beyond_lem (locations i))
        ∙ last (any_beyond 196 (readings i)) (ltb most (fixed_needs (locations i))) (beyond_moved most n (moved_needs (locations i)))
        ∙ ap (λ c. c || beyond_moved most n (moved_needs (locations i))) (sym (fixed_max (fixed_needs (locations i)) (cond (any_beyond 196 (readings i)) 65536 0)))
        ∙ one_need (fixed_reach i) (moved_reach i)
      where
        last : (b x y : Bool) → (x || y) || b ≡ (x || ltb most (cond b 65536 0)) || y
        last true true y = refl
        last true false true = ap (λ c. (false || c) || true) (sym (lt-ltb most 65536 (omega arith)))
        last true false false = ap (λ c. (false || c) || false) (sym (lt-ltb most 65536 (omega arith)))
        last false true y = refl
        last false false true = ap (λ c. (false || c) || true) (sym (le-ltb most 0 (omega arith)))
        last false false false = ap (λ c. (false || c) || false) (sym (le-ltb most 0 (omega arith)))
