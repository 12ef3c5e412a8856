-- The walk of fault 21 from entry to entry: the sums handed out so far, and what is left to judge. Assumes nothing.
use Rattle.std.specs.Prelude.{◌≡◌, refl, ℕ, zero, suc, ◌+◌, ◌-◌, ◌*◌, ◌≤◌, ◌<◌, Bool, List, [], ◌∷◌, ◌++◌, length, take, drop, ltb}
use Rattle.std.proofs.Math.Path.{sym, ap}
use Rattle.std.proofs.Common.{◌∙◌, add-one, take-suc, take_all, lt-ltb, le-ltb}
use native.Mathlib.Omega.{arith}
use Rattle.std.proofs.Math.Bool.{true, false}
use Rattle.std.proofs.Math.ListN.{get_or}
use Rattle.base_program.specs.declared.Finding.{Finding}
use Rattle.base_program.specs.declared.Instruction.{Instruction}
use Rattle.base_program.specs.declared.Program.{Program}
use Rattle.base_program.specs.declared.Table.{Table}
use Rattle.base_program.specs.Reach.{sums}
use Rattle.base_program.specs.Entries.{entries, entry_at, all_sums, sums_before, first_sum, table_at}
use Rattle.base_program.specs.Laws.{all_sums_append_lem, row_at}
use Rattle.spec_check.specs.Counts.{fault21}
use Rattle.spec_check.specs.Check.{JudgedPlace, judged, or, number, entry_places, first_of, walk_sums}
use Rattle.proof_check.specs.Walk.{nowhere, place_clean, place_faulty, places_passed, tables_from, tables_next, entry_places_length, entry_place}
use Rattle.record_codes.specs.Loaded.{LengthsAre, SumsAre}

pub record SumsReady (p : Program) (l lengths : List ℕ) (most : ℕ) : Type 0 where
  pub lengths_are : LengthsAre p lengths
  pub sums_are : SumsAre p l
  pub most_is : p.sums ≡ most

-- the places of a table
abbrev pub table_sums : Program → Table → List JudgedPlace
table_sums p t = entry_places (λ e. or (fault21 p t e) 21 0) p t

-- at entry e, from 0, of row t, with `total` sums handed out
pub record SumsGoing (p : Program) (t e total : ℕ) : Type 0 where
  pub same : first_of (drop e (table_sums p (table_at t)) ++ tables_from (table_sums p) (t + 1)) ≡ first_of (walk_sums p)
  pub total_is : total ≡ sums_before p (table_at t) + all_sums (take e (entries p (table_at t)))

-- at the start of row t
pub record TableGoing (p : Program) (t total : ℕ) : Type 0 where
  pub same : first_of (tables_from (table_sums p) t) ≡ first_of (walk_sums p)
  pub total_is : t < 3 → total ≡ sums_before p (table_at t)

pub walk_start : (p : Program) → TableGoing p 0 0
unfolding walk_sums sums_before
walk_start p = record { same = refl; total_is = λ _. refl }

pub walk_end : (p : Program) (t total : ℕ) → t ≡ 3 → TableGoing p t total → Finding.Clean ≡ first_of (walk_sums p)
unfolding first_of
walk_end p t total h g = ap (λ k. first_of (tables_from (table_sums p) k)) (sym h) ∙ g.same

pub table_start : (p : Program) (t total : ℕ) → t < 3 → TableGoing p t total → SumsGoing p t 0 total
unfolding all_sums
table_start p t total h g =
    record { same = ap first_of (sym (tables_next (table_sums p) t h)) ∙ g.same; total_is = g.total_is h ∙ omega arith }

-- the sums before the next table
passed : (p : Program) (t : ℕ) → t + 1 < 3 → sums_before p (table_at t) + all_sums (entries p (table_at t)) ≡ sums_before p (table_at (t + 1))
unfolding sums_before
passed p zero h = omega arith
passed p (suc zero) h = refl
passed p (suc (suc t)) h = absurd (omega arith)

module _ (p : Program) (l lengths : List ℕ) (most : ℕ) (ready : SumsReady p l lengths most) (t : ℕ) (below : t < 3) where
  pub length_is : length (entries p (table_at t)) ≡ get_or lengths t 0
  length_is = ready.lengths_are (table_at t) ∙ ap (λ k. get_or lengths k 0) (row_at t below)

  number_is : number (table_at t) ≡ t + 1
  number_is = ap (λ k. k + 1) (row_at t below)

  pub next_table : (n total : ℕ) → length (entries p (table_at t)) ≡ n → SumsGoing p t n total → TableGoing p (t + 1) total
  next_table n total h g =
      record {
        same =
            ap first_of
            (sym
            (places_passed (table_sums p (table_at t)) (tables_from (table_sums p) (t + 1)) n
            (omega (arith, entry_places_length (λ e. or (fault21 p (table_at t) e) 21 0) p (table_at t)))))
            ∙ g.same;
        total_is =
            λ q. g.total_is ∙ ap (λ x. sums_before p (table_at t) + all_sums x) (take_all n (entries p (table_at t)) (omega arith)) ∙ passed p t q;
      }

  module _ (e total : ℕ) (within : e < length (entries p (table_at t))) (g : SumsGoing p t e total) where
    here : ℕ
    here = get_or l (99 * t + e) 0

    sum_is : here ≡ sums (get_or (entries p (table_at t)) e Instruction.End)
    unfolding here
    sum_is = ap (λ k. get_or l (99 * k + e) 0) (sym (row_at t below)) ∙ ready.sums_are (table_at t) e within

    -- with this entry's sums
    after : total + here ≡ first_sum p (table_at t) (1 + e) + sums (entry_at p (table_at t) (1 + e))
    unfolding first_sum
    after =
        ap (λ x. x + here) g.total_is
        ∙ ap (λ x. sums_before p (table_at t) + all_sums (take e (entries p (table_at t))) + x) sum_is
        ∙ ap (λ k. sums_before p (table_at t) + all_sums (take k (entries p (table_at t))) + sums (get_or (entries p (table_at t)) k Instruction.End)) (let q : e ≡ 1 + e - 1 = omega arith in q)

    place : (b : Bool) → ltb most (total + here) ≡ b → get_or (table_sums p (table_at t)) e nowhere ≡ judged (or b 21 0) (t + 1) (e + 1)
    place b h =
        entry_place (λ x. or (fault21 p (table_at t) x) 21 0) p (table_at t) e within
        ∙ ap (λ x. judged (or x 21 0) (number (table_at t)) (1 + e)) (ap (λ m. ltb m (first_sum p (table_at t) (1 + e) + sums (entry_at p (table_at t) (1 + e)))) ready.most_is ∙ ap (ltb most) (sym after) ∙ h)
        ∙ ap (λ x. judged (or b 21 0) x (1 + e)) number_is
        ∙ ap (λ x. judged (or b 21 0) (t + 1) x) (let q : 1 + e ≡ e + 1 = omega arith in q)

    inside : e < length (table_sums p (table_at t))
    inside = omega (arith, entry_places_length (λ x. or (fault21 p (table_at t) x) 21 0) p (table_at t))

    pub does_not_fit : most < total + get_or l (99 * t + e) 0 → Finding.Fault 21 (t + 1) (e + 1) ≡ first_of (walk_sums p)
    unfolding here
    does_not_fit h =
        sym
        (place_faulty (table_sums p (table_at t)) (tables_from (table_sums p) (t + 1)) e inside 21 (t + 1) (e + 1) (place true (lt-ltb most (total + here) h)) (λ q. omega arith))
        ∙ g.same

    pub fits : total + get_or l (99 * t + e) 0 ≤ most → SumsGoing p t (e + 1) (total + get_or l (99 * t + e) 0)
    unfolding here all_sums
    fits h =
        record {
          same =
              sym
              (place_clean (table_sums p (table_at t)) (tables_from (table_sums p) (t + 1)) e inside (t + 1) (e + 1) (place false (le-ltb most (total + here) h)))
              ∙ g.same;
          total_is =
              ap (λ x. x + here) g.total_is
              ∙ ap (λ x. sums_before p (table_at t) + all_sums (take e (entries p (table_at t))) + x) sum_is
              ∙ sym
              (ap (λ k. sums_before p (table_at t) + all_sums (take k (entries p (table_at t)))) (add-one e)
              ∙ ap (λ x. sums_before p (table_at t) + all_sums x) (take-suc (entries p (table_at t)) e Instruction.End within)
              ∙ ap (λ x. sums_before p (table_at t) + x) (all_sums_append_lem (take e (entries p (table_at t))) (get_or (entries p (table_at t)) e Instruction.End ∷ []))
              ∙ omega arith);
        }
