-- A walk of faults 18 and 20, whatever is known of the program: what is left before a table, and before an entry of a table. A fault ends it.
-- Assumes nothing.
use Rattle.std.specs.Prelude.{◌≡◌, ℕ, ◌+◌, ◌-◌, ◌<◌, ◌||◌, List, [], ◌++◌, length, get_or, take, drop}
use Rattle.std.proofs.Math.Path.{refl}
use Rattle.std.proofs.Common.{sym, ap, ◌∙◌, arith}
use Rattle.base_program.specs.declared.Finding.{Finding}
use Rattle.base_program.specs.declared.Instruction.{Instruction}
use Rattle.base_program.specs.declared.Program.{Program}
use Rattle.base_program.specs.declared.Table.{Table}
use Rattle.base_program.specs.declared.Table.TheVariants.{Three}
use Rattle.base_program.specs.Flow.{flow, call_of}
use Rattle.base_program.specs.Reach.{locations, readings}
use Rattle.base_program.specs.Entries.{entries, table_at}
use Rattle.spec_check.specs.Blocks.{blocks_after}
use Rattle.spec_check.specs.Calls.{missing, any_outside, any_beyond, passes_in_force}
use Rattle.spec_check.specs.Check.{JudgedPlace, judged, or, number, entry_places, first_of, reach_fault, walk_reach}
use Rattle.record_codes.specs.Loaded.{LengthsAre}
use Rattle.proof_check.specs.Walk.{nowhere, place_clean, place_faulty, places_passed, tables_from, tables_next, entry_places_length, entry_place}
use Rattle.base_program.specs.Laws.{row_at}

abbrev pub places : Program → Table → List JudgedPlace
places p t = entry_places (reach_fault p t) p t

-- before the table of row t
abbrev pub LeftTables : (Program → Type 0) → ℕ → Type 0
LeftTables R t = (p : Program) → R p → first_of (tables_from (places p) t) ≡ first_of (walk_reach p)

-- before entry e, from 0, of the table of row t
abbrev pub LeftEntries : (Program → Type 0) → ℕ → ℕ → Type 0
LeftEntries R t e = (p : Program) → R p → first_of (drop e (places p (table_at t)) ++ tables_from (places p) (t + 1)) ≡ first_of (walk_reach p)

-- the fault of an entry, by its place from 0
abbrev pub fault_from : Program → Table → ℕ → ℕ
fault_from p t e =
    or (missing (call_of (flow (get_or (entries p t) e Instruction.End))) (entries p Three)) 18
    (or
    (any_outside p.locations (passes_in_force (blocks_after [] (take e (entries p t)))) (locations (get_or (entries p t) e Instruction.End))
    || any_beyond 196 (readings (get_or (entries p t) e Instruction.End)))
    20
    0)

pub fault_from_lem : (p : Program) (t : Table) (e : ℕ) → fault_from p t e ≡ reach_fault p t (1 + e)
unfolding reach_fault
fault_from_lem p t e = ap (fault_from p t) (let g : e ≡ 1 + e - 1 = omega arith in g)

module _ (R : Program → Type 0) where
  pub first_table : LeftTables R 0
  unfolding walk_reach
  first_table p r = refl

  pub last_table : LeftTables R 3 → (p : Program) → R p → Finding.Clean ≡ first_of (walk_reach p)
  unfolding first_of
  last_table a p r = a p r

  module _ (lengths : List ℕ) (sized : (p : Program) → R p → LengthsAre p lengths) (t : ℕ) (in_tables : t < 3) where
    pub first_entry : LeftTables R t → LeftEntries R t 0
    first_entry a p r = ap first_of (sym (tables_next (places p) t in_tables)) ∙ a p r

    pub length_at : (p : Program) → R p → length (entries p (table_at t)) ≡ get_or lengths t 0
    length_at p r = sized p r (table_at t) ∙ ap (λ n. get_or lengths n 0) (row_at t in_tables)

    pub last_entry : (n : ℕ) → n ≡ get_or lengths t 0 → LeftEntries R t n → LeftTables R (t + 1)
    last_entry n all a p r =
        sym (ap first_of (places_passed (places p (table_at t)) (tables_from (places p) (t + 1)) n
        (omega (arith, length_at p r, entry_places_length (reach_fault p (table_at t)) p (table_at t)))))
        ∙ a p r

    module _ (e : ℕ) (in_table : e < get_or lengths t 0) where
      pub within : (p : Program) → R p → e < length (entries p (table_at t))
      within p r = omega (arith, length_at p r)

      module _ (left : LeftEntries R t e) (fault : ℕ) (right : (p : Program) → R p → fault ≡ fault_from p (table_at t) e) where
        place : (p : Program) → R p → get_or (places p (table_at t)) e nowhere ≡ judged fault (t + 1) (1 + e)
        place p r =
            entry_place (reach_fault p (table_at t)) p (table_at t) e (within p r)
            ∙ ap (λ n. judged n (number (table_at t)) (1 + e)) (sym (right p r ∙ fault_from_lem p (table_at t) e))
            ∙ ap (λ n. judged fault (n + 1) (1 + e)) (row_at t in_tables)

        in_places : (p : Program) → R p → e < length (places p (table_at t))
        in_places p r = omega (arith, within p r, entry_places_length (reach_fault p (table_at t)) p (table_at t))

        pub fault_there : (fault ≡ 0 → ⊥) → (p : Program) → R p → Finding.Fault fault (t + 1) (1 + e) ≡ first_of (walk_reach p)
        fault_there h p r =
            sym (place_faulty (places p (table_at t)) (tables_from (places p) (t + 1)) e (in_places p r) fault (t + 1) (1 + e) (place p r) h) ∙ left p r

        pub next_entry : fault ≡ 0 → LeftEntries R t (e + 1)
        next_entry h p r =
            sym (place_clean (places p (table_at t)) (tables_from (places p) (t + 1)) e (in_places p r) (t + 1) (1 + e) (place p r ∙ ap (λ n. judged n (t + 1) (1 + e)) h))
            ∙ left p r
