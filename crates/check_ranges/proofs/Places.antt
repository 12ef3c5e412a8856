-- The walk from place to place: the first fault of the places left is that of the whole walk. A clean place is passed; a fault is the walk's.
-- Assumes nothing.
use mathlib.Core.Path.{◌≡◌, refl, sym, ap, ◌∙◌}
use Prim.Native.Nat.{ℕ, zero, suc, ◌+◌, ◌-◌, ◌≤◌, ◌<◌}
use native.Mathlib.Omega.{arith}
use native.Mathlib.Numerals.{add-one}
use mathlib.Core.Bool.{Bool, true, false, not, ◌&&◌, cond}
use mathlib.Core.List.{List, [], ◌∷◌, ◌++◌}
use lib.ListN.{length, get_or, drop, length-append, get_or-append}
use lib.Seq.{get_or-append_seam}
use lib.Dec.{leb}
use borrow.Author.Tests.{lt-ltb, le-ltb}
use Rattle.base_program.specs.declared.Finding.{Finding}
use Rattle.base_program.specs.declared.Instruction.{Instruction}
use Rattle.base_program.specs.declared.Program.{Program}
use Rattle.base_program.specs.declared.Table.{Table}
use Rattle.base_program.specs.Entries.{claimed, entries, table_at}
use Rattle.spec_check.specs.Ranges.{in_range, is_interval, interval, fault2, fault6}
use Rattle.base_program.specs.Codes.{between}
use Rattle.spec_check.specs.Check.{JudgedPlace, judged, or, number, entry_places, table_ranges, all_tables, walk_ranges, first_of}
use Rattle.proof_check.specs.Walk.{nowhere, place_clean, place_faulty, places_passed, tables_from, tables_next, entry_places_length, entry_place}
use Rattle.base_program.specs.Laws.{row_at}
use Rattle.check_ranges.specs.Walked.{interval_at}

-- ---- rows

field_at : (t : ℕ) → t < 3 → number (table_at t) ≡ t + 1
field_at t h = ap (λ n. n + 1) (row_at t h)

pub claimed_at : (p : Program) (t : ℕ) → t < 3 → claimed p (table_at t) ≡ get_or p.lengths t 0
claimed_at p t h = ap (λ n. get_or p.lengths n 0) (row_at t h)

interval_at_lem : (p : Program) (t : ℕ) → interval p (table_at t) ≡ interval_at p.intervals t
unfolding interval
interval_at_lem p zero = refl
interval_at_lem p (suc zero) = refl
interval_at_lem p (suc (suc t)) = ap (λ b. cond b (get_or p.intervals (suc (suc t)) 0) 0) (sym (le-ltb (suc (suc t)) 2 (omega arith)))

-- ---- what is left of the walk

abbrev pub Whole : Program → Finding
Whole p = first_of (walk_ranges p)

-- from the table of row t on
abbrev pub From : Program → ℕ → Finding
From p t = first_of (tables_from (table_ranges p) t)

-- from place k of the table of row t on
abbrev pub Within : Program → ℕ → ℕ → Finding
Within p t k = first_of (drop k (table_ranges p (table_at t)) ++ tables_from (table_ranges p) (t + 1))

-- ---- the program's own line

abbrev headed : Program → Bool → List JudgedPlace
headed p inside = judged (or (not inside) 2 0) 0 0 ∷ all_tables (table_ranges p)

pub header_clean : (p : Program) → between 1 2000 p.locations && leb p.sums 2000 ≡ true → From p 0 ≡ Whole p
unfolding walk_ranges first_of
header_clean p h = sym (ap (λ b. first_of (headed p b)) h)

pub header_faulty : (p : Program) → between 1 2000 p.locations && leb p.sums 2000 ≡ false → Finding.Fault 2 0 0 ≡ Whole p
unfolding walk_ranges first_of
header_faulty p h = sym (ap (λ b. first_of (headed p b)) h)

-- ---- the places of a table

module _ (p : Program) (t : Table) where
  abbrev judge : ℕ → ℕ
  judge e = or (fault2 p t e) 2 0

  ranges_length : length (table_ranges p t) ≡ length (entries p t) + 2
  ranges_length =
      ap suc (length-append (entry_places judge p t) (judged (or (fault6 p t) 6 0) (number t) 100 ∷ []))
      ∙ omega (arith, entry_places_length judge p t)

  entry_is : (e : ℕ) → e < length (entries p t) → get_or (table_ranges p t) (e + 1) nowhere ≡ judged (or (not (in_range (get_or (entries p t) e Instruction.End))) 2 0) (number t) (e + 1)
  entry_is e h =
      ap (λ k. get_or (table_ranges p t) k nowhere) (add-one e)
      ∙ get_or-append (entry_places judge p t) (judged (or (fault6 p t) 6 0) (number t) 100 ∷ []) nowhere e (omega (arith, entry_places_length judge p t))
      ∙ entry_place judge p t e h
      ∙ ap (λ k. judged (or (not (in_range (get_or (entries p t) k Instruction.End))) 2 0) (number t) (1 + e)) (let g : 1 + e - 1 ≡ e = omega arith in g)
      ∙ ap (λ k. judged (or (not (in_range (get_or (entries p t) e Instruction.End))) 2 0) (number t) k) (let g : 1 + e ≡ e + 1 = omega arith in g)

  last_is : (n : ℕ) → n ≡ length (entries p t) → get_or (table_ranges p t) (n + 1) nowhere ≡ judged (or (fault6 p t) 6 0) (number t) 100
  last_is n h =
      ap (λ k. get_or (table_ranges p t) k nowhere) (add-one n ∙ ap suc (h ∙ sym (entry_places_length judge p t)))
      ∙ get_or-append_seam (entry_places judge p t) (judged (or (fault6 p t) 6 0) (number t) 100) [] nowhere

module _ (p : Program) (t : ℕ) (in_tables : t < 3) where
  abbrev l : List JudgedPlace
  l = table_ranges p (table_at t)

  abbrev r : List JudgedPlace
  r = tables_from (table_ranges p) (t + 1)

  -- ---- its first line

  pub interval_clean : From p t ≡ Whole p → is_interval (table_at t) (interval_at p.intervals t) ≡ true → Within p t 1 ≡ Whole p
  interval_clean w h =
      sym
      (ap first_of (tables_next (table_ranges p) t in_tables)
      ∙ place_clean l r 0 (omega arith) (number (table_at t)) 0
      (ap (λ b. judged (or (not b) 5 0) (number (table_at t)) 0) (ap (is_interval (table_at t)) (interval_at_lem p t) ∙ h)))
      ∙ w

  pub interval_faulty : From p t ≡ Whole p → is_interval (table_at t) (interval_at p.intervals t) ≡ false → Finding.Fault 5 (t + 1) 0 ≡ Whole p
  interval_faulty w h =
      ap (λ n. Finding.Fault 5 n 0) (sym (field_at t in_tables))
      ∙ sym
      (ap first_of (tables_next (table_ranges p) t in_tables)
      ∙ place_faulty l r 0 (omega arith) 5 (number (table_at t)) 0
      (ap (λ b. judged (or (not b) 5 0) (number (table_at t)) 0) (ap (is_interval (table_at t)) (interval_at_lem p t) ∙ h))
      (λ z. omega arith))
      ∙ w

  -- ---- its entries

  module _ (e : ℕ) (in_table : e < length (entries p (table_at t))) where
    pub entry_clean : Within p t (e + 1) ≡ Whole p → in_range (get_or (entries p (table_at t)) e Instruction.End) ≡ true → Within p t (e + 1 + 1) ≡ Whole p
    entry_clean w h =
        sym
        (place_clean l r (e + 1) (omega (arith, ranges_length p (table_at t))) (number (table_at t)) (e + 1)
        (entry_is p (table_at t) e in_table ∙ ap (λ b. judged (or (not b) 2 0) (number (table_at t)) (e + 1)) h))
        ∙ w

    pub entry_faulty : Within p t (e + 1) ≡ Whole p → in_range (get_or (entries p (table_at t)) e Instruction.End) ≡ false → Finding.Fault 2 (t + 1) (e + 1) ≡ Whole p
    entry_faulty w h =
        ap (λ n. Finding.Fault 2 n (e + 1)) (sym (field_at t in_tables))
        ∙ sym
        (place_faulty l r (e + 1) (omega (arith, ranges_length p (table_at t))) 2 (number (table_at t)) (e + 1)
        (entry_is p (table_at t) e in_table ∙ ap (λ b. judged (or (not b) 2 0) (number (table_at t)) (e + 1)) h)
        (λ z. omega arith))
        ∙ w

  -- ---- an entry 100

  module _ (n : ℕ) (all : n ≡ length (entries p (table_at t))) where
    pub table_clean : Within p t (n + 1) ≡ Whole p → claimed p (table_at t) ≤ 99 → From p (t + 1) ≡ Whole p
    table_clean w h =
        sym
        (place_clean l r (n + 1) (omega (arith, ranges_length p (table_at t))) (number (table_at t)) 100
        (last_is p (table_at t) n all ∙ ap (λ b. judged (or b 6 0) (number (table_at t)) 100) (le-ltb 99 (claimed p (table_at t)) h))
        ∙ ap first_of (places_passed l r (n + 1 + 1) (omega (arith, ranges_length p (table_at t)))))
        ∙ w

    pub table_faulty : Within p t (n + 1) ≡ Whole p → 99 < claimed p (table_at t) → Finding.Fault 6 (t + 1) 100 ≡ Whole p
    table_faulty w h =
        ap (λ k. Finding.Fault 6 k 100) (sym (field_at t in_tables))
        ∙ sym
        (place_faulty l r (n + 1) (omega (arith, ranges_length p (table_at t))) 6 (number (table_at t)) 100
        (last_is p (table_at t) n all ∙ ap (λ b. judged (or b 6 0) (number (table_at t)) 100) (lt-ltb 99 (claimed p (table_at t)) h))
        (λ z. omega arith))
        ∙ w

pub tables_passed : (p : Program) (t : ℕ) → 3 ≤ t → From p t ≡ Finding.Clean
unfolding first_of
tables_passed p zero h = absurd (omega arith)
tables_passed p (suc zero) h = absurd (omega arith)
tables_passed p (suc (suc zero)) h = absurd (omega arith)
tables_passed p (suc (suc (suc t))) h = refl
