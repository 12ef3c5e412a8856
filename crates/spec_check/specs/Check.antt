-- The check: the places that each walk judges, in order, and the first fault of the walks. Assumes nothing.
use Rattle.std.specs.Prelude.{ℕ, ◌+◌, Bool, cond, List, [], ◌∷◌, ◌++◌, map, length, eqb}
use Rattle.base_program.specs.declared.Program.{Program}
use Rattle.base_program.specs.declared.Table.{Table}
use Rattle.base_program.specs.declared.Table.TheVariants.{One, Two, Three}
use Rattle.base_program.specs.Reach.{numbers_from}
use Rattle.base_program.specs.Entries.{row, entries}
use Rattle.spec_check.specs.declared.Verdict.{Verdict}
use Rattle.base_program.specs.declared.Finding.{Finding}
use Rattle.spec_check.specs.Ranges.{fault2, fault2header, fault5, fault6}
use Rattle.spec_check.specs.Blocks.{fault10, fault11, fault12, fault13, fault14, fault15, fault16, fault17}
use Rattle.spec_check.specs.Calls.{fault18, fault19, fault20}
use Rattle.spec_check.specs.Counts.{fault21, fault22, stated_count}

-- ---- places

-- a place, and the fault that a walk finds there, 0 for none
pub record JudgedPlace : Type 0 where
  pub fault : ℕ
  pub table : ℕ
  pub entry : ℕ

abbrev pub judged : ℕ → ℕ → ℕ → JudgedPlace
judged n t e = record { fault = n; table = t; entry = e }

-- 'Lowest number wins at one place': a fault, or what comes behind it.
abbrev pub or : Bool → ℕ → ℕ → ℕ
or b n later = cond b n later

abbrev pub number : Table → ℕ
number t = row t + 1

-- the entries of a table in order, each judged
abbrev pub entry_places : (ℕ → ℕ) → Program → Table → List JudgedPlace
entry_places judge p t = map (λ e. judged (judge e) (number t) e) (numbers_from 1 (length (entries p t)))

-- 'Table 1 first'
abbrev pub all_tables : (Table → List JudgedPlace) → List JudgedPlace
all_tables f = f One ++ (f Two ++ f Three)

-- ---- the walks

-- 2 to 6: the program's own line, then each table's first line, its entries, and a 100th
abbrev pub table_ranges : Program → Table → List JudgedPlace
table_ranges p t =
    judged (or (fault5 p t) 5 0) (number t) 0
    ∷ (entry_places (λ e. or (fault2 p t e) 2 0) p t ++ (judged (or (fault6 p t) 6 0) (number t) 100 ∷ []))

unfoldable pub walk_ranges : Program → List JudgedPlace
walk_ranges p = judged (or (fault2header p) 2 0) 0 0 ∷ all_tables (table_ranges p)

-- '10-17 entry by entry'
unfoldable pub block_fault : Program → Table → ℕ → ℕ
block_fault p t e =
    or (fault10 p t e) 10
    (or (fault11 p t e) 11
    (or (fault12 p t e) 12 (or (fault13 p t e) 13 (or (fault14 p t e) 14 (or (fault15 p t e) 15 (or (fault16 p t e) 16 0))))))

abbrev pub table_blocks : Program → Table → List JudgedPlace
table_blocks p t =
    entry_places (block_fault p t) p t ++ (judged (or (fault17 p t) 17 0) (number t) (length (entries p t) + 1) ∷ [])

unfoldable pub walk_blocks : Program → List JudgedPlace
walk_blocks p = all_tables (table_blocks p)

-- 'then 18 and 20'
unfoldable pub reach_fault : Program → Table → ℕ → ℕ
reach_fault p t e = or (fault18 p t e) 18 (or (fault20 p t e) 20 0)

unfoldable pub walk_reach : Program → List JudgedPlace
walk_reach p = all_tables (λ t. entry_places (reach_fault p t) p t)

-- 'then 19, 21, 22 .. a walk each in that order'
unfoldable pub walk_chains : Program → List JudgedPlace
walk_chains p = entry_places (λ e. or (fault19 p e) 19 0) p Three

unfoldable pub walk_sums : Program → List JudgedPlace
walk_sums p = all_tables (λ t. entry_places (λ e. or (fault21 p t e) 21 0) p t)

unfoldable pub walk_counts : Program → List JudgedPlace
walk_counts p = judged (or (fault22 p One) 22 0) 1 0 ∷ (judged (or (fault22 p Two) 22 0) 2 0 ∷ [])

-- ---- the check

-- 'it reports the first faulty place and reads no further'
unfoldable pub first_of : List JudgedPlace → Finding
first_of [] = Finding.Clean
first_of (j ∷ r) = cond (eqb j.fault 0) (first_of r) (Finding.Fault j.fault j.table j.entry)

abbrev pub verdict : Finding → ℕ → ℕ → Verdict
verdict Finding.Clean n m = Verdict.Pass n m
verdict (Finding.Fault k t e) n m = Verdict.Fault k t e

-- 'With a pass the check gives the stated counts of Tables 1 and 2.'
unfoldable pub check : Program → Verdict
check p =
    verdict
    (first_of (walk_ranges p ++ (walk_blocks p ++ (walk_reach p ++ (walk_chains p ++ (walk_sums p ++ walk_counts p))))))
    (stated_count p One)
    (stated_count p Two)

-- ---- what it answers

-- document 01's five numbers
pub record CheckAnswer : Type 0 where
  pub number : ℕ
  pub table : ℕ
  pub entry : ℕ
  pub first : ℕ
  pub second : ℕ

-- 'The check answers number, table, entry (a pass is all 0)'; 'With a fault it answers counts of 0'
unfoldable pub answer_of : Verdict → CheckAnswer
answer_of (Verdict.Pass n m) = record { number = 0; table = 0; entry = 0; first = n; second = m }
answer_of (Verdict.Fault k t e) = record { number = k; table = t; entry = e; first = 0; second = 0 }
