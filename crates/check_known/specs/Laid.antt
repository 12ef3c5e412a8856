-- The check of a record that lies in lent buffers: of its fields as `check`, and 3 where a slot's number is none of document 01's. Assumes nothing.
use Rattle.std.specs.Prelude.{ℕ, ◌+◌, ◌-◌, ◌*◌, Bool, not, ◌||◌, List, [], ◌∷◌, ◌++◌, get_or, eqb, Float}
use Rattle.base_program.specs.declared.Program.{Program}
use Rattle.base_program.specs.declared.Table.{Table}
use Rattle.base_program.specs.declared.Table.TheVariants.{One, Two}
use Rattle.base_program.specs.Codes.{between}
use Rattle.spec_check.specs.declared.Verdict.{Verdict}
use Rattle.spec_check.specs.Ranges.{fault2, fault2header, fault5, fault6}
use Rattle.spec_check.specs.Counts.{stated_count}
use Rattle.spec_check.specs.Check.{JudgedPlace, judged, or, number, entry_places, all_tables, walk_blocks, walk_reach, walk_chains, walk_sums, walk_counts, first_of, verdict}
use Rattle.record_layout.specs.Layout.{record_of}

-- 1, 2, 30 to 38, 70 to 74, 77, 85 to 89, 91, 92, 94 and 95: 'An entry is one of these and nothing else.'
unfoldable pub is_instruction : ℕ → Bool
is_instruction n =
    between 1 2 n
    || (between 30 38 n || (between 70 74 n || (eqb n 77 || (between 85 89 n || (between 91 92 n || between 94 95 n)))))

-- the number of the instruction in the slot of entry e of table t
abbrev pub number_at : List ℕ → ℕ → ℕ → ℕ
number_at ns t e = get_or ns (9 + 8 * (99 * (t - 1) + (e - 1))) 0

-- 3: 'No such instruction'
abbrev pub fault3 : List ℕ → Table → ℕ → Bool
fault3 ns t e = not (is_instruction (number_at ns (number t) e))

-- 2 to 6; 'a parameter's kind and range (2) are judged only where 3 .. [isn't] met'
abbrev pub table_laid : List ℕ → Program → Table → List JudgedPlace
table_laid ns p t =
    judged (or (fault5 p t) 5 0) (number t) 0
    ∷ (entry_places (λ e. or (fault3 ns t e) 3 (or (fault2 p t e) 2 0)) p t ++ (judged (or (fault6 p t) 6 0) (number t) 100 ∷ []))

unfoldable pub walk_laid : List ℕ → Program → List JudgedPlace
walk_laid ns p = judged (or (fault2header p) 2 0) 0 0 ∷ all_tables (table_laid ns p)

-- 'A record handed over is judged on its fields by 2 to 22'
abbrev pub checked_by : List ℕ → Program → Verdict
checked_by ns p =
    verdict
    (first_of (walk_laid ns p ++ (walk_blocks p ++ (walk_reach p ++ (walk_chains p ++ (walk_sums p ++ walk_counts p))))))
    (stated_count p One)
    (stated_count p Two)

unfoldable pub check_laid : List ℕ → List Float → Verdict
unfolding walk_laid
check_laid ns vs = checked_by ns (record_of ns vs)
