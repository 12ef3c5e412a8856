-- The numbers of subroutines, of relations and of the codes of 77. Assumes nothing.
use Rattle.std.specs.Prelude.{ℕ, Bool, cond, ◌&&◌, ◌||◌, leb, eqb}
use Rattle.base_program.specs.declared.Relation.{Relation}
use Rattle.base_program.specs.declared.Relation.TheVariants.{Equal, NotEqual, AtLeast, Below}
use Rattle.base_program.specs.declared.TimeCode.{TimeCode}
use Rattle.base_program.specs.Ranges.{within, low_labels, high_labels}

abbrev pub between : ℕ → ℕ → ℕ → Bool
between least most n = leb least n && leb n most

-- '85 (subroutine 1-9 or 79-99)'
abbrev pub is_label : ℕ → Bool
is_label k = within low_labels k || within high_labels k

-- 'Relations: 1 =, 2 ≠, 3 ≥, 4 <.'
unfoldable pub relation_of : ℕ → Relation
relation_of n = cond (eqb n 1) Equal (cond (eqb n 2) NotEqual (cond (eqb n 3) AtLeast Below))

unfoldable pub relation_number : Relation → ℕ
relation_number Equal = 1
relation_number NotEqual = 2
relation_number AtLeast = 3
relation_number Below = 4

-- '77: code 10 .., 100 .. or 110'
unfoldable pub is_code : ℕ → Bool
is_code n = eqb n 10 || (eqb n 100 || eqb n 110)

unfoldable pub code_of : ℕ → TimeCode
code_of n = cond (eqb n 10) TimeCode.HoursMinutes (cond (eqb n 100) TimeCode.Day TimeCode.DayHoursMinutes)

unfoldable pub code_number : TimeCode → ℕ
code_number TimeCode.HoursMinutes = 10
code_number TimeCode.Day = 100
code_number TimeCode.DayHoursMinutes = 110
