-- What the program's first line says, a table's first line, and `)`. Assumes nothing.
use Rattle.std.specs.Prelude.{ℕ, ◌+◌, Bool, cond, ◌&&◌, List, [], ◌∷◌, length, get_or, drop, leb, ltb, eqb, Option, Some, None, Result, Ok, Err}
use Rattle.text_number.specs.Keyed.{whole_of}
use Rattle.text_opening.specs.declared.Sizes.{Sizes}
use Rattle.text_items.specs.Split.{items_of, is_same}
use Rattle.base_program.specs.Ranges.{location_counts, sum_counts, is_interval_of}
use Rattle.text_parameters.specs.Parameter.{item, number_in}

-- ---- the lines that open the program and its tables

-- the items behind a `(`; none where the line does not start with it
unfoldable pub opened : List ℕ → List (List ℕ)
opened l = cond (leb 1 (length l) && eqb (get_or l 0 0) 40) (items_of (drop 1 l)) []

-- 'I (1 to 2,000) .. M (0 to 2,000)': 2 where one of them is malformed or out of its range
unfoldable pub sized : Option ℕ → Option ℕ → Result Sizes ℕ
sized (Some i) (Some m) = Ok (record { locations = i; sums = m })
sized (Some i) None = Err 2
sized None m = Err 2

-- `program`
abbrev pub the_program : List ℕ
the_program = 112 ∷ 114 ∷ 111 ∷ 103 ∷ 114 ∷ 97 ∷ 109 ∷ []

-- `(program I M`
unfoldable pub program_in : List (List ℕ) → Result Sizes ℕ
program_in ws =
    cond (eqb (length ws) 3 && is_same (item ws 0) the_program)
    (sized (number_in location_counts ws 1) (number_in sum_counts ws 2))
    (Err 1)

unfoldable pub program_of : List ℕ → Result Sizes ℕ
program_of l = program_in (opened l)

-- '1 to 7 for Table 1 only'
unfoldable pub is_keyed_interval : ℕ → ℕ → Bool
is_keyed_interval t v = is_interval_of (eqb t 1) v

-- 'V's is 5's': a malformed V is 2, one out of range 5
unfoldable pub interval_keyed : ℕ → Option ℕ → Result ℕ ℕ
interval_keyed t None = Err 2
interval_keyed t (Some v) = cond (is_keyed_interval t v) (Ok v) (Err 5)

-- `table`
abbrev pub the_table : List ℕ
the_table = 116 ∷ 97 ∷ 98 ∷ 108 ∷ 101 ∷ []

-- `table` and the table's own number, 'the one digit shown'
unfoldable pub is_table_line : ℕ → List (List ℕ) → Bool
is_table_line t ws = is_same (item ws 0) the_table && is_same (item ws 1) ((48 + t) ∷ [])

-- `(table 1 V`, `(table 2 V` and `(table 3`
unfoldable pub table_items : ℕ → ℕ
table_items t = cond (ltb t 3) 3 2

unfoldable pub table_in : ℕ → List (List ℕ) → Result ℕ ℕ
table_in t ws =
    cond (eqb (length ws) (table_items t) && is_table_line t ws)
    (cond (ltb t 3) (interval_keyed t (whole_of (item ws 2))) (Ok 0))
    (Err 1)

unfoldable pub table_line : ℕ → List ℕ → Result ℕ ℕ
table_line t l = table_in t (opened l)

-- ---- `)`

unfoldable pub closes : List ℕ → Bool
closes l = is_same l (41 ∷ [])
