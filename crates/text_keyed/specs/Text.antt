-- What a keyed text says: the record, or its first fault. Assumes nothing.
use Rattle.std.specs.Prelude.{ℕ, ◌+◌, ◌-◌, cond, not, ◌&&◌, List, [], ◌∷◌, ◌++◌, map, length, replicate, ltb, Result, Ok, Err}
use Rattle.base_program.specs.declared.Finding.{Finding}
use Rattle.base_program.specs.declared.Instruction.{Instruction}
use Rattle.base_program.specs.declared.Program.{Program}
use Rattle.base_program.specs.declared.Slot.{Slot}
use Rattle.base_program.specs.Entries.{empty}
use Rattle.text_keyed.specs.declared.Keyed.{Keyed}
use Rattle.text_opening.specs.declared.Sizes.{Sizes}
use Rattle.text_items.specs.Split.{split, is_some}
use Rattle.text_opening.specs.Opening.{program_of, table_line, closes}
use Rattle.text_lines.specs.Line.{entry_of, limited}

-- ---- answers

-- 'With a fault it answers .. an empty record, its I, M and V 0.'
unfoldable pub bad : ℕ → ℕ → ℕ → Keyed
bad number table entry = record { finding = Finding.Fault number table entry; program = empty }

unfoldable pub clean : Program → Keyed
clean p = record { finding = Finding.Clean; program = p }

-- ---- 'one form a line, .. each line ended by byte 10'

abbrev pub all_but_last : List (List ℕ) → List (List ℕ)
all_but_last [] = []
all_but_last (w ∷ []) = []
all_but_last (w ∷ v ∷ ws) = w ∷ all_but_last (v ∷ ws)

abbrev pub last_of : List (List ℕ) → List ℕ
last_of [] = []
last_of (w ∷ []) = w
last_of (w ∷ v ∷ ws) = last_of (v ∷ ws)

-- the lines: each piece of the text but the last ends with byte 10
unfoldable pub lines_of : List ℕ → List (List ℕ)
lines_of s = all_but_last (split 10 s)

-- the bytes behind the last line
unfoldable pub bytes_behind : List ℕ → List ℕ
bytes_behind s = last_of (split 10 s)

-- what lines say, with the lines behind them; or their first fault, with its table and entry
pub data Said (A : Type 0) : Type 0 where
  faulty : ℕ → ℕ → ℕ → Said A
  says : A → List (List ℕ) → Said A

-- ---- '`(table 1 V`, entries, `)`'. Where a line is due and none is left, 1 at its place.

-- an entry and those behind it
abbrev pub entered : ℕ → ℕ → Result Instruction ℕ → Said (List Instruction) → Said (List Instruction)
entered t n (Err k) es = faulty k t n
entered t n (Ok x) (faulty k u e) = faulty k u e
entered t n (Ok x) (says es left) = says (x ∷ es) left

-- the entries of table t from entry n on, up to the line `)`
unfoldable pub entries_from : ℕ → ℕ → List (List ℕ) → Said (List Instruction)
entries_from t n [] = faulty 1 t n
entries_from t n (l ∷ r) = cond (closes l) (says [] r) (entered t n (limited n (entry_of l)) (entries_from t (n + 1) r))

-- V, which is 0 of Table 3, and the entries
pub record KeyedTable : Type 0 where
  pub interval : ℕ
  pub entries : List Instruction

-- a table's V and its entries; 'a table's first line is entry 0'
abbrev pub headed : ℕ → Result ℕ ℕ → Said (List Instruction) → Said KeyedTable
headed t (Err k) es = faulty k t 0
headed t (Ok v) (faulty k u e) = faulty k u e
headed t (Ok v) (says es left) = says (record { interval = v; entries = es }) left

-- table t, from its first line on
unfoldable pub table_read : ℕ → List (List ℕ) → Said KeyedTable
table_read t [] = faulty 1 t 0
table_read t (l ∷ r) = headed t (table_line t l) (entries_from t 1 r)

-- ---- 'the record that holds its I, M, both V and every entry in its table and place'

abbrev pub slot_with : Instruction → Slot
slot_with x = record { instruction = x }

-- the 99 slots of a table: its entries, and End in those that are not in use
unfoldable pub slots_of : List Instruction → List Slot
slots_of es = map slot_with es ++ replicate (99 - length es) (slot_with Instruction.End)

unfoldable pub program_with : ℕ → ℕ → KeyedTable → KeyedTable → KeyedTable → Program
program_with i m one two three =
    record {
      locations = i;
      sums = m;
      intervals = one.interval ∷ two.interval ∷ [];
      lengths = length one.entries ∷ length two.entries ∷ length three.entries ∷ [];
      slots = slots_of one.entries ++ (slots_of two.entries ++ slots_of three.entries);
    }

-- ---- the text

-- the last `)`, with no line and no byte behind it
unfoldable pub ended : Program → List (List ℕ) → List ℕ → Keyed
ended p [] b = bad 1 0 0
ended p (l ∷ []) b = cond (closes l && not (is_some b)) (clean p) (bad 1 0 0)
ended p (l ∷ q ∷ r) b = bad 1 0 0

-- 'it reports the first faulty place and reads no further'
abbrev pub and_then : {A : Type 0} → Said A → (A → List (List ℕ) → Keyed) → Keyed
and_then (faulty k t n) f = bad k t n
and_then (says x left) f = f x left

-- Tables 1, 2 and 3, and the last `)`
unfoldable pub tables_read : ℕ → ℕ → List (List ℕ) → List ℕ → Keyed
tables_read i m ls b =
    and_then (table_read 1 ls) (λ one r.
    and_then (table_read 2 r) (λ two q.
    and_then (table_read 3 q) (λ three z.
    ended (program_with i m one two three) z b)))

-- `(program I M`, and the tables
abbrev pub sized_by : Result Sizes ℕ → (ℕ → ℕ → Keyed) → Keyed
sized_by (Err k) f = bad k 0 0
sized_by (Ok z) f = f z.locations z.sums

unfoldable pub program_read : List (List ℕ) → List ℕ → Keyed
program_read [] b = bad 1 0 0
program_read (l ∷ r) b = sized_by (program_of l) (λ i m. tables_read i m r b)

-- 'A text over 16,384 bytes is 1 at 0, 0 before all else.'
unfoldable pub text_of : List ℕ → Keyed
text_of s = cond (ltb 16384 (length s)) (bad 1 0 0) (program_read (lines_of s) (bytes_behind s))
