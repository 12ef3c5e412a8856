-- The entries of a table as a list, and what goes by their order: slots and sums. Assumes nothing.
use Rattle.std.specs.Prelude.{ℕ, zero, suc, ◌+◌, ◌-◌, ◌*◌, min, List, [], ◌∷◌, map, length, get_or, take, drop, replicate}
use Rattle.base_program.specs.declared.Instruction.{Instruction}
use Rattle.base_program.specs.declared.Slot.{Slot}
use Rattle.base_program.specs.declared.Program.{Program}
use Rattle.base_program.specs.declared.Table.{Table}
use Rattle.base_program.specs.declared.Table.TheVariants.{One, Two, Three}
use Rattle.base_program.specs.Reach.{sums}

-- Table 1 is row 0, and so on.
abbrev pub row : Table → ℕ
row One = 0
row Two = 1
row Three = 2

-- the table of a row
abbrev pub table_at : ℕ → Table
table_at zero = One
table_at (suc zero) = Two
table_at (suc (suc n)) = Three

-- the slot of entry e, from 1: 99 slots a table
unfoldable pub slot : Table → ℕ → ℕ
slot t e = 99 * row t + e - 1

-- how many entries the record says a table has
abbrev pub claimed : Program → Table → ℕ
claimed p t = get_or p.lengths (row t) 0

-- 'A table has 0 to 99 entries': those of a table, in order.
unfoldable pub entries : Program → Table → List Instruction
entries p t = map (λ s. s.instruction) (take (min (claimed p t) 99) (drop (99 * row t) p.slots))

-- the entry e of a table, from 1
abbrev pub entry_at : Program → Table → ℕ → Instruction
entry_at p t e = get_or (entries p t) (e - 1) Instruction.End

-- the sums that these entries take
unfoldable pub all_sums : List Instruction → ℕ
all_sums [] = 0
all_sums (i ∷ r) = sums i + all_sums r

-- the sums that the tables before this one take
unfoldable pub sums_before : Program → Table → ℕ
sums_before p One = 0
sums_before p Two = all_sums (entries p One)
sums_before p Three = all_sums (entries p One) + all_sums (entries p Two)

-- 'handed out in entry order, Table 1 first': the first sum of entry e, from 0
unfoldable pub first_sum : Program → Table → ℕ → ℕ
first_sum p t e = sums_before p t + all_sums (take (e - 1) (entries p t))

-- 'an empty record, its I, M and V 0'
unfoldable pub empty : Program
empty =
    record {
      locations = 0;
      sums = 0;
      intervals = 0 ∷ 0 ∷ [];
      lengths = 0 ∷ 0 ∷ 0 ∷ [];
      slots = replicate 297 (record { instruction = Instruction.End });
    }
