-- What an entry's line says. Assumes nothing.
use Rattle.std.specs.Prelude.{ℕ, ◌-◌, cond, ◌&&◌, List, [], ◌∷◌, length, get_or, take, drop, leb, eqb, Result, Ok, Err}
use Rattle.base_program.specs.declared.Instruction.{Instruction}
use Rattle.text_items.specs.Split.{items_of}
use Rattle.text_parameters.specs.Entry.{entry_in}

-- ---- 'An entry is `(number parameters)`.'

unfoldable pub bracketed : List (List ℕ) → Result Instruction ℕ
bracketed [] = Err 1
bracketed (w ∷ ws) = entry_in (w ∷ ws)

-- `(`, items, `)`
unfoldable pub entry_of : List ℕ → Result Instruction ℕ
entry_of l =
    cond (leb 2 (length l) && (eqb (get_or l 0 0) 40 && eqb (get_or l (length l - 1) 0) 41))
    (bracketed (items_of (take (length l - 1 - 1) (drop 1 l))))
    (Err 1)

-- 'Entry 100': 6 where it is sound
unfoldable pub limited : ℕ → Result Instruction ℕ → Result Instruction ℕ
limited n (Err k) = Err k
limited n (Ok x) = cond (eqb n 100) (Err 6) (Ok x)
