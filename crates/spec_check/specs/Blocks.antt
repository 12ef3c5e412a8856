-- Faults 10 to 17: the blocks that are open before an entry, and what may stand there. Assumes nothing.
use Rattle.std.specs.Prelude.{ℕ, ◌+◌, ◌-◌, Bool, true, false, not, ◌&&◌, ◌||◌, List, [], ◌∷◌, take, leb, eqb}
use Rattle.std.proofs.Math.Option.{Option, none, some}
use Rattle.base_program.specs.declared.Flow.{Flow}
use Rattle.base_program.specs.declared.Instruction.{Instruction}
use Rattle.base_program.specs.declared.Program.{Program}
use Rattle.base_program.specs.declared.Table.{Table}
use Rattle.base_program.specs.declared.Table.TheVariants.{One, Two, Three}
use Rattle.base_program.specs.Flow.{flow}
use Rattle.base_program.specs.Entries.{entries, entry_at}

-- ---- the blocks open, innermost first

-- a Then Do before its Else, or behind it; a loop with its count; a subroutine
pub data Block : Type 0 where
  then_do else_do subroutine : Block
  loop : ℕ → Block

abbrev pub halved : List Block → List Block
halved [] = []
halved (then_do ∷ bs) = else_do ∷ bs
halved (else_do ∷ bs) = else_do ∷ bs
halved (subroutine ∷ bs) = subroutine ∷ bs
halved (loop n ∷ bs) = loop n ∷ bs

abbrev pub outer : List Block → List Block
outer [] = []
outer (b ∷ bs) = bs

-- 'Command 30, 87 and 85 open a block that 95 closes.'
unfoldable pub through : Flow → List Block → List Block
through Flow.Next bs = bs
through Flow.Else bs = halved bs
through Flow.End bs = outer bs
through Flow.Then bs = then_do ∷ bs
through Flow.Stop bs = bs
through (Flow.Loop n) bs = loop n ∷ bs
through (Flow.Subroutine k) bs = subroutine ∷ bs
through (Flow.Call k) bs = bs
through (Flow.Exit b) bs = bs

-- the blocks open behind these entries, with bs open before them
unfoldable pub blocks_after : List Block → List Instruction → List Block
unfolding through
blocks_after bs [] = bs
blocks_after bs (i ∷ r) = blocks_after (through (flow i) bs) r

-- the entries of a table before entry e, and the blocks that are open there
abbrev pub before : Program → Table → ℕ → List Instruction
before p t e = take (e - 1) (entries p t)

abbrev pub blocks_at : Program → Table → ℕ → List Block
blocks_at p t e = blocks_after [] (before p t e)

abbrev pub flow_at : Program → Table → ℕ → Flow
flow_at p t e = flow (entry_at p t e)

-- ---- what is asked of blocks and kinds

abbrev pub is_none : List Block → Bool
is_none [] = true
is_none (b ∷ bs) = false

abbrev pub inside_then : List Block → Bool
inside_then [] = false
inside_then (then_do ∷ bs) = true
inside_then (else_do ∷ bs) = false
inside_then (subroutine ∷ bs) = false
inside_then (loop n ∷ bs) = false

unfoldable pub has_loop : List Block → Bool
has_loop [] = false
has_loop (then_do ∷ bs) = has_loop bs
has_loop (else_do ∷ bs) = has_loop bs
has_loop (subroutine ∷ bs) = has_loop bs
has_loop (loop n ∷ bs) = true

-- '85 not counted'
unfoldable pub count_blocks : List Block → ℕ
count_blocks [] = 0
count_blocks (then_do ∷ bs) = 1 + count_blocks bs
count_blocks (else_do ∷ bs) = 1 + count_blocks bs
count_blocks (subroutine ∷ bs) = count_blocks bs
count_blocks (loop n ∷ bs) = 1 + count_blocks bs

-- The instruction or command that has this kind: 94, 95, 85, 87, 30, 31 (for 32 too); 0 for the others.
unfoldable pub kind : Flow → ℕ
kind Flow.Next = 0
kind Flow.Else = 94
kind Flow.End = 95
kind Flow.Then = 30
kind Flow.Stop = 0
kind (Flow.Loop n) = 87
kind (Flow.Subroutine k) = 85
kind (Flow.Call k) = 0
kind (Flow.Exit b) = 31

abbrev pub is : ℕ → Flow → Bool
is n x = eqb (kind x) n

-- the subroutine number of an 85
unfoldable pub label : Flow → Option ℕ
label Flow.Next = none
label Flow.Else = none
label Flow.End = none
label Flow.Then = none
label Flow.Stop = none
label (Flow.Loop n) = none
label (Flow.Subroutine k) = some k
label (Flow.Call k) = none
label (Flow.Exit b) = none

abbrev pub same : Option ℕ → Option ℕ → Bool
same none y = false
same (some k) none = false
same (some k) (some j) = eqb k j

-- an 85 with this number stands among these entries
unfoldable pub label_before : Option ℕ → List Instruction → Bool
unfolding label
label_before k [] = false
label_before k (i ∷ r) = same k (label (flow i)) || label_before k r

abbrev pub is_three : Table → Bool
is_three One = false
is_three Two = false
is_three Three = true

-- ---- the faults

-- 10: '85 in Table 1 or 2, or before the last subroutine's End'
abbrev pub fault10 : Program → Table → ℕ → Bool
fault10 p t e = is 85 (flow_at p t e) && (not (is_three t) || not (is_none (blocks_at p t e)))

-- 11: 'Subroutine number again'
abbrev pub fault11 : Program → Table → ℕ → Bool
fault11 p t e = label_before (label (flow_at p t e)) (before p t e)

-- 12: 'Entry of Table 3 outside a subroutine, but 85 and 95'
abbrev pub fault12 : Program → Table → ℕ → Bool
fault12 p t e = not (is 85 (flow_at p t e) || is 95 (flow_at p t e)) && (is_three t && is_none (blocks_at p t e))

-- 13: 'End with nothing open'
abbrev pub fault13 : Program → Table → ℕ → Bool
fault13 p t e = is 95 (flow_at p t e) && is_none (blocks_at p t e)

-- 14: 'Else whose innermost open block isn't a Then Do, or a second Else'
abbrev pub fault14 : Program → Table → ℕ → Bool
fault14 p t e = is 94 (flow_at p t e) && not (inside_then (blocks_at p t e))

-- 15: 'Command 31 or 32 with no loop open in this table or subroutine'
abbrev pub fault15 : Program → Table → ℕ → Bool
fault15 p t e = is 31 (flow_at p t e) && not (has_loop (blocks_at p t e))

-- 16: 'Block 12 open; 85 not counted'
abbrev pub fault16 : Program → Table → ℕ → Bool
fault16 p t e = (is 30 (flow_at p t e) || is 87 (flow_at p t e)) && leb 11 (count_blocks (blocks_at p t e))

-- 17: 'Missing End, at one past the last entry'
abbrev pub fault17 : Program → Table → Bool
fault17 p t = not (is_none (blocks_after [] (entries p t)))
