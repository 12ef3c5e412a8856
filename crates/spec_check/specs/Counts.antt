-- Stated counts, and faults 21 and 22. Assumes nothing.
use Rattle.std.specs.Prelude.{ℕ, zero, suc, ◌+◌, ◌*◌, Bool, List, [], ◌∷◌, ltb}
use Rattle.base_program.specs.declared.Flow.{Flow}
use Rattle.base_program.specs.declared.Instruction.{Instruction}
use Rattle.base_program.specs.declared.Program.{Program}
use Rattle.base_program.specs.declared.Table.{Table}
use Rattle.base_program.specs.Flow.{flow}
use Rattle.base_program.specs.Reach.{sums}
use Rattle.base_program.specs.Entries.{entries, entry_at, first_sum}
use Rattle.spec_check.specs.Calls.{body}

-- ---- 21: 'Sums beyond M; first entry that doesn't fit'

abbrev pub fault21 : Program → Table → ℕ → Bool
fault21 p t e = ltb p.sums (first_sum p t e + sums (entry_at p t e))

-- ---- the stated count

abbrev pub top : List ℕ → ℕ
top [] = 0
top (c ∷ cs) = c

abbrev pub rest : List ℕ → List ℕ
rest [] = []
rest (c ∷ cs) = cs

-- an entry that counts n, in front of entries that count cs
abbrev pub added_on : ℕ → List ℕ → List ℕ
added_on n cs = (n + top cs) ∷ rest cs

-- a block of n passes: '1 + count × (body + 1)', the body and its End being counted first in cs
abbrev pub block : ℕ → List ℕ → List ℕ
block n cs = (1 + n * top cs + top (rest cs)) ∷ rest (rest cs)

-- '1 an entry; a call adds the count .. of its subroutine's entries after 85; a loop is 1 + count × (body + 1). Both halves of an If are added.'
unfoldable pub count_entry : (ℕ → ℕ) → Flow → List ℕ → List ℕ
count_entry f Flow.Next cs = added_on 1 cs
count_entry f Flow.Else cs = added_on 1 cs
count_entry f Flow.End cs = 1 ∷ cs
count_entry f Flow.Then cs = block 1 cs
count_entry f Flow.Stop cs = added_on 1 cs
count_entry f (Flow.Loop n) cs = block n cs
count_entry f (Flow.Subroutine k) cs = block 1 cs
count_entry f (Flow.Call k) cs = added_on (1 + f k) cs
count_entry f (Flow.Exit b) cs = added_on 1 cs

-- The counts of these entries, cut behind each End that closes a block open before them: up to the innermost one's End, from there to the
-- next one's, and so on. `f k` is what a call of k adds.
unfoldable pub counts : (ℕ → ℕ) → List Instruction → List ℕ
unfolding count_entry
counts f [] = []
counts f (i ∷ r) = count_entry f (flow i) (counts f r)

abbrev pub count : (ℕ → ℕ) → List Instruction → ℕ
count f l = top (counts f l)

-- what a call of subroutine k adds, where calls go at most n deep
unfoldable pub call_count : Program → ℕ → ℕ → ℕ
unfolding counts
call_count p zero k = 0
call_count p (suc n) k = count (call_count p n) (body p k)

-- chains of calls are at most 7 deep where 19 is not met
abbrev pub stated_count : Program → Table → ℕ
stated_count p t = count (call_count p 7) (entries p t)

-- ---- 22: 'Stated count over 60,000'

abbrev pub fault22 : Program → Table → Bool
fault22 p t = ltb 60000 (stated_count p t)
