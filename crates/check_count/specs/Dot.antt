-- A count taken from the front: what is counted so far, and each open block's factor times what is left of it. Assumes nothing.
use Rattle.std.specs.Prelude.{ℕ, zero, suc, ◌+◌, ◌*◌, List, [], ◌∷◌, get_or}
use Rattle.base_program.specs.declared.Flow.{Flow}
use Rattle.spec_check.specs.Counts.{rest}
use Rattle.check_count.specs.Saturate.{sat}

-- the factors of the open blocks, innermost first, against the counts up to their Ends
unfoldable pub dot : List ℕ → List ℕ → ℕ
dot [] cs = 0
dot (m ∷ ms) [] = 0
dot (m ∷ ms) (c ∷ cs) = m * c + dot ms cs

-- ---- the factors as numbers in an array, innermost last

unfoldable pub factors : List ℕ → ℕ → List ℕ
factors l zero = []
factors l (suc d) = get_or l d 0 ∷ factors l d

-- the factors behind an entry of this kind, m being the innermost before it
abbrev pub passed : Flow → ℕ → List ℕ → List ℕ
passed Flow.Next m ms = ms
passed Flow.Else m ms = ms
passed Flow.End m ms = rest ms
passed Flow.Then m ms = sat m ∷ ms
passed Flow.Stop m ms = ms
passed (Flow.Loop n) m ms = sat (m * n) ∷ ms
passed (Flow.Subroutine k) m ms = sat m ∷ ms
passed (Flow.Call k) m ms = ms
passed (Flow.Exit b) m ms = ms

-- what an entry of this kind counts by itself
abbrev pub weight : (ℕ → ℕ) → Flow → ℕ
weight f Flow.Next = 1
weight f Flow.Else = 1
weight f Flow.End = 1
weight f Flow.Then = 1
weight f Flow.Stop = 1
weight f (Flow.Loop n) = 1
weight f (Flow.Subroutine k) = 1
weight f (Flow.Call k) = 1 + f k
weight f (Flow.Exit b) = 1
