-- Where blocks end: for each open block the place behind its Else and the place behind its End. Assumes nothing.
use Rattle.std.specs.Prelude.{ℕ, suc, cond, List, [], ◌∷◌}
use Rattle.std.proofs.Math.Option.{Option, none, some}
use Rattle.base_program.specs.declared.Flow.{Flow}
use Rattle.base_program.specs.declared.Instruction.{Instruction}
use Rattle.base_program.specs.Flow.{flow}
use Rattle.spec_check.specs.Blocks.{label, same}

-- A place is how many entries of its table stand before it: the place behind entry e is e.
pub record Way : Type 0 where
  pub behind_else : Option ℕ
  pub behind_end : ℕ

abbrev pub inner : List Way → List Way
inner [] = []
inner (w ∷ ws) = ws

abbrev pub divided : ℕ → List Way → List Way
divided e [] = []
divided e (w ∷ ws) = record { behind_else = some e; behind_end = w.behind_end } ∷ ws

-- An entry in front of place e, from where the ways are ws: an End closes the innermost block open before it, and a block that is opened
-- takes the first End left.
unfoldable pub way_of : Flow → ℕ → List Way → List Way
way_of Flow.Next e ws = ws
way_of Flow.Else e ws = divided e ws
way_of Flow.End e ws = record { behind_else = none; behind_end = e } ∷ ws
way_of Flow.Then e ws = inner ws
way_of Flow.Stop e ws = ws
way_of (Flow.Loop n) e ws = inner ws
way_of (Flow.Subroutine k) e ws = inner ws
way_of (Flow.Call k) e ws = ws
way_of (Flow.Exit b) e ws = ws

-- 'A block's End is the first after it that belongs to no block inside it; its Else is such a one before that End, if there is one': of the
-- blocks that are open before these entries, innermost first, where e entries stand before them.
unfoldable pub ways : ℕ → List Instruction → List Way
unfolding way_of
ways e [] = []
ways e (i ∷ r) = way_of (flow i) (suc e) (ways (suc e) r)

-- 'a subroutine call goes past its 85': the place behind the 85 with number k
unfoldable pub behind_label : ℕ → ℕ → List Instruction → Option ℕ
unfolding label
behind_label k e [] = none
behind_label k e (i ∷ r) = cond (same (some k) (label (flow i))) (some (suc e)) (behind_label k (suc e) r)
