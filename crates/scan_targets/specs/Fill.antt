-- The rule by which the places are filled from a table's end: what is known in front of an entry, from what is known behind it. Assumes nothing.
use Rattle.std.specs.Prelude.{ℕ, cond, eqb}
use Rattle.base_program.specs.declared.Flow.{Flow}

-- q is the place behind the entry, end the place behind the End of the block open there, outer the same of the place behind that End
abbrev pub end_way : Flow → ℕ → ℕ → ℕ → ℕ
end_way Flow.Next q end outer = end
end_way Flow.Else q end outer = end
end_way Flow.End q end outer = q
end_way Flow.Then q end outer = outer
end_way Flow.Stop q end outer = end
end_way (Flow.Loop n) q end outer = outer
end_way (Flow.Subroutine k) q end outer = outer
end_way (Flow.Call k) q end outer = end
end_way (Flow.Exit b) q end outer = end

abbrev pub else_way : Flow → ℕ → ℕ → ℕ → ℕ → ℕ
else_way Flow.Next q end other outer = other
else_way Flow.Else q end other outer = cond (eqb end 0) 0 q
else_way Flow.End q end other outer = 0
else_way Flow.Then q end other outer = outer
else_way Flow.Stop q end other outer = other
else_way (Flow.Loop n) q end other outer = outer
else_way (Flow.Subroutine k) q end other outer = outer
else_way (Flow.Call k) q end other outer = other
else_way (Flow.Exit b) q end other outer = other
