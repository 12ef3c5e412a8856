-- The line of a place in a table is where `place_of` finds it.
use native.Mathlib.Omega.{arith}
use borrow.Author.Rules.{rules}
use Rattle.tablecheck_place.proofs.line_of_place.Goals as goal

pub returns-then-table-eq0 : goal.returns-then-table-eq0
returns-then-table-eq0 c =
    (c.outer_line.ensures, λ h. absurd (omega (arith, h, c.if-table-eq0.true)))

pub returns : goal.returns
returns c =
    (c.place_of.ensures.within, λ h. c.place_of.ensures.is)
