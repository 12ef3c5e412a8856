-- The items found so far are the first ones, and what is left is cut from the next position on.
use Rattle.std.proofs.Common.{◌-◌, ◌+◌, length}
use Rattle.text_items.proofs.Going.{Going}
use Rattle.text_items.proofs.Items.of.Given as goal

abbrev pub invariant-loop-at : goal.invariant-loop-at
invariant-loop-at l =
    Going l.line l.starts l.count l.at

abbrev pub decreases-loop-at : goal.decreases-loop-at
decreases-loop-at l =
    length l.line + 1 - l.at
