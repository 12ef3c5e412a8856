-- The bytes passed and the plain ones that are next are the plain ones from the start.
use Rattle.std.proofs.Common.{◌≡◌, ◌+◌, drop}
use Rattle.text_items.specs.Cut.{plain_first}
use Rattle.text_items.proofs.word_end.Given as goal

abbrev pub invariant-loop-i : goal.invariant-loop-i
invariant-loop-i l =
    l.i + plain_first (drop l.i l.s) ≡ l.at + plain_first (drop l.at l.s)
