-- What is left from here has the same word as what was there at the start.
use Rattle.std.proofs.Common.{◌≡◌, drop}
use Rattle.base_lines.specs.Line.{from_word}
use Rattle.base_lines.proofs.number.from_word.Given as goal

abbrev pub invariant-loop-i : goal.invariant-loop-i
invariant-loop-i l = from_word l.left (drop l.i l.s) ≡ from_word l.k l.s
