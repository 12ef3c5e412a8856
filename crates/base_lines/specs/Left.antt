-- What the lines still give. Assumes nothing.
use Rattle.std.specs.Prelude.{ℕ, List}
use Rattle.base_lines.specs.declared.lines.Lines.{Lines}
use Rattle.base_lines.specs.Line.{lines}

abbrev pub lines_left : Lines → List (List ℕ)
lines_left l = lines l.0.now
