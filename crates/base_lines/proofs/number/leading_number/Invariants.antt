-- A digit is added only to a number below 2^32.
use Rattle.std.proofs.Common.{◌<◌, ◌^◌}
use Rattle.base_lines.proofs.number.leading_number.Given as goal

abbrev pub invariant-loop-b : goal.invariant-loop-b
invariant-loop-b l = l.n < 2 ^ 40
