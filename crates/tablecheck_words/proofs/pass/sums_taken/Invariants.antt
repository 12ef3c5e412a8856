-- Each of the 297 entries adds less than 256.
use Rattle.std.proofs.Common.{◌≤◌, ◌*◌}
use Rattle.tablecheck_words.proofs.pass.sums_taken.Given as goal

abbrev pub invariant-loop-k : goal.invariant-loop-k
invariant-loop-k l = l.total ≤ l.k * 256
