-- Each turn goes to the next place, and is then one step of `Rounds`, by the kind that the entry's code tells.
use Rattle.std.proofs.Common.{◌≡◌, length, get_or}
use Rattle.check_chains.proofs.Rounds.{AtRound}
use Rattle.check_chains.proofs.raise_heights.Given as goal

abbrev pub invariant-loop-e : goal.invariant-loop-e
invariant-loop-e l = record {
  long : length l.heights ≡ 256;
  at : AtRound l.codes (get_or l.calls.places 0 0) l.initial.heights l.heights (get_or l.calls.places l.e-index 0) l.most l.raised;
}
