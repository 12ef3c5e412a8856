-- Each turn is one step of `Rounds`.
use Rattle.std.proofs.Common.{◌≡◌, length, get_or}
use Rattle.check_chains.proofs.Rounds.{AtFill}
use Rattle.check_chains.proofs.fill_heights.Given as goal

abbrev pub invariant-loop-round : goal.invariant-loop-round
invariant-loop-round l = record {
  long : length l.heights ≡ 256;
  at : AtFill l.codes (get_or l.calls.places 0 0) l._round l.heights;
}
