-- Each turn is one step of `Rounds`.
use Rattle.std.proofs.Common.{arith, ◌∙◌}
use Rattle.check_chains.proofs.Rounds.{fill_begins, fill_on, fill_stops, fill_ends}
use Rattle.check_chains.proofs.fill_heights.Goals as goal

pub loop-round-init : goal.loop-round-init
loop-round-init c = record { long = c.requires.2; at = fill_begins _ _ _ c.requires.3 }

pub returns-then-not-raise_heights : goal.returns-then-not-raise_heights
returns-then-not-raise_heights c = fill_stops _ _ _ _ _ _ c.loop-round.invariant.at (omega arith) c.raise_heights.ensures c.if-not-raise_heights.true

pub loop-round-preserved : goal.loop-round-preserved
loop-round-preserved c = record {
  long = c.raise_heights.auto.heights ∙ c.loop-round.invariant.long;
  at = fill_on _ _ _ _ _ _ c.loop-round.invariant.at (omega arith) c.raise_heights.ensures;
}

pub returns : goal.returns
returns c = fill_ends _ _ _ _ (omega arith) c.loop-round.invariant.at
