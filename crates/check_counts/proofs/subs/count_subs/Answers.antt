-- Round by round: what is counted grows until every subroutine is.
use Rattle.std.proofs.Common.{refl, ◌∙◌, arith, inl}
use Rattle.check_counts.specs.Subs.{none_counted}
use Rattle.check_counts.specs.Ahead.{first_round, rule_of}
use Rattle.check_counts.proofs.subs.count_subs.Goals as goal

pub loop-h-init : goal.loop-h-init
loop-h-init c = record {
  sizes = record {
    places = c.requires.0.places;
    few = c.requires.0.few;
    starts = c.requires.0.starts;
    chains = c.requires.0.chains;
    room = c.count_round.auto.factors ∙ c.requires.0.room;
  };
  stopped = c.count_round.ensures.1;
  counted = λ p r.
      c.count_round.ensures.0 p _ _ r (rule_of p _ _ _ _ r _ _ (omega arith) (first_round _ _ _ _ c.first_high-high.ensures)) (none_counted p _ _ _ _ r c.args.adds.now c.requires.2.1);
}

pub loop-h-preserved : goal.loop-h-preserved
loop-h-preserved c = record {
  sizes = record {
    places = c.loop-h.invariant.sizes.places;
    few = c.loop-h.invariant.sizes.few;
    starts = c.loop-h.invariant.sizes.starts;
    chains = c.loop-h.invariant.sizes.chains;
    room = c.count_round-in-loop-h.auto.factors ∙ c.loop-h.invariant.sizes.room;
  };
  stopped = c.count_round-in-loop-h.ensures.1;
  counted = λ p r. c.count_round-in-loop-h.ensures.0 p _ _ r (rule_of p _ _ _ _ r _ _ c.loop-h-test.true (inl refl)) (c.loop-h.invariant.counted p r);
}
