-- Each turn goes to the next place, and counts or passes over what stands there.
use Rattle.std.proofs.Common.{◌≡◌, ◌∙◌, ◌+◌, ◌<◌, arith}
use Rattle.check_subroutines.specs.Listed.{below, listed_at}
use Rattle.check_counts.specs.Subs.{count_begins, count_over}
use Rattle.check_counts.specs.Ahead.{count_next, count_last}
use Rattle.check_counts.proofs.subs.count_round.Goals as goal

pub loop-e-init : goal.loop-e-init
loop-e-init c = record { sizes = c.requires.0; stopped = c.requires.1.1; at = count_begins _ _ _ _ _ _ _ }

pub count_sub-requires : goal.count_sub-requires
count_sub-requires c =
    let i : c.loop-e.e-index < c.args.calls.now.count = omega arith in
    ((c.loop-e.invariant.sizes, c.loop-e.invariant.stopped), rw (listed_at c.args.calls.now.places c.args.calls.now.count c.loop-e.e-index i) (below _ _ _ c.requires.1.0 (c.loop-e.e-index + 1) (omega arith) (omega arith)))

pub loop-e-preserved : goal.loop-e-preserved
loop-e-preserved c =
    let i : c.loop-e.e-index < c.args.calls.now.count = omega arith in
    record {
      sizes = record {
        places = c.loop-e.invariant.sizes.places;
        few = c.loop-e.invariant.sizes.few;
        starts = c.loop-e.invariant.sizes.starts;
        chains = c.loop-e.invariant.sizes.chains;
        room = c.count_sub.auto.factors ∙ c.loop-e.invariant.sizes.room;
      };
      stopped = c.count_sub.ensures.1;
      at = (rw (listed_at c.args.calls.now.places c.args.calls.now.count c.loop-e.e-index i) at c.count_sub.ensures.0) c.args.adds.now (count_next _ _ _ c.requires.1.0 _ _ _ _ _ _ c.loop-e.e-index i c.loop-e.invariant.at);
    }

pub returns : goal.returns
returns c =
    let end : c.loop-e.e-index ≡ c.args.calls.now.count = omega arith in
    (count_over _ _ _ _ _ _ _ _ (count_last _ _ _ c.requires.1.0 _ _ _ _ _ _ (rw end at c.loop-e.invariant.at)), c.loop-e.invariant.stopped)
