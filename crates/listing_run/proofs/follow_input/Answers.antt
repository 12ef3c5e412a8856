-- What was read so far goes on with each piece.
use Rattle.std.proofs.Common.{[], Ok, length, ◌++◌, take, drop, sym, subst, arith, ◌∙◌}
use Rattle.base_input.specs.More.{Filling}
use Rattle.base_input.specs.Known.{TakesMore}
use Rattle.spec_listing.specs.Step.{run_of}
use Rattle.spec_listing.specs.Reading.{Reads}
use Rattle.spec_listing.proofs.Feeding.{reads_none, blank_sized}
use Rattle.listing_run.proofs.Whole.{taken_none, taken_both, start_taken, refused_on}
use Rattle.listing_run.proofs.follow_input.Goals as goal

pub loop-init : goal.loop-init
loop-init g c = record {
  kept = omega (arith, c.begin-l.ensures.1.0);
  so_far = [];
  taken = taken_none _;
  reads = reads_none _ _ _ _ _ _ _ _ _ _ c.begin-l.ensures.0 c.begin-l.ensures.1.0 c.begin-l.ensures.1.1 c.requires.1.0;
}

pub finish-requires : goal.finish-requires
finish-requires g c =
    let size = blank_sized c.args.readings.now c.args.locations.now c.args.sums.now c.args.counts.now c.args.ring.now c.requires.1.0 in
    (omega arith, (c.loop.auto.ring ∙ size.ring, omega arith))

pub feed-l-requires : goal.feed-l-requires
feed-l-requires g c =
    let size = (blank_sized c.args.readings.now c.args.locations.now c.args.sums.now c.args.counts.now c.args.ring.now c.requires.1.0).room in
    let filling = subst (λ o. Filling c.loop.l.kept (length c.loop.space) (Ok o)) c.in-Some.is c.in_ok-filled.ensures.filling in
    (omega (arith, filling.0), (omega (arith, filling.1, c.read_more.auto.buf), record { readings = c.loop.auto.readings ∙ size.readings; locations = c.loop.auto.locations ∙ size.locations; sums = c.loop.auto.sums ∙ size.sums }))

pub finish-requires-then-is_refused : goal.finish-requires-then-is_refused
finish-requires-then-is_refused g c =
    let size = blank_sized c.args.readings.now c.args.locations.now c.args.sums.now c.args.counts.now c.args.ring.now c.requires.1.0 in
    (omega arith, (c.feed-l.auto.ring ∙ c.loop.auto.ring ∙ size.ring, omega arith))

pub returns-then-is_refused-clause-of_input : goal.returns-then-is_refused-clause-of_input
returns-then-is_refused-clause-of_input g c =
    let kept = subst (λ w. Reads c.loop.invariant.so_far c.loop.l.stage w c.loop.l.program (run_of c.loop.l.state c.loop.readings c.loop.locations c.loop.sums c.loop.counts c.loop.ring)) (sym c.read_more.ensures.buf_unchanged) c.loop.invariant.reads in
    let taken = subst (λ o. TakesMore (g.R.Read.remaining c.loop.input) (g.R.Read.remaining c.read_more.new.input) c.loop.l.kept c.read_more.new.buf (Ok o)) c.in-Some.is c.in_ok-filled.ensures.taken in
    let read = c.feed-l.ensures.taken c.loop.invariant.so_far kept in
    start_taken _ _ (c.loop.invariant.so_far ++ drop c.loop.l.kept (take c.in-Some.filled c.read_more.new.buf)) _ (taken_both _ _ _ _ _ c.loop.invariant.taken taken)
    (λ more. c.finish-then-is_refused.ensures.finished ((c.loop.invariant.so_far ++ drop c.loop.l.kept (take c.in-Some.filled c.read_more.new.buf)) ++ more) c.feed-l.result.program c.feed-l.new.readings c.feed-l.new.locations c.feed-l.new.sums c.feed-l.new.counts (refused_on c.feed-l.result.stage (c.loop.invariant.so_far ++ drop c.loop.l.kept (take c.in-Some.filled c.read_more.new.buf)) (take c.feed-l.result.kept c.feed-l.new.space) c.feed-l.result.program (run_of c.feed-l.result.state c.feed-l.new.readings c.feed-l.new.locations c.feed-l.new.sums c.feed-l.new.counts c.feed-l.new.ring) (sym c.if-is_refused.ensures) read more))
