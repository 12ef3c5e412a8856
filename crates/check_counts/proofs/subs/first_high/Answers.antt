-- Each turn looks at one call more, from the last one up.
use Rattle.std.proofs.Common.{◌+◌, ◌<◌, arith}
use Rattle.check_subroutines.specs.Listed.{below, listed_at}
use Rattle.check_counts.specs.Ahead.{ahead_turn}
use Rattle.check_counts.proofs.subs.first_high.Goals as goal

pub bounds-codes-e : goal.bounds-codes-e
bounds-codes-e c =
    let i : c.loop-e.e-index < c.args.calls.now.count = omega arith in
    rw (listed_at c.args.calls.now.places c.args.calls.now.count c.loop-e.e-index i) (omega (arith, below _ _ _ c.requires.2 (c.loop-e.e-index + 1) (omega arith) (omega arith), c.requires.2.top))

pub leads_back-requires : goal.leads_back-requires
leads_back-requires c =
    let i : c.loop-e.e-index < c.args.calls.now.count = omega arith in
    (c.requires.1, rw (listed_at c.args.calls.now.places c.args.calls.now.count c.loop-e.e-index i) (omega (arith, below _ _ _ c.requires.2 (c.loop-e.e-index + 1) (omega arith) (omega arith), c.requires.2.top)))

pub loop-e-preserved : goal.loop-e-preserved
loop-e-preserved c =
    let i : c.loop-e.e-index < c.args.calls.now.count = omega arith in
    ahead_turn _ _ _ c.requires.2 _ c.loop-e.e-index i c.leads_back.result (rw (listed_at c.args.calls.now.places c.args.calls.now.count c.loop-e.e-index i) at c.leads_back.ensures)
    c.if-leads_back.false c.loop-e.invariant
