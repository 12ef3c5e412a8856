-- One part of the ring, or two.
use native.Mathlib.Omega.{arith}
use Rattle.storage_listing.specs.Runs.{run_round, run_stopped, run_joined}
use Rattle.storage_listing.proofs.search.values_end.Goals as goal

pub returns-then-n-at : goal.returns-then-n-at
returns-then-n-at c =
    run_round c.args.ring.now c.args.s c.requires.0 c.args.i c.requires.1 c.past_values.result c.if-n-at.true c.past_values.ensures

pub returns-then-r-n : goal.returns-then-r-n
returns-then-r-n c =
    run_stopped c.args.ring.now c.args.s c.requires.0 c.args.i c.requires.1 c.past_values-r.result (omega (arith, c.if-n-at.false)) c.past_values-r.ensures c.if-r-n.true

pub returns : goal.returns
returns c =
    run_joined c.args.ring.now c.args.s c.requires.0 c.args.i c.requires.1 c.past_values-r.result c.past_values-2.result (omega (arith, c.if-n-at.false)) c.past_values-r.ensures (omega (arith, c.if-r-n.false)) c.past_values-2.ensures
