-- By whether the location is indexed.
use Rattle.base_program.specs.Reach.{following}
use Rattle.check_reach.specs.Reached.{one_moved, one_fixed}
use Rattle.check_reach.proofs.entry.one_reach.Goals as goal

pub returns-then-indexed : goal.returns-then-indexed
returns-then-indexed c =
    one_moved (following c.args.reps (record { number = c.args.number; indexed = c.args.indexed })) _ c.if-indexed.true (c.need_of-need.ensures c.args.indexed)

pub returns : goal.returns
returns c =
    one_fixed (following c.args.reps (record { number = c.args.number; indexed = c.args.indexed })) _ c.if-indexed.false (c.need_of-need.ensures c.args.indexed)
