-- From the top down, no loop so far.
use Rattle.std.proofs.Common.{◌≡◌, ◌≤◌}
use Rattle.spec_check.specs.Blocks.{has_loop}
use Rattle.check_open.specs.Stack.{stack_of}
use Rattle.check_open.proofs.has_loop.Given as goal

abbrev pub invariant-loop-d : goal.invariant-loop-d
invariant-loop-d l =
    (l.d ≤ l.depth) × (has_loop (stack_of l.blocks l.d) ≡ has_loop (stack_of l.blocks l.depth))
