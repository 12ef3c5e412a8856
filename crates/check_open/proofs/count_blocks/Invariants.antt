-- From the top down, every block but a subroutine counts.
use Rattle.std.proofs.Common.{◌≡◌, ◌+◌, ◌≤◌}
use Rattle.spec_check.specs.Blocks.{count_blocks}
use Rattle.check_open.specs.Stack.{stack_of}
use Rattle.check_open.proofs.count_blocks.Given as goal

abbrev pub invariant-loop-d : goal.invariant-loop-d
invariant-loop-d l =
    (l.d ≤ l.depth) × (l.n + count_blocks (stack_of l.blocks l.d) ≡ count_blocks (stack_of l.blocks l.depth)) × (l.n + l.d ≤ l.depth)
