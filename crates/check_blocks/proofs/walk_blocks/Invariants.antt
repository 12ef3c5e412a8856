-- Each turn is one law of `BlocksGoing`; a fault is that of the first place left.
use Rattle.std.proofs.Common.{◌≡◌, ◌≤◌}
use Rattle.base_program.specs.declared.Program.{Program}
use Rattle.check_open.specs.Stack.{stack_of}
use Rattle.check_blocks.specs.Depth.{Shallow}
use Rattle.check_blocks.specs.Going.{BlocksReady, BlocksGoing, TableGoing}
use Rattle.check_blocks.proofs.walk_blocks.Given as goal

abbrev pub invariant-tables : goal.invariant-tables
invariant-tables l = record {
  closed : l.depth ≡ 0;
  going : (p : Program) → BlocksReady p l.codes l.lengths l.subs → TableGoing p l.t;
}

abbrev pub invariant-entries : goal.invariant-entries
invariant-entries l = record {
  few : l.depth ≤ l.e;
  room : l.depth ≤ 12;
  shallow : Shallow (stack_of l.blocks l.depth);
  going : (p : Program) → BlocksReady p l.codes l.lengths l.subs → BlocksGoing p l.t l.e l.blocks l.depth;
}
