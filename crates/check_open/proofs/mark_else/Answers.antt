-- Only a Then Do on top is marked.
use Rattle.std.proofs.Common.{arith}
use Rattle.check_open.specs.Stack.{halved_top, halved_same, halved_none}
use Rattle.check_open.proofs.mark_else.Goals as goal

pub returns-then-depth-eq0 : goal.returns-then-depth-eq0
returns-then-depth-eq0 c = halved_none c.args.blocks.now c.args.depth c.if-depth-eq0.true

pub returns-in-Then : goal.returns-in-Then
returns-in-Then c = halved_top c.args.blocks.now c.args.depth (omega arith) (omega arith) c.in-Then.is

pub returns-in_default : goal.returns-in_default
returns-in_default c = halved_same c.args.blocks.now c.args.depth (omega arith) c.in_default.not-Then
