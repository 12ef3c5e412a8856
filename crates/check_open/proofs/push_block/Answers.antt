-- The block is put on top.
use Rattle.std.proofs.Common.{refl, ap, ◌∙◌, set, add-one}
use Rattle.check_open.specs.Stack.{stack_of, stack_push}
use Rattle.check_open.proofs.push_block.Goals as goal

pub returns : goal.returns
returns c =
    (ap (stack_of (set c.args.blocks.now c.args.depth c.args.b)) (add-one c.args.depth) ∙ stack_push c.args.blocks.now c.args.depth c.args.b c.requires, refl)
