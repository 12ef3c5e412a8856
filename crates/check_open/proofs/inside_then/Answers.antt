-- What is on top tells.
use Rattle.std.proofs.Common.{◌≡◌, refl, ◌-◌, ◌∷◌, sym, ap, ◌∙◌, arith}
use Rattle.spec_check.specs.Blocks.{inside_then}
use Rattle.check_open.specs.Stack.{stack_of, block_of, stack_top, other_top}
use Rattle.check_open.proofs.inside_then.Goals as goal

pub returns-in-Then : goal.returns-in-Then
returns-in-Then c =
    sym (ap inside_then (stack_top c.args.blocks.now c.args.depth (omega arith)) ∙ ap (λ b. inside_then (block_of b ∷ stack_of c.args.blocks.now (c.args.depth - 1))) c.in-Then.is)

pub returns-in_default : goal.returns-in_default
returns-in_default c =
    sym (ap inside_then (stack_top c.args.blocks.now c.args.depth (omega arith)) ∙ other_top _ _ c.in_default.not-Then)

pub returns-else-depth-gt0 : goal.returns-else-depth-gt0
unfolding stack_of
returns-else-depth-gt0 c = let z : c.args.depth ≡ 0 = omega arith in rw z refl
