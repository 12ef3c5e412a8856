-- Each way is the higher one of the two.
use native.Mathlib.Omega.{arith}
use Rattle.check_chains.specs.Chains.{higher_of}
use Rattle.check_chains.proofs.above.Goals as goal

pub returns-then-h-most : goal.returns-then-h-most
returns-then-h-most c =
    higher_of c.args.h c.args.most _ (omega (arith, c.requires)) (omega arith) (λ s w a. omega (arith, c.if-h-most.true)) (λ s a b. omega arith)

pub returns-then-h-lt7 : goal.returns-then-h-lt7
returns-then-h-lt7 c =
    higher_of c.args.h c.args.most _ (omega (arith, c.if-h-lt7.true)) (omega (arith, c.if-h-most.false)) (λ s w a. omega arith) (λ s a b. omega (arith))

pub returns-else-h-lt7 : goal.returns-else-h-lt7
returns-else-h-lt7 c =
    higher_of c.args.h c.args.most _ (omega arith) (omega (arith, c.requires)) (λ s w a. omega arith) (λ s a b. omega (arith, c.if-h-lt7.false))
