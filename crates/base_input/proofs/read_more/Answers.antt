-- What was read stands behind the first n bytes.
use Rattle.std.proofs.Common.{arith, length-take-le}
use Rattle.base_input.proofs.Read.{kept_before, taken_behind}
use Rattle.base_input.proofs.read_more.Goals as goal

pub returns-in-Ok-clause-taken : goal.returns-in-Ok-clause-taken
returns-in-Ok-clause-taken g c =
    kept_before _ _ _ _ c.loop.invariant.1
    (taken_behind _ _ _ c.read.new.buf _ c.args.n c.in-Ok.more (length-take-le _ c.loop.buf (omega (arith, c.requires, c.loop.auto.buf))) c.in-Ok.ensures.bound.0 c.in-Ok.ensures.bytes.0)
