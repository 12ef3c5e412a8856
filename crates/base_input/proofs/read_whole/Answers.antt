-- What was read stands behind what was read before.
use Rattle.std.proofs.Common.{arith, subst, length, Ok}
use Rattle.base_input.specs.More.{Filling}
use Rattle.base_input.specs.Known.{TakesMore}
use Rattle.base_input.proofs.Read.{taken_grown}
use Rattle.base_input.proofs.read_whole.Goals as goal

pub loop-n-preserved : goal.loop-n-preserved
loop-n-preserved g c =
    let filling = subst (λ o. Filling c.loop-n.n (length c.loop-n.buf) (Ok o)) c.in-Some.is c.in_ok-m.ensures.filling in
    let taken = subst (λ o. TakesMore (g.R.Read.remaining c.loop-n.input) (g.R.Read.remaining c.read_more.new.input) c.loop-n.n c.read_more.new.buf (Ok o)) c.in-Some.is c.in_ok-m.ensures.taken in
    (omega (arith, filling.1, c.read_more.auto.buf), taken_grown _ _ _ c.loop-n.buf c.read_more.new.buf c.loop-n.n c.in-Some.m (omega (arith, filling.0)) c.read_more.ensures.buf_unchanged c.loop-n.invariant.1 taken)
