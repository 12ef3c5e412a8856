-- Each byte stands behind those before it.
use Rattle.std.proofs.Common.{◌∙◌, ◌∷◌, [], ap, get_or, length, take, take_all, arith}
use Rattle.base_lines.specs.Written.{written}
use Rattle.base_lines.proofs.Laws.{written_none, written_next}
use Rattle.base_lines.proofs.output.put_text.Goals as goal

pub loop-b-init : goal.loop-b-init
loop-b-init c =
    (c.requires, written_none (length c.args.out.now) (take c.args.n c.args.out.now))

pub loop-b-preserved : goal.loop-b-preserved
loop-b-preserved c =
    let room = length c.args.out.now in
    let b = get_or c.args.s.now c.loop-b.b-index 0 in
    (omega arith, c.put-m.ensures.filled ∙ ap (λ n. written n (take c.loop-b.m c.loop-b.out) (b ∷ [])) c.loop-b.auto.out ∙ ap (λ w. written room w (b ∷ [])) c.loop-b.invariant.1 ∙ written_next room (take c.args.n c.args.out.now) c.args.s.now c.loop-b.b-index c.loop-b-test.true)

pub returns : goal.returns
returns c =
    record { within = omega arith; filled = c.loop-b.invariant.1 ∙ ap (written (length c.args.out.now) (take c.args.n c.args.out.now)) (take_all c.loop-b.b-index c.args.s.now (omega arith)) }
