-- No line left, bytes behind the line, `)`, or another line.
use mathlib.Core.Path.{sym, ap, ◌∙◌}
use mathlib.Core.Bool.{cond}
use native.Mathlib.Omega.{arith}
use Rattle.text_keyed.specs.Text.{clean, bad}
use Rattle.text_keyed.proofs.Lines.{ended_short, ended_more, ended_closes}
use Rattle.text_keyed.proofs.ends_text.Goals as goal

pub returns-then-e-s : goal.returns-then-e-s
returns-then-e-s c =
    λ p. sym (ended_short p c.args.s.now c.args.at c.find-e.result c.find-e.ensures c.if-e-s.true)

pub returns-then-e-s-2 : goal.returns-then-e-s-2
returns-then-e-s-2 c =
    λ p. sym (ended_more p c.args.s.now c.args.at c.find-e.result c.find-e.ensures c.if-e-s-2.true)

pub returns : goal.returns
returns c =
    λ p. sym (ended_closes p c.args.s.now c.args.at c.find-e.result c.find-e.ensures (omega (arith, c.find-e.ensures.within, c.if-e-s.false)) c.if-e-s-2.false ∙ ap (λ t. cond t (clean p) (bad 1 0 0)) (sym c.is_close.ensures))
