-- Each arm is one case of `else_way`.
use mathlib.Core.Path.{sym, ap, ◌∙◌}
use mathlib.Core.Bool.{cond}
use borrow.Author.Tests.{eq-eqb, ne_eqb}
use Rattle.scan_targets.specs.Fill.{else_way}
use Rattle.scan_targets.proofs.way.else_way.Goals as goal

pub returns-then-end-eq0 : goal.returns-then-end-eq0
returns-then-end-eq0 c =
    sym (ap (λ b. cond b 0 c.args.q) (eq-eqb _ _ c.if-end-eq0.true)) ∙ ap (λ z. else_way z c.args.q c.args.end c.args.other c.args.outer) (sym c.in-Else.is)

pub returns-else-end-eq0 : goal.returns-else-end-eq0
returns-else-end-eq0 c =
    sym (ap (λ b. cond b 0 c.args.q) (ne_eqb _ _ c.if-end-eq0.false)) ∙ ap (λ z. else_way z c.args.q c.args.end c.args.other c.args.outer) (sym c.in-Else.is)
