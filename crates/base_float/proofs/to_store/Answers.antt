-- Each arm is one case of `stored`.
use mathlib.Core.Path.{sym, ap, ◌∙◌}
use mathlib.Core.Bool.{cond}
use lib.Ieee.{neg, of_bits}
use Rattle.base_float.specs.Finite.{stored, overrange}
use Rattle.base_float.specs.Laws.{is_finite_says}
use Rattle.base_float.proofs.to_store.Goals as goal

pub returns-then-is_finite : goal.returns-then-is_finite
unfolding stored
returns-then-is_finite c =
    ap (λ b. cond b c.args.x overrange) (sym c.if-is_finite.true ∙ c.is_finite.ensures.value ∙ is_finite_says c.args.x)

pub returns-else-is_finite : goal.returns-else-is_finite
unfolding stored neg of_bits
returns-else-is_finite c =
    ap (λ b. cond b c.args.x overrange) (sym c.if-is_finite.false ∙ c.is_finite.ensures.value ∙ is_finite_says c.args.x)
