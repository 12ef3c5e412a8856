-- The factor is put on top.
use mathlib.Core.Path.{refl, ap, ◌∙◌}
use mathlib.Core.List.{◌∷◌}
use Rattle.check_count.specs.Dot.{factors}
use Rattle.check_count.proofs.Dot.{factors_push}
use Rattle.check_count.proofs.push_factor.Goals as goal

pub returns : goal.returns
returns c =
    (factors_push c.args.list.now c.args.depth c.stop.result c.requires ∙ ap (λ v. v ∷ factors c.args.list.now c.args.depth) c.stop.ensures, refl)
