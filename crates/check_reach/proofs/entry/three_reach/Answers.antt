-- One location, then two.
use mathlib.Core.Path.{◌∙◌}
use Rattle.check_reach.specs.Reached.{one_more_lem}
use Rattle.check_reach.proofs.entry.three_reach.Goals as goal

pub returns : goal.returns
returns c =
    c.joined.ensures ∙ one_more_lem _ _ _ _ c.one_reach.ensures c.two_reach.ensures
