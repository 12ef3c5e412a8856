-- One location, then the other.
use mathlib.Core.Path.{◌∙◌}
use Rattle.check_reach.specs.Reached.{one_more_lem}
use Rattle.check_reach.proofs.entry.two_reach.Goals as goal

pub returns : goal.returns
returns c =
    c.joined.ensures ∙ one_more_lem _ _ _ _ c.one_reach.ensures c.one_reach-2.ensures
