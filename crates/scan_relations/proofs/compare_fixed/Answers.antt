-- The location is compared as it is read.
use mathlib.Core.Path.{ap, ◌∙◌}
use Rattle.spec_machine.specs.Values.{holds}
use Rattle.scan_relations.proofs.compare_fixed.Goals as goal

pub load_moved-a-requires : goal.load_moved-a-requires
load_moved-a-requires c =
    c.requires

pub returns : goal.returns
returns c =
    c.relation_holds.ensures ∙ ap (λ z. holds c.args.r z c.args.f) c.load_moved-a.ensures
