-- Both locations are compared as they are read.
use mathlib.Core.Path.{ap, ◌∙◌}
use Rattle.spec_machine.specs.Values.{holds}
use Rattle.spec_buffers.specs.Cells.{load_at}
use Rattle.scan_locations.specs.Lent.{moved_by}
use Rattle.scan_relations.proofs.compare_locations.Goals as goal

pub load_moved-a-requires : goal.load_moved-a-requires
load_moved-a-requires c =
    (c.requires.0, c.requires.1.first)

pub load_moved-b-requires : goal.load_moved-b-requires
load_moved-b-requires c =
    (c.requires.0, c.requires.1.second)

pub returns : goal.returns
returns c =
    c.relation_holds.ensures ∙ ap (λ z. holds c.args.r c.load_moved-a.result z) c.load_moved-b.ensures ∙ ap (λ z. holds c.args.r z (load_at c.args.l.now (moved_by c.args.shift c.args.y c.args.yi))) c.load_moved-a.ensures
