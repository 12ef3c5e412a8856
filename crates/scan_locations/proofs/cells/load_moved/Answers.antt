-- It is read at the number where it lies.
use mathlib.Core.Path.{sym, ap, ◌∙◌, subst}
use lib.ListN.{length}
use Rattle.spec_buffers.specs.Cells.{load_at}
use Rattle.scan_locations.specs.Lent.{Inside}
use Rattle.scan_locations.proofs.cells.load_moved.Goals as goal

pub location_of-requires : goal.location_of-requires
location_of-requires c =
    c.requires.0

pub load-requires : goal.load-requires
load-requires c =
    subst (λ n. Inside n (length c.args.l.now)) (sym c.location_of.ensures) c.requires.1

pub returns : goal.returns
returns c =
    c.load.ensures ∙ ap (load_at c.args.l.now) c.location_of.ensures
