-- It is stored at the number where it lies.
use mathlib.Core.Path.{sym, ap, ◌∙◌, subst}
use lib.ListN.{length}
use Rattle.spec_buffers.specs.Cells.{store_at}
use Rattle.scan_locations.specs.Lent.{Inside}
use Rattle.scan_locations.proofs.cells.store_moved.Goals as goal

pub location_of-requires : goal.location_of-requires
location_of-requires c =
    c.requires.0

pub store-requires : goal.store-requires
store-requires c =
    subst (λ n. Inside n (length c.args.l.now)) (sym c.location_of.ensures) c.requires.1

pub returns : goal.returns
returns c =
    c.store.ensures ∙ ap (λ n. store_at n c.args.v c.args.l.now) c.location_of.ensures
