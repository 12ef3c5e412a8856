-- The cell that is written is the definition's, with what is stored of the value.
use mathlib.Core.Path.{ap}
use Prim.Native.Nat.{◌-◌}
use lib.ListN.{set}
use Rattle.spec_buffers.specs.Cells.{store_at}
use Rattle.scan_locations.proofs.cells.store.Goals as goal

pub returns : goal.returns
unfolding store_at
returns c =
    ap (λ v. set c.args.l.now (c.args.n - 1) v) c.to_store.ensures
