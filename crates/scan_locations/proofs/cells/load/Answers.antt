-- The location is there, so what is read is its cell.
use mathlib.Core.Path.{ap, ◌∙◌}
use Rattle.base_float.specs.Finite.{stored}
use Rattle.spec_buffers.specs.Read.{cell_inside}
use Rattle.scan_locations.proofs.cells.load.Goals as goal

pub returns : goal.returns
returns c =
    c.to_store.ensures ∙ ap stored (cell_inside c.args.l.now c.args.n _ c.requires.0 c.requires.1)
