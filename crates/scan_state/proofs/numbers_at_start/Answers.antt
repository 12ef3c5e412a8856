-- The four numbers are the definition's.
use mathlib.Core.Path.{refl}
use Rattle.scan_state.specs.Parts.{numbers_of}
use Rattle.scan_state.proofs.numbers_at_start.Goals as goal

pub returns : goal.returns
unfolding numbers_of
returns c =
    refl
