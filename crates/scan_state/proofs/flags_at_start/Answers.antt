-- Two stores, as the definition has them.
use mathlib.Core.Path.{refl}
use Rattle.scan_state.specs.Parts.{lowered}
use Rattle.scan_state.proofs.flags_at_start.Goals as goal

pub returns : goal.returns
unfolding lowered
returns c =
    refl
