-- By the definition of `state_of`.
use mathlib.Core.Path.{refl}
use Rattle.firmware_state.specs.State.{state_of}
use Rattle.firmware_list.proofs.ring_in.Goals as goal

pub returns : goal.returns
unfolding state_of
returns c =
    refl
