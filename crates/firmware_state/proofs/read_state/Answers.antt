-- Each field as it is read.
use mathlib.Core.Path.{refl}
use Rattle.base_program.specs.Reach.{numbers_from}
use Rattle.firmware_state.specs.State.{state_of}
use Rattle.firmware_state.proofs.read_state.Goals as goal

pub returns : goal.returns
unfolding state_of numbers_from
returns c =
    refl
