-- The fields are the definition's.
use mathlib.Core.Path.{refl}
use Rattle.spec_calls.specs.Stores.{fresh_state}
use Rattle.spec_calls.proofs.fresh.Goals as goal

pub returns : goal.returns
unfolding fresh_state
returns c =
    refl
