-- The test is the definition.
use mathlib.Core.Path.{refl}
use Rattle.storage_word.specs.Word.{is_start}
use Rattle.storage_word.proofs.is_start.Goals as goal

pub returns : goal.returns
unfolding is_start
returns c =
    refl
