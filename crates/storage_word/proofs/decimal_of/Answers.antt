-- Each field is the definition's.
use mathlib.Core.Path.{refl}
use Rattle.storage_word.specs.Word.{decimal_of}
use Rattle.storage_word.proofs.decimal_of.Goals as goal

pub returns : goal.returns
unfolding decimal_of
returns c =
    refl
