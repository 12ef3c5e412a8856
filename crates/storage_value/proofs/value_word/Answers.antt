-- What is stored is finite, and its word is the word asked for.
use mathlib.Core.Path.{◌∙◌, ap}
use Rattle.base_float.specs.Finite.{finite}
use Rattle.storage_word.specs.Word.{value_word}
use Rattle.storage_value.proofs.Words.{stored_finite}
use Rattle.storage_value.proofs.value_word.Goals as goal

pub word_of_finite-requires : goal.word_of_finite-requires
word_of_finite-requires c =
    ap finite c.to_store.ensures ∙ stored_finite c.args.x

pub returns : goal.returns
returns c =
    c.word_of_finite.ensures ∙ ap value_word c.to_store.ensures
