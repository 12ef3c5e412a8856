-- The sum is the definition.
use Rattle.storage_word.specs.Word.{start_word}
use borrow.Author.Rules.{rules}
use Rattle.storage_word.proofs.start_word.Goals as goal

pub returns : goal.returns
unfolding start_word
returns c =
    search rules
