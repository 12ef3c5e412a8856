-- The item and the word are compared as `is_same` compares them.
use Rattle.std.proofs.Common.{ap, ◌∙◌}
use Rattle.text_items.specs.Split.{is_same}
use Rattle.text_items.proofs.Same.{same_is}
use Rattle.text_parameters.proofs.item.item_is.Goals as goal

pub returns : goal.returns
returns c =
    c.eq.ensures ∙ same_is c.item.result.now c.args.word.now ∙ ap (λ x. is_same x c.args.word.now) c.item.ensures
