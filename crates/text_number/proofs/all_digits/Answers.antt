-- Each byte is tested as `all_digits` tests it.
use Rattle.std.proofs.Common.{◌≡◌, ℕ, List, ◌&&◌, refl, ◌∙◌, rules}
use borrow.Author.Tests.{tests}
use Rattle.std.specs.List.{list_all}
use Rattle.std.proofs.lemmas.Iterator.{YieldsList-from_slice}
use Rattle.std.proofs.lemmas.Iterator.Search.{all_from_yields_List}
use Rattle.std.proofs.lemmas.List.Recursion.{same_from_clauses}
use Rattle.text_number.specs.Keyed.{is_digit, all_digits}
use Rattle.text_number.proofs.all_digits.Goals as goal

all_is_digits : (s : List ℕ) → list_all is_digit s ≡ all_digits s
unfolding all_digits
all_is_digits = same_from_clauses (list_all is_digit) all_digits (λ b t. is_digit b && t) refl (λ _ _. refl) (λ _ _. refl)

pub returns : goal.returns
returns c =
    all_from_yields_List is_digit _ _ _ c.all.ensures.ran (YieldsList-from_slice c.args.s.now cc) (λ x b q k. search (rules, tests))
    ∙ all_is_digits c.args.s.now
