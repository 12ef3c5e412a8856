-- All of its digits.
use mathlib.Core.Path.{ap}
use Rattle.listing_output.specs.WrittenLaws.{put_as}
use Rattle.listing_output.specs.Shown.{figures, numeral}
use Rattle.listing_output.proofs.number.put_numeral.Goals as goal

pub returns : goal.returns
unfolding numeral
returns c =
    put_as (ap (λ w. figures w c.args.k) c.width_of.ensures) c.put_figures.ensures
