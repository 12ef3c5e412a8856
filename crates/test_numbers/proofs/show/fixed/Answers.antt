-- A fixed value is finite, so it has a bit pattern.
use mathlib.Core.Path.{sym, ◌∙◌}
use mathlib.Core.Bool.{not}
use lib.Dec.{T}
use lib.Ieee.{Float, nan, inf, fin, is_nan}
use lib.Ieee.Scale.{finite}
use Rattle.text_number.proofs.Laws.{fixed_finite}
use Rattle.test_numbers.proofs.show.fixed.Goals as goal

pub float_to_bits-x : goal.float_to_bits-x
unfolding is_nan
float_to_bits-x g c =
    no_nan c.in-Some.x (fixed_finite c.args.s.now c.in-Some.x (sym c.read_fixed.ensures ∙ c.in-Some.is))
  where
    no_nan : (x : Float) → T (finite x) → T (not (is_nan x))
    no_nan nan h = absurd h
    no_nan (inf s) h = tt
    no_nan (fin s m e) h = tt
