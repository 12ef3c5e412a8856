-- Both numbers are at most 2 ^ 24, so their casts are exact.
use native.Mathlib.Omega.{arith}
use lib.Dec.{le→leb}
use lib.Ieee.{in_float, of_int}
use Rattle.text_fixed.proofs.Divide.{quotient}
use Rattle.text_fixed.proofs.nearest_fraction.Goals as goal

pub int_to_float-result : goal.int_to_float-result
unfolding in_float
int_to_float-result c =
    le→leb c.args.n 16777216 (omega arith)

pub returns : goal.returns
unfolding of_int
returns c =
    quotient c.args.n c.args.d (omega arith) (omega arith) c.requires.1
