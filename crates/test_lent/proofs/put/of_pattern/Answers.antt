-- A pattern that is not above those of the infinities is no NaN's.
use mathlib.Core.Path.{sym, subst}
use mathlib.Core.Bool.{Bool, not}
use Prim.Native.Nat.{◌%◌}
use lib.Dec.{T}
use lib.Arith.{le→nltb}
use lib.Ieee.{binary32}
use lib.Ieee.Bits.{nan_bits_above}
use Rattle.test_lent.proofs.put.of_pattern.Goals as goal

pub float_from_bits-result : goal.float_from_bits-result
float_from_bits-result c =
    subst (λ (b : Bool). T (not b)) (sym (nan_bits_above binary32 c.args.n)) (le→nltb 2139095040 (c.args.n % 2147483648) c.if-n-gt2139095040.false)
