-- The fields of the bits are the significand and the exponent.
use Rattle.storage_value.proofs.Bits.{quotient_lowest, quotient_normal}
use Rattle.storage_value.proofs.scaled_of.Goals as goal

pub returns-then-exponent-eq0 : goal.returns-then-exponent-eq0
returns-then-exponent-eq0 c =
    quotient_lowest c.args.bits c.requires c.if-exponent-eq0.true

pub returns : goal.returns
returns c =
    quotient_normal c.args.bits c.requires c.if-exponent-eq0.false
