-- The bits are those of x, so what they say is true of x.
use mathlib.Core.Path.{sym, subst}
use lib.Dec.{T}
use Rattle.storage_value.proofs.Bits.{no_nan, many, quotient_of}
use Rattle.storage_value.proofs.Words.{shows_large}
use Rattle.storage_value.proofs.shown.Goals as goal

pub float_to_bits-bits : goal.float_to_bits-bits
float_to_bits-bits c =
    no_nan c.args.x c.requires

pub returns-then-bits-ge1174405120 : goal.returns-then-bits-ge1174405120
returns-then-bits-ge1174405120 c =
    shows_large c.args.x (many c.args.x (subst T (sym c.well_formed.0.1) tt) c.requires c.if-bits-ge1174405120.true)

pub figures_of-requires : goal.figures_of-requires
figures_of-requires c =
    c.scaled_of-s.ensures.few_bits

pub returns : goal.returns
returns c =
    c.figures_of.ensures c.args.x (quotient_of c.args.x c.scaled_of-s.result.significand c.scaled_of-s.result.shift (subst T (sym c.well_formed.0.1) tt) c.scaled_of-s.ensures)
