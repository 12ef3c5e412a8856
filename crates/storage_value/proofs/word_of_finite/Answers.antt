-- By the sign of x: above zero and below it by its places and digits, and zero is 0.000.
use lib.Ieee.{of_bits}
use Rattle.storage_value.proofs.Words.{above_zero, below_zero, at_zero, plain, signed_none, signed_some}
use Rattle.storage_value.proofs.word_of_finite.Goals as goal

pub shown-s-requires : goal.shown-s-requires
unfolding of_bits
shown-s-requires c =
    above_zero c.args.x c.requires c.if-x.true

pub returns-then-x : goal.returns-then-x
unfolding of_bits
returns-then-x c =
    plain c.args.x c.shown-s.result.places c.shown-s.result.digits (above_zero c.args.x c.requires c.if-x.true) c.shown-s.ensures

pub shown-s-requires-then-x-2 : goal.shown-s-requires-then-x-2
unfolding of_bits
shown-s-requires-then-x-2 c =
    below_zero c.args.x c.requires c.if-x-2.true

pub returns-then-s-eq0 : goal.returns-then-s-eq0
unfolding of_bits
returns-then-s-eq0 c =
    signed_none c.args.x c.shown-s-then-x-2.result.places c.shown-s-then-x-2.result.digits (below_zero c.args.x c.requires c.if-x-2.true) c.shown-s-then-x-2.ensures c.if-s-eq0.true

pub returns-then-x-2 : goal.returns-then-x-2
unfolding of_bits
returns-then-x-2 c =
    signed_some c.args.x c.shown-s-then-x-2.result.places c.shown-s-then-x-2.result.digits (below_zero c.args.x c.requires c.if-x-2.true) c.shown-s-then-x-2.ensures c.if-s-eq0.false

pub returns : goal.returns
unfolding of_bits
returns c =
    at_zero c.args.x c.if-x.false c.if-x-2.false
