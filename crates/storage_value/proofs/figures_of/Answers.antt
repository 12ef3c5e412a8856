-- A return has the digits within the limit, and over it at the next place, from where they only grow.
use Rattle.storage_value.proofs.Words.{shows_most, shows_next, shows_none}
use native.Mathlib.Omega.{arith}
use Rattle.storage_value.proofs.figures_of.Goals as goal

pub returns-then-thousandths-le6999 : goal.returns-then-thousandths-le6999
returns-then-thousandths-le6999 c =
    λ x q. shows_most x c.args.significand c.args.shift q c.rounded_product-thousandths.result c.rounded_product-thousandths.ensures c.if-thousandths-le6999.true

pub returns-then-hundredths-le6999 : goal.returns-then-hundredths-le6999
returns-then-hundredths-le6999 c =
    λ x q. shows_next x c.args.significand c.args.shift q 2 c.rounded_product-hundredths.result c.rounded_product-thousandths.result (omega arith) c.rounded_product-hundredths.ensures c.if-hundredths-le6999.true c.rounded_product-thousandths.ensures c.if-thousandths-le6999.false

pub returns-then-tenths-le6999 : goal.returns-then-tenths-le6999
returns-then-tenths-le6999 c =
    λ x q. shows_next x c.args.significand c.args.shift q 1 c.rounded_product-tenths.result c.rounded_product-hundredths.result (omega arith) c.rounded_product-tenths.ensures c.if-tenths-le6999.true c.rounded_product-hundredths.ensures c.if-hundredths-le6999.false

pub returns-then-ones-le6999 : goal.returns-then-ones-le6999
returns-then-ones-le6999 c =
    λ x q. shows_next x c.args.significand c.args.shift q 0 c.rounded_product-ones.result c.rounded_product-tenths.result (omega arith) c.rounded_product-ones.ensures c.if-ones-le6999.true c.rounded_product-tenths.ensures c.if-tenths-le6999.false

pub returns : goal.returns
returns c =
    λ x q. shows_none x c.args.significand c.args.shift q c.rounded_product-ones.result c.rounded_product-ones.ensures c.if-ones-le6999.false
