-- One more than twice the quotient, cut, and halved is the quotient rounded, halves up.
use Rattle.storage_value.proofs.Product.{quotient_small, rounded}
use native.Mathlib.Omega.{arith}
use Rattle.storage_value.proofs.rounded_product.Goals as goal

pub overflow_add-result : goal.overflow_add-result
overflow_add-result c =
    let h = quotient_small c.args.significand c.args.shift c.args.k c.cut_product.result c.requires c.cut_product.ensures in omega arith

pub returns : goal.returns
returns c =
    rounded c.args.significand c.args.shift c.args.k c.cut_product.result c.cut_product.ensures
