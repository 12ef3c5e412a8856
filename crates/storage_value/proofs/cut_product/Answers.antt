-- The product fits, and a shift is a division; from 64 on nothing is left of it.
use Rattle.storage_value.proofs.Product.{product_small, nothing_left}
use native.Mathlib.Omega.{arith}
use Rattle.storage_value.proofs.cut_product.Goals as goal

pub overflow_mul-result : goal.overflow_mul-result
overflow_mul-result c =
    let h = product_small c.args.significand c.args.k c.requires in omega arith

pub returns-else-shift-lt64 : goal.returns-else-shift-lt64
returns-else-shift-lt64 c =
    nothing_left c.args.significand c.args.shift c.args.k c.requires c.if-shift-lt64.false
