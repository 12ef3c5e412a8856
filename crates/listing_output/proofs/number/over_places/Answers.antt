-- Each power of ten; a number below 65,536 has five digits at most.
use mathlib.Core.Path.{sym, ap, ◌∙◌}
use Prim.Native.Nat.{◌/◌, ◌^◌, ◌≤◌, ◌<◌}
use native.Mathlib.Omega.{arith}
use Rattle.listing_output.proofs.Digits.{all_left, none_left}
use Rattle.listing_output.proofs.number.over_places.Goals as goal

pub returns-in-0 : goal.returns-in-0
returns-in-0 c =
    all_left c.args.n ∙ ap (λ x. c.args.n / 10 ^ x) (sym c.in-0.is)

pub returns-in-1 : goal.returns-in-1
returns-in-1 c =
    ap (λ x. c.args.n / 10 ^ x) (sym c.in-1.is)

pub returns-in-2 : goal.returns-in-2
returns-in-2 c =
    ap (λ x. c.args.n / 10 ^ x) (sym c.in-2.is)

pub returns-in-3 : goal.returns-in-3
returns-in-3 c =
    ap (λ x. c.args.n / 10 ^ x) (sym c.in-3.is)

pub returns-in-4 : goal.returns-in-4
returns-in-4 c =
    ap (λ x. c.args.n / 10 ^ x) (sym c.in-4.is)

pub returns-in_default : goal.returns-in_default
returns-in_default c =
    let small : c.args.n < 65536 = omega arith in
    let many : 5 ≤ c.args.k = omega arith in
    none_left c.args.n c.args.k small many
