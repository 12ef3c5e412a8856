-- The bytes passed and those before the next byte k are those before it from the start.
use mathlib.Core.Path.{refl, sym, ap, ◌∙◌}
use Prim.Native.Nat.{◌+◌}
use native.Mathlib.Nat.{add-zero}
use native.Mathlib.Omega.{arith}
use lib.ListN.{drop_of_length-le}
use Rattle.text_items.specs.Cut.{before}
use Rattle.text_items.proofs.Turns.{pass_one, found_at}
use Rattle.text_items.proofs.find.Goals as goal

pub loop-i-init : goal.loop-i-init
loop-i-init c =
    (omega arith, omega arith, refl)

pub returns-then-s-i : goal.returns-then-s-i
returns-then-s-i c =
    found_at c.args.k c.args.s.now c.args.at c.loop-i.i (omega (arith, c.loop-i.invariant.0)) (omega (arith, c.loop-i-test.true)) c.if-s-i.true c.loop-i.invariant.2

pub returns-then-s-i-2 : goal.returns-then-s-i-2
returns-then-s-i-2 c =
    found_at c.args.k c.args.s.now c.args.at (c.loop-i.i + 1) (omega (arith, c.loop-i.invariant.0)) (omega (arith, c.loop-i-test.true)) c.if-s-i-2.true (pass_one c.args.k c.args.s.now c.args.at c.loop-i.i (c.loop-i.i + 1) (omega arith) (omega (arith, c.loop-i-test.true)) c.if-s-i.false c.loop-i.invariant.2)

pub returns-then-s-i-3 : goal.returns-then-s-i-3
returns-then-s-i-3 c =
    found_at c.args.k c.args.s.now c.args.at (c.loop-i.i + 2) (omega (arith, c.loop-i.invariant.0)) (omega (arith, c.loop-i-test.true)) c.if-s-i-3.true (pass_one c.args.k c.args.s.now c.args.at (c.loop-i.i + 1) (c.loop-i.i + 2) (omega arith) (omega (arith, c.loop-i-test.true)) c.if-s-i-2.false (pass_one c.args.k c.args.s.now c.args.at c.loop-i.i (c.loop-i.i + 1) (omega arith) (omega (arith, c.loop-i-test.true)) c.if-s-i.false c.loop-i.invariant.2))

pub returns-then-s-i-4 : goal.returns-then-s-i-4
returns-then-s-i-4 c =
    found_at c.args.k c.args.s.now c.args.at (c.loop-i.i + 3) (omega (arith, c.loop-i.invariant.0)) (omega (arith, c.loop-i-test.true)) c.if-s-i-4.true (pass_one c.args.k c.args.s.now c.args.at (c.loop-i.i + 2) (c.loop-i.i + 3) (omega arith) (omega (arith, c.loop-i-test.true)) c.if-s-i-3.false (pass_one c.args.k c.args.s.now c.args.at (c.loop-i.i + 1) (c.loop-i.i + 2) (omega arith) (omega (arith, c.loop-i-test.true)) c.if-s-i-2.false (pass_one c.args.k c.args.s.now c.args.at c.loop-i.i (c.loop-i.i + 1) (omega arith) (omega (arith, c.loop-i-test.true)) c.if-s-i.false c.loop-i.invariant.2)))

pub loop-i-preserved : goal.loop-i-preserved
loop-i-preserved c =
    (omega (arith, c.loop-i.invariant.0), omega (arith, c.loop-i-test.true), pass_one c.args.k c.args.s.now c.args.at (c.loop-i.i + 3) (c.loop-i.i + 4) (omega arith) (omega (arith, c.loop-i-test.true)) c.if-s-i-4.false (pass_one c.args.k c.args.s.now c.args.at (c.loop-i.i + 2) (c.loop-i.i + 3) (omega arith) (omega (arith, c.loop-i-test.true)) c.if-s-i-3.false (pass_one c.args.k c.args.s.now c.args.at (c.loop-i.i + 1) (c.loop-i.i + 2) (omega arith) (omega (arith, c.loop-i-test.true)) c.if-s-i-2.false (pass_one c.args.k c.args.s.now c.args.at c.loop-i.i (c.loop-i.i + 1) (omega arith) (omega (arith, c.loop-i-test.true)) c.if-s-i.false c.loop-i.invariant.2))))

pub loop-i-2-init : goal.loop-i-2-init
loop-i-2-init c =
    c.loop-i.invariant

pub returns-then-s-i-5 : goal.returns-then-s-i-5
returns-then-s-i-5 c =
    found_at c.args.k c.args.s.now c.args.at c.loop-i-2.i c.loop-i-2.invariant.0 c.loop-i-2-test.true c.if-s-i-5.true c.loop-i-2.invariant.2

pub loop-i-2-preserved : goal.loop-i-2-preserved
loop-i-2-preserved c =
    (omega (arith, c.loop-i-2.invariant.0), omega (arith, c.loop-i-2-test.true), pass_one c.args.k c.args.s.now c.args.at c.loop-i-2.i (c.loop-i-2.i + 1) refl c.loop-i-2-test.true c.if-s-i-5.false c.loop-i-2.invariant.2)

pub returns : goal.returns
unfolding before
returns c =
    let z = ap (before c.args.k) (drop_of_length-le c.args.s.now c.loop-i-2-test.false) in
    record { is = sym (ap (λ x. c.loop-i-2.i + x) z ∙ add-zero c.loop-i-2.i) ∙ c.loop-i-2.invariant.2; from = omega arith; within = omega arith }
