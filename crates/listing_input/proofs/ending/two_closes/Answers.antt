-- The tests are those of two lines `)`.
use mathlib.Core.Path.{◌≡◌, sym, ap, ◌∙◌}
use Prim.Native.Nat.{◌-◌}
use native.Mathlib.Omega.{arith}
use lib.ListN.{length, drop, length-drop}
use lib.Seq.{drop-drop}
use Rattle.base_lines.specs.Line.{is_close}
use Rattle.base_laws.specs.Tests.{not_first}
use Rattle.listing_input.specs.Extent.{two_closes}
use Rattle.listing_input.specs.ExtentLaws.{short_two}
use mathlib.Core.Bool.{◌&&◌}
use Rattle.listing_input.proofs.ending.two_closes.Goals as goal

pub returns-then-s-at-lt4 : goal.returns-then-s-at-lt4
returns-then-s-at-lt4 c =
    let s = c.args.s.now in
    let n : length (drop c.args.at s) ≡ length s - c.args.at = length-drop c.args.at s in
    sym (short_two (drop c.args.at s) (omega (arith, n, c.if-s-at-lt4.true)))

pub returns-then-is_close : goal.returns-then-is_close
unfolding two_closes
returns-then-is_close c =
    let s = c.args.s.now in
    c.is_close-then-is_close.ensures ∙ ap is_close (sym (drop-drop 2 c.args.at s)) ∙ sym (ap (λ b. b && is_close (drop 2 (drop c.args.at s))) (sym c.is_close.ensures ∙ c.if-is_close.true))

pub returns-else-is_close : goal.returns-else-is_close
unfolding two_closes
returns-else-is_close c =
    c.if-is_close.false ∙ sym (not_first _ (sym c.is_close.ensures ∙ c.if-is_close.false))
