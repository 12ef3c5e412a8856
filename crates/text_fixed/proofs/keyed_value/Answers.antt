-- The sign is set behind the rounding, which is the same on both sides of zero, and never at zero.
use mathlib.Core.Path.{sym, ap, ◌∙◌, subst}
use mathlib.Core.Bool.{false}
use Prim.Native.Nat.{◌^◌, ◌<◌}
use lib.Ieee.{binary32, round, neg}
use borrow.Author.Tests.{le-ltb}
use Rattle.text_number.specs.Keyed.{nearest}
use Rattle.text_number.proofs.Laws.{ten_pos, nearest_negative}
use Rattle.base_laws.specs.Tests.{not_second}
use Rattle.text_fixed.proofs.keyed_value.Goals as goal

pub nearest_fraction-size-requires : goal.nearest_fraction-size-requires
nearest_fraction-size-requires c =
    (c.requires.0, subst (λ d. 0 < d) (sym c.power_of_ten.ensures) (ten_pos c.args.k))

pub returns-then-negative : goal.returns-then-negative
unfolding nearest
returns-then-negative c =
    let n = c.args.n in
    let k = c.args.k in
    ap neg (c.nearest_fraction-size.ensures ∙ ap (λ d. round binary32 false n d) c.power_of_ten.ensures)
    ∙ sym (nearest_negative n k c.if-n-gt0.true)
    ∙ ap (λ t. nearest t n k) (sym c.if-negative.true)

pub returns-else-negative : goal.returns-else-negative
unfolding nearest
returns-else-negative c =
    let n = c.args.n in
    let k = c.args.k in
    c.nearest_fraction-size.ensures ∙ ap (λ d. round binary32 false n d) c.power_of_ten.ensures ∙ ap (λ t. nearest t n k) (sym c.if-negative.false)

pub returns-else-n-gt0 : goal.returns-else-n-gt0
unfolding nearest
returns-else-n-gt0 c =
    let n = c.args.n in
    c.nearest_fraction-size.ensures
    ∙ ap (λ d. round binary32 false n d) c.power_of_ten.ensures
    ∙ ap (λ t. round binary32 t n (10 ^ c.args.k)) (sym (not_second c.args.negative (le-ltb 0 n c.if-n-gt0.false)))
