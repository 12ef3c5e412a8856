-- One test after the other.
use mathlib.Core.Path.{refl, sym, ◌∙◌}
use native.Mathlib.Omega.{arith}
use Rattle.scan_refusals.specs.Lent.{lent_refusal}
use Rattle.scan_refusals.specs.Tests.{refused, not_refused}
use Rattle.scan_refusals.proofs.lent_refusal.Goals as goal

pub returns-then-not-are_lent : goal.returns-then-not-are_lent
unfolding lent_refusal
returns-then-not-are_lent c =
    (refused _ 31 _ (sym c.are_lent.ensures ∙ c.if-not-are_lent.true), λ e. omega arith)

pub returns-then-not-in_order : goal.returns-then-not-in_order
unfolding lent_refusal
returns-then-not-in_order c =
    (not_refused _ 31 _ _ (sym c.are_lent.ensures ∙ c.if-not-are_lent.false) (refused _ 32 _ (sym c.in_order.ensures ∙ c.if-not-in_order.true)), λ e. omega arith)

pub returns-then-not-is_tick : goal.returns-then-not-is_tick
unfolding lent_refusal
returns-then-not-is_tick c =
    (not_refused _ 31 _ _ (sym c.are_lent.ensures ∙ c.if-not-are_lent.false) (not_refused _ 32 _ _ (sym c.in_order.ensures ∙ c.if-not-in_order.false) (refused _ 33 _ (sym c.is_tick.ensures ∙ c.if-not-is_tick.true))), λ e. omega arith)

pub returns : goal.returns
unfolding lent_refusal
returns c =
    sym (not_refused _ 31 _ _ (sym c.are_lent.ensures ∙ c.if-not-are_lent.false) (not_refused _ 32 _ _ (sym c.in_order.ensures ∙ c.if-not-in_order.false) (not_refused _ 33 _ _ (sym c.is_tick.ensures ∙ c.if-not-is_tick.false) refl)))
