-- One test after the other.
use mathlib.Core.Path.{refl}
use borrow.Author.Tests.{eq-eqb, ne_eqb, le-leb, lt-leb}
use Rattle.scan_refusals.specs.Lent.{lent_all}
use Rattle.base_laws.specs.Tests.{and_stop, and_yes}
use Rattle.scan_refusals.proofs.are_lent.Goals as goal

pub returns-then-n-ge1 : goal.returns-then-n-ge1
unfolding lent_all
returns-then-n-ge1 c =
    and_yes _ _ _ (eq-eqb _ _ c.if-n-i.true) (and_yes _ _ _ (eq-eqb _ _ c.if-n-m.true) (and_yes _ _ _ (eq-eqb _ _ c.if-counts-eq297.true) (and_yes _ _ _ (eq-eqb _ _ c.if-n-eq196.true) (and_yes _ _ _ (le-leb _ _ c.if-n-ge1.true) refl))))

pub returns-else-n-ge1 : goal.returns-else-n-ge1
unfolding lent_all
returns-else-n-ge1 c =
    and_yes _ _ _ (eq-eqb _ _ c.if-n-i.true) (and_yes _ _ _ (eq-eqb _ _ c.if-n-m.true) (and_yes _ _ _ (eq-eqb _ _ c.if-counts-eq297.true) (and_yes _ _ _ (eq-eqb _ _ c.if-n-eq196.true) (and_stop _ _ (lt-leb _ _ c.if-n-ge1.false)))))

pub returns-else-n-eq196 : goal.returns-else-n-eq196
unfolding lent_all
returns-else-n-eq196 c =
    and_yes _ _ _ (eq-eqb _ _ c.if-n-i.true) (and_yes _ _ _ (eq-eqb _ _ c.if-n-m.true) (and_yes _ _ _ (eq-eqb _ _ c.if-counts-eq297.true) (and_stop _ _ (ne_eqb _ _ c.if-n-eq196.false))))

pub returns-else-counts-eq297 : goal.returns-else-counts-eq297
unfolding lent_all
returns-else-counts-eq297 c =
    and_yes _ _ _ (eq-eqb _ _ c.if-n-i.true) (and_yes _ _ _ (eq-eqb _ _ c.if-n-m.true) (and_stop _ _ (ne_eqb _ _ c.if-counts-eq297.false)))

pub returns-else-n-m : goal.returns-else-n-m
unfolding lent_all
returns-else-n-m c =
    and_yes _ _ _ (eq-eqb _ _ c.if-n-i.true) (and_stop _ _ (ne_eqb _ _ c.if-n-m.false))

pub returns-else-n-i : goal.returns-else-n-i
unfolding lent_all
returns-else-n-i c =
    and_stop _ _ (ne_eqb _ _ c.if-n-i.false)
