-- The refusals; then whether the ring has moved on; then what is found, and whether the cursor stands at an array.
use mathlib.Core.Path.{sym, ap, ◌∙◌, subst}
use lib.ListN.{length}
use Rattle.std.specs.Prelude.{Option}
use Rattle.storage_ring.specs.Ring.{by_age}
use Rattle.storage_listing.specs.declared.ArraySpan.{ArraySpan}
use Rattle.storage_listing.specs.Search.{Bounds}
use Rattle.storage_listing.specs.Stepped.{arrived}
use Rattle.storage_listing.specs.Turns.{stepped_refused, stepped_moved, stepped_astray, stepped_found}
use Rattle.storage_listing.proofs.Laws.{next_lent, next_sound}
use Rattle.storage_cursor.proofs.next.Goals as goal

pub returns-in-Err : goal.returns-in-Err
returns-in-Err c =
    stepped_refused c.args.ring.now c.args.s c.args.cursor.now c.args.values.now c.in-Err.number (sym c.in-Err.is ∙ c.check_lent.ensures)

pub returns-then-not-is_current : goal.returns-then-not-is_current
returns-then-not-is_current c =
    stepped_moved c.args.ring.now c.args.s c.args.cursor.now c.args.values.now (sym c.check_lent.ensures ∙ c.in_default.is) (sym c.is_current.ensures ∙ c.if-not-is_current.true)

pub seek-found-requires : goal.seek-found-requires
seek-found-requires c =
    next_sound (length c.args.ring.now) c.args.s (length c.args.values.now) (sym c.check_lent.ensures ∙ c.in_default.is)

pub stands-requires : goal.stands-requires
stands-requires c =
    (next_sound (length c.args.ring.now) c.args.s (length c.args.values.now) (sym c.check_lent.ensures ∙ c.in_default.is), c.seek-found.ensures.is)

pub returns-then-not-stands : goal.returns-then-not-stands
returns-then-not-stands c =
    stepped_astray c.args.ring.now c.args.s c.args.cursor.now c.args.values.now (sym c.check_lent.ensures ∙ c.in_default.is) (sym c.is_current.ensures ∙ c.if-not-is_current.false) (sym c.stands.ensures ∙ c.if-not-stands.true)

pub returns-in_default-found : goal.returns-in_default-found
unfolding arrived
returns-in_default-found c =
    ap (λ (f : Option ArraySpan). arrived (by_age c.args.ring.now c.args.s) c.args.s c.args.cursor.now c.args.values.now f) (sym c.in_default-found.is)
    ∙ stepped_found c.args.ring.now c.args.s c.args.cursor.now c.args.values.now (sym c.check_lent.ensures ∙ c.in_default.is) (sym c.is_current.ensures ∙ c.if-not-is_current.false) (sym c.stands.ensures ∙ c.if-not-stands.false) c.seek-found.result c.seek-found.ensures.is

pub arrive-requires : goal.arrive-requires
arrive-requires c =
    let h = sym c.check_lent.ensures ∙ c.in_default.is in
    (next_sound (length c.args.ring.now) c.args.s (length c.args.values.now) h, subst (λ (x : Option ArraySpan). Bounds (by_age c.args.ring.now c.args.s) x) c.in-Some.is c.seek-found.ensures.bounds, next_lent (length c.args.ring.now) c.args.s (length c.args.values.now) h)

pub returns : goal.returns
returns c =
    c.arrive.ensures
    ∙ ap (λ (f : Option ArraySpan). arrived (by_age c.args.ring.now c.args.s) c.args.s c.args.cursor.now c.args.values.now f) (sym c.in-Some.is)
    ∙ stepped_found c.args.ring.now c.args.s c.args.cursor.now c.args.values.now (sym c.check_lent.ensures ∙ c.in_default.is) (sym c.is_current.ensures ∙ c.if-not-is_current.false) (sym c.stands.ensures ∙ c.if-not-stands.false) c.seek-found.result c.seek-found.ensures.is
