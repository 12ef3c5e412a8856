-- The ring's refusal, or the item of the array that is found.
use mathlib.Core.Path.{sym, ap, ◌∙◌, subst}
use lib.ListN.{length}
use Rattle.std.specs.Prelude.{Option, Ok}
use Rattle.std.proofs.lemmas.Result.{err_from_is_err_and}
use Rattle.storage_ring.specs.Ring.{by_age}
use Rattle.storage_listing.specs.declared.ArraySpan.{ArraySpan}
use Rattle.storage_listing.specs.declared.Item.{Item}
use Rattle.storage_listing.specs.Items.{item_missing}
use Rattle.storage_listing.specs.Listing.{item_of}
use Rattle.storage_listing.specs.Search.{Bounds, array_of}
use Rattle.storage_listing.proofs.RefusalLaws.{sound_ring, list_refused, list_answered}
use Rattle.storage_listing.proofs.Spots.{sought_array}
use Rattle.storage_item.proofs.list.Goals as goal

pub returns-in_err-check_ring : goal.returns-in_err-check_ring
returns-in_err-check_ring c =
    let p = err_from_is_err_and c.from_residual.result c.from_residual.ensures.1 in
    rw (p.1, p.2) (list_refused c.args.ring.now c.args.s c.args.k c.args.j _ (sym c.in_err-check_ring.was ∙ c.check_ring.ensures))

pub find_array-requires : goal.find_array-requires
find_array-requires c =
    sound_ring (length c.args.ring.now) c.args.s (sym c.check_ring.ensures ∙ c.in_ok-check_ring.was)

pub returns-in_default : goal.returns-in_default
returns-in_default c =
    let ws = by_age c.args.ring.now c.args.s in
    ap (λ (o : Option Item). Ok o) (item_missing ws c.args.j ∙ ap (λ (f : Option ArraySpan). item_of c.args.j (array_of ws f)) (sym c.in_default.is) ∙ ap (item_of c.args.j) (sought_array ws c.args.k c.find_array.result c.find_array.ensures.is)) ∙ list_answered c.args.ring.now c.args.s c.args.k c.args.j (sym c.check_ring.ensures ∙ c.in_ok-check_ring.was)

pub item_at-requires : goal.item_at-requires
item_at-requires c =
    (sound_ring (length c.args.ring.now) c.args.s (sym c.check_ring.ensures ∙ c.in_ok-check_ring.was), subst (λ (x : Option ArraySpan). Bounds (by_age c.args.ring.now c.args.s) x) c.in-Some.is c.find_array.ensures.bounds)

pub returns : goal.returns
returns c =
    let ws = by_age c.args.ring.now c.args.s in
    ap (λ (o : Option Item). Ok o) (c.item_at.ensures ∙ ap (λ (f : Option ArraySpan). item_of c.args.j (array_of ws f)) (sym c.in-Some.is) ∙ ap (item_of c.args.j) (sought_array ws c.args.k c.find_array.result c.find_array.ensures.is)) ∙ list_answered c.args.ring.now c.args.s c.args.k c.args.j (sym c.check_ring.ensures ∙ c.in_ok-check_ring.was)
