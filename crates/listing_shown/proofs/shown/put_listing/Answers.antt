-- One array after the other: each writes the first line of what is left.
use mathlib.Core.Path.{sym, ap, ◌∙◌, subst}
use Rattle.storage_ring.specs.declared.RingState.{RingState}
use Rattle.storage_listing.specs.Listing.{ring_refusal}
use native.Mathlib.Omega.{arith}
use lib.ListN.{length}
use Rattle.storage_ring.specs.Ring.{by_age}
use Rattle.std.specs.Prelude.{Option}
use Rattle.storage_listing.specs.declared.ArraySpan.{ArraySpan}
use Rattle.listing_shown.proofs.Checked.{passed, refused}
use Rattle.storage_listing.specs.Search.{Bounds}
use Rattle.storage_listing.proofs.Laws.{found_array}
use Rattle.storage_listing.proofs.RefusalLaws.{sound_ring}
use Rattle.listing_output.specs.WrittenLaws.{left_as, left_start, left_then, left_done, put_as, put_none}
use Rattle.listing_output.specs.Shown.{lines_of_arrays, held_arrays}
use Rattle.listing_output.specs.Walk.{lines_from, line_at, lines_next, lines_over, lines_held, lines_refused}
use Rattle.spec_calls.specs.Stores.{ring_state}
use Rattle.listing_shown.proofs.shown.put_listing.Goals as goal

pub returns-then-is_err : goal.returns-then-is_err
returns-then-is_err c =
    let r = refused c.check_ring.result (sym c.is_err.ensures.value ∙ c.if-is_err.true) in
    put_as (sym (lines_refused c.args.ring.now (ring_state c.args.state) r.0 (sym (c.check_ring.ensures ∙ ap (λ (s : RingState). ring_refusal (length c.args.ring.now) s) c.ring-s.ensures) ∙ r.1))) (put_none c.args.out.now 0 (omega arith))

pub loop-span-init : goal.loop-span-init
loop-span-init c =
    left_as (lines_held c.args.ring.now c.ring-s.result (sym c.check_ring.ensures ∙ passed c.check_ring.result (sym c.is_err.ensures.value ∙ c.if-is_err.false))) (left_start c.args.out.now 0 (lines_of_arrays (held_arrays c.args.ring.now c.ring-s.result)) (omega arith))

pub seek-requires : goal.seek-requires
seek-requires c =
    sound_ring (length c.args.ring.now) c.ring-s.result (sym c.check_ring.ensures ∙ passed c.check_ring.result (sym c.is_err.ensures.value ∙ c.if-is_err.false))

pub returns : goal.returns
returns c =
    put_as (ap (λ (s : RingState). lines_of_arrays (held_arrays c.args.ring.now s)) c.ring-s.ensures) (left_done (left_as (lines_over (by_age c.args.ring.now c.ring-s.result) c.loop-span.from (sym c.in_default.is ∙ c.seek.ensures.is)) c.loop-span.invariant))

pub put_array-n-requires : goal.put_array-n-requires
put_array-n-requires c =
    (sound_ring (length c.args.ring.now) c.ring-s.result (sym c.check_ring.ensures ∙ passed c.check_ring.result (sym c.is_err.ensures.value ∙ c.if-is_err.false)), subst (λ (x : Option ArraySpan). Bounds (by_age c.args.ring.now c.ring-s.result) x) c.in-Some.is c.seek.ensures.bounds, c.loop-span.invariant.within)

pub loop-span-smaller : goal.loop-span-smaller
loop-span-smaller c =
    let ws = by_age c.args.ring.now c.ring-s.result in
    let at = found_array ws c.loop-span.from c.in-Some.span (sym c.seek.ensures.is ∙ c.in-Some.is) in omega (arith, at.from, at.least, at.most)

pub loop-span-preserved : goal.loop-span-preserved
loop-span-preserved c =
    let ws = by_age c.args.ring.now c.ring-s.result in
    left_then (line_at ws c.in-Some.span) (lines_from ws c.in-Some.span.end) (left_as (lines_next ws c.loop-span.from c.in-Some.span (sym c.in-Some.is ∙ c.seek.ensures.is)) c.loop-span.invariant) c.put_array-n.ensures
