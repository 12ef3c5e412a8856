-- What is left from the next line on leads to what all of the lines lead to.
use Rattle.std.specs.Prelude.{Some, None}
use mathlib.Core.Path.{refl, ap, sym, subst, ◌∙◌}
use Prim.Native.Nat.{◌-◌, ◌<◌}
use native.Mathlib.Omega.{arith}
use lib.ListN.{length, set, length-set}
use Rattle.listing_input.specs.declared.Line.{Line}
use Rattle.listing_input.specs.LineLaws.{reading_in}
use Rattle.spec_listing.specs.Step.{run_of, Ran, other, reading}
use Rattle.listing_lines.specs.StepLaws.{line, going_start, going_next, going_stopped, going_ended, same_start}
use Rattle.listing_lines.proofs.lines.run_lines.Goals as goal

pub loop-p-init : goal.loop-p-init
loop-p-init c =
    let start = run_of c.args.first c.args.readings.now c.args.locations.now c.args.sums.now c.args.counts.now c.args.ring.now in
    (going_start c.args.p c.args.s.now start, (c.requires, same_start start))

pub find-e-requires : goal.find-e-requires
find-e-requires c =
    c.loop-p.invariant.0.within

pub returns-then-e-s : goal.returns-then-e-s
returns-then-e-s c =
    let start = run_of c.args.first c.args.readings.now c.args.locations.now c.args.sums.now c.args.counts.now c.args.ring.now in
    let now = run_of c.loop-p.state c.loop-p.readings c.loop-p.locations c.loop-p.sums c.loop-p.counts c.loop-p.ring in
    subst (λ r. Ran c.args.p c.args.s.now start r.refusal r.used (run_of r.state c.loop-p.readings c.loop-p.locations c.loop-p.sums c.loop-p.counts c.loop-p.ring)) (sym c.stop.ensures) (going_ended c.args.p c.args.s.now start now c.loop-p.used c.find-e.result c.find-e.ensures c.if-e-s.true c.loop-p.invariant.0)

pub returns-in_default : goal.returns-in_default
returns-in_default c =
    let start = run_of c.args.first c.args.readings.now c.args.locations.now c.args.sums.now c.args.counts.now c.args.ring.now in
    let now = run_of c.loop-p.state c.loop-p.readings c.loop-p.locations c.loop-p.sums c.loop-p.counts c.loop-p.ring in
    let short : c.find-e.result < length c.args.s.now = omega (arith, c.find-e.ensures.within, c.if-e-s.false) in
    subst (λ r. Ran c.args.p c.args.s.now start r.refusal r.used (run_of r.state c.loop-p.readings c.loop-p.locations c.loop-p.sums c.loop-p.counts c.loop-p.ring)) (sym c.stop-in_default.ensures) (going_stopped c.args.p c.args.s.now start now now c.loop-p.used c.find-e.result 1 None c.find-e.ensures short c.loop-p.invariant.0 (sym c.read_line.ensures ∙ c.in_default.is) other (λ z. absurd (let y : ⊥ = omega (arith, z) in y)))

pub overflow_sub-at : goal.overflow_sub-at
overflow_sub-at c =
    let q = reading_in (line c.args.s.now c.loop-p.used c.find-e.result) c.in-Reading.n c.in-Reading.v (sym c.read_line.ensures ∙ c.in-Some.is ∙ ap Some c.in-Reading.is) in
    omega (arith, q.0)

pub offset_bounds-readings-at : goal.offset_bounds-readings-at
offset_bounds-readings-at c =
    let q = reading_in (line c.args.s.now c.loop-p.used c.find-e.result) c.in-Reading.n c.in-Reading.v (sym c.read_line.ensures ∙ c.in-Some.is ∙ ap Some c.in-Reading.is) in
    omega (arith, q.1)

pub bounds-readings-at : goal.bounds-readings-at
bounds-readings-at c =
    let q = reading_in (line c.args.s.now c.loop-p.used c.find-e.result) c.in-Reading.n c.in-Reading.v (sym c.read_line.ensures ∙ c.in-Some.is ∙ ap Some c.in-Reading.is) in
    omega (arith, q.0, q.1, c.loop-p.invariant.1.0)

pub loop-p-preserved-in-Reading : goal.loop-p-preserved-in-Reading
loop-p-preserved-in-Reading c =
    let start = run_of c.args.first c.args.readings.now c.args.locations.now c.args.sums.now c.args.counts.now c.args.ring.now in
    let now = run_of c.loop-p.state c.loop-p.readings c.loop-p.locations c.loop-p.sums c.loop-p.counts c.loop-p.ring in
    let short : c.find-e.result < length c.args.s.now = omega (arith, c.find-e.ensures.within, c.if-e-s.false) in
    let n = c.in-Reading.n in
    let v = c.in-Reading.v in
    let next = run_of c.loop-p.state (set c.loop-p.readings (n - 1) v) c.loop-p.locations c.loop-p.sums c.loop-p.counts c.loop-p.ring in
    let kept = length-set c.loop-p.readings (n - 1) v in
    let same = c.loop-p.invariant.1.1 in (
      going_next c.args.p c.args.s.now start now next c.loop-p.used c.find-e.result 0 (Some (Line.Reading n v)) c.find-e.ensures short c.loop-p.invariant.0 (sym c.read_line.ensures ∙ c.in-Some.is ∙ ap Some c.in-Reading.is) (reading n v) refl,
      (kept ∙ c.loop-p.invariant.1.0, record { readings = kept ∙ same.readings; locations = same.locations; sums = same.sums; counts = same.counts; ring = same.ring }),
    )

pub shape_of-readings-then-a-ne0 : goal.shape_of-readings-then-a-ne0
shape_of-readings-then-a-ne0 c =
    c.loop-p.invariant.1.1.readings

pub shape_of-locations-then-a-ne0 : goal.shape_of-locations-then-a-ne0
shape_of-locations-then-a-ne0 c =
    c.tick-a.auto.locations ∙ c.loop-p.invariant.1.1.locations

pub shape_of-sums-then-a-ne0 : goal.shape_of-sums-then-a-ne0
shape_of-sums-then-a-ne0 c =
    c.tick-a.auto.sums ∙ c.loop-p.invariant.1.1.sums

pub shape_of-counts-then-a-ne0 : goal.shape_of-counts-then-a-ne0
shape_of-counts-then-a-ne0 c =
    c.tick-a.auto.counts ∙ c.loop-p.invariant.1.1.counts

pub shape_of-ring-then-a-ne0 : goal.shape_of-ring-then-a-ne0
shape_of-ring-then-a-ne0 c =
    c.tick-a.auto.ring ∙ c.loop-p.invariant.1.1.ring

pub returns-then-a-ne0 : goal.returns-then-a-ne0
returns-then-a-ne0 c =
    let start = run_of c.args.first c.args.readings.now c.args.locations.now c.args.sums.now c.args.counts.now c.args.ring.now in
    let now = run_of c.loop-p.state c.loop-p.readings c.loop-p.locations c.loop-p.sums c.loop-p.counts c.loop-p.ring in
    let short : c.find-e.result < length c.args.s.now = omega (arith, c.find-e.ensures.within, c.if-e-s.false) in
    subst (λ r. Ran c.args.p c.args.s.now start r.refusal r.used (run_of r.state c.loop-p.readings c.tick-a.new.locations c.tick-a.new.sums c.tick-a.new.counts c.tick-a.new.ring)) (sym c.stop-then-a-ne0.ensures) (going_stopped c.args.p c.args.s.now start now _ c.loop-p.used c.find-e.result c.tick-a.result.refusal (Some (Line.Tick c.in-Tick.day c.in-Tick.time)) c.find-e.ensures short c.loop-p.invariant.0 (sym c.read_line.ensures ∙ c.in-Some.is ∙ ap Some c.in-Tick.is) c.tick-a.ensures c.if-a-ne0.true)

pub loop-p-smaller : goal.loop-p-smaller
loop-p-smaller c =
    omega (arith, c.find-e.ensures.is, c.find-e.ensures.within, c.if-e-s.false)

pub loop-p-preserved : goal.loop-p-preserved
loop-p-preserved c =
    let start = run_of c.args.first c.args.readings.now c.args.locations.now c.args.sums.now c.args.counts.now c.args.ring.now in
    let now = run_of c.loop-p.state c.loop-p.readings c.loop-p.locations c.loop-p.sums c.loop-p.counts c.loop-p.ring in
    let short : c.find-e.result < length c.args.s.now = omega (arith, c.find-e.ensures.within, c.if-e-s.false) in
    let same = c.loop-p.invariant.1.1 in
    let kept = c.tick-a.auto in (
      going_next c.args.p c.args.s.now start now _ c.loop-p.used c.find-e.result c.tick-a.result.refusal (Some (Line.Tick c.in-Tick.day c.in-Tick.time)) c.find-e.ensures short c.loop-p.invariant.0 (sym c.read_line.ensures ∙ c.in-Some.is ∙ ap Some c.in-Tick.is) c.tick-a.ensures c.if-a-ne0.false,
      (c.loop-p.invariant.1.0, record { readings = same.readings; locations = kept.locations ∙ same.locations; sums = kept.sums ∙ same.sums; counts = kept.counts ∙ same.counts; ring = kept.ring ∙ same.ring }),
    )
