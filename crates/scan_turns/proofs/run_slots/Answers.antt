-- The loop begins at entry 1 with nothing open; each turn is a step of the plain machine and leaves less to go; there is an
-- entry at every place but `home`, where what is held is what that machine leaves.
use mathlib.Core.Path.{refl, ◌∙◌}
use native.Mathlib.Omega.{arith}
use Rattle.spec_buffers.specs.Held.{held_of}
use Rattle.record_layout.specs.Layout.{record_of}
use Rattle.scan_turns.specs.Lent.{lies_here}
use Rattle.scan_turns.specs.Loop.{still_fits, that_table, that_scan, going_first, came_first, entry_inside, leaves, slot_small, moving, asked, going_next, less, came_next}
use Rattle.scan_turns.proofs.run_slots.Goals as goal

pub loop-pc-init : goal.loop-pc-init
loop-pc-init c =
    ((going_first c.requires.0.0 (held_of c.args.locations.now c.args.sums.now c.args.counts.now c.args.flags.now c.args.ports.now c.args.ring.now c.args.store.now) c.args.marks.now c.requires.0.1, record { locations = refl; sums = refl; counts = refl; flags = refl; ports = refl; ring = refl; store = refl; marks = refl }), λ t x e k. came_first c.requires.0.0 (held_of c.args.locations.now c.args.sums.now c.args.counts.now c.args.flags.now c.args.ports.now c.args.ring.now c.args.store.now) c.args.marks.now x (k.table_is ∙ that_table c.requires.0.0 t e))

pub overflow_mul-slot : goal.overflow_mul-slot
overflow_mul-slot c =
    omega (arith, c.loop-pc.invariant.0.0.place)

pub overflow_sub-slot : goal.overflow_sub-slot
overflow_sub-slot c =
    omega (arith, c.loop-pc.invariant.0.0.place)

pub overflow_add-slot : goal.overflow_add-slot
overflow_add-slot c =
    omega (arith, c.loop-pc.invariant.0.0.place)

pub overflow_add-slot-in-loop-pc : goal.overflow_add-slot-in-loop-pc
overflow_add-slot-in-loop-pc c =
    omega (arith, c.loop-pc.invariant.0.0.place)

pub overflow_cast-slot : goal.overflow_cast-slot
overflow_cast-slot c =
    omega (arith, c.loop-pc.invariant.0.0.place)

pub overflow_add-pc : goal.overflow_add-pc
overflow_add-pc c =
    omega (arith, c.loop-pc.invariant.0.0.place)

pub carry_at-pc-requires : goal.carry_at-pc-requires
carry_at-pc-requires c =
    ((c.requires.1.numbers, c.requires.1.values, omega (arith, slot_small c.requires.0.0 c.loop-pc.invariant.0.0 (entry_inside c.requires.0.0 c.loop-pc.invariant.0.0 (held_of c.args.locations.now c.args.sums.now c.args.counts.now c.args.flags.now c.args.ports.now c.args.ring.now c.args.store.now) c.loop-pc.invariant.1 c.loop-pc-test.true))), omega (arith, slot_small c.requires.0.0 c.loop-pc.invariant.0.0 (entry_inside c.requires.0.0 c.loop-pc.invariant.0.0 (held_of c.args.locations.now c.args.sums.now c.args.counts.now c.args.flags.now c.args.ports.now c.args.ring.now c.args.store.now) c.loop-pc.invariant.1 c.loop-pc-test.true), c.requires.0.0.found.firsts_long), (asked c.requires.0.0 c.loop-pc.invariant.0.0 (entry_inside c.requires.0.0 c.loop-pc.invariant.0.0 (held_of c.args.locations.now c.args.sums.now c.args.counts.now c.args.flags.now c.args.ports.now c.args.ring.now c.args.store.now) c.loop-pc.invariant.1 c.loop-pc-test.true) _ _ (omega (arith, c.loop-pc.invariant.0.0.place)) (omega (arith, c.loop-pc.invariant.0.0.place)) _ (lies_here c.args.numbers.now c.args.values.now c.requires.0.0 c.loop-pc.invariant.0.0 (entry_inside c.requires.0.0 c.loop-pc.invariant.0.0 (held_of c.args.locations.now c.args.sums.now c.args.counts.now c.args.flags.now c.args.ports.now c.args.ring.now c.args.store.now) c.loop-pc.invariant.1 c.loop-pc-test.true) _ (omega (arith, c.loop-pc.invariant.0.0.place))) c.loop-pc.store (c.loop-pc.invariant.0.1.store ∙ c.requires.0.0.four), moving c.requires.0.0 c.loop-pc.invariant.0.0 (entry_inside c.requires.0.0 c.loop-pc.invariant.0.0 (held_of c.args.locations.now c.args.sums.now c.args.counts.now c.args.flags.now c.args.ports.now c.args.ring.now c.args.store.now) c.loop-pc.invariant.1 c.loop-pc-test.true)))

pub loop-pc-smaller : goal.loop-pc-smaller
loop-pc-smaller c =
    less c.requires.0.0 c.loop-pc.invariant.0.0 (entry_inside c.requires.0.0 c.loop-pc.invariant.0.0 (held_of c.args.locations.now c.args.sums.now c.args.counts.now c.args.flags.now c.args.ports.now c.args.ring.now c.args.store.now) c.loop-pc.invariant.1 c.loop-pc-test.true) _ _ (omega (arith, c.loop-pc.invariant.0.0.place)) (omega (arith, c.loop-pc.invariant.0.0.place)) _ (lies_here c.args.numbers.now c.args.values.now c.requires.0.0 c.loop-pc.invariant.0.0 (entry_inside c.requires.0.0 c.loop-pc.invariant.0.0 (held_of c.args.locations.now c.args.sums.now c.args.counts.now c.args.flags.now c.args.ports.now c.args.ring.now c.args.store.now) c.loop-pc.invariant.1 c.loop-pc-test.true) _ (omega (arith, c.loop-pc.invariant.0.0.place))) _ _ _ _ c.carry_at-pc.ensures

pub loop-pc-preserved : goal.loop-pc-preserved
loop-pc-preserved c = (
  (going_next c.requires.0.0 c.loop-pc.invariant.0.0 (entry_inside c.requires.0.0 c.loop-pc.invariant.0.0 (held_of c.args.locations.now c.args.sums.now c.args.counts.now c.args.flags.now c.args.ports.now c.args.ring.now c.args.store.now) c.loop-pc.invariant.1 c.loop-pc-test.true) _ _ (omega (arith, c.loop-pc.invariant.0.0.place)) (omega (arith, c.loop-pc.invariant.0.0.place)) _ (lies_here c.args.numbers.now c.args.values.now c.requires.0.0 c.loop-pc.invariant.0.0 (entry_inside c.requires.0.0 c.loop-pc.invariant.0.0 (held_of c.args.locations.now c.args.sums.now c.args.counts.now c.args.flags.now c.args.ports.now c.args.ring.now c.args.store.now) c.loop-pc.invariant.1 c.loop-pc-test.true) _ (omega (arith, c.loop-pc.invariant.0.0.place))) _ _ _ _ c.carry_at-pc.ensures (c.carry_at-pc.auto.marks ∙ c.loop-pc.invariant.0.0.size) (λ k. still_fits (record_of c.args.numbers.now c.args.values.now) (held_of c.loop-pc.locations c.loop-pc.sums c.loop-pc.counts c.loop-pc.flags c.loop-pc.ports c.loop-pc.ring c.loop-pc.store) _ c.loop-pc.invariant.0.0.fits k c.carry_at-pc.auto.l c.carry_at-pc.auto.sums c.carry_at-pc.auto.counts c.carry_at-pc.auto.flags c.carry_at-pc.auto.ports), record { locations = c.carry_at-pc.auto.l ∙ c.loop-pc.invariant.0.1.locations; sums = c.carry_at-pc.auto.sums ∙ c.loop-pc.invariant.0.1.sums; counts = c.carry_at-pc.auto.counts ∙ c.loop-pc.invariant.0.1.counts; flags = c.carry_at-pc.auto.flags ∙ c.loop-pc.invariant.0.1.flags; ports = c.carry_at-pc.auto.ports ∙ c.loop-pc.invariant.0.1.ports; ring = c.carry_at-pc.auto.ring ∙ c.loop-pc.invariant.0.1.ring; store = c.carry_at-pc.auto.store ∙ c.loop-pc.invariant.0.1.store; marks = c.carry_at-pc.auto.marks ∙ c.loop-pc.invariant.0.1.marks }),
  λ t x e k. came_next c.requires.0.0 c.loop-pc.invariant.0.0 (entry_inside c.requires.0.0 c.loop-pc.invariant.0.0 (held_of c.args.locations.now c.args.sums.now c.args.counts.now c.args.flags.now c.args.ports.now c.args.ring.now c.args.store.now) c.loop-pc.invariant.1 c.loop-pc-test.true) _ _ (omega (arith, c.loop-pc.invariant.0.0.place)) (omega (arith, c.loop-pc.invariant.0.0.place)) _ (lies_here c.args.numbers.now c.args.values.now c.requires.0.0 c.loop-pc.invariant.0.0 (entry_inside c.requires.0.0 c.loop-pc.invariant.0.0 (held_of c.args.locations.now c.args.sums.now c.args.counts.now c.args.flags.now c.args.ports.now c.args.ring.now c.args.store.now) c.loop-pc.invariant.1 c.loop-pc-test.true) _ (omega (arith, c.loop-pc.invariant.0.0.place))) _ _ _ _ c.carry_at-pc.ensures (held_of c.args.locations.now c.args.sums.now c.args.counts.now c.args.flags.now c.args.ports.now c.args.ring.now c.args.store.now) x (that_scan c.requires.0.0 t x e k) (c.loop-pc.invariant.1 t x e k),
)

pub returns : goal.returns
returns c =
    λ t x e k. leaves c.requires.0.0 c.loop-pc.invariant.0.0 (held_of c.args.locations.now c.args.sums.now c.args.counts.now c.args.flags.now c.args.ports.now c.args.ring.now c.args.store.now) x (c.loop-pc.invariant.1 t x e k) c.loop-pc-test.false
