-- The three parts are the numbers in order.
use mathlib.Core.Path.{ap, ◌∙◌}
use native.Mathlib.Omega.{arith}
use mathlib.Core.Bool.{false}
use lib.ListN.{length}
use Rattle.firmware_state.specs.State.{numbers_of_state}
use Rattle.firmware_store.proofs.Parts.{bits, joined, stored}
use Rattle.firmware_store.proofs.write_state.Goals as goal

pub returns : goal.returns
unfolding numbers_of_state
returns c =
    let f = c.copy_from_slice.ensures.after ∙ bits 10 c.map.result c.args.s.flags c.map.ensures.items.long (λ k l. (c.map.ensures.items.at k false 0 l).2.met) in
    let p = c.copy_from_slice-2.ensures.after ∙ bits 8 c.map-2.result c.args.s.ports c.map-2.ensures.items.long (λ k l. (c.map-2.ensures.items.at k false 0 l).2.met) in
    let z = c.copy_from_slice-3.ensures.after in
    stored c.args.state.now c.copy_from_slice.new.self c.copy_from_slice-2.new.self c.copy_from_slice-3.new.self c.requires
    (omega (arith, ap length c.copy_from_slice.ensures.after, c.map.ensures.items.long)) (omega (arith, ap length c.copy_from_slice-2.ensures.after, c.map-2.ensures.items.long)) (ap length c.copy_from_slice-3.ensures.after)
    ∙ joined f p z
