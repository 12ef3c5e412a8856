-- The size, and the item of the state that was read.
use mathlib.Core.Path.{ap, ◌∙◌}
use Rattle.storage_ring.specs.declared.RingState.{RingState}
use Rattle.storage_listing.specs.Listing.{listed}
use Rattle.spec_calls.specs.Stores.{ring_state}
use Rattle.firmware_state.specs.State.{state_of}
use Rattle.firmware_buffers.specs.Sizes.{is_state}
use Rattle.firmware_buffers.specs.Laws.{a_state, no_state}
use Rattle.firmware_listed.proofs.Answered.{item_refused, item_taken}
use Rattle.firmware_listed.proofs.list.Goals as goal

pub returns-then-state-ne25 : goal.returns-then-state-ne25
returns-then-state-ne25 c =
    item_refused (is_state c.args.state.now) (listed c.args.ring.now (ring_state (state_of c.args.state.now)) c.args.k c.args.j) c.args.number.now c.args.places.now c.args.negative.now (no_state c.args.state.now c.if-state-ne25.true)

pub returns : goal.returns
returns c =
    item_taken (is_state c.args.state.now) c.list-l.result (listed c.args.ring.now (ring_state (state_of c.args.state.now)) c.args.k c.args.j) c.args.number.now c.args.places.now c.args.negative.now _ _ _ _ (a_state c.args.state.now c.if-state-ne25.false) (c.list-l.ensures ∙ ap (λ (s : RingState). listed c.args.ring.now s c.args.k c.args.j) c.ring_in.ensures) c.put_item.ensures
