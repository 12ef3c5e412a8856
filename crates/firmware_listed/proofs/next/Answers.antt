-- The sizes, and the step of the state and the cursor that were read.
use mathlib.Core.Path.{◌≡◌, ap, ◌∙◌}
use mathlib.Core.Bool.{◌&&◌}
use Rattle.storage_ring.specs.declared.RingState.{RingState}
use Rattle.spec_calls.specs.Stores.{ring_state}
use Rattle.storage_listing.specs.declared.Cursor.{Cursor}
use Rattle.storage_listing.specs.Stepped.{Stepped, left, stepped}
use Rattle.firmware_state.specs.State.{state_of}
use Rattle.firmware_buffers.specs.Laws.{a_state, no_state}
use Rattle.firmware_list.specs.Items.{next_of, numbers_of_cursor, is_cursor}
use Rattle.firmware_listed.proofs.Answered.{put_alike, next_left, next_taken, no_cursor, a_cursor}
use Rattle.firmware_listed.proofs.next.Goals as goal

pub returns-then-state-ne25 : goal.returns-then-state-ne25
returns-then-state-ne25 c =
    next_left c.args.state.now c.args.ring.now c.args.cursor.now c.args.values.now c.args.id.now c.args.count.now (ap (λ b. b && is_cursor c.args.cursor.now) (no_state c.args.state.now c.if-state-ne25.true))

pub returns-then-cursor-ne3 : goal.returns-then-cursor-ne3
returns-then-cursor-ne3 c =
    next_left c.args.state.now c.args.ring.now c.args.cursor.now c.args.values.now c.args.id.now c.args.count.now (ap (λ b. b && is_cursor c.args.cursor.now) (a_state c.args.state.now c.if-state-ne25.false) ∙ no_cursor c.args.cursor.now c.if-cursor-ne3.true)

pub cursor_in-c-requires : goal.cursor_in-c-requires
cursor_in-c-requires c =
    c.if-cursor-ne3.false

pub put_cursor-requires : goal.put_cursor-requires
put_cursor-requires c =
    c.if-cursor-ne3.false

pub returns : goal.returns
returns c =
    let x : left c.next-a.result c.next-a.new.cursor c.next-a.new.values ≡ next_of c.args.state.now c.args.ring.now c.args.cursor.now c.args.values.now =
    c.next-a.ensures ∙ ap (λ (t : RingState). stepped c.args.ring.now t c.cursor_in-c.result c.args.values.now) c.ring_in.ensures ∙ ap (λ (k : Cursor). stepped c.args.ring.now (ring_state (state_of c.args.state.now)) k c.args.values.now) c.cursor_in-c.ensures in
    next_taken c.args.state.now c.args.ring.now c.args.cursor.now c.args.values.now c.args.id.now c.args.count.now (ap (λ b. b && is_cursor c.args.cursor.now) (a_state c.args.state.now c.if-state-ne25.false) ∙ a_cursor c.args.cursor.now c.if-cursor-ne3.false)
    (put_alike (ap (λ (z : Stepped). z.array) x) c.put_array.ensures)
    (c.put_cursor.ensures ∙ ap (λ (z : Stepped). numbers_of_cursor z.cursor) x)
    (ap (λ (z : Stepped). z.values) x)
