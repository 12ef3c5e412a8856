-- The size, and the fresh state written.
use mathlib.Core.Path.{sym, ap, ◌∙◌}
use Rattle.base_laws.specs.Tests.{yes, no}
use Rattle.firmware_state.specs.State.{numbers_of_state}
use Rattle.firmware_buffers.specs.Laws.{a_state, no_state}
use Rattle.firmware_keys.proofs.fresh.Goals as goal

pub returns-then-state-ne25 : goal.returns-then-state-ne25
returns-then-state-ne25 c =
    let h = no_state c.args.state.now c.if-state-ne25.true in record { number = sym (no _ _ h); state = sym (no _ _ h) }

pub returns : goal.returns
returns c =
    let h = a_state c.args.state.now c.if-state-ne25.false in record { number = sym (yes _ _ h); state = c.write_state.ensures ∙ ap numbers_of_state c.fresh-s.ensures ∙ sym (yes _ _ h) }
