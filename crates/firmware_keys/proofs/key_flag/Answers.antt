-- The sizes, and what keying answers for the record that was lent and the state that was read.
use mathlib.Core.Path.{refl, sym, ap, ◌∙◌}
use Rattle.spec_calls.specs.Answers.{flagged}
use Rattle.base_laws.specs.Tests.{yes, no, both, not_first, not_second}
use Rattle.firmware_buffers.specs.Sizes.{is_record, is_state}
use Rattle.firmware_buffers.specs.Laws.{a_state, no_state, lent_sized, state_written, state_kept}
use Rattle.firmware_keys.proofs.key_flag.Goals as goal

pub returns-then-not-is_record : goal.returns-then-not-is_record
returns-then-not-is_record c =
    record { number = sym (no _ _ (not_first (is_state c.args.state.now) (sym c.is_record.ensures ∙ c.if-not-is_record.true))); state = refl }

pub returns-then-state-ne25 : goal.returns-then-state-ne25
returns-then-state-ne25 c =
    record { number = sym (no _ _ (not_second (is_record c.args.numbers.now c.args.values.now) (no_state c.args.state.now c.if-state-ne25.true))); state = refl }

pub key_flag_lent-answer-requires : goal.key_flag_lent-answer-requires
key_flag_lent-answer-requires c =
    lent_sized c.args.numbers.now c.args.values.now (sym c.is_record.ensures ∙ c.if-not-is_record.false)

pub returns-then-number-eq0 : goal.returns-then-number-eq0
returns-then-number-eq0 c =
    record {
      number = c.key_flag_lent-answer.ensures.0 ∙ sym (yes _ _ (both (sym c.is_record.ensures ∙ c.if-not-is_record.false) (a_state c.args.state.now c.if-state-ne25.false)));
      state = c.write_state.ensures ∙ state_written c.key_flag_lent-answer.result.refusal c.args.state.now c.key_flag_lent-answer.result.state _ c.if-number-eq0.true (c.key_flag_lent-answer.ensures.1 ∙ ap (flagged c.key_flag_lent-answer.result.refusal c.args.f) c.read_state-s.ensures);
    }

pub returns-else-number-eq0 : goal.returns-else-number-eq0
returns-else-number-eq0 c =
    record {
      number = c.key_flag_lent-answer.ensures.0 ∙ sym (yes _ _ (both (sym c.is_record.ensures ∙ c.if-not-is_record.false) (a_state c.args.state.now c.if-state-ne25.false)));
      state = state_kept c.key_flag_lent-answer.result.refusal c.args.state.now _ c.if-number-eq0.false;
    }
