-- The sizes, and what keying answers for the record that was lent.
use mathlib.Core.Path.{refl, sym, ◌∙◌}
use Rattle.spec_calls.specs.Answers.{keyed}
use Rattle.base_laws.specs.Tests.{yes, no}
use Rattle.firmware_buffers.specs.Laws.{lent_sized}
use Rattle.firmware_keys.proofs.key_location.Goals as goal

pub returns-then-not-is_record : goal.returns-then-not-is_record
unfolding keyed
returns-then-not-is_record c =
    record { number = sym (no _ _ (sym c.is_record.ensures ∙ c.if-not-is_record.true)); locations = refl }

pub key_location_lent-requires : goal.key_location_lent-requires
key_location_lent-requires c =
    lent_sized c.args.numbers.now c.args.values.now (sym c.is_record.ensures ∙ c.if-not-is_record.false)

pub returns : goal.returns
returns c =
    record {
      number = c.key_location_lent.ensures.0 ∙ sym (yes _ _ (sym c.is_record.ensures ∙ c.if-not-is_record.false));
      locations = c.key_location_lent.ensures.1;
    }
