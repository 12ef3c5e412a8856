-- By its verdict.
use mathlib.Core.Path.{◌∙◌}
use Rattle.record_layout.specs.Layout.{record_of}
use Rattle.logger_keyed.specs.Keys.{flag_told}
use Rattle.logger_keys.proofs.key_flag_lent.Goals as goal

pub check_lent-verdict-requires : goal.check_lent-verdict-requires
check_lent-verdict-requires c =
    (c.requires.numbers, c.requires.values)

pub returns : goal.returns
returns c =
    (c.flag_judged.ensures.0 ∙ flag_told (record_of c.args.numbers.now c.args.values.now) _ c.args.f c.check_lent-verdict.ensures, c.flag_judged.ensures.1)
