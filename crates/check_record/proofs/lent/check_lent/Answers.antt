-- The verdict of `judge_lent`.
use mathlib.Core.Path.{refl}
use Rattle.record_codes.specs.Loaded.{zero_at}
use Rattle.check_record.proofs.lent.check_lent.Goals as goal

pub judge_lent-requires : goal.judge_lent-requires
judge_lent-requires c =
    (c.requires.0, c.requires.1, refl, refl, refl, λ k. zero_at 256 k)

pub returns : goal.returns
returns c =
    c.judge_lent.ensures.verdict
