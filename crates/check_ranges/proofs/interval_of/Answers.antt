-- The row picks the case.
use mathlib.Core.Path.{sym, ap, ◌∙◌}
use mathlib.Core.List.{[], ◌∷◌}
use Rattle.record_layout.specs.Layout.{interval_of}
use Rattle.check_ranges.specs.Walked.{interval_at}
use Rattle.check_ranges.proofs.Read.{no_interval}
use Rattle.check_ranges.proofs.interval_of.Goals as goal

pub returns-in-0 : goal.returns-in-0
returns-in-0 c =
    c.interval_at.ensures ∙ ap (interval_at (interval_of c.args.numbers.now 2 ∷ interval_of c.args.numbers.now 4 ∷ [])) (sym c.in-0.is)

pub returns-in-1 : goal.returns-in-1
returns-in-1 c =
    c.interval_at-in-1.ensures ∙ ap (interval_at (interval_of c.args.numbers.now 2 ∷ interval_of c.args.numbers.now 4 ∷ [])) (sym c.in-1.is)

pub returns-in_default : goal.returns-in_default
returns-in_default c =
    no_interval (interval_of c.args.numbers.now 2 ∷ interval_of c.args.numbers.now 4 ∷ []) c.args.t c.in_default.in_default-own.rest.0.1 c.in_default.in_default-own.rest.1
