-- The interval lies where the layout says.
use mathlib.Core.Path.{sym, ap, ◌∙◌}
use lib.ListN.{get_or}
use Rattle.scan_refusals.specs.Laws.{due_at}
use Rattle.scan_refusals.specs.Lent.{runs_at}
use Rattle.record_layout.specs.Layout.{record_of}
use Rattle.record_fields.specs.Entries.{intervals_lie}
use Rattle.scan_table.proofs.is_due.Goals as goal

pub returns : goal.returns
returns c =
    λ vs. c.runs_at.ensures ∙ ap (λ l. runs_at (get_or l c.row_of.result 0) c.args.time) (c.intervals_of-intervals.ensures ∙ sym (intervals_lie c.args.numbers.now vs)) ∙ due_at (record_of c.args.numbers.now vs) c.args.table c.row_of.result c.args.time c.row_of.ensures.place
