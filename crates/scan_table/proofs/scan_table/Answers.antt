-- By whether the table is due.
use mathlib.Core.Path.{sym, ◌∙◌}
use Rattle.spec_calls.specs.Stores.{stores}
use Rattle.scan_table.specs.Scan.{scanned_not, scanned_due}
use Rattle.record_layout.specs.Layout.{record_of}
use Rattle.scan_table.proofs.scan_table.Goals as goal

pub returns-then-not-is_due : goal.returns-then-not-is_due
returns-then-not-is_due c =
    scanned_not (record_of c.args.numbers.now c.args.values.now) c.args.table c.args.day c.args.time c.args.readings.now (stores c.args.state c.args.locations.now c.args.sums.now c.args.counts.now c.args.ring.now) (sym (c.is_due.ensures c.args.values.now) ∙ c.if-not-is_due.true)

pub returns : goal.returns
returns c =
    scanned_due (record_of c.args.numbers.now c.args.values.now) c.args.table c.args.day c.args.time c.args.readings.now (stores c.args.state c.args.locations.now c.args.sums.now c.args.counts.now c.args.ring.now) (sym (c.is_due.ensures c.args.values.now) ∙ c.if-not-is_due.false) _ c.run_table.ensures
