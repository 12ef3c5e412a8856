-- Each turn is one step of `Read`, and each way out is a fault there.
use Rattle.record_layout.specs.Layout.{record_of}
use Rattle.check_ranges.proofs.Steps.{AtTable, AtEntry}
use Rattle.check_ranges.proofs.walk_ranges.Given as goal

abbrev pub invariant-tables : goal.invariant-tables
invariant-tables l = AtTable (record_of l.numbers l.values) l.codes l.sums l.needs l.t

abbrev pub invariant-entries : goal.invariant-entries
invariant-entries l = AtEntry (record_of l.numbers l.values) l.codes l.sums l.needs l.t l.e
