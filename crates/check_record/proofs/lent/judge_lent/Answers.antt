-- A fault of the first walk, or the verdict of the rest.
use mathlib.Core.Path.{refl, sym, ◌∙◌}
use Rattle.record_layout.specs.Layout.{record_of}
use Rattle.record_fields.specs.Entries.{locations_lie, sums_lie, lengths_lie}
use Rattle.check_walks.specs.Walked.{fault_found, fault_in_ranges}
use Rattle.check_record.specs.Walked.{ranged, ranged_short}
use Rattle.check_record.proofs.lent.judge_lent.Goals as goal

pub walk_ranges-ranges-requires : goal.walk_ranges-ranges-requires
walk_ranges-ranges-requires c =
    (c.requires.0, c.requires.1, c.requires.2, c.requires.3, refl)

pub returns-in-Fault : goal.returns-in-Fault
returns-in-Fault c =
    fault_found (record_of c.args.numbers.now c.args.values.now) _ _ _ _ _ _ (fault_in_ranges (record_of c.args.numbers.now c.args.values.now) c.walk_ranges-ranges.result _ _ _ c.walk_ranges-ranges.ensures.finding c.in-Fault.is)

pub judge_rest-requires : goal.judge_rest-requires
judge_rest-requires c =
    (record { places = c.walk_ranges-ranges.ensures.codes_kept; short = ranged_short (record_of c.args.numbers.now c.args.values.now) _ _ _ c.walk_ranges-ranges.result c.walk_ranges-ranges.ensures c.in_default.is c.lengths_of.result (c.lengths_of.ensures ∙ sym (lengths_lie c.args.numbers.now c.args.values.now)) }, c.walk_ranges-ranges.ensures.sums_kept, c.walk_ranges-ranges.ensures.needs_kept, c.requires.4, c.requires.5)

pub returns : goal.returns
returns c =
    c.judge_rest.ensures (record_of c.args.numbers.now c.args.values.now) (ranged (record_of c.args.numbers.now c.args.values.now) _ _ _ c.walk_ranges-ranges.result c.walk_ranges-ranges.ensures c.in_default.is c.lengths_of.result (c.lengths_of.ensures ∙ sym (lengths_lie c.args.numbers.now c.args.values.now)) _ _ (sym (locations_lie c.args.numbers.now c.args.values.now)) (sym (sums_lie c.args.numbers.now c.args.values.now)))
