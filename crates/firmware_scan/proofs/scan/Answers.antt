-- The sizes, and what the scan answers for the record that was lent, the state that was read and the tick.
use mathlib.Core.Path.{sym, ap, ◌∙◌}
use mathlib.Core.Bool.{◌&&◌}
use Rattle.base_laws.specs.Tests.{both, not_first, not_second}
use Rattle.base_program.specs.declared.Timed.{Timed}
use Rattle.record_layout.specs.Layout.{record_of}
use Rattle.spec_machine.specs.Run.{due}
use Rattle.firmware_state.specs.State.{state_of}
use Rattle.firmware_buffers.specs.Sizes.{is_record, is_state, timed_of, tick_day}
use Rattle.firmware_scan.specs.Scan.{lent}
use Rattle.firmware_buffers.specs.Laws.{sized, a_state, no_state, lent_sized}
use Rattle.firmware_scan.proofs.Answered.{scan_refused, scan_taken, scan_of_lem, scan_kept, scan_not_due, scan_written}
use Rattle.firmware_scan.proofs.scan.Goals as goal

pub returns-then-not-is_record : goal.returns-then-not-is_record
returns-then-not-is_record c =
    scan_refused (is_record c.args.numbers.now c.args.values.now && is_state c.args.state.now) (record_of c.args.numbers.now c.args.values.now) (timed_of c.args.table) (tick_day c.args.table c.args.day) c.args.time c.args.readings.now (lent c.args.state.now c.args.locations.now c.args.sums.now c.args.counts.now c.args.ring.now) (not_first (is_state c.args.state.now) (sym c.is_record.ensures ∙ c.if-not-is_record.true))

pub returns-then-state-ne25 : goal.returns-then-state-ne25
returns-then-state-ne25 c =
    scan_refused (is_record c.args.numbers.now c.args.values.now && is_state c.args.state.now) (record_of c.args.numbers.now c.args.values.now) (timed_of c.args.table) (tick_day c.args.table c.args.day) c.args.time c.args.readings.now (lent c.args.state.now c.args.locations.now c.args.sums.now c.args.counts.now c.args.ring.now) (not_second (is_record c.args.numbers.now c.args.values.now) (no_state c.args.state.now c.if-state-ne25.true))

pub scan_lent-answer-requires : goal.scan_lent-answer-requires
scan_lent-answer-requires c =
    lent_sized c.args.numbers.now c.args.values.now (sym c.is_record.ensures ∙ c.if-not-is_record.false)

pub returns-then-number-ne0 : goal.returns-then-number-ne0
returns-then-number-ne0 c =
    scan_taken (is_record c.args.numbers.now c.args.values.now && is_state c.args.state.now) (record_of c.args.numbers.now c.args.values.now) (timed_of c.args.table) (tick_day c.args.table c.args.day) c.args.time c.args.readings.now (lent c.args.state.now c.args.locations.now c.args.sums.now c.args.counts.now c.args.ring.now) _ _ (both (sym c.is_record.ensures ∙ c.if-not-is_record.false) (a_state c.args.state.now c.if-state-ne25.false))
    record {
      after = c.scan_lent-answer.result.state;
      answers = scan_of_lem (record_of c.args.numbers.now c.args.values.now) c.timed_of-t.result (timed_of c.args.table) c.read_state-s.result (state_of c.args.state.now) c.tick_day-d.result (tick_day c.args.table c.args.day) c.args.time c.args.readings.now c.args.locations.now c.args.sums.now c.args.counts.now c.args.ring.now c.scan_lent-answer.result.refusal _ c.timed_of-t.ensures c.read_state-s.ensures c.tick_day-d.ensures c.scan_lent-answer.ensures;
      state = scan_kept c.args.state.now c.scan_lent-answer.result.state c.scan_lent-answer.result.refusal (due (record_of c.args.numbers.now c.args.values.now) (timed_of c.args.table) c.args.time) c.if-number-ne0.true;
    }

pub is_due-requires : goal.is_due-requires
is_due-requires c =
    (sized c.args.numbers.now c.args.values.now (sym c.is_record.ensures ∙ c.if-not-is_record.false)).0

pub returns-then-is_due : goal.returns-then-is_due
returns-then-is_due c =
    scan_taken (is_record c.args.numbers.now c.args.values.now && is_state c.args.state.now) (record_of c.args.numbers.now c.args.values.now) (timed_of c.args.table) (tick_day c.args.table c.args.day) c.args.time c.args.readings.now (lent c.args.state.now c.args.locations.now c.args.sums.now c.args.counts.now c.args.ring.now) _ _ (both (sym c.is_record.ensures ∙ c.if-not-is_record.false) (a_state c.args.state.now c.if-state-ne25.false))
    record {
      after = c.scan_lent-answer.result.state;
      answers = scan_of_lem (record_of c.args.numbers.now c.args.values.now) c.timed_of-t.result (timed_of c.args.table) c.read_state-s.result (state_of c.args.state.now) c.tick_day-d.result (tick_day c.args.table c.args.day) c.args.time c.args.readings.now c.args.locations.now c.args.sums.now c.args.counts.now c.args.ring.now c.scan_lent-answer.result.refusal _ c.timed_of-t.ensures c.read_state-s.ensures c.tick_day-d.ensures c.scan_lent-answer.ensures;
      state = c.write_state.ensures ∙ scan_written c.args.state.now c.scan_lent-answer.result.state c.scan_lent-answer.result.refusal (due (record_of c.args.numbers.now c.args.values.now) (timed_of c.args.table) c.args.time) c.if-number-ne0.false (sym (ap (λ (t : Timed). due (record_of c.args.numbers.now c.args.values.now) t c.args.time) c.timed_of-t.ensures) ∙ sym (c.is_due.ensures c.args.values.now) ∙ c.if-is_due.true);
    }

pub returns-else-is_due : goal.returns-else-is_due
returns-else-is_due c =
    scan_taken (is_record c.args.numbers.now c.args.values.now && is_state c.args.state.now) (record_of c.args.numbers.now c.args.values.now) (timed_of c.args.table) (tick_day c.args.table c.args.day) c.args.time c.args.readings.now (lent c.args.state.now c.args.locations.now c.args.sums.now c.args.counts.now c.args.ring.now) _ _ (both (sym c.is_record.ensures ∙ c.if-not-is_record.false) (a_state c.args.state.now c.if-state-ne25.false))
    record {
      after = c.scan_lent-answer.result.state;
      answers = scan_of_lem (record_of c.args.numbers.now c.args.values.now) c.timed_of-t.result (timed_of c.args.table) c.read_state-s.result (state_of c.args.state.now) c.tick_day-d.result (tick_day c.args.table c.args.day) c.args.time c.args.readings.now c.args.locations.now c.args.sums.now c.args.counts.now c.args.ring.now c.scan_lent-answer.result.refusal _ c.timed_of-t.ensures c.read_state-s.ensures c.tick_day-d.ensures c.scan_lent-answer.ensures;
      state = scan_not_due c.args.state.now c.scan_lent-answer.result.state c.scan_lent-answer.result.refusal (due (record_of c.args.numbers.now c.args.values.now) (timed_of c.args.table) c.args.time) c.if-number-ne0.false (sym (ap (λ (t : Timed). due (record_of c.args.numbers.now c.args.values.now) t c.args.time) c.timed_of-t.ensures) ∙ sym (c.is_due.ensures c.args.values.now) ∙ c.if-is_due.false);
    }
