-- The refusals in order; a scan that none meets is that of `scan_table`.
use mathlib.Core.Path.{refl, sym, ap, ◌∙◌}
use native.Mathlib.Omega.{arith}
use Rattle.spec_calls.specs.Stores.{stores}
use Rattle.scan_refusals.specs.declared.Sizes.{Sizes}
use Rattle.scan_refusals.specs.Lent.{lent_refusal}
use Rattle.scan_refusals.specs.Laws.{taken}
use Rattle.record_codes.specs.Loaded.{zero_at}
use Rattle.logger_scan.specs.Scan.{loaded, answer_refused, answer_lent, answer_taken, answer_is}
use lib.ListN.{get_or}
use Rattle.record_layout.specs.Layout.{record_of}
use Rattle.logger_scan.proofs.scan_lent.Goals as goal

pub judge_lent-verdict-requires : goal.judge_lent-verdict-requires
judge_lent-verdict-requires c =
    (c.requires.numbers, c.requires.values, refl, refl, refl, λ k. zero_at 256 k)

pub returns-in_default : goal.returns-in_default
returns-in_default c =
    answer_is (record_of c.args.numbers.now c.args.values.now) c.args.table c.args.day c.args.time c.args.readings.now (stores c.args.state c.args.locations.now c.args.sums.now c.args.counts.now c.args.ring.now) c.answer_with.result 30 c.args.state c.args.locations.now c.args.sums.now c.args.counts.now c.args.ring.now c.answer_with.ensures (answer_refused (record_of c.args.numbers.now c.args.values.now) c.args.table c.args.day c.args.time c.args.readings.now (stores c.args.state c.args.locations.now c.args.sums.now c.args.counts.now c.args.ring.now) _ _ _ (sym c.judge_lent-verdict.ensures.verdict ∙ c.in_default.is))

pub returns-in-Err : goal.returns-in-Err
unfolding record_of
returns-in-Err c =
    answer_is (record_of c.args.numbers.now c.args.values.now) c.args.table c.args.day c.args.time c.args.readings.now (stores c.args.state c.args.locations.now c.args.sums.now c.args.counts.now c.args.ring.now) c.answer_with-in-Err.result c.in-Err.number c.args.state c.args.locations.now c.args.sums.now c.args.counts.now c.args.ring.now c.answer_with-in-Err.ensures (answer_lent (record_of c.args.numbers.now c.args.values.now) c.args.table c.args.day c.args.time c.args.readings.now (stores c.args.state c.args.locations.now c.args.sums.now c.args.counts.now c.args.ring.now) _ _ (sym c.judge_lent-verdict.ensures.verdict ∙ c.in-Pass.is) c.in-Err.number (c.in-Err.ensures.0 ∙ ap (λ (n : Sizes). lent_refusal (get_or c.args.numbers.now 0 0) (get_or c.args.numbers.now 1 0) n c.args.state c.args.counts.now c.args.day c.args.time) c.lent_sizes-n.ensures) c.in-Err.ensures.1)

pub overflow_cast-day : goal.overflow_cast-day
unfolding record_of
overflow_cast-day c =
    let t = taken (record_of c.args.numbers.now c.args.values.now) (stores c.args.state c.args.locations.now c.args.sums.now c.args.counts.now c.args.ring.now) c.args.day c.args.time c.args.readings.now (record { flags = omega arith; ports = omega arith; days = omega arith; minutes = omega arith }) (sym (ap (λ (n : Sizes). lent_refusal (get_or c.args.numbers.now 0 0) (get_or c.args.numbers.now 1 0) n c.args.state c.args.counts.now c.args.day c.args.time) c.lent_sizes-n.ensures) ∙ c.in_default-judged.ensures) in omega (arith, t.day_most)

pub scan_table-after-requires : goal.scan_table-after-requires
unfolding record_of
scan_table-after-requires c = (
  (
    record { first = _; second = _; passed = (sym c.judge_lent-verdict.ensures.verdict ∙ c.in-Pass.is); taken = taken (record_of c.args.numbers.now c.args.values.now) (stores c.args.state c.args.locations.now c.args.sums.now c.args.counts.now c.args.ring.now) c.args.day c.args.time c.args.readings.now (record { flags = omega arith; ports = omega arith; days = omega arith; minutes = omega arith }) (sym (ap (λ (n : Sizes). lent_refusal (get_or c.args.numbers.now 0 0) (get_or c.args.numbers.now 1 0) n c.args.state c.args.counts.now c.args.day c.args.time) c.lent_sizes-n.ensures) ∙ c.in_default-judged.ensures) },
    loaded (record_of c.args.numbers.now c.args.values.now) _ _ _ (c.judge_lent-verdict.ensures.passed _ _ c.in-Pass.is),
  ),
  c.requires,
)

pub returns : goal.returns
unfolding record_of
returns c =
    answer_is (record_of c.args.numbers.now c.args.values.now) c.args.table c.args.day c.args.time c.args.readings.now (stores c.args.state c.args.locations.now c.args.sums.now c.args.counts.now c.args.ring.now) c.answer_with-2.result 0 c.scan_table-after.result _ _ _ _ c.answer_with-2.ensures (answer_taken (record_of c.args.numbers.now c.args.values.now) c.args.table c.args.day c.args.time c.args.readings.now (stores c.args.state c.args.locations.now c.args.sums.now c.args.counts.now c.args.ring.now) _ _ (sym c.judge_lent-verdict.ensures.verdict ∙ c.in-Pass.is) 0 (sym (sym (ap (λ (n : Sizes). lent_refusal (get_or c.args.numbers.now 0 0) (get_or c.args.numbers.now 1 0) n c.args.state c.args.counts.now c.args.day c.args.time) c.lent_sizes-n.ensures) ∙ c.in_default-judged.ensures)) refl _ c.scan_table-after.ensures)
