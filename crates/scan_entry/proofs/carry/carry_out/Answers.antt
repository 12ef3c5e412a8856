-- Each arm is one instruction's effect and move; the arms with a statistic or a command meet, and what they found is the entry's statistic, or its
-- command and test.
use mathlib.Core.Path.{refl, sym, ap, ◌∙◌}
use Rattle.base_program.specs.Reach.{numbers_from, locations}
use Rattle.base_program.specs.Flow.{flow}
use Rattle.spec_machine.specs.Limits.{spanned}
use Rattle.spec_buffers.specs.Held.{out_of}
use Rattle.spec_buffers.specs.Output.{sample_out, time_out}
use Rattle.spec_buffers.specs.Effects.{effect_held}
use Rattle.base_laws.specs.Tests.{apart}
use Rattle.scan_entry.specs.Needs.{one_asks, two_asks, three_asks, single_asks, differential_asks, sample_asks, room, command_asks, flag_in, interval_in}
use Rattle.scan_entry.specs.Arms.{store_done, measure_done, when_high, when_low, move_done, nowhere_now, average_found, total_found, maximum_found, minimum_found, samples_asked, samples_done, command_done, do_found, locations_found, fixed_found, flag_found, time_found}
use Rattle.scan_entry.proofs.carry.carry_out.Goals as goal
use Rattle.scan_entry.proofs.carry.carry_out.Goals.{in-Average, in-Total, in-Maximum, in-Minimum, in-Do, in-IfLocations, in-IfFixed, in-IfFlag, in-IfTime}

pub returns-in-End : goal.returns-in-End
unfolding effect_held flow
returns-in-End c =
    move_done c.requires.2 _ c.in-End.is _ _ _ (λ p x t e. refl) (λ b. c.end.ensures)

pub returns-in-Else : goal.returns-in-Else
unfolding effect_held flow
returns-in-Else c =
    move_done c.requires.2 _ c.in-Else.is _ _ _ (λ p x t e. refl) (λ b. c.else_reached.ensures)

pub location_of-at-requires : goal.location_of-at-requires
location_of-at-requires c =
    c.requires.0

pub measure_channels-requires : goal.measure_channels-requires
measure_channels-requires c =
    single_asks c.requires.2.0 _ _ _ _ _ _ c.in-MeasureSingle.is c.location_of-at.ensures

pub returns-in-MeasureSingle : goal.returns-in-MeasureSingle
unfolding effect_held flow
returns-in-MeasureSingle c =
    measure_done c.requires.2 _ c.in-MeasureSingle.is refl _ _ _ _ _ (λ p x t e. refl) c.location_of-at.ensures c.measure_channels.ensures

pub location_of-at-requires-in-MeasureDifferential : goal.location_of-at-requires-in-MeasureDifferential
location_of-at-requires-in-MeasureDifferential c =
    c.requires.0

pub measure_channels-requires-in-MeasureDifferential : goal.measure_channels-requires-in-MeasureDifferential
measure_channels-requires-in-MeasureDifferential c =
    differential_asks c.requires.2.0 _ _ _ _ _ _ c.in-MeasureDifferential.is c.location_of-at-in-MeasureDifferential.ensures

pub returns-in-MeasureDifferential : goal.returns-in-MeasureDifferential
unfolding effect_held flow
returns-in-MeasureDifferential c =
    measure_done c.requires.2 _ c.in-MeasureDifferential.is refl _ _ _ _ _ (λ p x t e. refl) c.location_of-at-in-MeasureDifferential.ensures c.measure_channels-in-MeasureDifferential.ensures

pub set_fixed-requires : goal.set_fixed-requires
unfolding spanned locations numbers_from
set_fixed-requires c =
    (c.requires.0, one_asks c.requires.2.0 _ c.in-SetFixed.is (λ w. w.0))

pub returns-in-SetFixed : goal.returns-in-SetFixed
unfolding effect_held flow
returns-in-SetFixed c =
    store_done c.requires.2 _ c.in-SetFixed.is refl _ _ _ (λ p x t e. refl) c.set_fixed.ensures

pub copy-requires : goal.copy-requires
unfolding spanned locations numbers_from
copy-requires c =
    (c.requires.0, two_asks c.requires.2.0 _ c.in-Copy.is (λ w. (w.0, w.1.0)))

pub returns-in-Copy : goal.returns-in-Copy
unfolding effect_held flow
returns-in-Copy c =
    store_done c.requires.2 _ c.in-Copy.is refl _ _ _ (λ p x t e. refl) c.copy.ensures

pub increment-requires : goal.increment-requires
unfolding spanned locations numbers_from
increment-requires c =
    (c.requires.0, one_asks c.requires.2.0 _ c.in-Increment.is (λ w. w.0))

pub returns-in-Increment : goal.returns-in-Increment
unfolding effect_held flow
returns-in-Increment c =
    store_done c.requires.2 _ c.in-Increment.is refl _ _ _ (λ p x t e. refl) c.increment.ensures

pub add-requires : goal.add-requires
unfolding spanned locations numbers_from
add-requires c =
    (c.requires.0, three_asks c.requires.2.0 _ c.in-Add.is (λ w. (w.0, w.1.0, w.1.1.0)))

pub returns-in-Add : goal.returns-in-Add
unfolding effect_held flow
returns-in-Add c =
    store_done c.requires.2 _ c.in-Add.is refl _ _ _ (λ p x t e. refl) c.add.ensures

pub add_fixed-requires : goal.add_fixed-requires
unfolding spanned locations numbers_from
add_fixed-requires c =
    (c.requires.0, two_asks c.requires.2.0 _ c.in-AddFixed.is (λ w. (w.0, w.1.0)))

pub returns-in-AddFixed : goal.returns-in-AddFixed
unfolding effect_held flow
returns-in-AddFixed c =
    store_done c.requires.2 _ c.in-AddFixed.is refl _ _ _ (λ p x t e. refl) c.add_fixed.ensures

pub subtract-requires : goal.subtract-requires
unfolding spanned locations numbers_from
subtract-requires c =
    (c.requires.0, three_asks c.requires.2.0 _ c.in-Subtract.is (λ w. (w.0, w.1.0, w.1.1.0)))

pub returns-in-Subtract : goal.returns-in-Subtract
unfolding effect_held flow
returns-in-Subtract c =
    store_done c.requires.2 _ c.in-Subtract.is refl _ _ _ (λ p x t e. refl) c.subtract.ensures

pub multiply-requires : goal.multiply-requires
unfolding spanned locations numbers_from
multiply-requires c =
    (c.requires.0, three_asks c.requires.2.0 _ c.in-Multiply.is (λ w. (w.0, w.1.0, w.1.1.0)))

pub returns-in-Multiply : goal.returns-in-Multiply
unfolding effect_held flow
returns-in-Multiply c =
    store_done c.requires.2 _ c.in-Multiply.is refl _ _ _ (λ p x t e. refl) c.multiply.ensures

pub multiply_fixed-requires : goal.multiply_fixed-requires
unfolding spanned locations numbers_from
multiply_fixed-requires c =
    (c.requires.0, two_asks c.requires.2.0 _ c.in-MultiplyFixed.is (λ w. (w.0, w.1.0)))

pub returns-in-MultiplyFixed : goal.returns-in-MultiplyFixed
unfolding effect_held flow
returns-in-MultiplyFixed c =
    store_done c.requires.2 _ c.in-MultiplyFixed.is refl _ _ _ (λ p x t e. refl) c.multiply_fixed.ensures

pub divide-requires : goal.divide-requires
unfolding spanned locations numbers_from
divide-requires c =
    (c.requires.0, three_asks c.requires.2.0 _ c.in-Divide.is (λ w. (w.0, w.1.0, w.1.1.0)))

pub returns-in-Divide : goal.returns-in-Divide
unfolding effect_held flow
returns-in-Divide c =
    store_done c.requires.2 _ c.in-Divide.is refl _ _ _ (λ p x t e. refl) c.divide.ensures

pub location_of-requires : goal.location_of-requires
location_of-requires c =
    c.requires.0

pub sample-requires : goal.sample-requires
sample-requires c =
    sample_asks c.requires.2.0 _ _ _ c.in-Sample.is c.location_of.ensures

pub returns-then-flags : goal.returns-then-flags
unfolding effect_held flow
returns-then-flags c =
    when_high c.requires.2 _ c.in-Sample.is refl _ c.if-flags.true (λ p x t e z. (_, refl, c.sample.ensures ∙ ap (λ n. sample_out c.args.l.now c.in-Sample.reps n (out_of c.args.ring.now c.args.store.now)) c.location_of.ensures))

pub returns-else-flags : goal.returns-else-flags
unfolding effect_held flow
returns-else-flags c =
    when_low c.requires.2 _ c.in-Sample.is refl c.if-flags.false (λ p x t e. (_, refl))

pub location_of-at-requires-in-Average : goal.location_of-at-requires-in-Average
location_of-at-requires-in-Average c =
    c.requires.0

pub location_of-at-requires-in-Total : goal.location_of-at-requires-in-Total
location_of-at-requires-in-Total c =
    c.requires.0

pub location_of-at-requires-in-Maximum : goal.location_of-at-requires-in-Maximum
location_of-at-requires-in-Maximum c =
    c.requires.0

pub location_of-at-requires-in-Minimum : goal.location_of-at-requires-in-Minimum
location_of-at-requires-in-Minimum c =
    c.requires.0

pub store_time-requires : goal.store_time-requires
store_time-requires c =
    room c.requires.2.0

pub returns-then-flags-2 : goal.returns-then-flags-2
unfolding effect_held flow
returns-then-flags-2 c =
    when_high c.requires.2 _ c.in-StoreTime.is refl _ c.if-flags-2.true (λ p x t e z. (_, refl, c.store_time.ensures ∙ ap (λ n. time_out c.in-StoreTime.code n c.args.clock (out_of c.args.ring.now c.args.store.now)) (sym z.today_is) ∙ ap (λ n. time_out c.in-StoreTime.code x.day n (out_of c.args.ring.now c.args.store.now)) (sym z.hour_is)))

pub returns-else-flags-2 : goal.returns-else-flags-2
unfolding effect_held flow
returns-else-flags-2 c =
    when_low c.requires.2 _ c.in-StoreTime.is refl c.if-flags-2.false (λ p x t e. (_, refl))

pub returns-in-Subroutine : goal.returns-in-Subroutine
unfolding effect_held flow
returns-in-Subroutine c =
    move_done c.requires.2 _ c.in-Subroutine.is _ _ _ (λ p x t e. refl) (λ b. nowhere_now c.requires.2)

pub returns-in-Loop : goal.returns-in-Loop
unfolding effect_held flow
returns-in-Loop c =
    move_done c.requires.2 _ c.in-Loop.is _ _ _ (λ p x t e. refl) (λ b. c.begin_loop.ensures)

pub compare_locations-test-requires : goal.compare_locations-test-requires
unfolding spanned locations numbers_from
compare_locations-test-requires c =
    (c.requires.0, two_asks c.requires.2.0 _ c.in-IfLocations.is (λ w. (w.0, w.1.0)))

pub compare_fixed-test-requires : goal.compare_fixed-test-requires
unfolding spanned locations numbers_from
compare_fixed-test-requires c =
    (c.requires.0, one_asks c.requires.2.0 _ c.in-IfFixed.is (λ w. w.0))

pub bounds-flags-at : goal.bounds-flags-at
bounds-flags-at c =
    flag_in c.requires.2.0 _ _ _ c.in-IfFlag.is

pub time_is-test-requires : goal.time_is-test-requires
time_is-test-requires c =
    interval_in c.requires.2.0 _ _ _ c.in-IfTime.is

pub statistic-requires : goal.statistic-requires
statistic-requires c =
    samples_asked c.requires.2 _ _ _ _
    (elim c.match-i.branch [
      | in-Average w ↦ average_found c.requires.2 _ _ _ _ _ w.in-Average.is w.kind-is w.reps-is (w.at-is ∙ w.location_of-at-in-Average.ensures)
      | in-Total w ↦ total_found c.requires.2 _ _ _ _ _ w.in-Total.is w.kind-is w.reps-is (w.at-is ∙ w.location_of-at-in-Total.ensures)
      | in-Maximum w ↦ maximum_found c.requires.2 _ _ _ _ _ w.in-Maximum.is w.kind-is w.reps-is (w.at-is ∙ w.location_of-at-in-Maximum.ensures)
      | in-Minimum w ↦ minimum_found c.requires.2 _ _ _ _ _ w.in-Minimum.is w.kind-is w.reps-is (w.at-is ∙ w.location_of-at-in-Minimum.ensures)
      | in-Do w ↦ absurd (apart (sym c.if-sampled.true ∙ w.sampled-is))
      | in-IfLocations w ↦ absurd (apart (sym c.if-sampled.true ∙ w.sampled-is))
      | in-IfFixed w ↦ absurd (apart (sym c.if-sampled.true ∙ w.sampled-is))
      | in-IfFlag w ↦ absurd (apart (sym c.if-sampled.true ∙ w.sampled-is))
      | in-IfTime w ↦ absurd (apart (sym c.if-sampled.true ∙ w.sampled-is))
    ])
    refl

pub returns-then-sampled : goal.returns-then-sampled
returns-then-sampled c =
    samples_done c.requires.2 _ _ _ _
    (elim c.match-i.branch [
      | in-Average w ↦ average_found c.requires.2 _ _ _ _ _ w.in-Average.is w.kind-is w.reps-is (w.at-is ∙ w.location_of-at-in-Average.ensures)
      | in-Total w ↦ total_found c.requires.2 _ _ _ _ _ w.in-Total.is w.kind-is w.reps-is (w.at-is ∙ w.location_of-at-in-Total.ensures)
      | in-Maximum w ↦ maximum_found c.requires.2 _ _ _ _ _ w.in-Maximum.is w.kind-is w.reps-is (w.at-is ∙ w.location_of-at-in-Maximum.ensures)
      | in-Minimum w ↦ minimum_found c.requires.2 _ _ _ _ _ w.in-Minimum.is w.kind-is w.reps-is (w.at-is ∙ w.location_of-at-in-Minimum.ensures)
      | in-Do w ↦ absurd (apart (sym c.if-sampled.true ∙ w.sampled-is))
      | in-IfLocations w ↦ absurd (apart (sym c.if-sampled.true ∙ w.sampled-is))
      | in-IfFixed w ↦ absurd (apart (sym c.if-sampled.true ∙ w.sampled-is))
      | in-IfFlag w ↦ absurd (apart (sym c.if-sampled.true ∙ w.sampled-is))
      | in-IfTime w ↦ absurd (apart (sym c.if-sampled.true ∙ w.sampled-is))
    ])
    refl _ (c.statistic.ensures c.args.ports.now)

pub command-requires : goal.command-requires
command-requires c = (
  command_asks c.requires.2.0 _
      (elim c.match-i.branch [
        | in-Average w ↦ absurd (apart (sym w.sampled-is ∙ c.if-sampled.false))
        | in-Total w ↦ absurd (apart (sym w.sampled-is ∙ c.if-sampled.false))
        | in-Maximum w ↦ absurd (apart (sym w.sampled-is ∙ c.if-sampled.false))
        | in-Minimum w ↦ absurd (apart (sym w.sampled-is ∙ c.if-sampled.false))
        | in-Do w ↦ (do_found c.requires.2 _ _ _ w.in-Do.is (w.command-is ∙ w.by_parts-command.ensures) w.test-is).1
        | in-IfLocations w ↦ (locations_found c.requires.2 _ _ _ _ _ _ w.in-IfLocations.is w.command-is (w.test-is ∙ w.compare_locations-test.ensures)).1
        | in-IfFixed w ↦ (fixed_found c.requires.2 _ _ _ _ _ _ w.in-IfFixed.is w.command-is (w.test-is ∙ w.compare_fixed-test.ensures)).1
        | in-IfFlag w ↦ (flag_found c.requires.2 _ _ _ _ _ w.in-IfFlag.is w.command-is w.test-is).1
        | in-IfTime w ↦ (time_found c.requires.2 _ _ _ _ _ w.in-IfTime.is w.command-is (w.test-is ∙ w.time_is-test.ensures)).1
      ]),
  c.requires.2.1,
)

pub returns : goal.returns
returns c =
    command_done c.requires.2 _ _
    (elim c.match-i.branch [
      | in-Average w ↦ absurd (apart (sym w.sampled-is ∙ c.if-sampled.false))
      | in-Total w ↦ absurd (apart (sym w.sampled-is ∙ c.if-sampled.false))
      | in-Maximum w ↦ absurd (apart (sym w.sampled-is ∙ c.if-sampled.false))
      | in-Minimum w ↦ absurd (apart (sym w.sampled-is ∙ c.if-sampled.false))
      | in-Do w ↦ (do_found c.requires.2 _ _ _ w.in-Do.is (w.command-is ∙ w.by_parts-command.ensures) w.test-is).0
      | in-IfLocations w ↦ (locations_found c.requires.2 _ _ _ _ _ _ w.in-IfLocations.is w.command-is (w.test-is ∙ w.compare_locations-test.ensures)).0
      | in-IfFixed w ↦ (fixed_found c.requires.2 _ _ _ _ _ _ w.in-IfFixed.is w.command-is (w.test-is ∙ w.compare_fixed-test.ensures)).0
      | in-IfFlag w ↦ (flag_found c.requires.2 _ _ _ _ _ w.in-IfFlag.is w.command-is w.test-is).0
      | in-IfTime w ↦ (time_found c.requires.2 _ _ _ _ _ w.in-IfTime.is w.command-is (w.test-is ∙ w.time_is-test.ensures)).0
    ])
    _ _ _ _ (c.command.ensures.0 c.args.l.now c.args.sums.now c.args.counts.now c.args.ring.now) c.command.ensures.1
