-- The targets are found, the numbers of the tick are its own, and the loop does the rest.
use mathlib.Core.Path.{refl, sym, ap, ◌∙◌, subst}
use Prim.Native.Nat.{◌+◌, ◌*◌, min}
use native.Mathlib.Omega.{arith}
use lib.ListN.{get_or}
use Rattle.scan_targets.specs.Laws.{subs_told}
use Rattle.record_codes.specs.Loaded.{Sizes, LengthsAre}
use Rattle.record_layout.specs.Layout.{record_of}
use Rattle.record_fields.specs.Entries.{lengths_lie, slots_full}
use Rattle.scan_run.specs.Prepare.{zeros, ticks_of, starts_of, asks_of}
use Rattle.scan_run.proofs.run_lent.Goals as goal

pub fill_ways-requires : goal.fill_ways-requires
fill_ways-requires c =
    (subst (Sizes c.args.codes.now) (sym (c.lengths_of-lengths.ensures ∙ sym (lengths_lie c.args.numbers.now c.args.values.now))) c.requires.0.1.codes_sized, ((refl, λ k. zeros 384 k), (refl, λ k. zeros 384 k)))

pub fill_firsts-requires : goal.fill_firsts-requires
fill_firsts-requires c =
    (subst (Sizes c.args.taken.now) (sym (c.lengths_of-lengths.ensures ∙ sym (lengths_lie c.args.numbers.now c.args.values.now))) c.requires.0.1.taken_sized, refl)

pub overflow_add-home : goal.overflow_add-home
overflow_add-home c =
    omega (arith, c.row_of-row.ensures.small, c.entries_in_use.ensures)

pub minute_of-minute-requires : goal.minute_of-minute-requires
minute_of-minute-requires c =
    c.requires.0.0.time_in

pub run_slots-requires : goal.run_slots-requires
run_slots-requires c =
    ((asks_of c.requires.0.0 (slots_full c.args.numbers.now c.args.values.now) c.args.table c.args.another _ _ _ _ (record { told = c.fill_ways.ensures (record_of c.args.numbers.now c.args.values.now) (record { lengths_are = subst (LengthsAre (record_of c.args.numbers.now c.args.values.now)) (sym (c.lengths_of-lengths.ensures ∙ sym (lengths_lie c.args.numbers.now c.args.values.now))) c.requires.0.1.lengths_are; flows_are = c.requires.0.1.flows_are }); places = subs_told (record_of c.args.numbers.now c.args.values.now) _ c.requires.0.1.subs_are; sums = c.fill_firsts.ensures (record_of c.args.numbers.now c.args.values.now) (record { lengths_are = subst (LengthsAre (record_of c.args.numbers.now c.args.values.now)) (sym (c.lengths_of-lengths.ensures ∙ sym (lengths_lie c.args.numbers.now c.args.values.now))) c.requires.0.1.lengths_are; sums_are = c.requires.0.1.sums_are }); ends_long = c.fill_ways.auto.ends; elses_long = c.fill_ways.auto.elses; subs_long = c.requires.0.1.subs_long; firsts_long = c.fill_firsts.auto.firsts }) c.row_of-row.result _ _ c.clock_of-clock.result c.minute_of-minute.result c.row_of-row.ensures.row refl (ap (λ n. 128 * c.row_of-row.result + n) (c.entries_in_use.ensures ∙ ap (λ l. min (get_or l c.row_of-row.result 0) 99) (c.lengths_of-lengths.ensures ∙ sym (lengths_lie c.args.numbers.now c.args.values.now)))) c.minute_of-minute.ensures.0 c.clock_of-clock.ensures, starts_of c.requires.0.0 _ refl refl), c.requires.1)

pub returns : goal.returns
returns c =
    λ x k. c.run_slots.ensures c.args.table x (ap (λ n. 128 * n) c.row_of-row.ensures.row) (ticks_of x c.args.table c.args.day c.args.time c.clock_of-clock.result c.minute_of-minute.result c.args.another _ k c.minute_of-minute.ensures.0 c.clock_of-clock.ensures)
