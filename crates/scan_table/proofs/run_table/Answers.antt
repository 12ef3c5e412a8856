-- What lies in the arrays as the run begins and as it ends, by the laws of `Start`.
use mathlib.Core.Path.{ap, ◌∙◌}
use Rattle.spec_machine.specs.Values.{another}
use Rattle.spec_calls.specs.Stores.{Stores, stores, last_in}
use Rattle.spec_calls.specs.Scanned.{scan_in, place_of}
use Rattle.scan_state.specs.Parts.{noting}
use Rattle.scan_table.specs.Start.{leaves_with}
use Rattle.scan_table.specs.Scan.{runnable, tick}
use Rattle.record_layout.specs.Layout.{record_of}
use Rattle.scan_table.proofs.run_table.Goals as goal

pub run_lent-requires : goal.run_lent-requires
run_lent-requires c =
    ((runnable (record_of c.args.numbers.now c.args.values.now) (stores c.args.state c.args.locations.now c.args.sums.now c.args.counts.now c.args.ring.now) c.args.day c.args.time c.args.readings.now _ _ c.flags_at_start-flags.ensures c.numbers_at_start-store.ensures c.requires.0.0, c.requires.0.1), c.requires.1)

pub returns : goal.returns
returns c =
    let a : Stores = (stores c.args.state c.args.locations.now c.args.sums.now c.args.counts.now c.args.ring.now) in leaves_with (record_of c.args.numbers.now c.args.values.now) c.args.table c.args.day c.args.time c.args.readings.now a _ _ _ _ _ _ c.run_lent.new.store _ _ c.flags_at_start-flags.ensures c.numbers_at_start-store.ensures c.put_together.result (c.put_together.ensures ∙ ap (λ m. noting (place_of c.args.table) c.args.day m c.run_lent.new.flags c.run_lent.new.ports c.run_lent.new.store c.args.state) c.minute_of-minute.ensures.0) c.requires.0.0.taken.sound c.requires.0.0.taken.day_least (c.run_lent.ensures (scan_in c.args.table c.args.day c.args.time c.args.readings.now a) (tick c.args.table c.args.day c.args.time c.args.readings.now a c.another_minute-another.result (c.another_minute-another.ensures ∙ ap (another (last_in c.args.state c.args.table) c.args.day) c.minute_of-minute.ensures.0)))
