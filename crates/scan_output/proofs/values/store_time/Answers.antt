-- Each arm is one case of `time_out`.
use mathlib.Core.Path.{sym, ap, ◌∙◌}
use Rattle.spec_machine.specs.Output.{whole}
use Rattle.spec_buffers.specs.Held.{out_of}
use Rattle.spec_buffers.specs.Output.{write_out, time_out}
use Rattle.scan_output.specs.Ready.{room_written}
use Rattle.scan_output.proofs.values.store_time.Goals as goal

pub write_value-requires-in-DayHoursMinutes-2 : goal.write_value-requires-in-DayHoursMinutes-2
write_value-requires-in-DayHoursMinutes-2 c =
    room_written _ c.args.ring.now c.args.store.now _ _ c.requires c.write_value-in-DayHoursMinutes.auto.store c.write_value-in-DayHoursMinutes.ensures

pub returns-in-HoursMinutes : goal.returns-in-HoursMinutes
unfolding time_out
returns-in-HoursMinutes c =
    c.write_value.ensures ∙ ap (λ t. time_out t c.args.day c.args.clock (out_of c.args.ring.now c.args.store.now)) (sym c.in-HoursMinutes.is)

pub returns-in-Day : goal.returns-in-Day
unfolding time_out
returns-in-Day c =
    c.write_value-in-Day.ensures ∙ ap (λ t. time_out t c.args.day c.args.clock (out_of c.args.ring.now c.args.store.now)) (sym c.in-Day.is)

pub returns-in-DayHoursMinutes : goal.returns-in-DayHoursMinutes
unfolding time_out
returns-in-DayHoursMinutes c =
    c.write_value-in-DayHoursMinutes-2.ensures ∙ ap (write_out (whole c.args.clock)) c.write_value-in-DayHoursMinutes.ensures ∙ ap (λ t. time_out t c.args.day c.args.clock (out_of c.args.ring.now c.args.store.now)) (sym c.in-DayHoursMinutes.is)
