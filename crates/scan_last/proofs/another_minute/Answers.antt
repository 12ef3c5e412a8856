-- By the day of the table's last scan.
use mathlib.Core.Path.{sym, ap, ◌∙◌}
use mathlib.Core.Bool.{not}
use mathlib.Core.Option.{Option}
use borrow.Author.Tests.{ne_eqb}
use lib.ListN.{get_or}
use Rattle.spec_machine.specs.Memory.{Moment}
use Rattle.spec_machine.specs.Values.{another}
use Rattle.scan_last.specs.Last.{last_at, never, that_day, other_day}
use Rattle.scan_last.proofs.another_minute.Goals as goal

pub returns-then-last-eq0 : goal.returns-then-last-eq0
returns-then-last-eq0 c =
    never _ (get_or c.args.s.minutes c.row_of-k.result 0) c.args.day c.args.minute c.if-last-eq0.true
    ∙ sym (ap (λ (o : Option Moment). another o c.args.day c.args.minute) (last_at c.args.s c.args.t c.row_of-k.result c.row_of-k.ensures.place))

pub returns-then-last-day : goal.returns-then-last-day
returns-then-last-day c =
    ap not (ne_eqb (get_or c.args.s.days c.row_of-k.result 0) c.args.day c.if-last-day.true)
    ∙ other_day _ (get_or c.args.s.minutes c.row_of-k.result 0) c.args.day c.args.minute c.if-last-eq0.false c.if-last-day.true
    ∙ sym (ap (λ (o : Option Moment). another o c.args.day c.args.minute) (last_at c.args.s c.args.t c.row_of-k.result c.row_of-k.ensures.place))

pub returns-else-last-day : goal.returns-else-last-day
returns-else-last-day c =
    that_day _ (get_or c.args.s.minutes c.row_of-k.result 0) c.args.day c.args.minute c.if-last-eq0.false c.if-last-day.false
    ∙ sym (ap (λ (o : Option Moment). another o c.args.day c.args.minute) (last_at c.args.s c.args.t c.row_of-k.result c.row_of-k.ensures.place))
