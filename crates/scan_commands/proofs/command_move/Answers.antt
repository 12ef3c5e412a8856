-- Each arm is one kind of `move_to`.
use Rattle.base_program.specs.Flow.{command_flow}
use Rattle.scan_marks.specs.Marks.{stack}
use Rattle.scan_commands.specs.Laws.{stays, leads_as, same_true, same_false, tested_as}
use Rattle.scan_commands.proofs.command_move.Goals as goal

pub returns-in-Stop : goal.returns-in-Stop
unfolding command_flow
returns-in-Stop c =
    leads_as c.args.ends.now c.args.elses.now c.args.subs.now c.args.home c.args.pc (stack c.args.marks.now c.args.top.now) c.args.test c.in-Stop.is c.stop.ensures

pub returns-in-Call : goal.returns-in-Call
unfolding command_flow
returns-in-Call c =
    leads_as c.args.ends.now c.args.elses.now c.args.subs.now c.args.home c.args.pc (stack c.args.marks.now c.args.top.now) c.args.test c.in-Call.is c.call.ensures

pub returns-in-Raise : goal.returns-in-Raise
unfolding command_flow
returns-in-Raise c =
    leads_as c.args.ends.now c.args.elses.now c.args.subs.now c.args.home c.args.pc (stack c.args.marks.now c.args.top.now) c.args.test c.in-Raise.is (stays c.requires)

pub returns-in-Lower : goal.returns-in-Lower
unfolding command_flow
returns-in-Lower c =
    leads_as c.args.ends.now c.args.elses.now c.args.subs.now c.args.home c.args.pc (stack c.args.marks.now c.args.top.now) c.args.test c.in-Lower.is (stays c.requires)

pub returns-in-Then : goal.returns-in-Then
unfolding command_flow
returns-in-Then c =
    leads_as c.args.ends.now c.args.elses.now c.args.subs.now c.args.home c.args.pc (stack c.args.marks.now c.args.top.now) c.args.test c.in-Then.is c.then_do.ensures

pub returns-in-ExitIfTrue : goal.returns-in-ExitIfTrue
unfolding command_flow
returns-in-ExitIfTrue c =
    leads_as c.args.ends.now c.args.elses.now c.args.subs.now c.args.home c.args.pc (stack c.args.marks.now c.args.top.now) c.args.test c.in-ExitIfTrue.is (tested_as c.args.ends.now c.args.pc (stack c.args.marks.now c.args.top.now) (same_true c.args.test) c.exit_loop.ensures)

pub returns-in-ExitIfFalse : goal.returns-in-ExitIfFalse
unfolding command_flow
returns-in-ExitIfFalse c =
    leads_as c.args.ends.now c.args.elses.now c.args.subs.now c.args.home c.args.pc (stack c.args.marks.now c.args.top.now) c.args.test c.in-ExitIfFalse.is (tested_as c.args.ends.now c.args.pc (stack c.args.marks.now c.args.top.now) (same_false c.args.test) c.exit_loop-in-ExitIfFalse.ensures)

pub returns-in-PortHigh : goal.returns-in-PortHigh
unfolding command_flow
returns-in-PortHigh c =
    leads_as c.args.ends.now c.args.elses.now c.args.subs.now c.args.home c.args.pc (stack c.args.marks.now c.args.top.now) c.args.test c.in-PortHigh.is (stays c.requires)

pub returns-in-PortLow : goal.returns-in-PortLow
unfolding command_flow
returns-in-PortLow c =
    leads_as c.args.ends.now c.args.elses.now c.args.subs.now c.args.home c.args.pc (stack c.args.marks.now c.args.top.now) c.args.test c.in-PortLow.is (stays c.requires)
