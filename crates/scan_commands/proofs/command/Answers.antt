-- A Then Do sets nothing; any other command is carried out, then it leads on.
use Rattle.base_program.specs.Flow.{command_flow}
use Rattle.spec_buffers.specs.Held.{held_of}
use Rattle.scan_marks.specs.Marks.{stack}
use Rattle.scan_commands.specs.Laws.{then_sets_nothing, leads_as}
use Rattle.scan_commands.proofs.command.Goals as goal

pub then_do-requires : goal.then_do-requires
then_do-requires c =
    (c.requires.1.ready, (c.requires.1.ends_in, c.requires.1.elses_in))

pub returns-in-Then : goal.returns-in-Then
unfolding command_flow
returns-in-Then c =
    (λ l u n g. then_sets_nothing c.args.test c.args.id c.in-Then.is (held_of l u n c.args.flags.now c.args.ports.now g c.args.store.now), leads_as c.args.ends.now c.args.elses.now c.args.subs.now c.args.home c.args.pc (stack c.args.marks.now c.args.top.now) c.args.test c.in-Then.is c.then_do.ensures)

pub command_if-requires : goal.command_if-requires
command_if-requires c =
    c.requires.0

pub command_move-requires : goal.command_move-requires
command_move-requires c =
    c.requires.1

pub returns : goal.returns
returns c =
    (c.command_if.ensures, c.command_move.ensures)
