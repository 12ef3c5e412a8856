-- By the test.
use mathlib.Core.Path.{sym, ap, ◌∙◌}
use mathlib.Core.Bool.{cond}
use Rattle.spec_buffers.specs.Held.{held_of}
use Rattle.spec_buffers.specs.Effects.{command_held}
use Rattle.scan_commands.proofs.command_if.Goals as goal

pub returns-then-test : goal.returns-then-test
returns-then-test c =
    λ l u n g. c.command_effect.ensures l u n g ∙ sym (ap (λ b. cond b (command_held c.args.id c.args.c (held_of l u n c.args.flags.now c.args.ports.now g c.args.store.now)) (held_of l u n c.args.flags.now c.args.ports.now g c.args.store.now)) c.if-test.true)

pub returns-else-test : goal.returns-else-test
returns-else-test c =
    λ l u n g. sym (ap (λ b. cond b (command_held c.args.id c.args.c (held_of l u n c.args.flags.now c.args.ports.now g c.args.store.now)) (held_of l u n c.args.flags.now c.args.ports.now g c.args.store.now)) c.if-test.false)
