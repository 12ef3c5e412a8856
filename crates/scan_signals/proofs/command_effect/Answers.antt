-- Each arm is one case of `command_held`.
use mathlib.Core.Path.{ap, ◌∙◌}
use mathlib.Core.Bool.{Bool}
use mathlib.Core.List.{List}
use native.Mathlib.Omega.{arith}
use Rattle.spec_buffers.specs.Held.{held_of}
use Rattle.spec_buffers.specs.Effects.{command_held}
use Rattle.scan_signals.specs.Signals.{raise_in, lower_in, high_in, low_in, told}
use Rattle.scan_signals.proofs.command_effect.Goals as goal

pub raise-requires : goal.raise-requires
raise-requires c =
    record { flag = omega (arith, raise_in c.args.c _ c.in-Raise.is c.requires.range); four = c.requires.four }

pub lower-requires : goal.lower-requires
lower-requires c =
    omega (arith, lower_in c.args.c _ c.in-Lower.is c.requires.range)

pub set_port-requires : goal.set_port-requires
set_port-requires c =
    high_in c.args.c _ c.args.ports.now c.in-PortHigh.is c.requires.ports c.requires.range

pub set_port-requires-in-PortLow : goal.set_port-requires-in-PortLow
set_port-requires-in-PortLow c =
    low_in c.args.c _ c.args.ports.now c.in-PortLow.is c.requires.ports c.requires.range

pub returns-in-Stop : goal.returns-in-Stop
unfolding command_held
returns-in-Stop c =
    λ l u n g. told c.args.id c.args.c _ (held_of l u n c.args.flags.now c.args.ports.now g c.args.store.now) c.in-Stop.is

pub returns-in-Call : goal.returns-in-Call
unfolding command_held
returns-in-Call c =
    λ l u n g. told c.args.id c.args.c _ (held_of l u n c.args.flags.now c.args.ports.now g c.args.store.now) c.in-Call.is

pub returns-in-Raise : goal.returns-in-Raise
unfolding command_held
returns-in-Raise c =
    λ l u n g. c.raise.ensures l u n c.args.ports.now g ∙ told c.args.id c.args.c _ (held_of l u n c.args.flags.now c.args.ports.now g c.args.store.now) c.in-Raise.is

pub returns-in-Lower : goal.returns-in-Lower
unfolding command_held
returns-in-Lower c =
    λ l u n g. ap (λ (z : List Bool). held_of l u n z c.args.ports.now g c.args.store.now) c.lower.ensures ∙ told c.args.id c.args.c _ (held_of l u n c.args.flags.now c.args.ports.now g c.args.store.now) c.in-Lower.is

pub returns-in-Then : goal.returns-in-Then
unfolding command_held
returns-in-Then c =
    λ l u n g. told c.args.id c.args.c _ (held_of l u n c.args.flags.now c.args.ports.now g c.args.store.now) c.in-Then.is

pub returns-in-ExitIfTrue : goal.returns-in-ExitIfTrue
unfolding command_held
returns-in-ExitIfTrue c =
    λ l u n g. told c.args.id c.args.c _ (held_of l u n c.args.flags.now c.args.ports.now g c.args.store.now) c.in-ExitIfTrue.is

pub returns-in-ExitIfFalse : goal.returns-in-ExitIfFalse
unfolding command_held
returns-in-ExitIfFalse c =
    λ l u n g. told c.args.id c.args.c _ (held_of l u n c.args.flags.now c.args.ports.now g c.args.store.now) c.in-ExitIfFalse.is

pub returns-in-PortHigh : goal.returns-in-PortHigh
unfolding command_held
returns-in-PortHigh c =
    λ l u n g. ap (λ (z : List Bool). held_of l u n c.args.flags.now z g c.args.store.now) c.set_port.ensures ∙ told c.args.id c.args.c _ (held_of l u n c.args.flags.now c.args.ports.now g c.args.store.now) c.in-PortHigh.is

pub returns-in-PortLow : goal.returns-in-PortLow
unfolding command_held
returns-in-PortLow c =
    λ l u n g. ap (λ (z : List Bool). held_of l u n c.args.flags.now z g c.args.store.now) c.set_port-in-PortLow.ensures ∙ told c.args.id c.args.c _ (held_of l u n c.args.flags.now c.args.ports.now g c.args.store.now) c.in-PortLow.is
