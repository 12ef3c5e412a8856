-- Each case is the command.
use mathlib.Core.Path.{sym}
use Rattle.scan_entry.proofs.carry.by_parts.Goals as goal

pub returns-in-Call : goal.returns-in-Call
returns-in-Call c =
    sym c.in-Call.is

pub returns-in-Raise : goal.returns-in-Raise
returns-in-Raise c =
    sym c.in-Raise.is

pub returns-in-Lower : goal.returns-in-Lower
returns-in-Lower c =
    sym c.in-Lower.is

pub returns-in-PortHigh : goal.returns-in-PortHigh
returns-in-PortHigh c =
    sym c.in-PortHigh.is

pub returns-in-PortLow : goal.returns-in-PortLow
returns-in-PortLow c =
    sym c.in-PortLow.is
