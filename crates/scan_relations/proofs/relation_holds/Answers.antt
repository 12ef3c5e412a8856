-- Each arm is one case of `holds`.
use mathlib.Core.Path.{sym, ap}
use Rattle.spec_machine.specs.Values.{holds}
use Rattle.scan_relations.proofs.relation_holds.Goals as goal

pub returns-in-Equal : goal.returns-in-Equal
unfolding holds
returns-in-Equal c =
    ap (λ r. holds r c.args.x c.args.y) (sym c.in-Equal.is)

pub returns-in-NotEqual : goal.returns-in-NotEqual
unfolding holds
returns-in-NotEqual c =
    ap (λ r. holds r c.args.x c.args.y) (sym c.in-NotEqual.is)

pub returns-in-AtLeast : goal.returns-in-AtLeast
unfolding holds
returns-in-AtLeast c =
    ap (λ r. holds r c.args.x c.args.y) (sym c.in-AtLeast.is)

pub returns-in-Below : goal.returns-in-Below
unfolding holds
returns-in-Below c =
    ap (λ r. holds r c.args.x c.args.y) (sym c.in-Below.is)
