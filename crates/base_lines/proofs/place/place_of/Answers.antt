-- Behind the program's line, the tables before and the table's lines before.
use mathlib.Core.Path.{ap, ◌∙◌}
use native.Mathlib.Omega.{arith}
use Rattle.std.proofs.Common.{rules}
use Prim.Native.Nat.{◌-◌}
use Rattle.base_lines.specs.Line.{behind_lines, behind_closes, from_place}
use Rattle.base_lines.proofs.Laws.{place_none}
use Rattle.base_lines.proofs.place.place_of.Goals as goal

pub returns-then-is_empty : goal.returns-then-is_empty
returns-then-is_empty c =
    record { is = place_none c.args.s.now c.args.t c.args.e (search rules); on = omega arith; within = omega arith }

pub returns : goal.returns
unfolding from_place
returns c =
    record { is = c.skip_lines.ensures.is ∙ ap (behind_lines c.args.e) (c.skip_closes-table.ensures.is ∙ ap (behind_closes 400 (c.args.t - 1)) c.next_line-first.ensures.0.is); on = omega arith; within = c.skip_lines.ensures.within }
