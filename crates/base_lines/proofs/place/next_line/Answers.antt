-- Behind the line's byte 10, or where s ends.
use native.Mathlib.Omega.{arith}
use Rattle.base_lines.proofs.Laws.{behind_at, behind_none}
use lib.ListN.{drop}
use Rattle.base_lines.proofs.place.next_line.Goals as goal

pub returns-then-e-s : goal.returns-then-e-s
returns-then-e-s c =
    (record { is = behind_at c.args.s.now (drop c.args.at c.args.s.now) c.line_end-e.result c.line_end-e.ensures.is; on = omega (arith, c.line_end-e.ensures.on); within = omega arith }, omega (arith, c.line_end-e.ensures.on))

pub returns-else-e-s : goal.returns-else-e-s
returns-else-e-s c =
    (record { is = behind_none c.args.s.now (drop c.args.at c.args.s.now) c.line_end-e.result (omega arith) c.line_end-e.ensures.is; on = c.line_end-e.ensures.on; within = c.line_end-e.ensures.within }, omega (arith, c.line_end-e.ensures.on))
