-- What is behind the lines left from here is what is behind all of them from the start.
use Rattle.std.proofs.Common.{◌-◌, ◌+◌, ◌∙◌, sym, ap, drop, arith}
use lib.ListN.{drop_of_length-le}
use Rattle.base_lines.specs.Line.{behind_lines}
use Rattle.base_lines.proofs.Laws.{lines_next, lines_done, lines_none}
use Rattle.base_lines.proofs.place.skip_lines.Goals as goal

pub loop-preserved : goal.loop-preserved
loop-preserved c =
    (omega arith, omega arith, ap (behind_lines (c.args.n - (c.loop.counter + 1))) c.next_line-i.ensures.0.is ∙ lines_next c.args.n c.loop.counter (drop c.loop.i c.args.s.now) c.loop-test.true ∙ c.loop.invariant.2)

pub returns-after-loop : goal.returns-after-loop
returns-after-loop c =
    record { is = lines_done (c.args.n - c.loop.counter) (drop c.loop.i c.args.s.now) (omega arith) ∙ c.loop.invariant.2; on = omega arith; within = omega arith }

pub returns-then-i-s : goal.returns-then-i-s
returns-then-i-s c =
    let left = c.args.n - c.loop.counter in
    let d = drop_of_length-le c.args.s.now {i = c.loop.i} (omega arith) in
    record { is = d ∙ lines_none left ∙ sym (ap (behind_lines left) d) ∙ c.loop.invariant.2; on = omega arith; within = omega arith }
