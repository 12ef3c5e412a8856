-- Each way is one case of `stop_to`.
use mathlib.Core.Path.{refl, ap}
use mathlib.Core.List.{[]}
use native.Mathlib.Omega.{arith}
use Rattle.scan_marks.specs.Marks.{stack}
use Rattle.scan_marks.specs.Laws.{shifted_below, moved_to}
use Rattle.scan_marks.specs.Move.{stop_to}
use Rattle.scan_calls.proofs.stop.Goals as goal

pub returns-then-test : goal.returns-then-test
returns-then-test c =
    moved_to c.args.marks.now 0 c.args.home [] _ c.requires.1 (omega arith) (shifted_below c.args.marks.now c.args.top.now 0 (omega arith) c.requires.0.shifted) refl (ap (λ b. stop_to b c.args.home c.args.pc (stack c.args.marks.now c.args.top.now)) c.if-test.true)

pub returns : goal.returns
returns c =
    moved_to c.args.marks.now c.args.top.now c.args.pc (stack c.args.marks.now c.args.top.now) _ c.requires.0.place (omega arith) c.requires.0.shifted refl (ap (λ b. stop_to b c.args.home c.args.pc (stack c.args.marks.now c.args.top.now)) c.if-test.false)
