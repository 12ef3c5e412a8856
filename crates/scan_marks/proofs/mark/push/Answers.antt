-- The number stored is the uppermost mark.
use native.Mathlib.Omega.{arith}
use Rattle.scan_marks.specs.Laws.{pushed}
use Rattle.scan_marks.proofs.mark.push.Goals as goal

pub returns : goal.returns
returns c =
    pushed c.args.marks.now c.args.top.now c.args.v (omega arith) c.requires.1 c.requires.0.2
