-- The uppermost number has it, whatever is open.
use native.Mathlib.Omega.{arith}
use Rattle.scan_marks.proofs.shift.shift_of.Goals as goal

pub returns : goal.returns
returns c =
    (c.requires.2 c.args.top (omega arith), omega arith)
