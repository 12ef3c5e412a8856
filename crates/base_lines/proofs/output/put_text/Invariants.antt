-- The bytes so far stand behind what was there.
use Rattle.std.proofs.Common.{◌≡◌, ◌≤◌, length, take}
use Rattle.base_lines.specs.Written.{written}
use Rattle.base_lines.proofs.output.put_text.Given as goal

abbrev pub invariant-loop-b : goal.invariant-loop-b
invariant-loop-b l =
    (l.m ≤ length l.out) × (take l.m l.out ≡ written (length l.initial.out) (take l.n l.initial.out) (take l.b-index l.s))
