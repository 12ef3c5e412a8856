-- Then Dos are passed over, each to the place behind its End; what is left below leads to the same place.
use mathlib.Core.Path.{◌≡◌}
use Prim.Native.Nat.{◌+◌, ◌-◌, ◌≤◌, ◌<◌}
use Rattle.scan_marks.specs.Marks.{stack}
use Rattle.scan_marks.specs.Move.{leave_to, Shifted}
use Rattle.scan_exits.proofs.leave.Given as goal

abbrev pub invariant-loop-depth : goal.invariant-loop-depth
invariant-loop-depth l =
    (l.depth ≤ 96) × (l.at < 384) × (leave_to l.ends l.at (stack l.marks (l.depth - 1)) ≡ leave_to l.ends l.pc (stack l.marks l.initial.top)) × ((l.top ≤ 96) × Shifted l.marks l.top × (l.depth ≤ l.initial.top + 1))
