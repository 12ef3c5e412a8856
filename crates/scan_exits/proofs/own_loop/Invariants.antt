-- Then Dos are passed over; what is left below says the same.
use mathlib.Core.Path.{◌≡◌}
use Prim.Native.Nat.{◌+◌, ◌-◌, ◌≤◌}
use Rattle.scan_marks.specs.Marks.{stack}
use Rattle.scan_marks.specs.Move.{own_loop}
use Rattle.scan_exits.proofs.own_loop.Given as goal

abbrev pub invariant-loop-depth : goal.invariant-loop-depth
invariant-loop-depth l =
    (l.depth ≤ l.top + 1) × (own_loop (stack l.marks (l.depth - 1)) ≡ own_loop (stack l.marks l.top))
