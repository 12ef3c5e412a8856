-- What is left from the next line on leads to what all of the lines lead to.
use mathlib.Core.Path.{◌≡◌}
use Prim.Native.Nat.{◌-◌}
use lib.ListN.{length}
use Rattle.spec_listing.specs.Step.{run_of}
use Rattle.listing_lines.specs.StepLaws.{LinesGoing, Same}
use Rattle.listing_lines.proofs.lines.run_lines.Given as goal

abbrev pub invariant-loop-p : goal.invariant-loop-p
invariant-loop-p l =
    LinesGoing l.p l.s (run_of l.initial.state l.initial.readings l.initial.locations l.initial.sums l.initial.counts l.initial.ring) l.used (run_of l.state l.readings l.locations l.sums l.counts l.ring) × ((length l.readings ≡ 196) × Same (run_of l.state l.readings l.locations l.sums l.counts l.ring) (run_of l.initial.state l.initial.readings l.initial.locations l.initial.sums l.initial.counts l.initial.ring))

abbrev pub decreases-loop-p : goal.decreases-loop-p
decreases-loop-p l =
    length l.s - l.used
