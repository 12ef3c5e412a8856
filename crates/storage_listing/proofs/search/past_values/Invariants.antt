-- Each turn is one value more.
use Prim.Native.Nat.{ℕ, ◌≤◌, ◌<◌}
use Rattle.storage_listing.specs.Runs.{ValueAt}
use Rattle.storage_listing.proofs.search.past_values.Given as goal

abbrev pub invariant-loop-i : goal.invariant-loop-i
invariant-loop-i l =
    (l.at ≤ l.i) × (l.i ≤ l.end) × ((j : ℕ) → l.at ≤ j → j < l.i → ValueAt l.ring j)
