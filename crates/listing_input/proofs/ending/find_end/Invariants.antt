-- What is left from here ends where the whole does.
use Rattle.std.proofs.Common.{◌≡◌, drop}
use Rattle.listing_input.specs.Extent.{extent_from, extent_of}
use Rattle.listing_input.proofs.ending.find_end.Given as goal

abbrev pub invariant-loop-i : goal.invariant-loop-i
invariant-loop-i l =
    extent_from l.starts l.i (drop l.i l.s) ≡ extent_of l.s
