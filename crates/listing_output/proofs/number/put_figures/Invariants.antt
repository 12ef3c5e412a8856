-- The digits that are left go behind those written.
use Rattle.listing_output.specs.Written.{Left}
use Rattle.listing_output.specs.Shown.{figures}
use Rattle.listing_output.proofs.number.put_figures.Given as goal

abbrev pub invariant-loop-left : goal.invariant-loop-left
invariant-loop-left l =
    Left l.out l.m (figures l.left l.n) l.initial.out l.at (figures l.k l.n)
