-- There is an input that led here: what was read so far.
use Rattle.std.proofs.Common.{ℕ, ◌≤◌, List, take}
use Rattle.std.specs.Io.KnownBytes.{Consumes}
use Rattle.spec_listing.specs.Step.{run_of}
use Rattle.spec_listing.specs.Reading.{Reads}
use Rattle.listing_run.proofs.follow_input.Given as goal

abbrev pub invariant-loop : goal.invariant-loop
invariant-loop g l = record {
  kept : l.l.kept ≤ 16384;
  so_far : List ℕ;
  taken : Consumes (g.R.Read.remaining l.initial.input) (g.R.Read.remaining l.input) so_far;
  reads : Reads so_far l.l.stage (take l.l.kept l.space) l.l.program (run_of l.l.state l.readings l.locations l.sums l.counts l.ring);
}
