-- What is found so far and what is left of the counts from place i on decide.
use mathlib.Core.Path.{◌≡◌}
use Prim.Native.Nat.{◌≤◌}
use mathlib.Core.Bool.{◌&&◌}
use lib.ListN.{length, drop}
use Rattle.spec_calls.specs.Refusals.{few_samples}
use Rattle.scan_refusals.proofs.few_samples.Given as goal

abbrev pub invariant-loop-c : goal.invariant-loop-c
invariant-loop-c l =
    (l.c-index ≤ length l.counts) × (l.few && few_samples (drop l.c-index l.counts) ≡ few_samples l.counts)
