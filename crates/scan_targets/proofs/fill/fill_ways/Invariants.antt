-- Each turn tells one place more, in front of those that are told (`AtWays`).
use mathlib.Core.Path.{◌≡◌}
use Prim.Native.Nat.{◌+◌, ◌*◌, ◌≤◌, ◌<◌}
use lib.ListN.{get_or}
use Rattle.scan_targets.proofs.Filled.{AtWays}
use Rattle.scan_targets.proofs.fill.fill_ways.Given as goal

abbrev pub invariant-loop-e : goal.invariant-loop-e
invariant-loop-e l =
    ((l.t < 3) × (l.base ≡ 128 * l.t) × (l.e ≤ 99)) × (l.e ≤ get_or l.lengths l.t 0) × AtWays l.codes l.lengths l.ends l.elses (128 * l.t + l.e) × (l.end ≡ get_or l.ends (128 * l.t + l.e) 0) × (l.other ≡ get_or l.elses (128 * l.t + l.e) 0)

abbrev pub invariant-loop-t : goal.invariant-loop-t
invariant-loop-t l =
    (l.t ≤ 3) × AtWays l.codes l.lengths l.ends l.elses (128 * l.t)
