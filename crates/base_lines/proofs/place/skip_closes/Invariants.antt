-- What is behind the lines `)` left from here is what is behind all of them from the start.
use Rattle.std.proofs.Common.{◌≡◌, ◌≤◌, ◌-◌, length, drop}
use Rattle.base_lines.specs.Line.{behind_closes}
use Rattle.base_lines.proofs.place.skip_closes.Given as goal

abbrev pub invariant-loop : goal.invariant-loop
invariant-loop l =
    (l.at ≤ l.i) × (l.i ≤ length l.s) × (behind_closes (400 - l.counter) l.closes (drop l.i l.s) ≡ behind_closes 400 l.k (drop l.at l.s))
