-- What is left, read on from the record so far, is what all the lines say: each turn is one law of `Reading`, and each way out the fault there.
use Prim.Native.Nat.{◌+◌, ◌-◌, ◌≤◌}
use lib.ListN.{length}
use Rattle.text_tables.proofs.Reading.{AtTable, AtEntry}
use Rattle.text_tables.proofs.read_tables.Given as goal

abbrev pub invariant-entries : goal.invariant-entries
invariant-entries l =
    (1 ≤ l.n) × AtEntry l.s l.from l.fn.sizes.locations l.fn.sizes.sums l.program l.t l.n l.at

abbrev pub decreases-entries : goal.decreases-entries
decreases-entries l =
    length l.s + 1 - l.at

abbrev pub invariant-tables : goal.invariant-tables
invariant-tables l =
    AtTable l.s l.from l.fn.sizes.locations l.fn.sizes.sums l.program l.t l.at
