-- The fields are the definition's, at the table's place.
use mathlib.Core.Path.{ap}
use Prim.Native.Nat.{ℕ}
use Rattle.scan_state.specs.Parts.{noting}
use Rattle.scan_state.proofs.put_together.Goals as goal

pub returns : goal.returns
unfolding noting
returns c =
    ap (λ (k : ℕ). noting k c.args.day c.args.minute c.args.flags c.args.ports c.args.numbers c.args.state) c.row_of-at.ensures.place
