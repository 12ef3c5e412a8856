-- The bytes in front stay, and a read that fails takes nothing.
use Rattle.std.proofs.Common.{◌≡◌, take}
use Rattle.std.specs.Io.KnownBytes.{Keeps}
use Rattle.base_input.proofs.read_more.Given as goal

abbrev pub invariant-loop : goal.invariant-loop
invariant-loop g l =
    (take l.n l.buf ≡ take l.n l.initial.buf) × Keeps (g.R.Read.remaining l.initial.input) (g.R.Read.remaining l.input)
