-- By whether it is indexed.
use mathlib.Core.Path.{◌≡◌, sym, ap, ◌∙◌}
use mathlib.Core.Bool.{cond}
use Prim.Native.Nat.{◌+◌}
use native.Mathlib.Omega.{arith}
use Rattle.scan_locations.proofs.cells.location_of.Goals as goal

pub returns-then-indexed : goal.returns-then-indexed
returns-then-indexed c =
    ap (λ b. c.args.number + cond b c.args.shift 0) (sym c.if-indexed.true)

pub returns : goal.returns
returns c =
    (let g : c.args.number ≡ c.args.number + 0 = omega arith in g) ∙ ap (λ b. c.args.number + cond b c.args.shift 0) (sym c.if-indexed.false)
