-- Below the length the remainder is the number itself; at the length it is 0.
use mathlib.Core.Path.{◌≡◌, sym, ap, ◌∙◌}
use Prim.Native.Nat.{◌+◌, ◌%◌, ◌<◌}
use native.Mathlib.Nat.{mod-eq_of_lt, mod_self}
use native.Mathlib.Omega.{arith}
use Rattle.storage_ring.proofs.ring.next_position.Goals as goal

pub returns-then-position-n : goal.returns-then-position-n
returns-then-position-n c =
    sym (mod-eq_of_lt (let g : c.args.position + 1 < c.args.n = omega arith in g))

pub returns-else-position-n : goal.returns-else-position-n
returns-else-position-n c =
    sym (ap (λ k. k % c.args.n) (let g : c.args.position + 1 ≡ c.args.n = omega arith in g) ∙ mod_self c.args.n)
