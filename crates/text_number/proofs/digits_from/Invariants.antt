-- What n and the bytes from b on say is what v and all bytes say, and no part of it is larger than the whole.
use Rattle.std.proofs.Common.{◌≡◌, true, drop}
use Rattle.text_number.specs.Keyed.{all_digits, value_from}
use Rattle.text_number.proofs.digits_from.Given as goal

abbrev pub invariant-loop-b : goal.invariant-loop-b
invariant-loop-b l =
    (all_digits (drop l.b-index l.s) ≡ true) × (value_from l.n (drop l.b-index l.s) ≡ value_from l.v l.s)
