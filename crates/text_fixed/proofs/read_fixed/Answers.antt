-- The first byte is the sign or belongs to the digits.
use Rattle.std.proofs.Common.{drop, length-drop, take_all, true, ap, ◌∙◌, arith}
use Rattle.text_number.specs.Keyed.{unsigned_of}
use Rattle.text_fixed.proofs.Point.{fixed_minus, fixed_plain}
use Rattle.text_fixed.proofs.read_fixed.Goals as goal
use Rattle.text_fixed.proofs.read_fixed.Goals.{else-s-ge1-via-then-s-ge1+else-s-eq45, else-s-ge1-via-else-s-ge1}

pub returns-then-s-eq45 : goal.returns-then-s-eq45
returns-then-s-eq45 c =
    let s = c.args.s.now in
    c.read_unsigned.ensures ∙ ap (unsigned_of true) (take_all _ (drop 1 s) (omega (arith, length-drop 1 s))) ∙ fixed_minus s c.if-s-ge1.true c.if-s-eq45.true

pub returns-else-s-ge1 : goal.returns-else-s-ge1
returns-else-s-ge1 c =
    c.read_unsigned-else-s-ge1.ensures
    ∙ fixed_plain c.args.s.now (elim c.else-s-ge1.branch [ else-s-ge1-via-then-s-ge1+else-s-eq45 w ↦ (λ _. w.if-s-eq45.false) | else-s-ge1-via-else-s-ge1 w ↦ (λ h _. omega (arith, h, w.if-s-ge1.false)) ])
