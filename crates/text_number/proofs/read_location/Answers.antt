-- Where the last two bytes are `--`, the number is what stands before them.
use Rattle.std.proofs.Common.{◌≡◌, ◌-◌, cond, length, sym, ap, ◌∙◌}
use Rattle.text_number.specs.Keyed.{located}
use Rattle.text_number.proofs.Walk.{picked, passed, location_before}
use Rattle.text_number.proofs.read_location.Goals as goal
use Rattle.text_number.proofs.read_location.Goals.{then-indexed, else-indexed}

pub returns-in_err-number : goal.returns-in_err-number
returns-in_err-number c =
    let s = c.args.s.now in
    let t = c.is_dashed-indexed.result in
    let e : c.if-indexed.e ≡ cond t (length s - 2) (length s) = elim c.if-indexed.branch [ then-indexed w ↦ w.e-is ∙ picked _ _ w.if-indexed.true | else-indexed w ↦ w.e-is ∙ passed _ _ w.if-indexed.false ] in
    c.from_residual.ensures ∙ ap (λ w. located w t) (sym c.in_err-number.was ∙ c.read_whole.ensures) ∙ location_before s t c.if-indexed.e c.is_dashed-indexed.ensures e

pub returns : goal.returns
returns c =
    let s = c.args.s.now in
    let t = c.is_dashed-indexed.result in
    let e : c.if-indexed.e ≡ cond t (length s - 2) (length s) = elim c.if-indexed.branch [ then-indexed w ↦ w.e-is ∙ picked _ _ w.if-indexed.true | else-indexed w ↦ w.e-is ∙ passed _ _ w.if-indexed.false ] in
    ap (λ w. located w t) (sym c.in_ok-number.was ∙ c.read_whole.ensures) ∙ location_before s t c.if-indexed.e c.is_dashed-indexed.ensures e
