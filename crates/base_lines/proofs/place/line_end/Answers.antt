-- Behind the line stands what the first byte 10 begins.
use Rattle.std.proofs.Common.{◌≡◌, ◌∙◌, arith, length, drop, sym, ap, drop-drop, length-drop}
use Rattle.base_lines.proofs.Laws.{line, line_within, ending_behind, from_all}
use Rattle.base_lines.proofs.place.line_end.Goals as goal

pub returns : goal.returns
returns c =
    let s = c.args.s.now in
    let at = c.args.at in
    let n : c.line_len.result ≡ length (line (drop at s)) = c.line_len.ensures ∙ ap (λ t. length (line t)) (from_all s at) in
    record { is = sym (drop-drop c.line_len.result at s) ∙ ap (λ k. drop k (drop at s)) n ∙ ending_behind (drop at s); on = omega arith; within = omega (arith, c.requires, n, line_within (drop at s), length-drop at s) }
