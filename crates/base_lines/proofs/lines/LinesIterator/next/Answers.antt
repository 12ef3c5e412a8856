-- The first line, and those behind it.
use Rattle.std.proofs.Common.{◌≡◌, ◌<◌, ◌∙◌, ◌∷◌, sym, ap, ap₂, arith, rules, take, length}
use Rattle.base_lines.specs.Line.{lines}
use Rattle.base_lines.proofs.Laws.{lines_turn, lines_ended, line_taken, from_all}
use Rattle.base_lines.proofs.lines.LinesIterator.next.Goals as goal

pub returns-then-is_empty-clause-steps : goal.returns-then-is_empty-clause-steps
returns-then-is_empty-clause-steps c =
    let none : length c.args.self.now.0.now ≡ 0 = search rules in
    (lines_ended c.args.self.now.0.now none, lines_ended c.args.self.now.0.now none)

pub returns-clause-steps : goal.returns-clause-steps
returns-clause-steps c =
    let s = c.args.self.now.0.now in
    let some : 0 < length s = search rules in
    lines_turn s some ∙ ap₂ ◌∷◌ (sym (ap (λ k. take k s) c.line_len.ensures ∙ line_taken s)) (sym (ap lines (from_all s c.next_line.result ∙ c.next_line.ensures.0.is)))

pub returns-clause-goes : goal.returns-clause-goes
returns-clause-goes c =
    let more = ap length (returns-clause-steps c) in
    record { on = λ f. (tt, tt, omega (arith, more)); keeps = tt; rests = λ f. tt }
