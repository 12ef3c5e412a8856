-- What is behind the lines `)` left from here is what is behind all of them from the start.
use Rattle.std.proofs.Common.{◌≡◌, ◌∙◌, ◌-◌, ◌+◌, cond, sym, ap, drop, arith}
use lib.ListN.{drop_of_length-le}
use Rattle.base_lines.specs.Line.{behind, behind_closes}
use Rattle.base_lines.proofs.Laws.{closes_next, closes_done, closes_over, closes_none}
use Rattle.base_lines.proofs.place.skip_closes.Goals as goal
use Rattle.base_lines.proofs.place.skip_closes.Goals.{then-is_close, else-is_close, then-closes-eq0-via-then-closes-eq0, then-closes-eq0-via-else-closes-eq0+then-i-s}

pub loop-preserved : goal.loop-preserved
loop-preserved c =
    let left = 400 - (c.loop.counter + 1) in
    let here = drop c.loop.i c.args.s.now in
    let told : c.if-is_close.closes ≡ cond c.is_close.result (c.loop.closes - 1) c.loop.closes =
    elim c.if-is_close.branch [
      | then-is_close w ↦ w.closes-is ∙ sym (ap (λ b. cond b (c.loop.closes - 1) c.loop.closes) w.if-is_close.true)
      | else-is_close w ↦ w.closes-is ∙ sym (ap (λ b. cond b (c.loop.closes - 1) c.loop.closes) w.if-is_close.false)
    ] in
    (omega arith, omega arith, ap (behind_closes left c.if-is_close.closes) c.next_line-i.ensures.0.is ∙ ap (λ j. behind_closes left j (behind here)) (told ∙ ap (λ b. cond b (c.loop.closes - 1) c.loop.closes) c.is_close.ensures) ∙ closes_next 400 c.loop.counter c.loop.closes here c.loop-test.true c.if-closes-eq0.false ∙ c.loop.invariant.2)

pub returns-after-loop : goal.returns-after-loop
returns-after-loop c =
    record { is = closes_over (400 - c.loop.counter) c.loop.closes (drop c.loop.i c.args.s.now) (omega arith) ∙ c.loop.invariant.2; on = omega arith; within = omega arith }

pub returns-then-closes-eq0 : goal.returns-then-closes-eq0
returns-then-closes-eq0 c =
    let left = 400 - c.loop.counter in
    let here = drop c.loop.i c.args.s.now in
    let ended : here ≡ behind_closes left c.loop.closes here =
    elim c.then-closes-eq0.branch [
      | then-closes-eq0-via-then-closes-eq0 w ↦ closes_done left c.loop.closes here w.if-closes-eq0.true
      | then-closes-eq0-via-else-closes-eq0+then-i-s w ↦
          let d = drop_of_length-le c.args.s.now {i = c.loop.i} (omega (arith, w.if-i-s.true)) in
          d ∙ closes_none left c.loop.closes ∙ sym (ap (behind_closes left c.loop.closes) d)
    ] in
    record { is = ended ∙ c.loop.invariant.2; on = omega arith; within = omega arith }
