-- Each turn is one law of `Ready`; it ends where the base is closed, or at the last entry.
use Rattle.std.proofs.Common.{◌∙◌, ◌+◌, ◌-◌, ◌≤◌, get_or, ap, arith}
use native.Mathlib.Nat.{mul-le-mul}
use Rattle.check_count.specs.Dot.{factors}
use Rattle.check_count.proofs.Dot.{factors_top}
use Rattle.check_count.specs.Ready.{added}
use Rattle.check_count.proofs.Ready.{count_start, count_turn, count_next, count_closed, count_end}
use Rattle.check_count.proofs.count_from.Goals as goal

pub loop-e-init : goal.loop-e-init
unfolding factors
loop-e-init c = record {
  stopped = omega arith;
  inside = omega (arith, c.push_factor-depth.ensures.1);
  deep = omega (arith, c.push_factor-depth.ensures.1);
  going = λ l h q. count_start (added c.args.adds.now) l c.args.from _ c.push_factor-depth.ensures.0;
}

pub loop-e-preserved-then-code-eq0 : goal.loop-e-preserved-then-code-eq0
loop-e-preserved-then-code-eq0 c = record {
  stopped = omega (arith, c.stop-count.ensures);
  inside = c.loop-e.invariant.inside;
  deep = omega (arith, c.loop-e.invariant.deep);
  going = λ l h q.
      rw c.stop-count.ensures
      (count_next (added c.args.adds.now) l c.args.from c.loop-e.e c.loop-e.count (get_or c.loop-e.list (c.loop-e.depth - 1) 0) (get_or c.args.codes.now (c.args.base + c.loop-e.e) 0)
      (factors c.loop-e.list (c.loop-e.depth - 1)) (factors c.loop-e.list c.loop-e.depth) (omega arith) c.if-code-eq0.true (q c.loop-e.e (omega arith))
      (factors_top c.loop-e.list c.loop-e.depth c.loop-e.invariant.inside) (c.loop-e.invariant.going l h q));
}

pub overflow_mul-m : goal.overflow_mul-m
overflow_mul-m c =
    let g : get_or c.loop-e.list (c.loop-e.depth - 1) 0 ≤ 65535 = omega (arith, c.type_inv.list (c.loop-e.depth - 1)) in omega (arith, mul-le-mul g c.weight_of.ensures.1)

pub overflow_add-count-in-loop-e : goal.overflow_add-count-in-loop-e
overflow_add-count-in-loop-e c =
    let g : get_or c.loop-e.list (c.loop-e.depth - 1) 0 ≤ 65535 = omega (arith, c.type_inv.list (c.loop-e.depth - 1)) in omega (arith, mul-le-mul g c.weight_of.ensures.1)

pub returns-then-depth-eq0 : goal.returns-then-depth-eq0
unfolding factors
returns-then-depth-eq0 c = (
  (λ l h q.
      count_closed (added c.args.adds.now) l c.args.from (c.loop-e.e + 1) c.stop-count-in-loop-e.result (factors c.pass_factors-depth.new.list c.pass_factors-depth.result)
      (ap (factors c.pass_factors-depth.new.list) c.if-depth-eq0.true) (omega (arith, c.stop-count-in-loop-e.ensures))
      (rw c.stop-count-in-loop-e.ensures
      (count_turn (added c.args.adds.now) l c.args.from c.loop-e.e c.loop-e.count (get_or c.loop-e.list (c.loop-e.depth - 1) 0) c.weight_of.result
      (factors c.loop-e.list (c.loop-e.depth - 1)) (factors c.loop-e.list c.loop-e.depth) c.decode_flow-x.result (omega arith) (c.decode_flow-x.ensures ∙ q c.loop-e.e (omega arith))
      (factors_top c.loop-e.list c.loop-e.depth c.loop-e.invariant.inside) c.weight_of.ensures.0 (c.loop-e.invariant.going l h q)
      (factors c.pass_factors-depth.new.list c.pass_factors-depth.result) c.pass_factors-depth.ensures.0))),
  omega (arith, c.stop-count-in-loop-e.ensures),
)

pub loop-e-preserved : goal.loop-e-preserved
loop-e-preserved c = record {
  stopped = omega (arith, c.stop-count-in-loop-e.ensures);
  inside = omega (arith, c.if-depth-eq0.false);
  deep = omega (arith, c.pass_factors-depth.ensures.1, c.loop-e.invariant.deep);
  going = λ l h q.
      rw c.stop-count-in-loop-e.ensures
      (count_turn (added c.args.adds.now) l c.args.from c.loop-e.e c.loop-e.count (get_or c.loop-e.list (c.loop-e.depth - 1) 0) c.weight_of.result
      (factors c.loop-e.list (c.loop-e.depth - 1)) (factors c.loop-e.list c.loop-e.depth) c.decode_flow-x.result (omega arith) (c.decode_flow-x.ensures ∙ q c.loop-e.e (omega arith))
      (factors_top c.loop-e.list c.loop-e.depth c.loop-e.invariant.inside) c.weight_of.ensures.0 (c.loop-e.invariant.going l h q)
      (factors c.pass_factors-depth.new.list c.pass_factors-depth.result) c.pass_factors-depth.ensures.0);
}

pub returns : goal.returns
returns c = (
  (λ l h q. count_end (added c.args.adds.now) l c.args.from c.loop-e.e c.loop-e.count (factors c.loop-e.list c.loop-e.depth) (omega (arith, c.requires.order)) c.loop-e.invariant.stopped
      (c.loop-e.invariant.going l h q)),
  c.loop-e.invariant.stopped,
)
