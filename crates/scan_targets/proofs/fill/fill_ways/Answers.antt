-- Each turn tells one place more, in front of those that are told (`AtWays`).
use mathlib.Core.Path.{◌≡◌, refl, sym, ap, ◌∙◌, subst}
use Prim.Native.Nat.{ℕ, ◌+◌, ◌-◌, ◌*◌, ◌≤◌, ◌<◌}
use native.Mathlib.Omega.{arith}
use lib.ListN.{get_or}
use lib.Seq.{get_or-set_same}
use Rattle.base_program.specs.declared.Flow.{Flow}
use Rattle.record_codes.specs.Loaded.{decode}
use Rattle.scan_targets.specs.Fill.{end_way, else_way}
use Rattle.scan_targets.proofs.Filled.{AtWays, ways_none, ways_end, ways_zero, ways_more, ways_done}
use Rattle.scan_targets.proofs.fill.fill_ways.Goals as goal
use Rattle.scan_targets.proofs.fill.fill_ways.Goals.{then-code-ne0, else-code-ne0}

pub loop-t-init : goal.loop-t-init
loop-t-init c =
    (omega arith, ways_none _ _ _ _ c.requires.1.0.0 c.requires.1.1.0 c.requires.1.0.1 c.requires.1.1.1)

pub loop-e-init : goal.loop-e-init
loop-e-init c =
    let t : ℕ = c.loop-t.t - 1 in
    let lt : t < 3 = omega arith in
    let n : ℕ = get_or c.args.lengths t 0 in
    let short : n ≤ 99 = c.requires.0.short t lt in
    let here : AtWays c.args.codes.now c.args.lengths c.loop-t.ends c.loop-t.elses (128 * (t + 1)) = subst (λ (z : ℕ). AtWays c.args.codes.now c.args.lengths c.loop-t.ends c.loop-t.elses (128 * z)) (let g : c.loop-t.t ≡ t + 1 = omega arith in g) c.loop-t.invariant.1 in
    let zeros = ways_zero _ _ _ _ t lt n short here in
    ((lt, refl, short), omega arith, ways_end _ _ _ _ t lt n refl short here, zeros.0, zeros.1)

pub loop-t-preserved : goal.loop-t-preserved
loop-t-preserved c =
    (omega arith, subst (AtWays c.args.codes.now c.args.lengths c.loop-e.ends c.loop-e.elses) (let g : 128 * (c.loop-t.t - 1) + c.loop-e.e ≡ 128 * (c.loop-t.t - 1) = omega arith in g) c.loop-e.invariant.2)

pub bounds-codes-t : goal.bounds-codes-t
bounds-codes-t c =
    omega (arith, c.requires.0.places)

pub overflow_add-out : goal.overflow_add-out
overflow_add-out c =
    omega (arith, c.loop-e.invariant.3, c.loop-e.invariant.2.small (128 * (c.loop-t.t - 1) + c.loop-e.e))

pub bounds-ends-out : goal.bounds-ends-out
bounds-ends-out c =
    omega (arith, c.loop-e.invariant.3, c.loop-e.invariant.2.ends_size, c.loop-e.invariant.2.small (128 * (c.loop-t.t - 1) + c.loop-e.e))

pub bounds-elses-out : goal.bounds-elses-out
bounds-elses-out c =
    omega (arith, c.loop-e.invariant.3, c.loop-e.invariant.2.elses_size, c.loop-e.invariant.2.small (128 * (c.loop-t.t - 1) + c.loop-e.e))

pub bounds-ends-at : goal.bounds-ends-at
bounds-ends-at c =
    omega (arith, c.loop-e.invariant.2.ends_size)

pub bounds-elses-at : goal.bounds-elses-at
bounds-elses-at c =
    omega (arith, c.loop-e.invariant.2.elses_size)

pub loop-e-preserved : goal.loop-e-preserved
unfolding decode
loop-e-preserved c = (
  (c.loop-e.invariant.0.0, c.loop-e.invariant.0.1, omega arith),
  omega (arith, c.loop-e.invariant.1),
  elim c.if-code-ne0.branch [
    | then-code-ne0 w ↦ let q : c.loop-e.e - 1 + 1 ≡ c.loop-e.e = omega arith in ways_more _ _ _ _ (c.loop-t.t - 1) (omega arith) c.loop-e.e (c.loop-e.e - 1) (let g : c.loop-e.e ≡ c.loop-e.e - 1 + 1 = omega arith in g) c.loop-e.invariant.1 c.loop-e.invariant.0.2 c.loop-e.invariant.2 w.decode_flow-x.result w.decode_flow-x.ensures c.loop-e.end c.loop-e.other c.loop-e.end c.if-code-ne0.end c.if-code-ne0.other c.loop-e.invariant.3 c.loop-e.invariant.4 refl (w.end-is ∙ w.end_way-end.ensures ∙ ap (λ j. end_way w.decode_flow-x.result j c.loop-e.end (get_or c.loop-e.ends (128 * (c.loop-t.t - 1) + c.loop-e.end) 0)) q) (w.other-is ∙ w.else_way-other.ensures ∙ ap (λ j. else_way w.decode_flow-x.result j c.loop-e.end c.loop-e.other (get_or c.loop-e.elses (128 * (c.loop-t.t - 1) + c.loop-e.end) 0)) q)
    | else-code-ne0 w ↦ ways_more _ _ _ _ (c.loop-t.t - 1) (omega arith) c.loop-e.e (c.loop-e.e - 1) (let g : c.loop-e.e ≡ c.loop-e.e - 1 + 1 = omega arith in g) c.loop-e.invariant.1 c.loop-e.invariant.0.2 c.loop-e.invariant.2 Flow.Next (sym (ap decode w.if-code-ne0.false)) c.loop-e.end c.loop-e.other c.loop-e.end c.if-code-ne0.end c.if-code-ne0.other c.loop-e.invariant.3 c.loop-e.invariant.4 refl w.end-is w.other-is
  ],
  sym (get_or-set_same c.loop-e.ends (128 * (c.loop-t.t - 1) + (c.loop-e.e - 1)) c.if-code-ne0.end 0 (omega (arith, c.loop-e.invariant.2.ends_size))),
  sym (get_or-set_same c.loop-e.elses (128 * (c.loop-t.t - 1) + (c.loop-e.e - 1)) c.if-code-ne0.other 0 (omega (arith, c.loop-e.invariant.2.elses_size))),
)

pub returns : goal.returns
returns c =
    ways_done _ _ _ _ _ (let g : 128 * c.loop-t.t ≡ 0 = omega arith in g) c.loop-t.invariant.1
