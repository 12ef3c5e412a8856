-- Each turn is one step of `Longs`, and goes on to the next place.
use Rattle.std.proofs.Common.{◌≡◌, ◌∙◌, ◌+◌, ◌-◌, sym, arith}
use Rattle.check_subroutines.specs.Listed.{below}
use Rattle.check_chains.proofs.Longs.{long_first, long_ends, long_found, long_on, long_next}
use Rattle.check_chains.proofs.first_long.Goals as goal

pub loop-i-init : goal.loop-i-init
loop-i-init c = long_first _ _ _ c.requires.1 _

pub bounds-calls-i : goal.bounds-calls-i
bounds-calls-i c = omega (arith, c.requires.1.few, c.requires.1.top, c.requires.1.room)

pub bounds-codes-e : goal.bounds-codes-e
bounds-codes-e c = omega (arith, below _ _ _ c.requires.1 (c.loop-i.i - 1 + 1) (omega arith) (omega arith), c.requires.1.top)

pub fault_at-requires : goal.fault_at-requires
fault_at-requires c = omega (arith, below _ _ _ c.requires.1 (c.loop-i.i - 1 + 1) (omega arith) (omega arith), c.requires.1.top)

pub returns-then-starts_long : goal.returns-then-starts_long
returns-then-starts_long c = λ p r.
    let up : c.loop-i.i ≡ c.loop-i.i - 1 + 1 = omega arith in
    c.fault_at.ensures
    ∙ long_found _ _ _ _ (rw up at c.loop-i.invariant) (below _ _ _ c.requires.1 (c.loop-i.i - 1 + 1) (omega arith) (omega arith)) (sym c.starts_long.ensures ∙ c.if-starts_long.true) p r

pub loop-i-preserved : goal.loop-i-preserved
loop-i-preserved c =
    let up : c.loop-i.i ≡ c.loop-i.i - 1 + 1 = omega arith in
    long_next _ _ _ c.requires.1 _ (c.loop-i.i - 1) (omega arith)
    (long_on _ _ _ _ (rw up at c.loop-i.invariant) (below _ _ _ c.requires.1 (c.loop-i.i - 1 + 1) (omega arith) (omega arith)) (sym c.starts_long.ensures ∙ c.if-starts_long.false))

pub returns : goal.returns
returns c = let end : c.loop-i.i ≡ 0 = omega arith in long_ends _ _ _ _ (rw end at c.loop-i.invariant) (omega arith)
