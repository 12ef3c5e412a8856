-- The flag is set; for flag 0 the id and the start word that waits are set too.
use native.Mathlib.Omega.{arith}
use lib.ListN.{length-set}
use Rattle.scan_signals.specs.Signals.{raised_first, raised_other}
use Rattle.scan_signals.proofs.raise.Goals as goal

pub bounds-store-3 : goal.bounds-store-3
bounds-store-3 c =
    omega (arith, length-set c.args.store.now 2 c.args.id)

pub returns-then-f-eq0 : goal.returns-then-f-eq0
returns-then-f-eq0 c =
    λ l u n q g. raised_first c.args.id c.args.f c.args.flags.now _ c.args.store.now c.set_signal.ensures l u n q g c.requires.four c.if-f-eq0.true

pub returns-else-f-eq0 : goal.returns-else-f-eq0
returns-else-f-eq0 c =
    λ l u n q g. raised_other c.args.id c.args.f c.args.flags.now _ c.args.store.now c.set_signal.ensures l u n q g c.if-f-eq0.false
