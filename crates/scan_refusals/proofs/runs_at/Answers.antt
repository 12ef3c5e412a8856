-- By the two tests.
use mathlib.Core.Path.{refl, ap}
use mathlib.Core.Bool.{not}
use Prim.Native.Nat.{◌%◌}
use lib.Dec.{eqb}
use borrow.Author.Tests.{eq-eqb, ne_eqb}
use Rattle.scan_refusals.specs.Lent.{runs_at}
use Rattle.base_laws.specs.Tests.{and_stop, and_yes}
use Rattle.scan_refusals.proofs.runs_at.Goals as goal

pub returns-then-v-ne0 : goal.returns-then-v-ne0
unfolding runs_at
returns-then-v-ne0 c =
    and_yes (not (eqb c.args.v 0)) (eqb (c.args.time % c.args.v) 0) _ (ap not (ne_eqb c.args.v 0 c.if-v-ne0.true)) refl

pub returns-else-v-ne0 : goal.returns-else-v-ne0
unfolding runs_at
returns-else-v-ne0 c =
    and_stop (not (eqb c.args.v 0)) (eqb (c.args.time % c.args.v) 0) (ap not (eq-eqb c.args.v 0 c.if-v-ne0.false))
