-- Each turn is one law of `Spots`.
use mathlib.Core.Path.{sym, ◌∙◌}
use native.Mathlib.Omega.{arith}
use Rattle.storage_ring.specs.Ring.{by_age}
use Rattle.storage_listing.proofs.Spots.{search_on, search_over}
use Rattle.storage_item.proofs.find_array.Goals as goal

pub returns-in_err-from : goal.returns-in_err-from
returns-in_err-from c =
    rw c.from_residual.ensures (record { is = search_over (by_age c.args.ring.now c.args.s) c.loop.counter c.loop.from c.loop.invariant c.args.k (omega (arith, c.loop-test.true)) (sym c.in_err-from.was ∙ c.seek.ensures.is); bounds = tt })

pub loop-preserved : goal.loop-preserved
loop-preserved c =
    search_on (by_age c.args.ring.now c.args.s) c.loop.counter c.loop.from c.loop.invariant c.in_ok-from.field-0 (sym c.in_ok-from.was ∙ c.seek.ensures.is)
