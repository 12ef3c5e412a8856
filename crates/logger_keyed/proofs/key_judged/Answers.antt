-- The refusals in order; then the store is the definition's.
use mathlib.Core.Path.{refl, sym, ◌∙◌}
use native.Mathlib.Omega.{arith}
use lib.ListN.{length}
use Rattle.spec_calls.specs.Refusals.{is_pass}
use Rattle.spec_calls.specs.Answers.{keyed}
use Rattle.logger_keyed.specs.Keys.{pass_is, fault_is, key_30, key_31, key_34, key_0, asked_in}
use Rattle.logger_keyed.proofs.key_judged.Goals as goal

pub returns-in_default : goal.returns-in_default
unfolding keyed
returns-in_default c =
    (key_30 (is_pass c.args.verdict) c.args.i (length c.args.locations.now) c.args.n c.args.v (fault_is c.args.verdict _ _ _ c.in_default.is), λ e. omega arith, refl)

pub returns-then-locations-i : goal.returns-then-locations-i
unfolding keyed
returns-then-locations-i c =
    (key_31 (is_pass c.args.verdict) c.args.i (length c.args.locations.now) c.args.n c.args.v (pass_is c.args.verdict _ _ c.in-Pass.is) c.if-locations-i.true, λ e. omega arith, refl)

pub returns-then-not-is_keyed : goal.returns-then-not-is_keyed
unfolding keyed
returns-then-not-is_keyed c =
    (key_34 (is_pass c.args.verdict) c.args.i (length c.args.locations.now) c.args.n c.args.v (pass_is c.args.verdict _ _ c.in-Pass.is) c.if-locations-i.false (sym c.is_keyed.ensures ∙ c.if-not-is_keyed.true), λ e. omega arith, refl)

pub overflow_sub-locations : goal.overflow_sub-locations
overflow_sub-locations c =
    omega (arith, (asked_in (is_pass c.args.verdict) c.args.i (length c.args.locations.now) c.args.n c.args.v (sym c.is_keyed.ensures ∙ c.if-not-is_keyed.false)).0)

pub bounds-locations-n : goal.bounds-locations-n
bounds-locations-n c =
    let b = asked_in (is_pass c.args.verdict) c.args.i (length c.args.locations.now) c.args.n c.args.v (sym c.is_keyed.ensures ∙ c.if-not-is_keyed.false) in omega (arith, b.0, b.1)

pub returns : goal.returns
unfolding keyed
returns c =
    (sym (key_0 (is_pass c.args.verdict) c.args.i (length c.args.locations.now) c.args.n c.args.v (pass_is c.args.verdict _ _ c.in-Pass.is) c.if-locations-i.false (sym c.is_keyed.ensures ∙ c.if-not-is_keyed.false)), refl)
