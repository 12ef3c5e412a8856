-- The refusals in order; then the state put together is the definition's.
use mathlib.Core.Path.{◌≡◌, refl, sym, subst}
use Rattle.spec_calls.specs.declared.Answer.{Answer}
use Rattle.spec_calls.specs.Refusals.{is_pass}
use Rattle.spec_calls.specs.Answers.{flagged}
use Rattle.logger_keyed.specs.Keys.{pass_is, fault_is, between_out, between_in, flag_behind, flag_30, flag_34, flag_0}
use Rattle.logger_keyed.proofs.flag_judged.Goals as goal

pub returns-in_default : goal.returns-in_default
unfolding flagged
returns-in_default c =
    subst (λ (z : Answer). (z.refusal ≡ flag_behind (is_pass c.args.verdict) c.args.f) × (z.state ≡ flagged z.refusal c.args.f c.args.state)) (sym c.answer_with.ensures) (flag_30 (is_pass c.args.verdict) c.args.f (fault_is c.args.verdict _ _ _ c.in_default.is), refl)

pub returns-then-f-lt1 : goal.returns-then-f-lt1
unfolding flagged
returns-then-f-lt1 c =
    subst (λ (z : Answer). (z.refusal ≡ flag_behind (is_pass c.args.verdict) c.args.f) × (z.state ≡ flagged z.refusal c.args.f c.args.state)) (sym c.answer_with-then-f-lt1.ensures) (flag_34 (is_pass c.args.verdict) c.args.f (pass_is c.args.verdict _ _ c.in-Pass.is) (between_out 1 8 c.args.f c.then-f-lt1.either), refl)

pub returns : goal.returns
unfolding flagged
returns c =
    (flag_0 (is_pass c.args.verdict) c.args.f (pass_is c.args.verdict _ _ c.in-Pass.is) (between_in 1 8 c.args.f c.if-f-lt1.false c.if-f-gt-LAST_FLAG.false), refl)
