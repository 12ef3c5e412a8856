-- What is found so far and what is left of the counts from place i on decide.
use mathlib.Core.Path.{◌≡◌, refl, sym, ap, ◌∙◌}
use Prim.Native.Nat.{ℕ, ◌+◌}
use native.Mathlib.Omega.{arith}
use mathlib.Core.Bool.{◌&&◌}
use lib.ListN.{length, drop}
use lib.Seq.{drop-length}
use Rattle.spec_calls.specs.Refusals.{few_samples}
use Rattle.scan_refusals.specs.Laws.{few_next, few_not, none_after, all_true}
use Rattle.scan_refusals.proofs.few_samples.Goals as goal
use Rattle.scan_refusals.proofs.few_samples.Goals.{then-c-gt-MOST_SAMPLES, else-c-gt-MOST_SAMPLES}

pub loop-c-init : goal.loop-c-init
loop-c-init c =
    (omega arith, refl)

pub loop-c-preserved : goal.loop-c-preserved
loop-c-preserved c = (
  omega arith,
  elim c.if-c-gt-MOST_SAMPLES.branch [
    | then-c-gt-MOST_SAMPLES w ↦ ap (λ b. b && few_samples (drop (c.loop-c.c-index + 1) c.args.counts.now)) w.few-is ∙ none_after c.loop-c.few (few_samples (drop c.loop-c.c-index c.args.counts.now)) (few_samples (drop (c.loop-c.c-index + 1) c.args.counts.now)) (few_not c.args.counts.now c.loop-c.c-index (omega arith) w.if-c-gt-MOST_SAMPLES.true) ∙ c.loop-c.invariant.1
    | else-c-gt-MOST_SAMPLES w ↦ ap (λ b. b && few_samples (drop (c.loop-c.c-index + 1) c.args.counts.now)) w.few-is ∙ ap (λ b. c.loop-c.few && b) (few_next c.args.counts.now c.loop-c.c-index (omega arith) w.if-c-gt-MOST_SAMPLES.false) ∙ c.loop-c.invariant.1
  ],
)

pub returns : goal.returns
unfolding few_samples
returns c =
    all_true c.loop-c.few ∙ ap (λ b. c.loop-c.few && b) (sym (ap few_samples (drop-length c.args.counts.now)) ∙ ap (λ (j : ℕ). few_samples (drop j c.args.counts.now)) (let e : length c.args.counts.now ≡ c.loop-c.c-index = omega arith in e)) ∙ c.loop-c.invariant.1
