-- A bound, and back from it over values the same array is open.
use mathlib.Core.Path.{sym, ap, ◌∙◌}
use native.Mathlib.Omega.{arith}
use mathlib.Core.Bool.{◌&&◌}
use Rattle.storage_word.specs.Word.{is_start, is_value}
use Rattle.storage_ring.specs.Ring.{by_age}
use Rattle.storage_ring.specs.RingLaws.{by_age_length_lem}
use Rattle.storage_listing.specs.Standing.{open_at}
use Rattle.storage_listing.proofs.Standing.{ends_is, open_back, open_stop, open_none, bound_most}
use Rattle.storage_standing.proofs.ends_at.Goals as goal

pub returns-then-not-is_bound : goal.returns-then-not-is_bound
returns-then-not-is_bound c =
    let ws = by_age c.args.ring.now c.args.s in
    sym (ends_is ws c.args.at ∙ ap (λ b. b && open_at ws c.args.at) (sym c.is_bound.ensures ∙ c.if-not-is_bound.true))

pub word_at-w-requires : goal.word_at-w-requires
word_at-w-requires c =
    let bound = sym c.is_bound.ensures ∙ c.if-not-is_bound.false in
    let ws = by_age c.args.ring.now c.args.s in
    (c.requires, omega (arith, bound_most ws c.args.at bound, by_age_length_lem c.args.ring.now c.args.s c.requires, c.loop-i.auto.i, c.loop-i-test.true))

pub returns-then-not-is_value : goal.returns-then-not-is_value
returns-then-not-is_value c =
    let bound = sym c.is_bound.ensures ∙ c.if-not-is_bound.false in
    let ws = by_age c.args.ring.now c.args.s in
    c.is_start.ensures ∙ ap is_start c.word_at-w.ensures ∙ open_stop ws c.loop-i.i _ (omega (arith, c.loop-i-test.true)) (ap is_value (sym c.word_at-w.ensures) ∙ sym c.is_value.ensures.0 ∙ c.if-not-is_value.true) ∙ c.loop-i.invariant ∙ sym (ends_is ws c.args.at ∙ ap (λ b. b && open_at ws c.args.at) bound)

pub loop-i-preserved : goal.loop-i-preserved
loop-i-preserved c =
    let ws = by_age c.args.ring.now c.args.s in
    let v = c.if-not-is_value.false in
    open_back ws c.loop-i.i _ (omega (arith, c.loop-i-test.true)) (ap is_value (sym c.word_at-w.ensures) ∙ sym c.is_value.ensures.0 ∙ v) (ap is_start (sym c.word_at-w.ensures) ∙ c.is_value.ensures.1 v) ∙ c.loop-i.invariant

pub returns : goal.returns
returns c =
    let bound = sym c.is_bound.ensures ∙ c.if-not-is_bound.false in
    let ws = by_age c.args.ring.now c.args.s in
    open_none ws c.loop-i.i (omega (arith, c.loop-i-test.false)) ∙ c.loop-i.invariant ∙ sym (ends_is ws c.args.at ∙ ap (λ b. b && open_at ws c.args.at) bound)
