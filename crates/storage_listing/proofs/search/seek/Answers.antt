-- Each turn is one law of `Seek` on the words by age, and of `Runs` over a run of values.
use mathlib.Core.Path.{sym, ap, ◌∙◌, subst}
use mathlib.Core.Bool.{false}
use Prim.Native.Nat.{◌+◌}
use native.Mathlib.Omega.{arith}
use Rattle.storage_word.specs.Word.{is_start}
use Rattle.storage_ring.specs.Ring.{by_age}
use Rattle.storage_ring.specs.RingLaws.{by_age_length_lem}
use Rattle.storage_listing.specs.Seek.{seeking_begin, seeking_word, seeking_outside, seeking_first, seeking_any, sought_here, sought_last, sought_none}
use Rattle.storage_listing.specs.Runs.{ValuesTo, seeking_to}
use Rattle.storage_listing.proofs.search.seek.Goals as goal

pub loop-i-init : goal.loop-i-init
loop-i-init c =
    seeking_begin (by_age c.args.ring.now c.args.s) c.args.from

pub returns-then-filled-end : goal.returns-then-filled-end
returns-then-filled-end c =
    let ws = by_age c.args.ring.now c.args.s in
    let n = by_age_length_lem c.args.ring.now c.args.s c.requires in
    let starts = ap is_start (sym c.word_at.ensures) ∙ sym c.is_start.ensures ∙ c.if-is_start.true in
    let begun = seeking_first ws c.loop-i.i (omega (arith, n, c.loop-i-test.true)) c.args.from 0 starts c.loop-i.invariant in
    let run = seeking_to ws c.args.from c.loop-i.i (c.loop-i.i + 1) c.values_end-end.result (subst (λ k. ValuesTo ws (c.loop-i.i + 1) k c.values_end-end.result) (sym n) c.values_end-end.ensures) begun in
    sought_last ws c.args.from c.loop-i.i c.values_end-end.result c.args.s.filled n c.if-filled-end.true run

pub returns-then-is_start-2 : goal.returns-then-is_start-2
returns-then-is_start-2 c =
    let ws = by_age c.args.ring.now c.args.s in
    let n = by_age_length_lem c.args.ring.now c.args.s c.requires in
    let starts = ap is_start (sym c.word_at.ensures) ∙ sym c.is_start.ensures ∙ c.if-is_start.true in
    let begun = seeking_first ws c.loop-i.i (omega (arith, n, c.loop-i-test.true)) c.args.from 0 starts c.loop-i.invariant in
    let run = seeking_to ws c.args.from c.loop-i.i (c.loop-i.i + 1) c.values_end-end.result (subst (λ k. ValuesTo ws (c.loop-i.i + 1) k c.values_end-end.result) (sym n) c.values_end-end.ensures) begun in
    sought_here ws c.values_end-end.result (omega (arith, n, c.if-filled-end.false)) c.args.from c.loop-i.i (ap is_start (sym c.word_at-then-is_start.ensures) ∙ sym c.is_start-then-is_start.ensures ∙ c.if-is_start-2.true) run

pub loop-i-preserved-then-is_start : goal.loop-i-preserved-then-is_start
loop-i-preserved-then-is_start c =
    let ws = by_age c.args.ring.now c.args.s in
    let n = by_age_length_lem c.args.ring.now c.args.s c.requires in
    let starts = ap is_start (sym c.word_at.ensures) ∙ sym c.is_start.ensures ∙ c.if-is_start.true in
    let begun = seeking_first ws c.loop-i.i (omega (arith, n, c.loop-i-test.true)) c.args.from 0 starts c.loop-i.invariant in
    let run = seeking_to ws c.args.from c.loop-i.i (c.loop-i.i + 1) c.values_end-end.result (subst (λ k. ValuesTo ws (c.loop-i.i + 1) k c.values_end-end.result) (sym n) c.values_end-end.ensures) begun in
    seeking_any ws c.args.from (c.values_end-end.result + 1) c.loop-i.i 0 (seeking_word ws c.values_end-end.result (omega (arith, n, c.if-filled-end.false)) c.args.from c.loop-i.i (ap is_start (sym c.word_at-then-is_start.ensures) ∙ sym c.is_start-then-is_start.ensures ∙ c.if-is_start-2.false) run false (sym (c.values_end-end.ensures.stop (omega (arith, c.if-filled-end.false)))))

pub loop-i-preserved : goal.loop-i-preserved
loop-i-preserved c =
    let ws = by_age c.args.ring.now c.args.s in
    let n = by_age_length_lem c.args.ring.now c.args.s c.requires in
    seeking_outside ws c.loop-i.i (omega (arith, n, c.loop-i-test.true)) c.args.from 0 (ap is_start (sym c.word_at.ensures) ∙ sym c.is_start.ensures ∙ c.if-is_start.false) c.loop-i.invariant

pub returns : goal.returns
returns c =
    let ws = by_age c.args.ring.now c.args.s in
    let n = by_age_length_lem c.args.ring.now c.args.s c.requires in
    sought_none ws c.args.from 0 c.loop-i.i c.args.s.filled n (omega (arith, c.loop-i-test.false)) c.loop-i.invariant
