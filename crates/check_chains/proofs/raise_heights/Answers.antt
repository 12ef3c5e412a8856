-- Each turn goes to the next place, and is then one step of `Rounds`, by the kind that the entry's code tells.
use Rattle.std.proofs.Common.{◌≡◌, ◌+◌, ◌<◌, ◌∙◌, get_or, arith, length-set}
use Rattle.record_codes.specs.Kinds.{no_sub, not_call, sub_code, call_code}
use Rattle.check_subroutines.specs.Listed.{below, listed_at}
use Rattle.check_chains.proofs.Rounds.{round_begins, round_next, round_over, round_passed, round_called, round_kept, round_raised}
use Rattle.check_chains.proofs.raise_heights.Goals as goal
use Rattle.check_chains.proofs.raise_heights.Goals.{then-heights-k, else-heights-k}

pub loop-e-init : goal.loop-e-init
loop-e-init c = record { long = c.requires.2; at = round_begins _ _ _ }

pub bounds-codes-e : goal.bounds-codes-e
bounds-codes-e c =
    let i : c.loop-e.e-index < c.args.calls.now.count = omega arith in
    rw (listed_at c.args.calls.now.places c.args.calls.now.count c.loop-e.e-index i) (omega (arith, below _ _ _ c.requires.1 (c.loop-e.e-index + 1) (omega arith) (omega arith), c.requires.1.top))

pub loop-e-preserved-then-c-lt-SUBROUTINE : goal.loop-e-preserved-then-c-lt-SUBROUTINE
loop-e-preserved-then-c-lt-SUBROUTINE c =
    let i : c.loop-e.e-index < c.args.calls.now.count = omega arith in
    let small : get_or c.args.calls.now.places (c.loop-e.e-index + 1) 0 < get_or c.args.calls.now.places 0 0 = below _ _ _ c.requires.1 (c.loop-e.e-index + 1) (omega arith) (omega arith) in
    let item = listed_at c.args.calls.now.places c.args.calls.now.count c.loop-e.e-index i in
    let here = round_next _ _ _ c.requires.1 _ _ _ _ c.loop-e.e-index i c.loop-e.invariant.at in
    let low = rw item at c.if-c-lt-SUBROUTINE.true in
    record { long = c.loop-e.invariant.long; at = round_passed _ _ _ _ _ _ _ small here (no_sub _ (λ z. omega (arith, low))) (not_call _ (λ z. omega (arith, low))) }

pub loop-e-preserved-then-c-ge-EXIT_IF_TRUE : goal.loop-e-preserved-then-c-ge-EXIT_IF_TRUE
loop-e-preserved-then-c-ge-EXIT_IF_TRUE c =
    let i : c.loop-e.e-index < c.args.calls.now.count = omega arith in
    let small : get_or c.args.calls.now.places (c.loop-e.e-index + 1) 0 < get_or c.args.calls.now.places 0 0 = below _ _ _ c.requires.1 (c.loop-e.e-index + 1) (omega arith) (omega arith) in
    let item = listed_at c.args.calls.now.places c.args.calls.now.count c.loop-e.e-index i in
    let here = round_next _ _ _ c.requires.1 _ _ _ _ c.loop-e.e-index i c.loop-e.invariant.at in
    let high = rw item at c.if-c-ge-EXIT_IF_TRUE.true in
    record { long = c.loop-e.invariant.long; at = round_passed _ _ _ _ _ _ _ small here (no_sub _ (λ z. omega (arith, high))) (not_call _ (λ z. omega (arith, high))) }

pub above-most-requires : goal.above-most-requires
above-most-requires c = c.loop-e.invariant.at.low

pub loop-e-preserved-then-c-ge-CALL : goal.loop-e-preserved-then-c-ge-CALL
loop-e-preserved-then-c-ge-CALL c =
    let i : c.loop-e.e-index < c.args.calls.now.count = omega arith in
    let small : get_or c.args.calls.now.places (c.loop-e.e-index + 1) 0 < get_or c.args.calls.now.places 0 0 = below _ _ _ c.requires.1 (c.loop-e.e-index + 1) (omega arith) (omega arith) in
    let item = listed_at c.args.calls.now.places c.args.calls.now.count c.loop-e.e-index i in
    let here = round_next _ _ _ c.requires.1 _ _ _ _ c.loop-e.e-index i c.loop-e.invariant.at in
    let low = rw item at c.if-c-ge-CALL.true in
    let high = rw item at c.if-c-ge-EXIT_IF_TRUE.false in
    record {
      long = c.loop-e.invariant.long;
      at = round_called _ _ _ _ _ _ _ small here (no_sub _ (λ z. omega (arith, low))) _ (omega arith) (call_code _ low high) _ (simp item at c.above-most.ensures);
    }

pub loop-e-preserved : goal.loop-e-preserved
loop-e-preserved c =
    let i : c.loop-e.e-index < c.args.calls.now.count = omega arith in
    let small : get_or c.args.calls.now.places (c.loop-e.e-index + 1) 0 < get_or c.args.calls.now.places 0 0 = below _ _ _ c.requires.1 (c.loop-e.e-index + 1) (omega arith) (omega arith) in
    let item = listed_at c.args.calls.now.places c.args.calls.now.count c.loop-e.e-index i in
    let here = round_next _ _ _ c.requires.1 _ _ _ _ c.loop-e.e-index i c.loop-e.invariant.at in
    let low = rw item at c.if-c-lt-SUBROUTINE.false in
    let high = rw item at c.if-c-ge-CALL.false in
    elim c.if-heights-k.branch [
      | then-heights-k w ↦
          let set_there = rw item at w.heights-is in
          rw (set_there, w.raised-is, w.most-is)
          (record { long = length-set _ _ _ ∙ c.loop-e.invariant.long; at = round_raised _ _ _ _ _ _ _ small here _ (sub_code _ low high) (omega (arith, c.loop-e.invariant.long)) })
      | else-heights-k w ↦
          let same = rw item at w.if-heights-k.false in
          rw (w.heights-is, w.raised-is, w.most-is) (record { long = c.loop-e.invariant.long; at = round_kept _ _ _ _ _ _ _ small here _ (sub_code _ low high) same })
    ]

pub returns : goal.returns
returns c = let end : c.loop-e.e-index ≡ c.args.calls.now.count = omega arith in round_over _ _ _ c.requires.1 _ _ _ _ (rw end at c.loop-e.invariant.at)
