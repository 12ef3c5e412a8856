-- What is left from here ends where the whole does.
use Rattle.std.proofs.Common.{◌≡◌, false, ◌&&◌, drop, refl, sym, ◌∙◌}
use Rattle.base_laws.specs.Tests.{both, not_first, not_second}
use Rattle.listing_input.specs.Extent.{two_closes, extent_of}
use Rattle.listing_input.proofs.Turns.{turn, found, over}
use Rattle.listing_input.proofs.ending.find_end.Goals as goal
use Rattle.listing_input.proofs.ending.find_end.Goals.{else-starts-via-then-starts+else-two_closes, else-starts-via-else-starts}

pub loop-i-init : goal.loop-i-init
unfolding extent_of
loop-i-init c =
    refl

pub returns-then-two_closes : goal.returns-then-two_closes
returns-then-two_closes c =
    sym (found c.loop-i.starts c.loop-i.i c.args.s.now c.loop-i.i c.loop-i-test.true (both c.if-starts.true (sym c.two_closes.ensures ∙ c.if-two_closes.true))) ∙ c.loop-i.invariant

pub loop-i-preserved : goal.loop-i-preserved
loop-i-preserved c =
    let t = c.loop-i.starts in
    let more : (t && two_closes (drop c.loop-i.i c.args.s.now)) ≡ false = elim c.else-starts.branch [
      | else-starts-via-then-starts+else-two_closes w ↦ not_second t (sym w.two_closes.ensures ∙ w.if-two_closes.false)
      | else-starts-via-else-starts w ↦ not_first _ w.if-starts.false
    ] in
    turn t c.loop-i.i c.args.s.now c.loop-i.i c.loop-i-test.true more ∙ c.loop-i.invariant

pub returns : goal.returns
returns c =
    sym (over c.loop-i.starts c.loop-i.i c.args.s.now c.loop-i.i c.loop-i-test.false) ∙ c.loop-i.invariant
