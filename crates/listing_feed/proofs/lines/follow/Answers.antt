-- What of the locations and sums is lent comes back in its place; the lines lead as `run_lines` says, and what is kept is left of them.
use mathlib.Core.Path.{◌≡◌, sym, ◌∙◌}
use mathlib.Core.List.{[]}
use Prim.Native.Nat.{◌-◌}
use native.Mathlib.Omega.{arith}
use lib.ListN.{length, take, drop, length-drop, length-take}
use lib.Seq.{length-take-le}
use Rattle.spec_listing.proofs.Parts.{rest_of, part_refused, part_kept, part_long}
use Rattle.listing_feed.proofs.lines.follow.Goals as goal

pub slice_bounds-run_lines-end-3 : goal.slice_bounds-run_lines-end-3
slice_bounds-run_lines-end-3 c =
    sym (length-take-le c.min-i.result c.args.locations.now (omega (arith, c.min-i.ensures, c.requires.1.1.locations)))

pub slice_bounds-run_lines-end-5 : goal.slice_bounds-run_lines-end-5
slice_bounds-run_lines-end-5 c =
    sym (length-take-le c.min-m.result c.args.sums.now (omega (arith, c.min-m.ensures, c.requires.1.1.sums)))

pub returns-then-step-ne0 : goal.returns-then-step-ne0
returns-then-step-ne0 c =
    record { followed = part_refused c.args.p _ c.args.readings.now c.args.locations.now c.args.sums.now c.args.counts.now c.args.ring.now c.args.state c.run_lines-step.result.state c.run_lines-step.new.readings c.run_lines-step.new.locations c.run_lines-step.new.sums c.run_lines-step.new.counts c.run_lines-step.new.ring c.min-i.result c.min-m.result c.run_lines-step.result.refusal c.run_lines-step.result.used c.requires.1.1 c.min-i.ensures c.min-m.ensures c.run_lines-step.auto.locations c.run_lines-step.auto.sums c.run_lines-step.ensures c.if-step-ne0.true []; kept_bound = omega arith }

pub keep-kept-requires : goal.keep-kept-requires
keep-kept-requires c =
    let w = c.run_lines-step.ensures.within in
    let d = length-drop c.args.from c.args.space.now in
    let e = length-take (c.args.end - c.args.from) (drop c.args.from c.args.space.now) in
    (omega (arith, w, d, e, c.requires.0), c.requires.1.0)

pub returns-then-kept-gt25 : goal.returns-then-kept-gt25
returns-then-kept-gt25 c =
    record {
      followed = part_long c.args.p _ c.args.readings.now c.args.locations.now c.args.sums.now c.args.counts.now c.args.ring.now c.args.state c.run_lines-step.result.state c.run_lines-step.new.readings c.run_lines-step.new.locations c.run_lines-step.new.sums c.run_lines-step.new.counts c.run_lines-step.new.ring c.min-i.result c.min-m.result c.run_lines-step.result.refusal c.run_lines-step.result.used c.requires.1.1 c.min-i.ensures c.min-m.ensures c.run_lines-step.auto.locations c.run_lines-step.auto.sums c.run_lines-step.ensures c.if-step-ne0.false (take c.keep-kept.result c.keep-kept.new.buf)
          (c.keep-kept.ensures.buf_after ∙ rest_of c.args.space.now c.args.from c.args.end c.run_lines-step.result.used c.keep-kept.result c.keep-kept.ensures.result_value c.requires.1.0)
          (let k = c.keep-kept.auto.buf in let n : length (take c.keep-kept.result c.keep-kept.new.buf) ≡ c.keep-kept.result = length-take-le c.keep-kept.result c.keep-kept.new.buf (omega (arith, c.keep-kept.ensures.result_value, k, c.requires.1.0)) in omega (arith, n, c.if-kept-gt25.true)) [];
      kept_bound = omega arith;
    }

pub returns : goal.returns
returns c =
    record {
      followed = part_kept c.args.p _ c.args.readings.now c.args.locations.now c.args.sums.now c.args.counts.now c.args.ring.now c.args.state c.run_lines-step.result.state c.run_lines-step.new.readings c.run_lines-step.new.locations c.run_lines-step.new.sums c.run_lines-step.new.counts c.run_lines-step.new.ring c.min-i.result c.min-m.result c.run_lines-step.result.refusal c.run_lines-step.result.used c.requires.1.1 c.min-i.ensures c.min-m.ensures c.run_lines-step.auto.locations c.run_lines-step.auto.sums c.run_lines-step.ensures c.if-step-ne0.false _
          (c.keep-kept.ensures.buf_after ∙ rest_of c.args.space.now c.args.from c.args.end c.run_lines-step.result.used c.keep-kept.result c.keep-kept.ensures.result_value c.requires.1.0);
      kept_bound = omega (arith, c.if-kept-gt25.false);
    }
