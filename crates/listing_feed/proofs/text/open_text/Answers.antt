-- The end is looked for in all that was read; a text that passed has its lines behind it.
use mathlib.Core.Path.{refl, sym, ◌∙◌}
use mathlib.Core.List.{[]}
use native.Mathlib.Omega.{arith}
use lib.ListN.{take}
use lib.Seq.{length-take-le}
use Rattle.spec_listing.specs.Step.{run_of}
use Rattle.spec_listing.specs.Reading.{blank}
use Rattle.spec_listing.proofs.ReadingLaws.{text_long}
use Rattle.spec_listing.proofs.Parts.{end_within, open_fault, open_passed}
use Rattle.listing_feed.proofs.text.open_text.Goals as goal

pub slice_bounds-find_end-end-2 : goal.slice_bounds-find_end-end-2
slice_bounds-find_end-end-2 c =
    sym (length-take-le c.args.filled c.args.space.now c.requires.0)

pub returns-then-filled-gt16384 : goal.returns-then-filled-gt16384
returns-then-filled-gt16384 c =
    let n = length-take-le c.args.filled c.args.space.now c.requires.0 in
    record { opened = (λ z. text_long (take c.args.filled c.args.space.now) (sym c.find_end.ensures ∙ c.in_default.is) (omega (arith, n, c.if-filled-gt16384.true))); kept_bound = omega arith }

pub returns-in_default : goal.returns-in_default
returns-in_default c =
    let n = length-take-le c.args.filled c.args.space.now c.requires.0 in
    record { opened = (λ z. record { kept = refl; endless = sym c.find_end.ensures ∙ c.in_default.is; short = omega (arith, n, c.if-filled-gt16384.false); begun = z }); kept_bound = omega (arith, c.if-filled-gt16384.false) }

pub slice_bounds-check_text-end : goal.slice_bounds-check_text-end
slice_bounds-check_text-end c =
    omega (arith, end_within c.args.space.now c.args.filled c.in-Some.end c.requires.0 (sym c.find_end.ensures ∙ c.in-Some.is), c.requires.0)

pub slice_bounds-check_text-end-2 : goal.slice_bounds-check_text-end-2
slice_bounds-check_text-end-2 c =
    sym (length-take-le c.in-Some.end c.args.space.now (omega (arith, end_within c.args.space.now c.args.filled c.in-Some.end c.requires.0 (sym c.find_end.ensures ∙ c.in-Some.is), c.requires.0)))

pub follow-requires : goal.follow-requires
follow-requires c =
    (end_within c.args.space.now c.args.filled c.in-Some.end c.requires.0 (sym c.find_end.ensures ∙ c.in-Some.is), c.requires)

pub returns-in-Fault : goal.returns-in-Fault
returns-in-Fault c =
    record { opened = open_fault c.args.space.now c.args.filled c.in-Some.end c.requires.0 (sym c.find_end.ensures ∙ c.in-Some.is) c.check_text-checked.result c.check_text-checked.ensures.answer c.in-Fault.number c.in-Fault.table c.in-Fault.entry c.in-Fault.is _ blank [] c.args.none; kept_bound = omega arith }

pub returns-in-Pass : goal.returns-in-Pass
returns-in-Pass c =
    record { opened = open_passed c.args.space.now c.args.filled c.in-Some.end c.requires.0 (sym c.find_end.ensures ∙ c.in-Some.is) c.check_text-checked.result c.check_text-checked.ensures.answer c.in-Pass.field-0 c.in-Pass.field-1 c.in-Pass.is _ (run_of c.follow.result.state c.follow.new.readings c.follow.new.locations c.follow.new.sums c.follow.new.counts c.follow.new.ring) c.follow.result.stage (take c.follow.result.kept c.follow.new.space) c.follow.result.program c.follow.ensures.followed; kept_bound = c.follow.ensures.kept_bound }
