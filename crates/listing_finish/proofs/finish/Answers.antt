-- The buffer has room for what is put, so its first bytes are just that.
use mathlib.Core.Path.{sym, ap, subst, ◌∙◌}
use lib.ListN.{length, take}
use lib.Seq.{length-take-le}
use Rattle.spec_listing.specs.Reading.{Finished}
use Rattle.spec_listing.proofs.Printed.{finish_refused, finish_unfinished, finish_listed, finish_fault, finish_passed}
use Rattle.listing_finish.proofs.finish.Goals as goal

pub returns-then-kept-ne0 : goal.returns-then-kept-ne0
returns-then-kept-ne0 c =
    let next = c.put_refusal-then-kept-ne0.new.out in
    let n = length-take-le c.args.kept c.args.space.now c.requires.0 in record {
      finished = subst (λ x. Finished x (take c.args.kept c.args.space.now) c.args.state c.args.ring.now (take c.put_refusal-then-kept-ne0.result next)) (sym c.in-Lines.is)
          (finish_unfinished c.args.out.now c.put_refusal-then-kept-ne0.result next c.requires.1.1 c.args.state c.args.ring.now (take c.args.kept c.args.space.now) (λ e. c.if-kept-ne0.true (sym n ∙ ap length e)) c.put_refusal-then-kept-ne0.ensures);
      upper_bound = c.put_refusal-then-kept-ne0.ensures.within;
    }

pub slice_bounds-check_text-end : goal.slice_bounds-check_text-end
slice_bounds-check_text-end c =
    sym (length-take-le c.args.kept c.args.space.now c.requires.0)

pub returns-in-Refused : goal.returns-in-Refused
returns-in-Refused c =
    let next = c.put_refusal.new.out in record {
      finished = subst (λ x. Finished x (take c.args.kept c.args.space.now) c.args.state c.args.ring.now (take c.put_refusal.result next)) (sym c.in-Refused.is)
          (finish_refused c.args.out.now c.put_refusal.result next c.requires.1.1 c.args.state c.args.ring.now c.in-Refused.number c.in-Refused.table c.in-Refused.entry (take c.args.kept c.args.space.now) c.put_refusal.ensures);
      upper_bound = c.put_refusal.ensures.within;
    }

pub returns-else-kept-ne0 : goal.returns-else-kept-ne0
returns-else-kept-ne0 c =
    let next = c.put_listing.new.out in record {
      finished = subst (λ x. Finished x (take c.args.kept c.args.space.now) c.args.state c.args.ring.now (take c.put_listing.result next)) (sym c.in-Lines.is)
          (finish_listed c.args.out.now c.put_listing.result next c.requires.1.1 c.args.state c.args.ring.now (take c.args.kept c.args.space.now) (ap (λ k. take k c.args.space.now) c.if-kept-ne0.false) c.requires.1.0 c.put_listing.ensures);
      upper_bound = c.put_listing.ensures.within;
    }

pub returns-in-Fault : goal.returns-in-Fault
returns-in-Fault c =
    let next = c.put_refusal-in-Fault.new.out in record {
      finished = subst (λ x. Finished x (take c.args.kept c.args.space.now) c.args.state c.args.ring.now (take c.put_refusal-in-Fault.result next)) (sym c.in-Text.is)
          (finish_fault c.args.out.now c.put_refusal-in-Fault.result next c.requires.1.1 c.args.state c.args.ring.now (take c.args.kept c.args.space.now) c.check_text-checked.result c.check_text-checked.ensures c.in-Fault.number c.in-Fault.table c.in-Fault.entry c.in-Fault.is c.put_refusal-in-Fault.ensures);
      upper_bound = c.put_refusal-in-Fault.ensures.within;
    }

pub returns-in-Pass : goal.returns-in-Pass
returns-in-Pass c =
    let next = c.put_listing-in-Pass.new.out in record {
      finished = subst (λ x. Finished x (take c.args.kept c.args.space.now) c.args.state c.args.ring.now (take c.put_listing-in-Pass.result next)) (sym c.in-Text.is)
          (finish_passed c.args.out.now c.put_listing-in-Pass.result next c.requires.1.1 c.args.state c.args.ring.now (take c.args.kept c.args.space.now) c.check_text-checked.result c.check_text-checked.ensures c.in-Pass.field-0 c.in-Pass.field-1 c.in-Pass.is c.requires.1.0 c.put_listing-in-Pass.ensures);
      upper_bound = c.put_listing-in-Pass.ensures.within;
    }
