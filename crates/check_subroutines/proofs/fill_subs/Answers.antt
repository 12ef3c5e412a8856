-- Each turn adds the entry in front of those that the table is right for.
use Rattle.std.proofs.Common.{◌≡◌, refl, replicate, ◌∙◌, ◌+◌, ◌-◌, sym, ap, arith}
use lib.Seq.{get_or-set_same}
use Rattle.base_program.specs.declared.Table.TheVariants.{Three}
use Rattle.spec_check.specs.Blocks.{label}
use Rattle.record_codes.specs.Loaded.{number_some, number_none}
use Rattle.check_subroutines.specs.Labels.{begins_end, begins_other, begins_label}
use Rattle.check_subroutines.specs.Listed.{listed_start, listed_turn, head_kept}
use Rattle.check_subroutines.proofs.fill_subs.Goals as goal

pub loop-e-init : goal.loop-e-init
loop-e-init c = record {
  begins = λ p f h. begins_end p c.args.subs.now c.args.n h c.requires.1.1;
  listed = listed_start _ (replicate 100 0) _ refl c.requires.0.1;
  head = get_or-set_same (replicate 100 0) 0 _ 0 (omega arith);
}

pub loop-e-preserved-in-Some : goal.loop-e-preserved-in-Some
loop-e-preserved-in-Some c =
    let up : c.loop-e.e ≡ c.loop-e.e - 1 + 1 = omega arith in
    record {
      begins = λ p f h. begins_label p c.loop-e.subs (c.loop-e.e - 1) (omega arith) (omega arith) c.in-Some.k (omega arith)
          (ap label (sym (c.decode_flow.ensures ∙ f Three (c.loop-e.e - 1) (omega arith))) ∙ number_some _ _ c.in-Some.k c.label_number.ensures c.in-Some.is) (rw (← up) (c.loop-e.invariant.begins p f h));
      listed = listed_turn _ c.loop-e.places c.loop-e.count (c.loop-e.e - 1) (rw (← up) c.loop-e.invariant.listed) _ c.count_call-count.ensures;
      head = head_kept c.loop-e.places c.loop-e.count (c.loop-e.e - 1) ∙ c.loop-e.invariant.head;
    }

pub loop-e-preserved : goal.loop-e-preserved
loop-e-preserved c =
    let up : c.loop-e.e ≡ c.loop-e.e - 1 + 1 = omega arith in
    record {
      begins = λ p f h. begins_other p c.loop-e.subs (c.loop-e.e - 1) (omega arith) (omega arith)
          (ap label (sym (c.decode_flow.ensures ∙ f Three (c.loop-e.e - 1) (omega arith))) ∙ number_none _ _ c.label_number.ensures c.in_default.is) (rw (← up) (c.loop-e.invariant.begins p f h));
      listed = listed_turn _ c.loop-e.places c.loop-e.count (c.loop-e.e - 1) (rw (← up) c.loop-e.invariant.listed) _ c.count_call-count.ensures;
      head = head_kept c.loop-e.places c.loop-e.count (c.loop-e.e - 1) ∙ c.loop-e.invariant.head;
    }
