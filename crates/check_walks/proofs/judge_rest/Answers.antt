-- The first fault of the walks in order, or the counts' verdict.
use mathlib.Core.Path.{refl, sym, ◌∙◌}
use Rattle.base_program.specs.declared.Table.TheVariants.{Three}
use Rattle.record_codes.specs.Loaded.{zero_at}
use Rattle.check_walks.specs.Walked.{fault_found, fault_in_middle, fault_in_sums, counts_verdict}
use Rattle.check_walks.proofs.judge_rest.Goals as goal

pub walk_calls-structure-requires : goal.walk_calls-structure-requires
walk_calls-structure-requires c =
    record { short = c.requires.0.short; codes_size = c.requires.0.places; needs_size = c.requires.2; starts_size = c.fill_subs-calls.auto.subs ∙ c.requires.3; listed = c.fill_subs-calls.ensures.1.0; head_is = c.fill_subs-calls.ensures.1.1; heights_size = refl; heights_zero = zero_at 256 }

pub returns-in-Fault : goal.returns-in-Fault
returns-in-Fault c =
    λ p h. fault_found p _ _ _ _ _ _ (fault_in_middle p h.clean c.walk_calls-structure.result _ _ _ (c.walk_calls-structure.ensures p h.known (c.fill_subs-calls.ensures.0 p h.known.flows_are (h.known.lengths_are Three))).finding c.in-Fault.is)

pub returns-in-Fault-handed_out : goal.returns-in-Fault-handed_out
returns-in-Fault-handed_out c =
    λ p h. fault_found p _ _ _ _ _ _ (fault_in_sums p h.clean (sym (c.walk_calls-structure.ensures p h.known (c.fill_subs-calls.ensures.0 p h.known.flows_are (h.known.lengths_are Three))).finding ∙ c.in_default.is) c.walk_sums-handed_out.result _ _ _ (c.walk_sums-handed_out.ensures p (record { lengths_are = h.known.lengths_are; sums_are = h.sums_are; most_is = h.limit_is })) c.in-Fault-handed_out.is)

pub returns : goal.returns
returns c =
    λ p h. record {
      verdict = c.judge_counts.ensures ∙ counts_verdict p h.clean (sym (c.walk_calls-structure.ensures p h.known (c.fill_subs-calls.ensures.0 p h.known.flows_are (h.known.lengths_are Three))).finding ∙ c.in_default.is) (sym (c.walk_sums-handed_out.ensures p (record { lengths_are = h.known.lengths_are; sums_are = h.sums_are; most_is = h.limit_is })) ∙ c.in_default-handed_out.is) c.count_tables.result.first c.count_tables.result.second (c.count_tables.ensures p (record { lengths_are = h.known.lengths_are; flows_are = h.known.flows_are; subs_are = c.fill_subs-calls.ensures.0 p h.known.flows_are (h.known.lengths_are Three); heights_are = (c.walk_calls-structure.ensures p h.known (c.fill_subs-calls.ensures.0 p h.known.flows_are (h.known.lengths_are Three))).heights_are c.in_default.is; short = (c.walk_calls-structure.ensures p h.known (c.fill_subs-calls.ensures.0 p h.known.flows_are (h.known.lengths_are Three))).short c.in_default.is }));
      passed = λ a b z. record {
        lengths_are = h.sized;
        flows_are = h.known.flows_are;
        sums_are = h.sums_are;
        subs_are = c.fill_subs-calls.ensures.0 p h.known.flows_are (h.known.lengths_are Three);
        codes_size = c.requires.0.places;
        taken_size = c.requires.1;
        starts_size = c.fill_subs-calls.auto.subs ∙ c.requires.3;
      };
    }
