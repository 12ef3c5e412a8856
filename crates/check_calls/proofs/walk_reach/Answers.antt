-- Each turn is one step of `Steps`, and each way out is a fault there.
use Rattle.std.proofs.Common.{◌≡◌, refl, ◌∙◌, ℕ, get_or, sym, arith, length-set}
use lib.ListN.{length-replicate}
use Rattle.check_missing.specs.Needless.{missing_ready}
use Rattle.check_calls.proofs.Steps.{walk_starts, walk_ends, table_starts, table_passed, entry_passed, plain_passed, fault_in_entry, some_fault, no_fault}
use Rattle.check_calls.proofs.walk_reach.Goals as goal

pub returns-then-not-any_need : goal.returns-then-not-any_need
returns-then-not-any_need c = λ p r. c.walk_missing.ensures p (missing_ready p _ c.args.most _ _ _ (omega arith) (c.any_need.ensures c.if-not-any_need.true) r)

pub tables-init : goal.tables-init
tables-init c = record { long = length-replicate {A = ℕ} 100 1; at = walk_starts _ }

pub entries-init : goal.entries-init
entries-init c = record {
  long = length-set {A = ℕ} c.tables.passes 0 1 ∙ c.tables.invariant.long;
  few = omega arith;
  at = table_starts _ _ c.tables-test.true c.tables.passes (omega (arith, c.tables.invariant.long)) c.tables.invariant.at;
}

pub entries-preserved-then-is_plain : goal.entries-preserved-then-is_plain
entries-preserved-then-is_plain c = record {
  long = c.entries.invariant.long;
  few = omega arith;
  at = plain_passed _ _ c.tables-test.true _ (omega arith) (omega arith) _ _ c.entries.invariant.at (sym c.is_plain.ensures ∙ c.if-is_plain.true);
}

pub entries-preserved : goal.entries-preserved
entries-preserved c = record {
  long = c.passes_through-depth.auto.passes ∙ c.entries.invariant.long;
  few = omega (arith, c.passes_through-depth.ensures.1);
  at = entry_passed _ _ c.tables-test.true _ (omega arith) (omega arith) _ c.decode_flow-x.ensures _ _ c.entries.invariant.at 0 (no_fault _ _ (sym c.in_default.is ∙ c.reach_fault.ensures)) refl _ _ c.passes_through-depth.ensures.0;
}

pub tables-preserved : goal.tables-preserved
tables-preserved c =
    let end : c.entries.e ≡ get_or c.args.lengths c.tables.t 0 = omega arith in
    record { long = c.entries.invariant.long; at = table_passed _ _ c.tables-test.true _ _ _ end c.entries.invariant.at }

pub returns-in-Some : goal.returns-in-Some
returns-in-Some c = λ p r.
    c.fault_at.ensures
    ∙ fault_in_entry _ _ c.tables-test.true _ (omega arith) (omega arith) _ c.decode_flow-x.ensures _ _ c.entries.invariant.at c.in-Some.fault
    (some_fault _ _ _ (sym c.in-Some.is ∙ c.reach_fault.ensures)).0 (some_fault _ _ _ (sym c.in-Some.is ∙ c.reach_fault.ensures)).1 p r

pub returns : goal.returns
returns c = λ p r. let end : c.tables.t ≡ 3 = omega arith in walk_ends _ (rw end at c.tables.invariant.at) p r
