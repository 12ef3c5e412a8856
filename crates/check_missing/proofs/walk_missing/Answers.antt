-- Each turn is one step of `Eighteen`, and each way out is a fault there.
use Rattle.std.proofs.Common.{◌≡◌, ◌∙◌, get_or, sym, arith}
use Rattle.check_missing.specs.Places.{first_table, last_table}
use Rattle.check_missing.proofs.Eighteen.{leave, missing_there, none_missing}
use Rattle.check_missing.proofs.walk_missing.Goals as goal

pub tables-init : goal.tables-init
tables-init c = first_table _

pub returns-then-calls_missing : goal.returns-then-calls_missing
returns-then-calls_missing c =
    λ p r. c.fault_at.ensures ∙ missing_there _ _ _ _ c.tables-test.true _ (omega arith) c.entries.invariant (sym c.if-calls_missing.true ∙ c.calls_missing.ensures) p r

pub entries-preserved : goal.entries-preserved
entries-preserved c = none_missing _ _ _ _ c.tables-test.true _ (omega arith) c.entries.invariant (sym c.if-calls_missing.false ∙ c.calls_missing.ensures)

pub tables-preserved : goal.tables-preserved
tables-preserved c =
    let end : c.entries.e ≡ get_or c.args.lengths c.tables.t 0 = omega arith in leave _ _ _ _ c.tables-test.true _ end c.entries.invariant

pub returns : goal.returns
returns c = λ p r. let end : c.tables.t ≡ 3 = omega arith in last_table _ (rw end at c.tables.invariant) p r
