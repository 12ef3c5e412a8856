-- Each turn is one step of `Eighteen`, and each way out is a fault there.
use Rattle.check_missing.specs.Places.{LeftTables, LeftEntries}
use Rattle.check_missing.proofs.Eighteen.{Known}
use Rattle.check_missing.proofs.walk_missing.Given as goal

abbrev pub invariant-tables : goal.invariant-tables
invariant-tables l = LeftTables (Known l.lengths l.codes l.subs) l.t

abbrev pub invariant-entries : goal.invariant-entries
invariant-entries l = LeftEntries (Known l.lengths l.codes l.subs) l.t l.e
