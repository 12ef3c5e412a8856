-- Round by round: what is counted grows until every subroutine is.
use Rattle.std.proofs.Common.{get_or}
use Rattle.base_program.specs.declared.Program.{Program}
use Rattle.check_counts.specs.Subs.{SubsReady, CountedBy, lower}
use Rattle.check_counts.specs.Lent.{SubSizes, Stopped}
use Rattle.check_counts.proofs.subs.count_subs.Given as goal

abbrev pub invariant-loop-h : goal.invariant-loop-h
invariant-loop-h l = record {
  sizes : SubSizes l.codes (get_or l.calls.places 0 0) l.subs l.heights l.factors;
  stopped : Stopped l.adds;
  counted : (p : Program) → SubsReady p l.codes (get_or l.calls.places 0 0) l.subs l.heights → CountedBy p l.adds (lower l.subs l.heights l.h);
}
