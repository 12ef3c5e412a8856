-- A call's code tells its number; another's is no call's.
use Rattle.std.proofs.Common.{sym, ap, arith}
use Rattle.record_codes.specs.Kinds.{call_code}
use Rattle.check_reach.specs.Ready.{unknown}
use Rattle.check_missing.proofs.Eighteen.{not_unknown}
use Rattle.check_missing.proofs.calls_missing.Goals as goal
use Rattle.check_missing.proofs.calls_missing.Goals.{else-c-ge-CALL-via-then-c-ge-CALL+else-c-lt-EXIT_IF_TRUE, else-c-ge-CALL-via-else-c-ge-CALL}

pub returns-then-c-lt-EXIT_IF_TRUE : goal.returns-then-c-lt-EXIT_IF_TRUE
returns-then-c-lt-EXIT_IF_TRUE c = ap (λ x. unknown x c.args.subs.now) (sym (call_code c.args.c (omega arith) (omega arith)))

pub returns-else-c-ge-CALL : goal.returns-else-c-ge-CALL
returns-else-c-ge-CALL c =
    elim c.else-c-ge-CALL.branch [
      | else-c-ge-CALL-via-then-c-ge-CALL+else-c-lt-EXIT_IF_TRUE w ↦ sym (not_unknown c.args.c c.args.subs.now (λ z. omega arith))
      | else-c-ge-CALL-via-else-c-ge-CALL w ↦ sym (not_unknown c.args.c c.args.subs.now (λ z. omega arith))
    ]
