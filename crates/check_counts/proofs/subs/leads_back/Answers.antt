-- A call's code tells its number; another's is no call's.
use Rattle.std.proofs.Common.{sym, ◌∙◌, arith}
use Rattle.record_codes.specs.Kinds.{none_some, not_call}
use Rattle.check_counts.specs.Ahead.{call_ahead}
use Rattle.check_counts.proofs.subs.leads_back.Goals as goal
use Rattle.check_counts.proofs.subs.leads_back.Goals.{else-c-ge-CALL-via-then-c-ge-CALL+else-c-lt-EXIT_IF_TRUE, else-c-ge-CALL-via-else-c-ge-CALL}

pub returns-then-c-lt-EXIT_IF_TRUE : goal.returns-then-c-lt-EXIT_IF_TRUE
returns-then-c-lt-EXIT_IF_TRUE c = λ z k q. call_ahead c.args.c c.args.e c.args.subs.now c.if-c-ge-CALL.true c.if-c-lt-EXIT_IF_TRUE.true z k q

pub returns-else-c-ge-CALL : goal.returns-else-c-ge-CALL
returns-else-c-ge-CALL c = λ z k q.
    elim c.else-c-ge-CALL.branch [
      | else-c-ge-CALL-via-then-c-ge-CALL+else-c-lt-EXIT_IF_TRUE w ↦ none_some (sym (not_call c.args.c (λ y. omega arith)) ∙ q)
      | else-c-ge-CALL-via-else-c-ge-CALL w ↦ none_some (sym (not_call c.args.c (λ y. omega arith)) ∙ q)
    ]
