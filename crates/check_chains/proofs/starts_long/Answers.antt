-- An 85's code tells its number; another's is no 85's.
use Rattle.std.proofs.Common.{sym, ap, arith}
use Rattle.spec_check.specs.Blocks.{label}
use Rattle.record_codes.specs.Kinds.{no_sub, sub_code}
use Rattle.check_chains.specs.Chains.{call_holds, high}
use Rattle.check_chains.proofs.starts_long.Goals as goal
use Rattle.check_chains.proofs.starts_long.Goals.{else-c-ge-SUBROUTINE-via-then-c-ge-SUBROUTINE+else-c-lt-CALL, else-c-ge-SUBROUTINE-via-else-c-ge-SUBROUTINE}

pub returns-then-c-lt-CALL : goal.returns-then-c-lt-CALL
unfolding label
returns-then-c-lt-CALL c = ap (λ x. call_holds (high c.args.heights.now 7) (label x)) (sym (sub_code c.args.c c.if-c-ge-SUBROUTINE.true c.if-c-lt-CALL.true))

pub returns-else-c-ge-SUBROUTINE : goal.returns-else-c-ge-SUBROUTINE
returns-else-c-ge-SUBROUTINE c =
    elim c.else-c-ge-SUBROUTINE.branch [
      | else-c-ge-SUBROUTINE-via-then-c-ge-SUBROUTINE+else-c-lt-CALL w ↦ ap (call_holds (high c.args.heights.now 7)) (sym (no_sub c.args.c (λ z. omega arith)))
      | else-c-ge-SUBROUTINE-via-else-c-ge-SUBROUTINE w ↦ ap (call_holds (high c.args.heights.now 7)) (sym (no_sub c.args.c (λ z. omega arith)))
    ]
