-- By the range that an 85's or a call's code has.
use Rattle.std.proofs.Common.{refl, arith, inr}
use Rattle.record_codes.specs.Kinds.{no_sub, not_call}
use Rattle.check_subroutines.proofs.count_call.Goals as goal
use Rattle.check_subroutines.proofs.count_call.Goals.{else-c-ge-SUBROUTINE-via-then-c-ge-SUBROUTINE+else-c-lt-EXIT_IF_TRUE, else-c-ge-SUBROUTINE-via-else-c-ge-SUBROUTINE}

pub returns-else-c-ge-SUBROUTINE : goal.returns-else-c-ge-SUBROUTINE
returns-else-c-ge-SUBROUTINE c =
    elim c.else-c-ge-SUBROUTINE.branch [
      | else-c-ge-SUBROUTINE-via-then-c-ge-SUBROUTINE+else-c-lt-EXIT_IF_TRUE w ↦ inr (refl, (no_sub c.args.c (λ z. omega arith), not_call c.args.c (λ z. omega arith)))
      | else-c-ge-SUBROUTINE-via-else-c-ge-SUBROUTINE w ↦ inr (refl, (no_sub c.args.c (λ z. omega arith), not_call c.args.c (λ z. omega arith)))
    ]
