-- Each way is one law of `Subs`: an entry is passed over, or its subroutine is counted.
use Prim.Native.Nat.{◌+◌, ◌%◌}
use native.Mathlib.Omega.{arith}
use lib.ListN.{get_or}
use Rattle.base_program.specs.declared.Table.TheVariants.{Three}
use Rattle.base_program.specs.Entries.{entries}
use Rattle.record_codes.specs.Kinds.{no_sub}
use Rattle.check_counts.specs.Subs.{labelled_code, skip_entry, skip_later, skip_height, count_entry_lem}
use Rattle.check_counts.specs.Lent.{stopped_set}
use Rattle.check_counts.proofs.subs.count_sub.Goals as goal

pub returns-then-c-lt-SUBROUTINE : goal.returns-then-c-lt-SUBROUTINE
returns-then-c-lt-SUBROUTINE c =
    ((λ first a. skip_entry _ _ _ _ _ _ _ _ c.requires.1 _ a (no_sub _ (λ z. omega (arith, c.if-c-lt-SUBROUTINE.true)))), c.requires.0.1)

pub returns-then-c-ge-CALL : goal.returns-then-c-ge-CALL
returns-then-c-ge-CALL c =
    ((λ first a. skip_entry _ _ _ _ _ _ _ _ c.requires.1 _ a (no_sub _ (λ z. omega (arith, c.if-c-ge-CALL.true)))), c.requires.0.1)

pub returns-then-subs-k : goal.returns-then-subs-k
returns-then-subs-k c =
    ((λ first a. skip_later _ _ _ _ _ _ _ _ c.requires.1 _ a (get_or c.args.codes.now (198 + c.args.e) 0 % 256) (omega arith) (labelled_code _ (omega (arith, c.if-c-lt-SUBROUTINE.false)) (omega (arith, c.if-c-ge-CALL.false))) c.if-subs-k.true), c.requires.0.1)

pub returns-then-heights-k : goal.returns-then-heights-k
returns-then-heights-k c =
    ((λ first a. skip_height _ _ _ _ _ _ _ _ c.requires.1 _ a (get_or c.args.codes.now (198 + c.args.e) 0 % 256) (omega arith) (labelled_code _ (omega (arith, c.if-c-lt-SUBROUTINE.false)) (omega (arith, c.if-c-ge-CALL.false))) (λ x y. omega (arith, c.if-heights-k.true))), c.requires.0.1)

pub returns-then-high-heights : goal.returns-then-high-heights
returns-then-high-heights c =
    ((λ first a. skip_height _ _ _ _ _ _ _ _ c.requires.1 _ a (get_or c.args.codes.now (198 + c.args.e) 0 % 256) (omega arith) (labelled_code _ (omega (arith, c.if-c-lt-SUBROUTINE.false)) (omega (arith, c.if-c-ge-CALL.false))) (λ x y. omega (arith, c.if-high-heights.true))), c.requires.0.1)

pub returns : goal.returns
returns c =
    ((λ first a. count_entry_lem _ _ _ _ _ _ _ _ c.requires.1 _ a (get_or c.args.codes.now (198 + c.args.e) 0 % 256) (omega arith) (labelled_code _ (omega (arith, c.if-c-lt-SUBROUTINE.false)) (omega (arith, c.if-c-ge-CALL.false))) c.if-subs-k.false c.count_from-counted.result c.requires.0.1.calls (λ p r. c.count_from-counted.ensures.0 (entries p Three) r.length_is r.flows_are)), stopped_set c.args.adds.now (get_or c.args.codes.now (198 + c.args.e) 0 % 256) c.count_from-counted.result (omega arith) c.count_from-counted.ensures.1 c.requires.0.1)
