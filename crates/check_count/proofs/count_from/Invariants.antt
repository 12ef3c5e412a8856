-- Each turn is one law of `Ready`; it ends where the base is closed, or at the last entry.
use Rattle.std.proofs.Common.{◌≡◌, ◌+◌, ◌≤◌, ◌<◌, List, length}
use Rattle.base_program.specs.declared.Instruction.{Instruction}
use Rattle.check_count.specs.Dot.{factors}
use Rattle.check_count.specs.Ready.{FlowsIn, added, Counting}
use Rattle.check_count.proofs.count_from.Given as goal

abbrev pub invariant-loop-e : goal.invariant-loop-e
invariant-loop-e l = record {
  stopped : l.count ≤ 60001;
  inside : 0 < l.depth;
  deep : l.depth + l.from ≤ 1 + l.e;
  going : (is : List Instruction) → length is ≡ l.to → FlowsIn l.codes l.base is → Counting (added l.adds) is l.from l.e l.count (factors l.list l.depth);
}
