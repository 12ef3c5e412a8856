-- The safety of a passed table, as one statement. Assumes nothing.
use Rattle.std.specs.Prelude.{◌≡◌, ℕ}
use Rattle.base_program.specs.declared.Program.{Program}
use Rattle.spec_check.specs.declared.Verdict.{Verdict}
use Rattle.spec_check.specs.Check.{check}
use Rattle.spec_check.specs.Counts.{stated_count}
use Rattle.spec_machine.specs.Memory.{Memory}
use Rattle.spec_machine.specs.Values.{Scan}
use Rattle.spec_machine.specs.Machine.{Config, table_of}
use Rattle.spec_machine.specs.Run.{start, Steps, Ends}
use Rattle.spec_machine.specs.Limits.{Within, WithinCount}

-- Every program that the check passes, every scan (table, tick, readings) and every memory: the scan ends after at most the stated count of its
-- table, and every configuration on the way keeps every limit.
abbrev pub Safety : Type 0
Safety =
    (p : Program) (first second : ℕ) → check p ≡ Verdict.Pass first second
    → (x : Scan) (m : Memory)
    → ((n : ℕ) × (m' : Memory) × Ends p x (start x m) n m' × WithinCount (stated_count p (table_of x.table)) n)
    × ((n : ℕ) (c : Config) → Steps p x n (start x m) c → Within p x c)
