-- The verdict of two counts. Assumes nothing.
use Rattle.std.specs.Prelude.{ℕ, cond, ltb}
use Rattle.spec_check.specs.declared.Verdict.{Verdict}

-- each 60,001 where it is more
abbrev pub count_verdict : ℕ → ℕ → Verdict
count_verdict first second = cond (ltb 60000 first) (Verdict.Fault 22 1 0) (cond (ltb 60000 second) (Verdict.Fault 22 2 0) (Verdict.Pass first second))
