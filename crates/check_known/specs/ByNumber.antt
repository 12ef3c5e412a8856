-- How 3 is found: a fault 2 of an entry is 3 where the entry's number is none. Assumes nothing.
use Rattle.std.specs.Prelude.{ℕ, Bool, not, cond, ◌&&◌, List, eqb}
use Rattle.base_program.specs.Codes.{between}
use Rattle.spec_check.specs.declared.Verdict.{Verdict}
use Rattle.check_known.specs.Laid.{is_instruction, number_at}

unfoldable pub is_three : List ℕ → ℕ → ℕ → ℕ → Bool
is_three ns n t e = eqb n 2 && (between 1 3 t && (between 1 99 e && not (is_instruction (number_at ns t e))))

unfoldable pub by_number : List ℕ → Verdict → Verdict
unfolding is_three
by_number ns (Verdict.Pass a b) = Verdict.Pass a b
by_number ns (Verdict.Fault n t e) = cond (is_three ns n t e) (Verdict.Fault 3 t e) (Verdict.Fault n t e)
