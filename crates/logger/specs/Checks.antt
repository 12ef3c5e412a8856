-- What the checks answer: the verdict that the definition gives, and with it document 01's five numbers. Assumes nothing.
use Rattle.std.specs.Prelude.{◌≡◌, List, ℕ}
use Rattle.base_program.specs.declared.Program.{Program}
use Rattle.spec_check.specs.declared.Verdict.{Verdict}
use Rattle.spec_check.specs.Check.{check, answer_of}
use Rattle.text_answer.specs.declared.TextAnswer.{TextAnswer}
use Rattle.text_answer.specs.Check.{check_text}

-- 'The check answers number, table, entry (a pass is all 0)'; 'With a fault it answers counts of 0'
pub record RecordChecked (p : Program) (r : Verdict) : Type 0 where
  pub verdict : r ≡ check p
  pub numbers : answer_of r ≡ answer_of (check p)

-- 'and, of a text, an empty record'
pub record TextChecked (s : List ℕ) (r : TextAnswer) : Type 0 where
  pub answer : r ≡ check_text s
  pub numbers : answer_of r.verdict ≡ answer_of (check_text s).verdict
