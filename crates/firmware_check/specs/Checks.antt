-- What the library's two checks answer, and what they leave in the lent buffers. What is quoted is of `include/yukeira.h`. Assumes nothing.
use Rattle.std.specs.Prelude.{◌≡◌, ℕ, true, cond, List, Float}
use Rattle.spec_check.specs.declared.Verdict.{Verdict}
use Rattle.spec_check.specs.Check.{check}
use Rattle.check_known.specs.Laid.{check_laid}
use Rattle.text_answer.specs.Check.{check_text}
use Rattle.record_layout.specs.Layout.{record_of, numbers_of, values_of}
use Rattle.firmware_buffers.specs.Sizes.{is_record}
use Rattle.firmware_verdict.specs.Told.{VerdictTold}

-- 'the record is in numbers and values'; of a fault 'the record is the empty one'
pub record TextTold (text ns : List ℕ) (vs : List Float) (t e a b r : ℕ) (ns' : List ℕ) (vs' : List Float) (t' e' a' b' : ℕ) : Type 0 where
  pub told : VerdictTold (is_record ns vs) (check_text text).verdict t e a b r t' e' a' b'
  pub numbers : ns' ≡ cond (is_record ns vs) (numbers_of (check_text text).program) ns
  pub values : vs' ≡ cond (is_record ns vs) (values_of (check_text text).program) vs
  -- a record that passes is read back as one that passes, with the same counts
  pub passes : (x y : ℕ) → is_record ns vs ≡ true → (check_text text).verdict ≡ Verdict.Pass x y → check (record_of ns' vs') ≡ Verdict.Pass x y

-- the check of a record in lent buffers
abbrev pub RecordTold : List ℕ → List Float → ℕ → ℕ → ℕ → ℕ → ℕ → ℕ → ℕ → ℕ → ℕ → Type 0
RecordTold ns vs t e a b r t' e' a' b' = VerdictTold (is_record ns vs) (check_laid ns vs) t e a b r t' e' a' b'
