-- What the library's checks leave of a verdict: document 01's five numbers. Assumes nothing.
use Rattle.std.specs.Prelude.{◌≡◌, ℕ, Bool, cond}
use Rattle.spec_check.specs.declared.Verdict.{Verdict}
use Rattle.spec_check.specs.Check.{answer_of}

-- what a check answers, r, and leaves in table, entry and both counts, where its buffers are `taken`, and where they are not: before it t, e, a and b,
-- behind it t', e', a' and b'
pub record VerdictTold (taken : Bool) (v : Verdict) (t e a b r t' e' a' b' : ℕ) : Type 0 where
  pub number : r ≡ cond taken (answer_of v).number 31
  pub table : t' ≡ cond taken (answer_of v).table t
  pub entry : e' ≡ cond taken (answer_of v).entry e
  pub first : a' ≡ cond taken (answer_of v).first a
  pub second : b' ≡ cond taken (answer_of v).second b
