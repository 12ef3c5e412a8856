-- The check of a keyed text: 'Text faults first', then the walks over its record. Assumes nothing.
use Rattle.std.specs.Prelude.{◌≡◌, ℕ, List, ◌++◌, Float}
use Rattle.base_program.specs.declared.Finding.{Finding}
use Rattle.base_program.specs.declared.Program.{Program}
use Rattle.base_program.specs.declared.Table.TheVariants.{One, Two}
use Rattle.base_program.specs.Entries.{empty}
use Rattle.spec_check.specs.declared.Verdict.{Verdict}
use Rattle.spec_check.specs.Check.{JudgedPlace, first_of, verdict, walk_blocks, walk_reach, walk_chains, walk_sums, walk_counts, check}
use Rattle.spec_check.specs.Counts.{stated_count}
use Rattle.record_layout.specs.Layout.{record_of, numbers_of, values_of}
use Rattle.text_keyed.specs.Text.{text_of}
use Rattle.text_answer.specs.declared.TextAnswer.{TextAnswer}

-- 'then 10-17 entry by entry; then 18 and 20; then 19, 21, 22'
abbrev pub record_walks : Program → List JudgedPlace
record_walks p = walk_blocks p ++ (walk_reach p ++ (walk_chains p ++ (walk_sums p ++ walk_counts p)))

unfoldable pub record_verdict : Program → Verdict
record_verdict p = verdict (first_of (record_walks p)) (stated_count p One) (stated_count p Two)

abbrev pub answer : Verdict → Program → TextAnswer
answer v p = record { verdict = v; program = p }

-- 'With a fault it answers .. of a text, an empty record'
abbrev pub refused : ℕ → ℕ → ℕ → TextAnswer
refused n t e = answer (Verdict.Fault n t e) empty

-- 'With a pass the check gives the stated counts of Tables 1 and 2, and of a text the record'
abbrev pub answered : Verdict → Program → TextAnswer
answered (Verdict.Pass a b) p = answer (Verdict.Pass a b) p
answered (Verdict.Fault n t e) p = refused n t e

abbrev pub settled : Finding → Program → TextAnswer
settled Finding.Clean p = answered (record_verdict p) p
settled (Finding.Fault n t e) p = refused n t e

unfoldable pub check_text : List ℕ → TextAnswer
check_text s = settled (text_of s).finding (text_of s).program

-- the answer x told by the verdict r and by what is left in lent buffers
pub record WrittenAs (x : TextAnswer) (r : Verdict) (ns : List ℕ) (vs : List Float) : Type 0 where
  pub verdict : r ≡ x.verdict
  pub numbers : ns ≡ numbers_of x.program
  pub values : vs ≡ values_of x.program
  -- a record that passes is read back as one that passes, with the same counts
  pub passes : (a b : ℕ) → r ≡ Verdict.Pass a b → check (record_of ns vs) ≡ Verdict.Pass a b
