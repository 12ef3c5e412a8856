-- What lies in buffers that a record was written into is judged as the record. By the laws of what is read back. Assumes nothing.
use Rattle.std.specs.Prelude.{◌≡◌, ℕ, List, Float}
use Rattle.std.proofs.Common.{sym, subst₂}
use Rattle.base_program.specs.declared.Program.{Program}
use Rattle.spec_check.specs.Check.{check}
use Rattle.record_layout.specs.Layout.{record_of, numbers_of, values_of}
use Rattle.record_layout.specs.RecordLaws.{Typed, again, sizes_back, intervals_back, lengths_back, entries_back}
use Rattle.proof_record.specs.SameRecord.{Same, same_check}

again_same : (p : Program) → Typed p → Same (again p) p
again_same p g =
    record {
      locations = (sizes_back p g).0;
      sums = (sizes_back p g).1;
      intervals = intervals_back p g;
      lengths = lengths_back p g;
      tables = entries_back p g;
    }

module _ (p : Program) (g : Typed p) (ns : List ℕ) (vs : List Float) (numbers : ns ≡ numbers_of p) (values : vs ≡ values_of p) where
  pub written_same : Same (record_of ns vs) p
  written_same = subst₂ (λ l r. Same (record_of l r) p) (sym numbers) (sym values) (again_same p g)

  pub check_written : check (record_of ns vs) ≡ check p
  check_written = same_check (record_of ns vs) p written_same
