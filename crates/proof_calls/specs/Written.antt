-- What lies in buffers that a record was written into is scanned and keyed as the record. Assumes nothing.
use Rattle.std.specs.Prelude.{◌≡◌, ℕ, List, Float}
use Rattle.base_program.specs.declared.Program.{Program}
use Rattle.base_program.specs.declared.Timed.{Timed}
use Rattle.record_layout.specs.Layout.{record_of, numbers_of, values_of}
use Rattle.record_layout.specs.RecordLaws.{Typed}
use Rattle.proof_record.specs.Written.{written_same}
use Rattle.spec_calls.specs.Stores.{Stores}
use Rattle.spec_calls.specs.Refusals.{key_refusal, flag_refusal}
use Rattle.spec_calls.specs.Answers.{ScanAnswers}
use Rattle.proof_calls.specs.SameScan.{same_scan, same_key_refusal, same_flag_refusal}

module _ (p : Program) (g : Typed p) (ns : List ℕ) (vs : List Float) (numbers : ns ≡ numbers_of p) (values : vs ≡ values_of p) where
  pub scan_written : {t : Timed} {day time : ℕ} {readings : List Float} {a b : Stores} {number : ℕ}
      → ScanAnswers (record_of ns vs) t day time readings a number b → ScanAnswers p t day time readings a number b
  scan_written r = same_scan (record_of ns vs) p (written_same p g ns vs numbers values) r

  pub key_written : (n k : ℕ) (v : Float) → key_refusal (record_of ns vs) n k v ≡ key_refusal p n k v
  key_written = same_key_refusal (record_of ns vs) p (written_same p g ns vs numbers values)

  pub flag_written : (f : ℕ) → flag_refusal (record_of ns vs) f ≡ flag_refusal p f
  flag_written = same_flag_refusal (record_of ns vs) p (written_same p g ns vs numbers values)
