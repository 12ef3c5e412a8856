-- What the listing program prints of its input, from bytes to bytes. Assumes nothing.
use Rattle.std.specs.Prelude.{ℕ, zero, suc, ◌≡◌, List, [], ◌∷◌, take, drop, replicate}
use Rattle.base_float.specs.Finite.{zero_float}
use Rattle.base_program.specs.declared.Program.{Program}
use Rattle.spec_check.specs.declared.Verdict.{Verdict}
use Rattle.spec_calls.specs.Stores.{fresh_state, ring_state}
use Rattle.text_answer.specs.Check.{check_text}
use Rattle.listing_input.specs.Extent.{text_length}
use Rattle.listing_output.specs.Shown.{lines_of_arrays, refusal_bytes, held_arrays}
use Rattle.text_keyed.specs.Text.{lines_of, bytes_behind}
use Rattle.spec_listing.specs.Step.{Run, run_of, LinesLead}

-- 'a keyed text, then `(reading n v)` and `(tick day T)` lines'; 'The text is the input up to the first `)` line straight after a `)` line, or
-- all of it.'
abbrev pub text_in : List ℕ → List ℕ
text_in s = take (text_length s) s

abbrev pub later_in : List ℕ → List ℕ
later_in s = drop (text_length s) s

-- 'with a ring of 64 words, from fresh and with all readings 0'
unfoldable pub fresh_run : Program → Run
fresh_run p =
    run_of fresh_state (replicate 196 zero_float) (replicate p.locations zero_float) (replicate p.sums zero_float) (replicate 297 0) (replicate 64 0)

-- 'A refusal prints only `E` and its number, table and entry (0 0 when running)'; a last line without its byte 10 is 'a later line of another
-- form'; else 'At the end of the input it prints .. one whole array a line'.
abbrev pub run_bytes : ℕ → List ℕ → Run → List ℕ
run_bytes (suc k) rest a = refusal_bytes (suc k) 0 0
run_bytes zero (b ∷ rest) a = refusal_bytes 1 0 0
run_bytes zero [] a = lines_of_arrays (held_arrays a.lent.ring (ring_state a.state))

-- w is what is printed of the bytes behind a text that passed with the record p: their lines lead to a refusal or to the end
pub record RunPrints (p : Program) (later w : List ℕ) : Type 0 where
  pub refusal : ℕ
  pub after : Run
  pub leads : LinesLead p (lines_of later) (fresh_run p) refusal after
  pub bytes : w ≡ run_bytes refusal (bytes_behind later) after

abbrev pub VerdictPrints : Verdict → Program → List ℕ → List ℕ → Type 0
VerdictPrints (Verdict.Fault number table entry) p later w = w ≡ refusal_bytes number table entry
VerdictPrints (Verdict.Pass first second) p later w = RunPrints p later w

-- w is what is printed of the input s
abbrev pub Prints : List ℕ → List ℕ → Type 0
Prints s w = VerdictPrints (check_text (text_in s)).verdict (check_text (text_in s)).program (later_in s) w
