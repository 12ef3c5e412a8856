-- How far the listing program has come with the bytes that it has read. Assumes nothing.
use Rattle.std.specs.Prelude.{ℕ, ◌≤◌, ◌≡◌, List, [], ◌∷◌, ◌++◌, length, take, replicate, Float, Some, None}
use Rattle.base_float.specs.Finite.{zero_float}
use Rattle.base_program.specs.declared.Program.{Program}
use Rattle.spec_check.specs.declared.Verdict.{Verdict}
use Rattle.spec_calls.specs.declared.State.{State}
use Rattle.spec_calls.specs.Stores.{fresh_state}
use Rattle.text_answer.specs.Check.{answer, check_text}
use Rattle.text_items.specs.Split.{split}
use Rattle.listing_input.specs.Extent.{extent_of}
use Rattle.listing_output.specs.Shown.{refusal_bytes}
use Rattle.spec_listing.specs.declared.Stage.{Stage}
use Rattle.text_keyed.specs.Text.{lines_of, bytes_behind}
use Rattle.spec_listing.specs.Step.{Run, run_of, LinesLead}
use Rattle.spec_listing.specs.Listing.{text_in, later_in, fresh_run, Prints}

-- the program's buffers as it starts: room for any record's locations and sums
unfoldable pub blank : Run
blank = run_of fresh_state (replicate 196 zero_float) (replicate 2000 zero_float) (replicate 2000 zero_float) (replicate 297 0) (replicate 64 0)

-- how long these are
pub record Room (r l m : List Float) : Type 0 where
  pub readings : length r ≡ 196
  pub locations : length l ≡ 2000
  pub sums : length m ≡ 2000

-- what of them is lent to a scan of p
abbrev pub cut : Program → Run → Run
cut p a =
    run_of a.state a.readings (take p.locations a.lent.locations) (take p.sums a.lent.sums) a.lent.counts a.lent.ring

-- the text has no end yet: all that was read is kept, and nothing was run
pub record TextRead (s w : List ℕ) (a : Run) : Type 0 where
  pub kept : w ≡ s
  pub endless : extent_of s ≡ None
  pub short : length s ≤ 16384
  pub begun : a ≡ blank

-- The text has ended and passed with the record p. The lines of w, with any bytes more behind it, lead from here to what the lines of all later
-- bytes lead to from the start; and what is left of w then is what is left of all.
pub record LinesRead (s w : List ℕ) (p : Program) (a : Run) : Type 0 where
  pub end : ℕ
  pub ends : extent_of s ≡ Some end
  pub first : ℕ
  pub second : ℕ
  pub passed : check_text (text_in s) ≡ answer (Verdict.Pass first second) p
  pub on : (more : List ℕ) (k : ℕ) (c : Run) → LinesLead p (lines_of (w ++ more)) (cut p a) k c → LinesLead p (lines_of (later_in s ++ more)) (fresh_run p) k c
  pub rest : (more : List ℕ) → bytes_behind (w ++ more) ≡ bytes_behind (later_in s ++ more)

-- The bytes s have been read, w of them are kept, and a is what the run has come to.
abbrev pub Reads : List ℕ → Stage → List ℕ → Program → Run → Type 0
Reads s Stage.Text w p a = TextRead s w a
-- the lines in w are followed: it holds no byte 10
Reads s Stage.Lines w p a = LinesRead s w p a × (split 10 w ≡ w ∷ [])
-- whatever is read behind s, this refusal is what is printed
Reads s (Stage.Refused number table entry) w p a = (more : List ℕ) → Prints (s ++ more) (refusal_bytes number table entry)

-- ---- what the program's calls do, whatever was read before

-- the lines of w are followed
abbrev pub Followed : List ℕ → Program → Run → Stage → List ℕ → Program → Run → Type 0
Followed w p a stage v q b = (s : List ℕ) → LinesRead s w p a → Reads s stage v q b

-- all that was read is w, nothing was run yet, and the text's end is looked for
abbrev pub Opened : List ℕ → Run → Stage → List ℕ → Program → Run → Type 0
Opened w a stage v q b = a ≡ blank → Reads w stage v q b

-- a piece is taken
abbrev pub Taken : Stage → List ℕ → Program → Run → List ℕ → Stage → List ℕ → Program → Run → Type 0
Taken stage w p a piece next v q b = (s : List ℕ) → Reads s stage w p a → Reads (s ++ piece) next v q b

-- the input has ended: w is printed
abbrev pub Finished : Stage → List ℕ → State → List ℕ → List ℕ → Type 0
Finished stage v state ring w =
    (s : List ℕ) (p : Program) (readings locations sums : List Float) (counts : List ℕ)
    → Reads s stage v p (run_of state readings locations sums counts ring) → Prints s w
