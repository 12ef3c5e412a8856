-- What the lines behind the text lead to: readings set, scans, and the first refusal. Assumes nothing.
use Rattle.std.specs.Prelude.{ℕ, ◌-◌, ◌≤◌, ◌≡◌, List, [], ◌∷◌, length, set, drop, Float, Option, Some, None}
use Rattle.base_program.specs.declared.Program.{Program}
use Rattle.base_program.specs.declared.Timed.{Timed}
use Rattle.text_keyed.specs.Text.{lines_of, bytes_behind}
use Rattle.listing_input.specs.declared.Line.{Line}
use Rattle.listing_input.specs.Line.{line_of}
use Rattle.spec_calls.specs.declared.State.{State}
use Rattle.spec_calls.specs.declared.Answer.{Answer}
use Rattle.spec_calls.specs.Stores.{stores}
use Rattle.spec_calls.specs.Answers.{ScanAnswers}

-- the lent buffers that a scan writes
pub record RunBuffers : Type 0 where
  pub locations : List Float
  pub sums : List Float
  pub counts : List ℕ
  pub ring : List ℕ

abbrev pub lent : List Float → List Float → List ℕ → List ℕ → RunBuffers
lent l m c w = record { locations = l; sums = m; counts = c; ring = w }

-- what a scan answers, and the buffers before it and behind it
abbrev pub LentScanned : Program → Timed → ℕ → ℕ → State → List Float → RunBuffers → Answer → RunBuffers → Type 0
LentScanned p t day time s r a q b =
    ScanAnswers p t day time r (stores s a.locations a.sums a.counts a.ring) q.refusal
    (stores q.state b.locations b.sums b.counts b.ring)

-- the run state, the readings, and the buffers lent to scans
pub record Run : Type 0 where
  pub state : State
  pub readings : List Float
  pub lent : RunBuffers

abbrev pub run_of : State → List Float → List Float → List Float → List ℕ → List ℕ → Run
run_of s r l m c w = record { state = s; readings = r; lent = lent l m c w }

-- A line and the run before it lead to a refusal, or 0, and to the run behind it.
pub data Step (p : Program) : Option Line → Run → ℕ → Run → Type 0 where
  -- 'a later line of another form .. prints `E 1 0 0`'
  other : {a : Run} → Step p None a 1 a
  -- `(reading n v)`
  reading : {a : Run} (n : ℕ) (v : Float) → Step p (Some (Line.Reading n v)) a 0 (record { state = a.state; readings = set a.readings (n - 1) v; lent = a.lent })
  -- `(tick day T)`: a scan of Table 1, and of Table 2 if that was not refused
  first : {a : Run} {day time : ℕ} (r : Answer) (l : RunBuffers) → (r.refusal ≡ 0 → ⊥)
      → LentScanned p Timed.One day time a.state a.readings a.lent r l
      → Step p (Some (Line.Tick day time)) a r.refusal (record { state = r.state; readings = a.readings; lent = l })
  both : {a : Run} {day time : ℕ} (r : Answer) (l : RunBuffers) (q : Answer) (m : RunBuffers) → r.refusal ≡ 0
      → LentScanned p Timed.One day time a.state a.readings a.lent r l
      → LentScanned p Timed.Two day time r.state a.readings l q m
      → Step p (Some (Line.Tick day time)) a q.refusal (record { state = q.state; readings = a.readings; lent = m })

-- the same for lines one after the other, up to the first refusal
pub data LinesLead (p : Program) : List (List ℕ) → Run → ℕ → Run → Type 0 where
  ended : {a : Run} → LinesLead p [] a 0 a
  onward : {l : List ℕ} {ls : List (List ℕ)} {a b c : Run} {k : ℕ} → Step p (line_of l) a 0 b → LinesLead p ls b k c → LinesLead p (l ∷ ls) a k c
  stopped : {l : List ℕ} {ls : List (List ℕ)} {a b : Run} {k : ℕ} → Step p (line_of l) a k b → (k ≡ 0 → ⊥) → LinesLead p (l ∷ ls) a k b

-- the whole lines of s have been followed: with no refusal what is not used is the start of a line
pub record Ran (p : Program) (s : List ℕ) (before : Run) (refusal used : ℕ) (after : Run) : Type 0 where
  pub follows : LinesLead p (lines_of s) before refusal after
  pub rest : refusal ≡ 0 → drop used s ≡ bytes_behind s
  pub within : used ≤ length s
