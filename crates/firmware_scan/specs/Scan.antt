-- What the library's scan answers, and what it leaves in the lent buffers. What is quoted is of `include/yukeira.h`. Assumes nothing.
use Rattle.std.specs.Prelude.{◌≡◌, ℕ, zero, suc, Bool, true, false, ◌&&◌, List, Float}
use Rattle.base_program.specs.declared.Program.{Program}
use Rattle.base_program.specs.declared.Timed.{Timed}
use Rattle.spec_machine.specs.Run.{due}
use Rattle.spec_calls.specs.declared.State.{State}
use Rattle.spec_calls.specs.Stores.{stores}
use Rattle.spec_calls.specs.Answers.{ScanAnswers}
use Rattle.record_layout.specs.Layout.{record_of}
use Rattle.firmware_state.specs.State.{state_of, numbers_of_state}
use Rattle.firmware_buffers.specs.Sizes.{is_record, is_state, timed_of, tick_day}

-- the buffers that a scan may write
pub record CallBuffers : Type 0 where
  pub state : List ℕ
  pub locations : List Float
  pub sums : List Float
  pub counts : List ℕ
  pub ring : List ℕ

abbrev pub lent : List ℕ → List Float → List Float → List ℕ → List ℕ → CallBuffers
lent state locations sums counts ring = record { state = state; locations = locations; sums = sums; counts = counts; ring = ring }

-- The state is written where the table was due; else, and where the scan is refused, it is left as it was, bit by bit.
abbrev pub state_scanned : ℕ → Bool → List ℕ → State → List ℕ
state_scanned zero true state s = numbers_of_state s
state_scanned zero false state s = state
state_scanned (suc number) b state s = state

-- the scan of the record and the state that were lent, and the state behind it
pub record ScanTaken (p : Program) (t : Timed) (day time : ℕ) (readings : List Float) (a : CallBuffers) (number : ℕ) (b : CallBuffers) : Type 0 where
  pub after : State
  pub answers : ScanAnswers p t day time readings (stores (state_of a.state) a.locations a.sums a.counts a.ring) number (stores after b.locations b.sums b.counts b.ring)
  pub state : b.state ≡ state_scanned number (due p t time) a.state after

abbrev pub CallScanned : Bool → Program → Timed → ℕ → ℕ → List Float → CallBuffers → ℕ → CallBuffers → Type 0
CallScanned true p t day time readings a number b = ScanTaken p t day time readings a number b
CallScanned false p t day time readings a number b = (number ≡ 31) × (b ≡ a)

abbrev pub ScanCalled : List ℕ → List Float → ℕ → ℕ → ℕ → List Float → CallBuffers → ℕ → CallBuffers → Type 0
ScanCalled numbers values table day time readings a number b =
    CallScanned (is_record numbers values && is_state a.state) (record_of numbers values) (timed_of table) (tick_day table day) time readings a number b
