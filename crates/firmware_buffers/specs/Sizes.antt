-- Which buffers and tables the library takes, and when it writes a state. What is quoted is of `include/yukeira.h`. Assumes nothing.
use Rattle.std.specs.Prelude.{ℕ, zero, suc, Bool, cond, ◌&&◌, List, length, eqb, Float}
use Rattle.base_program.specs.Codes.{between}
use Rattle.base_program.specs.declared.Timed.{Timed}
use Rattle.spec_calls.specs.declared.State.{State}
use Rattle.firmware_state.specs.State.{numbers_of_state}

-- ---- 31: 'a buffer has another length than it must have'; of a record or a state this comes before everything else

abbrev pub is_record : List ℕ → List Float → Bool
is_record numbers values = eqb (length numbers) 2385 && eqb (length values) 594

abbrev pub is_state : List ℕ → Bool
is_state state = eqb (length state) 25

abbrev pub is_table : ℕ → Bool
is_table t = between 1 2 t

abbrev pub timed_of : ℕ → Timed
timed_of t = cond (eqb t 1) Timed.One Timed.Two

-- 33: 'the table is neither 1 nor 2, the day is not 1 to 366, ..': no day is one for such a table
unfoldable pub tick_day : ℕ → ℕ → ℕ
tick_day t day = cond (is_table t) day 0

-- 'A call that answers 30 to 34 has changed nothing that it was lent.' Else the state is written.
abbrev pub state_left : ℕ → List ℕ → State → List ℕ
state_left zero state s = numbers_of_state s
state_left (suc number) state s = state
