-- What the library's fresh state and its keyings answer, and what they leave in the lent buffers. What is quoted is of `include/yukeira.h`. Assumes
-- nothing.
use Rattle.std.specs.Prelude.{◌≡◌, ℕ, cond, ◌&&◌, List, length, Float}
use Rattle.spec_calls.specs.Stores.{fresh_state}
use Rattle.spec_calls.specs.Refusals.{key_refusal, flag_refusal}
use Rattle.spec_calls.specs.Answers.{keyed, flagged}
use Rattle.record_layout.specs.Layout.{record_of}
use Rattle.firmware_state.specs.State.{state_of, numbers_of_state}
use Rattle.firmware_buffers.specs.Sizes.{is_record, is_state, state_left}

-- ---- yukeira_fresh: 'all low, empty and 0, no scan yet'

pub record Freshened (l : List ℕ) (r : ℕ) (l' : List ℕ) : Type 0 where
  pub number : r ≡ cond (is_state l) 0 31
  pub state : l' ≡ cond (is_state l) (numbers_of_state fresh_state) l

-- ---- yukeira_key_location

pub record LocationKeyed (ns : List ℕ) (vs : List Float) (n : ℕ) (v : Float) (l : List Float) (r : ℕ) (l' : List Float) : Type 0 where
  pub number : r ≡ cond (is_record ns vs) (key_refusal (record_of ns vs) (length l) n v) 31
  pub locations : l' ≡ keyed r n v l

-- ---- yukeira_key_flag

pub record FlagKeyed (ns : List ℕ) (vs : List Float) (f : ℕ) (l : List ℕ) (r : ℕ) (l' : List ℕ) : Type 0 where
  pub number : r ≡ cond (is_record ns vs && is_state l) (flag_refusal (record_of ns vs) f) 31
  pub state : l' ≡ state_left r l (flagged r f (state_of l))
