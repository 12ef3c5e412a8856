-- What each call answers and leaves. Assumes nothing.
use Rattle.std.specs.Prelude.{◌≡◌, ℕ, zero, suc, ◌-◌, false, not, List, [], ◌∷◌, length, get_or, set, Float}
use Rattle.base_program.specs.declared.Program.{Program}
use Rattle.base_program.specs.declared.Timed.{Timed}
use Rattle.spec_machine.specs.Run.{due}
use Rattle.spec_machine.specs.Calls.{Call, scan, key_location, key_flag}
use Rattle.spec_calls.specs.declared.State.{State}
use Rattle.spec_calls.specs.declared.Answer.{Answer}
use Rattle.spec_calls.specs.Stores.{Stores, stores}
use Rattle.spec_calls.specs.Scanned.{StoresScanned}
use Rattle.spec_calls.specs.Refusals.{scan_refusal, key_refusal, flag_refusal}

abbrev pub answer_with : ℕ → State → Answer
answer_with number s = record { refusal = number; state = s }

-- A scan: 'a refused call changes nothing'.
abbrev pub ScanLeaves : ℕ → Program → Timed → ℕ → ℕ → List Float → Stores → Stores → Type 0
ScanLeaves zero p t day time readings a b = StoresScanned (due p t time) p t day time readings a b
ScanLeaves (suc number) p t day time readings a b = b ≡ a

-- the refusal of a scan, and what lies in the state and the buffers before it and behind it
pub record ScanAnswers (p : Program) (t : Timed) (day time : ℕ) (readings : List Float) (a : Stores) (number : ℕ) (b : Stores) : Type 0 where
  pub refusal : number ≡ scan_refusal p a day time readings
  pub left : ScanLeaves number p t day time readings a b

-- 'Keying sets a location to a finite value'
unfoldable pub keyed : ℕ → ℕ → Float → List Float → List Float
keyed zero k v l = set l (k - 1) v
keyed (suc number) k v l = l

-- 'or turns flag 1 to 8 over'
abbrev pub turned : ℕ → State → State
turned f s =
    record {
      flags = set s.flags f (not (get_or s.flags f false));
      ports = s.ports;
      position = s.position;
      filled = s.filled;
      array = s.array;
      days = s.days;
      minutes = s.minutes;
    }

unfoldable pub flagged : ℕ → ℕ → State → State
flagged zero f s = turned f s
flagged (suc number) f s = s

-- ---- any call

-- what call c answers, handed a, and what it leaves
abbrev pub Answered : Program → Call → Stores → ℕ → Stores → Type 0
Answered p (scan t day time readings) a number b = ScanAnswers p t day time readings a number b
Answered p (key_location k v) a number b =
    (number ≡ key_refusal p (length a.locations) k v) × (b ≡ stores a.state (keyed number k v a.locations) a.sums a.counts a.ring)
Answered p (key_flag f) a number b =
    (number ≡ flag_refusal p f) × (b ≡ stores (flagged number f a.state) a.locations a.sums a.counts a.ring)

-- a keyed location, whatever else is kept: of the locations l it answers `number` and leaves l'
abbrev pub LocationAnswered : Program → ℕ → Float → List Float → ℕ → List Float → Type 0
LocationAnswered p k v l number l' =
    (s : State) (m : List Float) (c w : List ℕ) → Answered p (key_location k v) (stores s l m c w) number (stores s l' m c w)

-- a keyed flag, whatever the buffers hold: of the state s it answers `number` and leaves s'
abbrev pub FlagAnswered : Program → ℕ → State → ℕ → State → Type 0
FlagAnswered p f s number s' =
    (l m : List Float) (c w : List ℕ) → Answered p (key_flag f) (stores s l m c w) number (stores s' l m c w)

-- a list of calls: each is handed what the one before it left
pub data AnsweredAll (p : Program) : List Call → Stores → List ℕ → Stores → Type 0 where
  no_call : {a : Stores} → AnsweredAll p [] a [] a
  one_more : {c : Call} {cs : List Call} {a b d : Stores} {number : ℕ} {numbers : List ℕ} → Answered p c a number b → AnsweredAll p cs b numbers d
      → AnsweredAll p (c ∷ cs) a (number ∷ numbers) d
