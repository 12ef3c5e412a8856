-- The plain machine fed a list of calls: scans, keyed locations and keyed flags, refused ones included. Assumes nothing.
use Rattle.std.specs.Prelude.{◌≡◌, ℕ, zero, suc, ◌-◌, Bool, true, false, not, ◌&&◌, List, [], ◌∷◌, length, get_or, eqb, leb, Float}
use Rattle.base_float.specs.Finite.{finite, zero_float}
use Rattle.base_program.specs.declared.Program.{Program}
use Rattle.base_program.specs.declared.Timed.{Timed}
use Rattle.base_program.specs.Codes.{between}
use Rattle.spec_check.specs.Check.{or}
use Rattle.spec_machine.specs.Memory.{Memory, set_location, set_flag}
use Rattle.spec_machine.specs.Run.{due, scan_of, start, Ends}

-- 'each call's arguments'
pub data Call : Type 0 where
  -- the table, the day, T and the readings lent
  scan : Timed → ℕ → ℕ → List Float → Call
  key_location : ℕ → Float → Call
  key_flag : ℕ → Call

-- 'of the lent buffers only .. the others' lengths'
pub record Lengths : Type 0 where
  pub locations : ℕ
  pub sums : ℕ
  pub counts : ℕ
  pub ring : ℕ

-- ---- refusals

-- 31: 'Lent lengths: locations I, sums M, counts 297, readings 196, ring 1 to 32,768'
abbrev pub locations_lent : Program → Lengths → Bool
locations_lent p n = eqb n.locations p.locations

abbrev pub all_lent : Program → Lengths → List Float → Bool
all_lent p n r =
    locations_lent p n && (eqb n.sums p.sums && (eqb n.counts 297 && (eqb (length r) 196 && between 1 32768 n.ring)))

-- 33: 'A tick has a day (1 to 366) and T eightieths since midnight (0 to 6,911,999).'
abbrev pub is_tick : ℕ → ℕ → Bool
is_tick day time = between 1 366 day && leb time 6911999

-- 34: 'Keyed location 0 or above I, value not finite, flag not 1 to 8'
abbrev pub is_keyed : Program → ℕ → Float → Bool
is_keyed p k v = between 1 p.locations k && finite v

-- '30 to 34 come in that order .. a call is held to those that concern what it was handed'; 0 is no refusal. 30 and 32 do not arise here.
unfoldable pub refusal : Program → Lengths → Call → ℕ
refusal p n (scan t day time r) = or (not (all_lent p n r)) 31 (or (not (is_tick day time)) 33 0)
refusal p n (key_location k v) = or (not (locations_lent p n)) 31 (or (not (is_keyed p k v)) 34 0)
refusal p n (key_flag f) = or (not (between 1 8 f)) 34 0

-- ---- what a call does

-- reading n of the 196, from 1
abbrev pub reading_of : List Float → ℕ → Float
reading_of r n = get_or r (n - 1) zero_float

-- a scan of a table that is due leaves what its run ends with; one that is not due leaves all
abbrev pub MachineScanned : Bool → Program → Timed → ℕ → ℕ → List Float → Memory → Memory → Type 0
MachineScanned true p t day time r m m' =
    (n : ℕ) × Ends p (scan_of t day time (reading_of r) m) (start (scan_of t day time (reading_of r) m) m) n m'
MachineScanned false p t day time r m m' = m' ≡ m

-- 'Keying sets a location to a finite value or turns flag 1 to 8 over.'
abbrev pub Carried : Program → Call → Memory → Memory → Type 0
Carried p (scan t day time r) m m' = MachineScanned (due p t time) p t day time r m m'
Carried p (key_location k v) m m' = m' ≡ set_location k v m
Carried p (key_flag f) m m' = m' ≡ set_flag f (not (m.signals.flags f)) m

-- 'A refused call (31, 33, 34) changes nothing.'
abbrev pub Answering : ℕ → Program → Call → Memory → Memory → Type 0
Answering zero p c m m' = Carried p c m m'
Answering (suc number) p c m m' = m' ≡ m

-- the memory before a call and behind it
abbrev pub After : Program → Lengths → Call → Memory → Memory → Type 0
After p n c m m' = Answering (refusal p n c) p c m m'

-- the same for a list of calls
pub data AfterAll (p : Program) (n : Lengths) : List Call → Memory → Memory → Type 0 where
  nothing : {m : Memory} → AfterAll p n [] m m
  and_then : {c : Call} {cs : List Call} {m m' m'' : Memory} → After p n c m m' → AfterAll p n cs m' m'' → AfterAll p n (c ∷ cs) m m''
