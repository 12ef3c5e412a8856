-- Each change of the memory keeps the places that it does not name, and makes of two memories that an entry cannot tell apart two such
-- memories: field by field, and a loop by induction on its reps. Assumes nothing.
use Rattle.std.specs.Prelude.{◌≡◌, ℕ, zero, suc, ◌+◌, ◌-◌, ◌≤◌, ◌<◌, Bool, false, cond, eqb}
use Rattle.std.proofs.Math.Path.{refl}
use Rattle.std.proofs.Common.{ap, ap₂, ◌∙◌, subst, arith, ne_eqb}
use Rattle.std.proofs.Math.Bool.{true}
use mathlib.Core.List.{List, [], ◌∷◌, ◌++◌}
use Rattle.std.specs.Float.Ieee.{Float}
use Rattle.base_float.specs.Finite.{stored}
use Rattle.storage_word.specs.Word.{value_word, start_word}
use Rattle.base_program.specs.declared.Command.{Command}
use Rattle.base_program.specs.declared.Command.TheVariants.{Stop, Call, Raise, Lower, Then, ExitIfTrue, ExitIfFalse, PortHigh, PortLow}
use Rattle.base_program.specs.declared.Instruction.{Instruction}
use Rattle.base_program.specs.declared.Program.{Program}
use Rattle.base_program.specs.declared.Table.{Table}
use Rattle.base_program.specs.Entries.{slot}
use Rattle.base_program.specs.Reach.{numbers_from}
use Rattle.spec_machine.specs.Memory.{Memory, Signals, Storage, put, set_location, set_sum, set_count, set_flag}
use Rattle.spec_machine.specs.Values.{load, each, reps}
use Rattle.spec_machine.specs.Output.{begin, raise, commanded, write}
use Rattle.spec_machine.specs.Limits.{reached_locations, reached_sums, Each}
use Rattle.spec_machine.specs.Frame.{FrameKept, Alike}

-- ---- the numbers that are reached

-- n is one of l: what holds of each of l holds of n
abbrev pub In : ℕ → List ℕ → Type 1
In n l = (P : ℕ → Type 0) → Each P l → P n

pub rep_in : (l n k : ℕ) → k < n → In (l + k) (numbers_from l n)
unfolding numbers_from
rep_in l zero k q P h = absurd (omega arith)
rep_in l (suc n) zero q P h = subst P (omega arith) h.0
rep_in l (suc n) (suc k) q P h = subst P (omega arith) (rep_in (suc l) n k (omega arith) P h.1)

pub number_in : (l n a : ℕ) → l ≤ a → a < l + n → In a (numbers_from l n)
number_in l n a low high P h = subst P (omega arith) (rep_in l n (a - l) (omega arith) P h)

pub in_front : {n : ℕ} (l r : List ℕ) → In n l → In n (l ++ r)
in_front l r i P h = i P (front l h)
  where
    front : (a : List ℕ) → Each P (a ++ r) → Each P a
    front [] b = tt
    front (k ∷ a) b = (b.0, front a b.1)

pub each_map : {P Q : ℕ → Type 0} (l : List ℕ) → ((k : ℕ) → P k → Q k) → Each P l → Each Q l
each_map [] f h = tt
each_map (k ∷ l) f h = (f k h.0, each_map l f h.1)

-- ---- loops

-- what each rep keeps between two memories, all reps keep
each_both : (R : Memory → Memory → Type 0) (f g : ℕ → Memory → Memory) (j n : ℕ)
    → ((k : ℕ) → k < j + n → (m m' : Memory) → R m m' → R (f k m) (g k m')) → (m m' : Memory) → R m m'
    → R (each (numbers_from j n) f m) (each (numbers_from j n) g m')
unfolding each numbers_from
each_both R f g j zero h m m' r = r
each_both R f g j (suc n) h m m' r =
    each_both R f g (suc j) n (λ k q. h k (omega arith)) (f j m) (g j m') (h j (omega arith) m m' r)

-- ---- one place

put_other : {A : Type 0} (f : ℕ → A) (k : ℕ) (v : A) (n : ℕ) → (n ≡ k → ⊥) → put f k v n ≡ f n
put_other f k v n h = ap (λ b. cond b v (f n)) (ne_eqb n k h)

-- ---- what changes keep

module _ {p : Program} {t : Table} {e s : ℕ} {i : Instruction} {m : Memory} where
  pub keep_all : FrameKept p t e s i m m
  keep_all = record { locations = λ n h. refl; sums = λ n h. refl; counts = λ n h. refl; last = refl }

  pub keep_location : (w : Memory) (n : ℕ) (v : Float) → In n (reached_locations s i) → FrameKept p t e s i m w → FrameKept p t e s i m (set_location n v w)
  keep_location w n v at h =
      record {
        locations = λ k q. put_other w.cells.locations n v k (at (λ a. k ≡ a → ⊥) q) ∙ h.locations k q;
        sums = h.sums;
        counts = h.counts;
        last = h.last;
      }

  pub keep_sum : (w : Memory) (n : ℕ) (v : Float) → In n (reached_sums p t e i) → FrameKept p t e s i m w → FrameKept p t e s i m (set_sum n v w)
  keep_sum w n v at h =
      record {
        locations = h.locations;
        sums = λ k q. put_other w.cells.sums n v k (at (λ a. k ≡ a → ⊥) q) ∙ h.sums k q;
        counts = h.counts;
        last = h.last;
      }

  pub keep_count : (w : Memory) (v : ℕ) → FrameKept p t e s i m w → FrameKept p t e s i m (set_count (slot t e) v w)
  keep_count w v h =
      record {
        locations = h.locations;
        sums = h.sums;
        counts = λ k q. put_other w.cells.counts (slot t e) v k q ∙ h.counts k q;
        last = h.last;
      }

  -- flags, ports and Final Storage are free
  keep_rest : (w : Memory) {g : Signals} {o : Storage} → FrameKept p t e s i m w
      → FrameKept p t e s i m (record { cells = w.cells; signals = g; storage = o; last = w.last })
  keep_rest w h = record { locations = h.locations; sums = h.sums; counts = h.counts; last = h.last }

  pub keep_write : (v : Float) (w : Memory) → FrameKept p t e s i m w → FrameKept p t e s i m (write v w)
  unfolding write
  keep_write v w h = keep_rest w h

  pub keep_either : (b : Bool) {w w' : Memory} → FrameKept p t e s i m w → FrameKept p t e s i m w' → FrameKept p t e s i m (cond b w w')
  keep_either true h h' = h
  keep_either false h h' = h'

  pub keep_each : (n : ℕ) (f : ℕ → Memory → Memory)
      → ((k : ℕ) → k < n → (w : Memory) → FrameKept p t e s i m w → FrameKept p t e s i m (f k w))
      → (w : Memory) → FrameKept p t e s i m w → FrameKept p t e s i m (each (reps n) f w)
  keep_each n f h w = each_both (λ a b. FrameKept p t e s i m a) f f 0 n (λ k q a b. h k (omega arith) a) w w

  pub keep_command : (id : ℕ) (c : Command) (w : Memory) → FrameKept p t e s i m w → FrameKept p t e s i m (commanded id c w)
  unfolding commanded raise
  keep_command id Stop w h = h
  keep_command id (Call k) w h = h
  keep_command id (Raise f) w h = keep_either (eqb f 0) (keep_rest w h) (keep_rest w h)
  keep_command id (Lower f) w h = keep_rest w h
  keep_command id Then w h = h
  keep_command id ExitIfTrue w h = h
  keep_command id ExitIfFalse w h = h
  keep_command id (PortHigh q) w h = keep_rest w h
  keep_command id (PortLow q) w h = keep_rest w h

-- ---- what changes make of memories that are alike

flag_alike : {g h : Signals} (f : ℕ) (b : Bool) → g ≡ h
    → ◌≡◌ {A = Signals} (record { flags = put g.flags f b; ports = g.ports }) (record { flags = put h.flags f b; ports = h.ports })
flag_alike f b q = λ j. record { flags = put (q j).flags f b; ports = (q j).ports }

port_alike : {g h : Signals} (f : ℕ) (b : Bool) → g ≡ h
    → ◌≡◌ {A = Signals} (record { flags = g.flags; ports = put g.ports f b }) (record { flags = h.flags; ports = put h.ports f b })
port_alike f b q = λ j. record { flags = (q j).flags; ports = put (q j).ports f b }

module _ {p : Program} {t : Table} {e s : ℕ} {i : Instruction} where
  pub load_alike : (n : ℕ) (m m' : Memory) → In n (reached_locations s i) → Alike p t e s i m m' → load n m ≡ load n m'
  load_alike n m m' at a = ap stored (at (λ k. m.cells.locations k ≡ m'.cells.locations k) a.locations)

  pub sum_alike : (n : ℕ) (m m' : Memory) → In n (reached_sums p t e i) → Alike p t e s i m m' → m.cells.sums n ≡ m'.cells.sums n
  sum_alike n m m' at a = at (λ k. m.cells.sums k ≡ m'.cells.sums k) a.sums

  pub location_alike : (n : ℕ) (v v' : Float) (m m' : Memory) → v ≡ v' → Alike p t e s i m m'
      → Alike p t e s i (set_location n v m) (set_location n v' m')
  location_alike n v v' m m' q a =
      record {
        locations = each_map (reached_locations s i) (λ k h. ap₂ (cond (eqb k n)) q h) a.locations;
        sums = a.sums;
        counts = a.counts;
        signals = a.signals;
        storage = a.storage;
      }

  pub set_sum_alike : (n : ℕ) (v v' : Float) (m m' : Memory) → v ≡ v' → Alike p t e s i m m'
      → Alike p t e s i (set_sum n v m) (set_sum n v' m')
  set_sum_alike n v v' m m' q a =
      record {
        locations = a.locations;
        sums = each_map (reached_sums p t e i) (λ k h. ap₂ (cond (eqb k n)) q h) a.sums;
        counts = a.counts;
        signals = a.signals;
        storage = a.storage;
      }

  pub set_count_alike : (n v v' : ℕ) (m m' : Memory) → v ≡ v' → Alike p t e s i m m'
      → Alike p t e s i (set_count n v m) (set_count n v' m')
  set_count_alike n v v' m m' q a =
      record {
        locations = a.locations;
        sums = a.sums;
        counts = ap₂ (cond (eqb (slot t e) n)) q a.counts;
        signals = a.signals;
        storage = a.storage;
      }

  -- the same flags, ports and Final Storage on both sides
  rest_alike : (m m' : Memory) {g g' : Signals} {o o' : Storage} → g ≡ g' → o ≡ o' → Alike p t e s i m m'
      → Alike p t e s i (record { cells = m.cells; signals = g; storage = o; last = m.last })
      (record { cells = m'.cells; signals = g'; storage = o'; last = m'.last })
  rest_alike m m' q r a =
      record { locations = a.locations; sums = a.sums; counts = a.counts; signals = q; storage = r }

  pub write_alike : (v v' : Float) (m m' : Memory) → v ≡ v' → Alike p t e s i m m' → Alike p t e s i (write v m) (write v' m')
  unfolding write
  write_alike v v' m m' q a = rest_alike m m' a.signals (ap₂ after a.storage q) a
    where
      after : Storage → Float → Storage
      after o x =
          record {
            words = o.words ++ (cond o.waiting (start_word o.array ∷ []) [] ++ (value_word (stored x) ∷ []));
            array = o.array;
            waiting = false;
          }

  pub either_alike : (b b' : Bool) {m m' w w' : Memory} → b ≡ b' → Alike p t e s i m m' → Alike p t e s i w w'
      → Alike p t e s i (cond b m w) (cond b' m' w')
  either_alike b b' {m} {m'} {w} {w'} q x y = subst (λ z. Alike p t e s i (cond b m w) (cond z m' w')) q (by b)
    where
      by : (z : Bool) → Alike p t e s i (cond z m w) (cond z m' w')
      by true = x
      by false = y

  pub each_alike : (n : ℕ) (f g : ℕ → Memory → Memory)
      → ((k : ℕ) → k < n → (m m' : Memory) → Alike p t e s i m m' → Alike p t e s i (f k m) (g k m'))
      → (m m' : Memory) → Alike p t e s i m m' → Alike p t e s i (each (reps n) f m) (each (reps n) g m')
  each_alike n f g h = each_both (λ m m'. Alike p t e s i m m') f g 0 n (λ k q. h k (omega arith))

  pub command_alike : (id : ℕ) (c : Command) (m m' : Memory) → Alike p t e s i m m' → Alike p t e s i (commanded id c m) (commanded id c m')
  unfolding commanded raise
  command_alike id Stop m m' a = a
  command_alike id (Call k) m m' a = a
  command_alike id (Raise f) m m' a =
      either_alike (eqb f 0) (eqb f 0) refl (rest_alike m m' flags begun a) (rest_alike m m' flags a.storage a)
    where
      flags : (set_flag f true m).signals ≡ (set_flag f true m').signals
      flags = flag_alike f true a.signals

      begun : (begin id m).storage ≡ (begin id m').storage
      begun = λ j. record { words = (a.storage j).words; array = id; waiting = true }
  command_alike id (Lower f) m m' a = rest_alike m m' (flag_alike f false a.signals) a.storage a
  command_alike id Then m m' a = a
  command_alike id ExitIfTrue m m' a = a
  command_alike id ExitIfFalse m m' a = a
  command_alike id (PortHigh q) m m' a = rest_alike m m' (port_alike q true a.signals) a.storage a
  command_alike id (PortLow q) m m' a = rest_alike m m' (port_alike q false a.signals) a.storage a
