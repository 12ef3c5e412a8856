-- A record that the code holds is as the types of its fields say: 297 slots, 2 intervals, 3 lengths, and every number of a byte below 256. By cases
-- on an entry. Assumes nothing.
use Prim.Native.Nat.{ℕ, zero, suc, ◌<◌}
use native.Mathlib.Omega.{arith}
use mathlib.Core.List.{List, [], ◌∷◌}
use lib.ListN.{get_or}
use mir.Syntax.{w8}
use mir.Val.{Val}
use denote.Shadow.{shadow}
use denote.Laws.{Is}
use denote.Plain.{UInt}
use denote.Array.{each}
use denote.Struct.Declared as struct
use denote.Enum.Declared as enum
use Rattle.base_program.specs.declared.Command.{Command}
use Rattle.base_program.specs.declared.Instruction.{Instruction}
use Rattle.base_program.specs.declared.Instruction.TheVariants.{End, Else, MeasureSingle, MeasureDifferential, SetFixed, Copy, Increment, Add, AddFixed, Subtract, Multiply, MultiplyFixed, Divide, Sample, Average, Total, Maximum, Minimum, StoreTime, Subroutine, Do, Loop, IfLocations, IfFixed, IfFlag, IfTime}
use Rattle.base_program.specs.declared.Slot.{Slot}
use Rattle.base_program.specs.declared.Program.{Program}
use Rattle.base_program.specs.contracts.Program as program
use Rattle.base_program.specs.contracts.Slot as slot
use Rattle.base_program.specs.contracts.Instruction as instruction
use Rattle.base_program.specs.contracts.Command as command
use Rattle.record_layout.specs.Laws.{argument, bytes}
use Rattle.record_layout.specs.RecordLaws.{Typed}

none : (k : ℕ) → get_or {A = ℕ} [] k 0 < 256
none zero = omega arith
none (suc k) = omega arith

one : (a k : ℕ) → a < 256 → get_or (a ∷ []) k 0 < 256
one a zero h = h
one a (suc k) h = none k

two : (a b k : ℕ) → a < 256 → b < 256 → get_or (a ∷ b ∷ []) k 0 < 256
two a b zero h g = h
two a b (suc k) h g = one b k g

three : (a b c k : ℕ) → a < 256 → b < 256 → c < 256 → get_or (a ∷ b ∷ c ∷ []) k 0 < 256
three a b c zero h g f = h
three a b c (suc k) h g f = two b c k g f

argument_told : (c : Command) (vs : List Val) → Is (enum.row command.the_type) c vs → argument c < 256
unfolding argument
argument_told Command.Stop vs h = omega arith
argument_told (Command.Call k) vs h = h.1.1.1.1.0.1
argument_told (Command.Raise f) vs h = h.1.1.1.1.0.1
argument_told (Command.Lower f) vs h = h.1.1.1.1.0.1
argument_told Command.Then vs h = omega arith
argument_told Command.ExitIfTrue vs h = omega arith
argument_told Command.ExitIfFalse vs h = omega arith
argument_told (Command.PortHigh p) vs h = h.1.1.1.1.0.1
argument_told (Command.PortLow p) vs h = h.1.1.1.1.0.1

bytes_told : (i : Instruction) (vs : List Val) → Is (enum.row instruction.the_type) i vs → (k : ℕ) → get_or (bytes i) k 0 < 256
unfolding bytes
bytes_told End vs h k = none k
bytes_told Else vs h k = none k
bytes_told (MeasureSingle reps range channel l scale) vs h k =
    three reps range channel.0 k h.1.1.1.1.0.1 h.1.1.1.1.1.0.1 h.1.1.1.1.1.1.0.1.1.0.1
bytes_told (MeasureDifferential reps range channel l scale) vs h k =
    three reps range channel.0 k h.1.1.1.1.0.1 h.1.1.1.1.1.0.1 h.1.1.1.1.1.1.0.1.1.0.1
bytes_told (SetFixed f z) vs h k = none k
bytes_told (Copy x z) vs h k = none k
bytes_told (Increment z) vs h k = none k
bytes_told (Add x y z) vs h k = none k
bytes_told (AddFixed x f z) vs h k = none k
bytes_told (Subtract x y z) vs h k = none k
bytes_told (Multiply x y z) vs h k = none k
bytes_told (MultiplyFixed x f z) vs h k = none k
bytes_told (Divide x y z) vs h k = none k
bytes_told (Sample reps x) vs h k = one reps k h.1.1.1.1.0.1
bytes_told (Average reps x) vs h k = one reps k h.1.1.1.1.0.1
bytes_told (Total reps x) vs h k = one reps k h.1.1.1.1.0.1
bytes_told (Maximum reps x) vs h k = one reps k h.1.1.1.1.0.1
bytes_told (Minimum reps x) vs h k = one reps k h.1.1.1.1.0.1
bytes_told (StoreTime code) vs h k = none k
bytes_told (Subroutine n) vs h k = one n k h.1.1.1.1.0.1
bytes_told (Do c) vs h k = one (argument c) k (argument_told c _ h.1.1.1.1.0)
bytes_told (Loop delay count) vs h k = none k
bytes_told (IfLocations x r y c) vs h k = one (argument c) k (argument_told c _ h.1.1.1.1.1.1.1.0)
bytes_told (IfFixed x r f c) vs h k = one (argument c) k (argument_told c _ h.1.1.1.1.1.1.1.0)
bytes_told (IfFlag f high c) vs h k = two f (argument c) k h.1.1.1.1.0.1 (argument_told c _ h.1.1.1.1.1.1.0)
bytes_told (IfTime into interval c) vs h k = one (argument c) k (argument_told c _ h.1.1.1.1.1.1.0)

lengths_told : (l : List ℕ) (us : List Val) → shadow (each ℕ (UInt w8).own_val l us) → (k : ℕ) → get_or l k 0 < 256
lengths_told [] us h k = none k
lengths_told (a ∷ r) [] h k = absurd h
lengths_told (a ∷ r) (u ∷ us) h zero = h.0.1
lengths_told (a ∷ r) (u ∷ us) h (suc k) = lengths_told r us h.1 k

slots_told : (l : List Slot) (us : List Val) → shadow (each _ (slot.the_row).own_val l us) → (s k : ℕ)
    → get_or (bytes (get_or l s (record { instruction = End })).instruction) k 0 < 256
unfolding bytes
slots_told [] us h zero k = none k
slots_told [] us h (suc s) k = none k
slots_told (a ∷ r) [] h s k = absurd h
slots_told (a ∷ r) (u ∷ us) h zero k = bytes_told a.instruction _ h.0.1.1.0 k
slots_told (a ∷ r) (u ∷ us) h (suc s) k = slots_told r us h.1 s k

pub record_told : (p : Program) (vs : List Val) → Is (struct.row program.the_type) p vs → Typed p
record_told p vs h =
    record {
      slots = h.1.1.1.1.1.1.0.1.0.1;
      intervals = h.1.1.1.1.0.1.0.1;
      lengths = h.1.1.1.1.1.0.1.0.1;
      few = lengths_told p.lengths _ h.1.1.1.1.1.0.1.1;
      fits = slots_told p.slots _ h.1.1.1.1.1.1.0.1.1;
    }
