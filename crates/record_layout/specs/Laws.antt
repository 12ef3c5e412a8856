-- What was written is read back: a command, an instruction. By cases; the numbers fit their fields. Assumes nothing.
use Rattle.std.specs.Prelude.{◌≡◌, refl, ℕ, zero, suc, ◌+◌, ◌/◌, ◌%◌, ◌<◌, Bool, true, false, ◌&&◌, List, [], ◌∷◌, ◌++◌, map, length, get_or, ltb, Float}
use Rattle.std.proofs.Common.{sym, ap, ◌∙◌, arith, ext_get_or}
use Rattle.std.proofs.lemmas.List.{length-map}
use Rattle.base_program.specs.declared.Location.{Location}
use Rattle.base_program.specs.declared.SingleEnded.{SingleEnded}
use Rattle.base_program.specs.declared.Differential.{Differential}
use Rattle.base_program.specs.declared.Relation.{Relation}
use Rattle.base_program.specs.declared.TimeCode.{TimeCode}
use Rattle.base_program.specs.declared.Command.{Command}
use Rattle.base_program.specs.declared.Instruction.{Instruction}
use Rattle.base_program.specs.declared.Instruction.TheVariants.{End, Else, MeasureSingle, MeasureDifferential, SetFixed, Copy, Increment, Add, AddFixed, Subtract, Multiply, MultiplyFixed, Divide, Sample, Average, Total, Maximum, Minimum, StoreTime, Subroutine, Do, Loop, IfLocations, IfFixed, IfFlag, IfTime}
use Rattle.base_program.specs.Reach.{numbers_from}
use Rattle.base_program.specs.Laws.{numbers_from_at_lem, numbers_from_length_lem}
use Rattle.base_program.specs.Codes.{relation_of, is_code, code_of}
use Rattle.record_layout.specs.Layout.{byte_of, is_set, location_laid, is_relation, is_command, command_of_kind, command_laid, known, control_of, instruction_of, in_slot, bit_of, relation_number, code_number, command_number, slot_numbers, slot_values}

-- ---- a command

-- the subroutine, the flag or the port
unfoldable pub argument : Command → ℕ
argument Command.Stop = 0
argument (Command.Call k) = k
argument (Command.Raise f) = f
argument (Command.Lower f) = f
argument Command.Then = 0
argument Command.ExitIfTrue = 0
argument Command.ExitIfFalse = 0
argument (Command.PortHigh p) = p
argument (Command.PortLow p) = p

module _ (k a : ℕ) where
  by_parts : (x : ℕ) → x / 256 ≡ k → x % 256 ≡ a → command_laid x ≡ command_of_kind k a
  by_parts x d m = ap (λ z. command_of_kind z (x % 256)) d ∙ ap (command_of_kind k) m

pub command_back : (c : Command) → argument c < 256 → command_laid (command_number c) ≡ c
unfolding argument command_number command_of_kind
command_back Command.Stop h = refl
command_back (Command.Call k) h = by_parts 1 k (256 + k) (omega arith) (omega arith)
command_back (Command.Raise f) h = by_parts 2 f (512 + f) (omega arith) (omega arith)
command_back (Command.Lower f) h = by_parts 3 f (768 + f) (omega arith) (omega arith)
command_back Command.Then h = refl
command_back Command.ExitIfTrue h = refl
command_back Command.ExitIfFalse h = refl
command_back (Command.PortHigh p) h = by_parts 7 p (1792 + p) (omega arith) (omega arith)
command_back (Command.PortLow p) h = by_parts 8 p (2048 + p) (omega arith) (omega arith)

command_known : (c : Command) → argument c < 256 → is_command (command_number c) ≡ true
unfolding argument command_number
command_known Command.Stop h = refl
command_known (Command.Call k) h = ap (λ z. ltb z 9) (let g : (256 + k) / 256 ≡ 1 = omega arith in g)
command_known (Command.Raise f) h = ap (λ z. ltb z 9) (let g : (512 + f) / 256 ≡ 2 = omega arith in g)
command_known (Command.Lower f) h = ap (λ z. ltb z 9) (let g : (768 + f) / 256 ≡ 3 = omega arith in g)
command_known Command.Then h = refl
command_known Command.ExitIfTrue h = refl
command_known Command.ExitIfFalse h = refl
command_known (Command.PortHigh p) h = ap (λ z. ltb z 9) (let g : (1792 + p) / 256 ≡ 7 = omega arith in g)
command_known (Command.PortLow p) h = ap (λ z. ltb z 9) (let g : (2048 + p) / 256 ≡ 8 = omega arith in g)

-- an instruction that is known by its command, and is what it was by its parts
known_by : (c : Command) (f : Command → Instruction) → argument c < 256 → known (is_command (command_number c)) (f (command_laid (command_number c))) ≡ f c
known_by c f h = ap (λ b. known b (f (command_laid (command_number c)))) (command_known c h) ∙ ap f (command_back c h)

-- ---- an instruction

pub bit_back : (b : Bool) → is_set (bit_of b) ≡ b
bit_back true = refl
bit_back false = refl

byte_back : (n : ℕ) → n < 256 → byte_of n ≡ n
byte_back n h = omega arith

location_back : (l : Location) → location_laid l.number (bit_of l.indexed) ≡ l
location_back l = ap (λ (b : Bool). record { number = l.number; indexed = b }) (bit_back l.indexed)

single_back : (c : SingleEnded) → c.0 < 256 → record { 0 = byte_of c.0 } ≡ c
single_back c h = ap (λ (n : ℕ). record { 0 = n }) (byte_back c.0 h)

differential_back : (c : Differential) → c.0 < 256 → record { 0 = byte_of c.0 } ≡ c
differential_back c h = ap (λ (n : ℕ). record { 0 = n }) (byte_back c.0 h)

relation_back : (r : Relation) → (is_relation (relation_number r) ≡ true) × (relation_of (relation_number r) ≡ r)
unfolding relation_number relation_of
relation_back Relation.Equal = (refl, refl)
relation_back Relation.NotEqual = (refl, refl)
relation_back Relation.AtLeast = (refl, refl)
relation_back Relation.Below = (refl, refl)

code_back : (c : TimeCode) → (is_code (code_number c) ≡ true) × (code_of (code_number c) ≡ c)
unfolding code_number is_code code_of
code_back TimeCode.HoursMinutes = (refl, refl)
code_back TimeCode.Day = (refl, refl)
code_back TimeCode.DayHoursMinutes = (refl, refl)

-- the numbers of an instruction that lie in fields of one byte
unfoldable pub bytes : Instruction → List ℕ
unfolding argument
bytes End = []
bytes Else = []
bytes (MeasureSingle reps range channel l scale) = reps ∷ range ∷ channel.0 ∷ []
bytes (MeasureDifferential reps range channel l scale) = reps ∷ range ∷ channel.0 ∷ []
bytes (SetFixed f z) = []
bytes (Copy x z) = []
bytes (Increment z) = []
bytes (Add x y z) = []
bytes (AddFixed x f z) = []
bytes (Subtract x y z) = []
bytes (Multiply x y z) = []
bytes (MultiplyFixed x f z) = []
bytes (Divide x y z) = []
bytes (Sample reps x) = reps ∷ []
bytes (Average reps x) = reps ∷ []
bytes (Total reps x) = reps ∷ []
bytes (Maximum reps x) = reps ∷ []
bytes (Minimum reps x) = reps ∷ []
bytes (StoreTime code) = []
bytes (Subroutine k) = k ∷ []
bytes (Do c) = argument c ∷ []
bytes (Loop delay count) = []
bytes (IfLocations x r y c) = argument c ∷ []
bytes (IfFixed x r f c) = argument c ∷ []
bytes (IfFlag f high c) = f ∷ argument c ∷ []
bytes (IfTime into interval c) = argument c ∷ []

-- whatever stands behind the slot's numbers and values
pub instruction_back : (i : Instruction) (ns : List ℕ) (vs : List Float) → ((k : ℕ) → get_or (bytes i) k 0 < 256)
    → in_slot (slot_numbers i ++ ns) (slot_values i ++ vs) ≡ i
unfolding bytes in_slot instruction_of control_of slot_numbers slot_values
instruction_back End ns vs h = refl
instruction_back Else ns vs h = refl
instruction_back (MeasureSingle reps range channel l scale) ns vs h = cc (byte_back reps (h 0), byte_back range (h 1), single_back channel (h 2), location_back l)
instruction_back (MeasureDifferential reps range channel l scale) ns vs h = cc (byte_back reps (h 0), byte_back range (h 1), differential_back channel (h 2), location_back l)
instruction_back (SetFixed f z) ns vs h = ap (SetFixed f) (location_back z)
instruction_back (Copy x z) ns vs h = cc (location_back x, location_back z)
instruction_back (Increment z) ns vs h = ap Increment (location_back z)
instruction_back (Add x y z) ns vs h = cc (location_back x, location_back y, location_back z)
instruction_back (AddFixed x f z) ns vs h = cc (location_back x, location_back z)
instruction_back (Subtract x y z) ns vs h = cc (location_back x, location_back y, location_back z)
instruction_back (Multiply x y z) ns vs h = cc (location_back x, location_back y, location_back z)
instruction_back (MultiplyFixed x f z) ns vs h = cc (location_back x, location_back z)
instruction_back (Divide x y z) ns vs h = cc (location_back x, location_back y, location_back z)
instruction_back (Sample reps x) ns vs h = cc (byte_back reps (h 0), location_back x)
instruction_back (Average reps x) ns vs h = cc (byte_back reps (h 0), location_back x)
instruction_back (Total reps x) ns vs h = cc (byte_back reps (h 0), location_back x)
instruction_back (Maximum reps x) ns vs h = cc (byte_back reps (h 0), location_back x)
instruction_back (Minimum reps x) ns vs h = cc (byte_back reps (h 0), location_back x)
instruction_back (StoreTime code) ns vs h = ap (λ b. known b (StoreTime (code_of (code_number code)))) (code_back code).0 ∙ ap StoreTime (code_back code).1
instruction_back (Subroutine k) ns vs h = ap Subroutine (byte_back k (h 0))
instruction_back (Do c) ns vs h = known_by c Do (h 0)
instruction_back (Loop delay count) ns vs h = refl
instruction_back (IfLocations x r y c) ns vs h =
    ap (λ b. known (b && is_command (command_number c)) (IfLocations (location_laid x.number (bit_of x.indexed)) (relation_of (relation_number r)) (location_laid y.number (bit_of y.indexed)) (command_laid (command_number c)))) (relation_back r).0
    ∙ known_by c (IfLocations (location_laid x.number (bit_of x.indexed)) (relation_of (relation_number r)) (location_laid y.number (bit_of y.indexed))) (h 0)
    ∙ cc (location_back x, (relation_back r).1, location_back y)
instruction_back (IfFixed x r f c) ns vs h =
    ap (λ b. known (b && is_command (command_number c)) (IfFixed (location_laid x.number (bit_of x.indexed)) (relation_of (relation_number r)) f (command_laid (command_number c)))) (relation_back r).0
    ∙ known_by c (IfFixed (location_laid x.number (bit_of x.indexed)) (relation_of (relation_number r)) f) (h 0)
    ∙ cc (location_back x, (relation_back r).1)
instruction_back (IfFlag f high c) ns vs h = known_by c (IfFlag (byte_of f) (is_set (bit_of high))) (h 1) ∙ cc (byte_back f (h 0), bit_back high)
instruction_back (IfTime into interval c) ns vs h = known_by c (IfTime into interval) (h 0)

-- ---- lists

pub at_map : {A B : Type 0} (f : A → B) (l : List A) (i : ℕ) (x : B) (d : A) → i < length l → get_or (map f l) i x ≡ f (get_or l i d)
at_map f [] i x d h = absurd (omega arith)
at_map f (a ∷ r) zero x d h = refl
at_map f (a ∷ r) (suc i) x d h = at_map f r i x d (omega arith)

-- a list is that of its places
pub places : {A : Type 0} (n : ℕ) (l : List A) (d : A) → length l ≡ n → map (λ k. get_or l k d) (numbers_from 0 n) ≡ l
places n l d h =
    ext_get_or d (map (λ k. get_or l k d) (numbers_from 0 n)) l (length-map (numbers_from 0 n) (λ k. get_or l k d) ∙ numbers_from_length_lem 0 n ∙ sym h)
    (λ i low.
    let few : i < n = omega (arith, length-map (numbers_from 0 n) (λ k. get_or l k d), numbers_from_length_lem 0 n) in
    at_map (λ k. get_or l k d) (numbers_from 0 n) i d 0 (omega (arith, numbers_from_length_lem 0 n)) ∙ ap (λ k. get_or l k d) (numbers_from_at_lem 0 n i few ∙ omega arith))
