-- The record as numbers and values in lent buffers: how it is read, and how it is written. What is quoted is of `include/yukeira.h`. Assumes nothing.
use Rattle.std.specs.Prelude.{ℕ, zero, suc, ◌+◌, ◌*◌, ◌/◌, ◌%◌, min, Bool, false, cond, not, ◌&&◌, List, [], ◌∷◌, ◌++◌, map, get_or, drop, eqb, ltb, Float}
use Rattle.base_program.specs.declared.Location.{Location}
use Rattle.base_program.specs.declared.Scale.{Scale}
use Rattle.base_program.specs.declared.Relation.{Relation}
use Rattle.base_program.specs.declared.TimeCode.{TimeCode}
use Rattle.base_program.specs.declared.Command.{Command}
use Rattle.base_program.specs.declared.Instruction.{Instruction}
use Rattle.base_program.specs.declared.Instruction.TheVariants.{End, Else, MeasureSingle, MeasureDifferential, SetFixed, Copy, Increment, Add, AddFixed, Subtract, Multiply, MultiplyFixed, Divide, Sample, Average, Total, Maximum, Minimum, StoreTime, Subroutine, Do, Loop, IfLocations, IfFixed, IfFlag, IfTime}
use Rattle.base_program.specs.declared.Slot.{Slot}
use Rattle.base_program.specs.declared.Program.{Program}
use Rattle.base_program.specs.Reach.{numbers_from}
use Rattle.base_program.specs.Ranges.{within, relations}
use Rattle.base_program.specs.Codes.{relation_of, is_code, code_of}
unfoldable pub use Rattle.base_program.specs.Codes.{relation_number, code_number}
use Rattle.base_float.specs.Finite.{zero_float}

-- ---- what is read

-- 'Reps, range, channel, flag and the number of a subroutine are read as 255 where they are over 255.'
abbrev pub byte_of : ℕ → ℕ
byte_of n = min n 255

-- 'Where 0 or 1 is written, any other number is read as 1.'
abbrev pub is_set : ℕ → Bool
is_set n = not (eqb n 0)

-- 'A location is two numbers: its number, and 0, or 1 where it is indexed'
abbrev pub location_laid : ℕ → ℕ → Location
location_laid n i = record { number = n; indexed = is_set i }

abbrev pub scale_of : Float → Float → Scale
scale_of x y = record { multiplier = x; offset = y }

-- 'A relation is 1 to 4, as keyed.'
abbrev pub is_relation : ℕ → Bool
is_relation n = within relations n

-- 'A command is 256 x kind + argument: kind 0 to the end of the table, 1 call (subroutine), 2 raise (flag), 3 lower (flag), 4 Then Do, 5 exit the
-- loop if true, 6 exit it if false, 7 port high (port), 8 port low (port)'
abbrev pub is_command : ℕ → Bool
is_command n = ltb (n / 256) 9

unfoldable pub command_of_kind : ℕ → ℕ → Command
command_of_kind kind argument =
    cond (eqb kind 0) Command.Stop
    (cond (eqb kind 1) (Command.Call argument)
    (cond (eqb kind 2) (Command.Raise argument)
    (cond (eqb kind 3) (Command.Lower argument)
    (cond (eqb kind 4) Command.Then
    (cond (eqb kind 5) Command.ExitIfTrue
    (cond (eqb kind 6) Command.ExitIfFalse
    (cond (eqb kind 7) (Command.PortHigh argument)
    (Command.PortLow argument))))))))

abbrev pub command_laid : ℕ → Command
command_laid n = command_of_kind (n / 256) (n % 256)

-- 'A slot whose relation, code or kind of command is none of these is read as `85 0`'; so is one whose instruction is none of these, which the check
-- of such a record tells as 3 (check_known).
abbrev pub unknown : Instruction
unknown = Subroutine 0

abbrev pub known : Bool → Instruction → Instruction
known b i = cond b i unknown

-- 85 to 95, by the instruction's number n and the numbers and the value behind it
unfoldable pub control_of : ℕ → ℕ → ℕ → ℕ → ℕ → ℕ → ℕ → Float → Instruction
control_of n a b c d e f x =
    cond (eqb n 85) (Subroutine (byte_of a))
    (cond (eqb n 86) (known (is_command a) (Do (command_laid a)))
    (cond (eqb n 87) (Loop a b)
    (cond (eqb n 88) (known (is_relation c && is_command f) (IfLocations (location_laid a b) (relation_of c) (location_laid d e) (command_laid f)))
    (cond (eqb n 89) (known (is_relation c && is_command d) (IfFixed (location_laid a b) (relation_of c) x (command_laid d)))
    (cond (eqb n 91) (known (is_command c) (IfFlag (byte_of a) (is_set b) (command_laid c)))
    (cond (eqb n 92) (known (is_command c) (IfTime a b (command_laid c)))
    (cond (eqb n 94) Else
    (cond (eqb n 95) End
    unknown))))))))

-- 'The first number of a slot is the instruction's own; its parameters follow in the order in which they are keyed.' x and y are its two values
unfoldable pub instruction_of : ℕ → ℕ → ℕ → ℕ → ℕ → ℕ → ℕ → Float → Float → Instruction
instruction_of n a b c d e f x y =
    cond (eqb n 1) (MeasureSingle (byte_of a) (byte_of b) (record { 0 = byte_of c }) (location_laid d e) (scale_of x y))
    (cond (eqb n 2) (MeasureDifferential (byte_of a) (byte_of b) (record { 0 = byte_of c }) (location_laid d e) (scale_of x y))
    (cond (eqb n 30) (SetFixed x (location_laid a b))
    (cond (eqb n 31) (Copy (location_laid a b) (location_laid c d))
    (cond (eqb n 32) (Increment (location_laid a b))
    (cond (eqb n 33) (Add (location_laid a b) (location_laid c d) (location_laid e f))
    (cond (eqb n 34) (AddFixed (location_laid a b) x (location_laid c d))
    (cond (eqb n 35) (Subtract (location_laid a b) (location_laid c d) (location_laid e f))
    (cond (eqb n 36) (Multiply (location_laid a b) (location_laid c d) (location_laid e f))
    (cond (eqb n 37) (MultiplyFixed (location_laid a b) x (location_laid c d))
    (cond (eqb n 38) (Divide (location_laid a b) (location_laid c d) (location_laid e f))
    (cond (eqb n 70) (Sample (byte_of a) (location_laid b c))
    (cond (eqb n 71) (Average (byte_of a) (location_laid b c))
    (cond (eqb n 72) (Total (byte_of a) (location_laid b c))
    (cond (eqb n 73) (Maximum (byte_of a) (location_laid b c))
    (cond (eqb n 74) (Minimum (byte_of a) (location_laid b c))
    (cond (eqb n 77) (known (is_code a) (StoreTime (code_of a)))
    (control_of n a b c d e f x)))))))))))))))))

-- the instruction of a slot that begins at the front of these numbers and values
unfoldable pub in_slot : List ℕ → List Float → Instruction
in_slot ns vs =
    instruction_of (get_or ns 0 0) (get_or ns 1 0) (get_or ns 2 0) (get_or ns 3 0) (get_or ns 4 0) (get_or ns 5 0) (get_or ns 6 0) (get_or vs 0 zero_float)
    (get_or vs 1 zero_float)

-- 'how many entries Tables 1, 2 and 3 have; a number over 255 is read as 255': the table of row 0, 1 or 2
abbrev pub length_of : List ℕ → ℕ → ℕ
length_of numbers row = byte_of (get_or numbers (6 + row) 0)

-- 'Entry e (1 to 99) of table t (1 to 3) has the slot s = 99 (t - 1) + e - 1: the eight numbers from numbers[9 + 8 s] on, and the two values
-- values[2 s] and values[2 s + 1].' 'Slots behind a table's last entry are not looked at; a text's record has 95 in them.'
unfoldable pub instruction_at : List ℕ → List Float → ℕ → Instruction
instruction_at numbers values s =
    cond (ltb (s % 99) (length_of numbers (s / 99))) (in_slot (drop (9 + 8 * s) numbers) (drop (2 * s) values)) End

abbrev pub slot_at : List ℕ → List Float → ℕ → Slot
slot_at numbers values s = record { instruction = instruction_at numbers values s }

-- V, 'modulo 65,536, and divided by 65,536', from place k on
abbrev pub interval_of : List ℕ → ℕ → ℕ
interval_of numbers k = get_or numbers k 0 + 65536 * get_or numbers (k + 1) 0

abbrev pub slots_of : List ℕ → List Float → List Slot
slots_of numbers values = map (slot_at numbers values) (numbers_from 0 297)

-- numbers[0] is I, [1] is M, [2] and [3] are V of Table 1, [4] and [5] 'V of Table 2, in the same way'
unfoldable pub record_of : List ℕ → List Float → Program
record_of numbers values =
    record {
      locations = get_or numbers 0 0;
      sums = get_or numbers 1 0;
      intervals = interval_of numbers 2 ∷ interval_of numbers 4 ∷ [];
      lengths = length_of numbers 0 ∷ length_of numbers 1 ∷ length_of numbers 2 ∷ [];
      slots = slots_of numbers values;
    }

-- ---- what is written

-- '0 or 1 is written'
abbrev pub bit_of : Bool → ℕ
bit_of b = cond b 1 0

-- 'an argument that a kind does not have is written as 0'
unfoldable pub command_number : Command → ℕ
command_number Command.Stop = 0
command_number (Command.Call k) = 256 + k
command_number (Command.Raise f) = 512 + f
command_number (Command.Lower f) = 768 + f
command_number Command.Then = 1024
command_number Command.ExitIfTrue = 1280
command_number Command.ExitIfFalse = 1536
command_number (Command.PortHigh p) = 1792 + p
command_number (Command.PortLow p) = 2048 + p

-- a slot's eight numbers
abbrev pub eight : ℕ → ℕ → ℕ → ℕ → ℕ → ℕ → ℕ → List ℕ
eight n a b c d e f = n ∷ a ∷ b ∷ c ∷ d ∷ e ∷ f ∷ 0 ∷ []

abbrev pub one : ℕ → Location → List ℕ
one n x = eight n x.number (bit_of x.indexed) 0 0 0 0

abbrev pub two : ℕ → Location → Location → List ℕ
two n x z = eight n x.number (bit_of x.indexed) z.number (bit_of z.indexed) 0 0

abbrev pub three : ℕ → Location → Location → Location → List ℕ
three n x y z = eight n x.number (bit_of x.indexed) y.number (bit_of y.indexed) z.number (bit_of z.indexed)

abbrev pub output_numbers : ℕ → ℕ → Location → List ℕ
output_numbers n reps x = eight n reps x.number (bit_of x.indexed) 0 0 0

-- 'What is not used is written as 0'
unfoldable pub slot_numbers : Instruction → List ℕ
slot_numbers End = eight 95 0 0 0 0 0 0
slot_numbers Else = eight 94 0 0 0 0 0 0
slot_numbers (MeasureSingle reps range channel l scale) = eight 1 reps range channel.0 l.number (bit_of l.indexed) 0
slot_numbers (MeasureDifferential reps range channel l scale) = eight 2 reps range channel.0 l.number (bit_of l.indexed) 0
slot_numbers (SetFixed f z) = one 30 z
slot_numbers (Copy x z) = two 31 x z
slot_numbers (Increment z) = one 32 z
slot_numbers (Add x y z) = three 33 x y z
slot_numbers (AddFixed x f z) = two 34 x z
slot_numbers (Subtract x y z) = three 35 x y z
slot_numbers (Multiply x y z) = three 36 x y z
slot_numbers (MultiplyFixed x f z) = two 37 x z
slot_numbers (Divide x y z) = three 38 x y z
slot_numbers (Sample reps x) = output_numbers 70 reps x
slot_numbers (Average reps x) = output_numbers 71 reps x
slot_numbers (Total reps x) = output_numbers 72 reps x
slot_numbers (Maximum reps x) = output_numbers 73 reps x
slot_numbers (Minimum reps x) = output_numbers 74 reps x
slot_numbers (StoreTime code) = eight 77 (code_number code) 0 0 0 0 0
slot_numbers (Subroutine k) = eight 85 k 0 0 0 0 0
slot_numbers (Do c) = eight 86 (command_number c) 0 0 0 0 0
slot_numbers (Loop delay count) = eight 87 delay count 0 0 0 0
slot_numbers (IfLocations x r y c) =
    eight 88 x.number (bit_of x.indexed) (relation_number r) y.number (bit_of y.indexed) (command_number c)
slot_numbers (IfFixed x r f c) = eight 89 x.number (bit_of x.indexed) (relation_number r) (command_number c) 0 0
slot_numbers (IfFlag f high c) = eight 91 f (bit_of high) (command_number c) 0 0 0
slot_numbers (IfTime into interval c) = eight 92 into interval (command_number c) 0 0 0

-- a slot's two values, 'a value as 0.0'
abbrev pub pair : Float → Float → List Float
pair x y = x ∷ y ∷ []

unfoldable pub slot_values : Instruction → List Float
slot_values End = pair zero_float zero_float
slot_values Else = pair zero_float zero_float
slot_values (MeasureSingle reps range channel l scale) = pair scale.multiplier scale.offset
slot_values (MeasureDifferential reps range channel l scale) = pair scale.multiplier scale.offset
slot_values (SetFixed f z) = pair f zero_float
slot_values (Copy x z) = pair zero_float zero_float
slot_values (Increment z) = pair zero_float zero_float
slot_values (Add x y z) = pair zero_float zero_float
slot_values (AddFixed x f z) = pair f zero_float
slot_values (Subtract x y z) = pair zero_float zero_float
slot_values (Multiply x y z) = pair zero_float zero_float
slot_values (MultiplyFixed x f z) = pair f zero_float
slot_values (Divide x y z) = pair zero_float zero_float
slot_values (Sample reps x) = pair zero_float zero_float
slot_values (Average reps x) = pair zero_float zero_float
slot_values (Total reps x) = pair zero_float zero_float
slot_values (Maximum reps x) = pair zero_float zero_float
slot_values (Minimum reps x) = pair zero_float zero_float
slot_values (StoreTime code) = pair zero_float zero_float
slot_values (Subroutine k) = pair zero_float zero_float
slot_values (Do c) = pair zero_float zero_float
slot_values (Loop delay count) = pair zero_float zero_float
slot_values (IfLocations x r y c) = pair zero_float zero_float
slot_values (IfFixed x r f c) = pair f zero_float
slot_values (IfFlag f high c) = pair zero_float zero_float
slot_values (IfTime into interval c) = pair zero_float zero_float

-- what lies in slot s
abbrev pub held : Program → ℕ → Instruction
held p s = (get_or p.slots s (record { instruction = End })).instruction

-- the numbers and the values of the first n slots
unfoldable pub numbers_to : Program → ℕ → List ℕ
numbers_to p zero = []
numbers_to p (suc s) = numbers_to p s ++ slot_numbers (held p s)

unfoldable pub values_to : Program → ℕ → List Float
values_to p zero = []
values_to p (suc s) = values_to p s ++ slot_values (held p s)

abbrev pub header : Program → List ℕ
header p =
    p.locations
    ∷ p.sums
    ∷ get_or p.intervals 0 0 % 65536
    ∷ get_or p.intervals 0 0 / 65536
    ∷ get_or p.intervals 1 0 % 65536
    ∷ get_or p.intervals 1 0 / 65536
    ∷ get_or p.lengths 0 0
    ∷ get_or p.lengths 1 0
    ∷ get_or p.lengths 2 0
    ∷ []

unfoldable pub numbers_of : Program → List ℕ
numbers_of p = header p ++ numbers_to p 297

unfoldable pub values_of : Program → List Float
values_of p = values_to p 297
