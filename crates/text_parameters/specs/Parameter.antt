-- The parameters of an entry, each from its item: a number in its range, a location, a fixed value, a command. Assumes nothing.
use Rattle.std.specs.Prelude.{ℕ, ◌-◌, min, cond, ◌||◌, List, [], get_or, eqb, Float, Option, Some, None, Result, Err}
use Rattle.base_program.specs.declared.Instruction.{Instruction}
use Rattle.text_number.specs.declared.KeyedLocation.{KeyedLocation}
use Rattle.text_number.specs.Keyed.{whole_of, location_keyed, fixed_of}
use Rattle.base_program.specs.declared.Location.{Location}
use Rattle.base_program.specs.declared.Command.{Command}
use Rattle.base_program.specs.Ranges.{Range, within, up, flags, ports}
use Rattle.base_program.specs.Codes.{is_label}

-- item k of a line's items, from 0
abbrev pub item : List (List ℕ) → ℕ → List ℕ
item ws k = get_or ws k []

-- ---- a number in its range

unfoldable pub ranged : Range → Option ℕ → Option ℕ
ranged r (Some n) = cond (within r n) (Some n) None
ranged r None = None

unfoldable pub number_in : Range → List (List ℕ) → ℕ → Option ℕ
number_in r ws k = ranged r (whole_of (item ws k))

-- ---- a location: 'A location's range is 20's matter.' A number that no record holds is kept as 65,535, which is out of range alike.

unfoldable pub placed : Option KeyedLocation → Option Location
placed (Some l) = Some (record { number = min l.number 65535; indexed = l.indexed })
placed None = None

unfoldable pub location_in : List (List ℕ) → ℕ → Option Location
location_in ws k = placed (location_keyed (item ws k))

-- ---- F, multiplier, offset

unfoldable pub fixed_in : List (List ℕ) → ℕ → Option Float
fixed_in ws k = fixed_of (item ws k)

-- ---- a command

-- '41-48 port 1-8 high, 51-58 low'
unfoldable pub port_of : ℕ → Option Command
port_of n = cond (within (up 40 ports) n) (Some (Command.PortHigh (n - 40))) (cond (within (up 50 ports) n) (Some (Command.PortLow (n - 50))) None)

-- 'Commands: 0 go to the end of the table ..; 1-9 and 79-99 call; 10-19 raise flag 0-9, 20-29 lower; 30 Then Do; 31 exit loop if true, 32 if false'
unfoldable pub command_keyed : ℕ → Option Command
command_keyed n =
    cond (eqb n 0) (Some Command.Stop)
    (cond (is_label n) (Some (Command.Call n))
    (cond (within (up 10 flags) n) (Some (Command.Raise (n - 10)))
    (cond (within (up 20 flags) n) (Some (Command.Lower (n - 20)))
    (cond (eqb n 30) (Some Command.Then)
    (cond (eqb n 31) (Some Command.ExitIfTrue)
    (cond (eqb n 32) (Some Command.ExitIfFalse)
    (port_of n)))))))

unfoldable pub command_said : Option ℕ → Option Command
command_said (Some n) = command_keyed n
command_said None = None

unfoldable pub command_in : List (List ℕ) → ℕ → Option Command
command_in ws k = command_said (whole_of (item ws k))

-- '86 is always true and takes neither 30 nor 32.'
unfoldable pub unconditional : Option ℕ → Option Command
unconditional (Some n) = cond (eqb n 30 || eqb n 32) None (command_keyed n)
unconditional None = None

unfoldable pub unconditional_in : List (List ℕ) → ℕ → Option Command
unconditional_in ws k = unconditional (whole_of (item ws k))

-- ---- 'a parameter's kind and range (2)': what is made of a parameter, or fault 2

abbrev pub given : {A : Type 0} → Option A → (A → Result Instruction ℕ) → Result Instruction ℕ
given (Some x) f = f x
given None f = Err 2
