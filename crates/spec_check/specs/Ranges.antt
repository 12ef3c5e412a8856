-- Faults 2, 5 and 6: a number outside its range, an interval, an entry 100. Assumes nothing.
use Rattle.std.specs.Prelude.{ℕ, Bool, true, false, not, ◌&&◌, get_or, ltb, eqb}
use Rattle.base_float.specs.Finite.{finite}
use Rattle.base_program.specs.declared.Command.{Command}
use Rattle.base_program.specs.declared.Command.TheVariants.{Stop, Call, Raise, Lower, Then, ExitIfTrue, ExitIfFalse, PortHigh, PortLow}
use Rattle.base_program.specs.declared.Instruction.{Instruction}
use Rattle.base_program.specs.declared.Instruction.TheVariants.{End, Else, MeasureSingle, MeasureDifferential, SetFixed, Copy, Increment, Add, AddFixed, Subtract, Multiply, MultiplyFixed, Divide, Sample, Average, Total, Maximum, Minimum, StoreTime, Subroutine, Do, Loop, IfLocations, IfFixed, IfFlag, IfTime}
use Rattle.base_program.specs.declared.Program.{Program}
use Rattle.base_program.specs.declared.Table.{Table}
use Rattle.base_program.specs.declared.Table.TheVariants.{One, Two, Three}
use Rattle.base_program.specs.Entries.{claimed, entry_at}
use Rattle.base_program.specs.Ranges.{within, location_counts, sum_counts, is_interval_of, reps_range, range_codes, only_delay, passes, minutes_into, minute_intervals, flags, ports}
use Rattle.base_program.specs.Channel.{single_numbers, differential_numbers}
use Rattle.base_program.specs.Codes.{is_label}

-- ---- 2: 'Number .. outside its range'

abbrev pub is_reps : ℕ → Bool
is_reps n = within reps_range n

-- '1-9 and 79-99 call; 10-19 raise flag 0-9, 20-29 lower; .. 41-48 port 1-8 high, 51-58 low'
unfoldable pub command_in_range : Command → Bool
command_in_range Stop = true
command_in_range (Call k) = is_label k
command_in_range (Raise f) = within flags f
command_in_range (Lower f) = within flags f
command_in_range Then = true
command_in_range ExitIfTrue = true
command_in_range ExitIfFalse = true
command_in_range (PortHigh p) = within ports p
command_in_range (PortLow p) = within ports p

-- '86 is always true and takes neither 30 nor 32.'
unfoldable pub is_unconditional : Command → Bool
is_unconditional Stop = true
is_unconditional (Call k) = true
is_unconditional (Raise f) = true
is_unconditional (Lower f) = true
is_unconditional Then = false
is_unconditional ExitIfTrue = true
is_unconditional ExitIfFalse = false
is_unconditional (PortHigh p) = true
is_unconditional (PortLow p) = true

-- The numbers of an instruction. 'A location's range is 20's matter'; 'an F in it need only be finite'.
unfoldable pub in_range : Instruction → Bool
in_range End = true
in_range Else = true
in_range (MeasureSingle reps range channel location scale) =
    is_reps reps && (within range_codes range && (within single_numbers channel.0 && (finite scale.multiplier && finite scale.offset)))
in_range (MeasureDifferential reps range channel location scale) =
    is_reps reps && (within range_codes range && (within differential_numbers channel.0 && (finite scale.multiplier && finite scale.offset)))
in_range (SetFixed f z) = finite f
in_range (Copy x z) = true
in_range (Increment z) = true
in_range (Add x y z) = true
in_range (AddFixed x f z) = finite f
in_range (Subtract x y z) = true
in_range (Multiply x y z) = true
in_range (MultiplyFixed x f z) = finite f
in_range (Divide x y z) = true
in_range (Sample reps x) = is_reps reps
in_range (Average reps x) = is_reps reps
in_range (Total reps x) = is_reps reps
in_range (Maximum reps x) = is_reps reps
in_range (Minimum reps x) = is_reps reps
in_range (StoreTime code) = true
in_range (Subroutine k) = is_label k
in_range (Do c) = command_in_range c && is_unconditional c
in_range (Loop delay count) = eqb delay only_delay && within passes count
in_range (IfLocations x r y c) = command_in_range c
in_range (IfFixed x r f c) = finite f && command_in_range c
in_range (IfFlag f high c) = within flags f && command_in_range c
in_range (IfTime into interval c) = within minutes_into into && (within minute_intervals interval && command_in_range c)

abbrev pub fault2 : Program → Table → ℕ → Bool
fault2 p t e = not (in_range (entry_at p t e))

-- I and M
abbrev pub fault2header : Program → Bool
fault2header p = not (within location_counts p.locations && within sum_counts p.sums)

-- ---- 5: 'Interval'

-- '1 to 7 for Table 1 only'; Table 3 has none
unfoldable pub is_interval : Table → ℕ → Bool
is_interval One v = is_interval_of true v
is_interval Two v = is_interval_of false v
is_interval Three v = true

-- V of Tables 1 and 2
unfoldable pub interval : Program → Table → ℕ
interval p One = get_or p.intervals 0 0
interval p Two = get_or p.intervals 1 0
interval p Three = 0

abbrev pub fault5 : Program → Table → Bool
fault5 p t = not (is_interval t (interval p t))

-- ---- 6: 'Entry 100'

abbrev pub fault6 : Program → Table → Bool
fault6 p t = ltb 99 (claimed p t)
