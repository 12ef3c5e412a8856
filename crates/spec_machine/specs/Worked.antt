-- Small programs and what they leave, by computation. Assumes nothing.
use Rattle.std.specs.Prelude.{◌≡◌, refl, ℕ, ◌-◌, Bool, true, false, List, [], ◌∷◌, ◌++◌, map, length, replicate, pos, negsuc, Float}
use Rattle.std.proofs.Math.Option.{Option, none, some}
use Rattle.std.specs.Float.{fin}
use Rattle.std.specs.Float.Ieee.{span, climb, size, odd, units, round, neg, sum, add, sub, mul, div, lt, eq, le, ne, of_int}
use Rattle.base_float.specs.Finite.{finite, stored, overrange}
use Rattle.storage_word.specs.Word.{digits_at, places_within, digits_within, negative, value_word, start_word}
use Rattle.base_program.specs.declared.Command.{Command}
use Rattle.base_program.specs.declared.Instruction.{Instruction}
use Rattle.base_program.specs.declared.Instruction.TheVariants.{End, Else, MeasureSingle, MeasureDifferential, Increment, Add, Divide, Sample, Average, Total, Maximum, Minimum, StoreTime, Subroutine, Do, Loop, IfFixed, IfFlag, IfTime}
use Rattle.base_program.specs.declared.Location.{Location}
use Rattle.base_program.specs.declared.Program.{Program}
use Rattle.base_program.specs.declared.Relation.{Relation}
use Rattle.base_program.specs.declared.Slot.{Slot}
use Rattle.base_program.specs.declared.TimeCode.{TimeCode}
use Rattle.base_program.specs.declared.Timed.{Timed}
use Rattle.base_program.specs.Flow.{command_flow, flow}
use Rattle.base_program.specs.Measure.{scaled}
use Rattle.base_program.specs.Reach.{sums, numbers_from}
use Rattle.base_program.specs.Entries.{slot, entries, all_sums, sums_before, first_sum}
use Rattle.spec_check.specs.Ranges.{interval}
use Rattle.spec_check.specs.Blocks.{label}
use Rattle.spec_machine.specs.Memory.{Memory, fresh, set_sum}
use Rattle.spec_machine.specs.Values.{each, holds, time_is}
use Rattle.spec_machine.specs.Output.{raise, commanded, write, sample, write_time, later_sample, result, nothing, statistic}
use Rattle.spec_machine.specs.Ends.{way_of, ways, behind_label}
use Rattle.spec_machine.specs.Machine.{shift, loop_open, test, effect, leave, go_on, act}
use Rattle.spec_machine.specs.Run.{due, starting}
use Rattle.spec_machine.specs.Calls.{Call, scan, key_location, key_flag, Lengths, refusal}
use Rattle.spec_machine.specs.Computed.{finish, computed}

-- ---- programs and ticks

abbrev pub slots : List Instruction → List Slot
slots l = map (λ i. record { instruction = i }) l ++ replicate (99 - length l) (record { instruction = End })

-- I, M, both V and the entries of the three tables
abbrev pub program : ℕ → ℕ → ℕ → ℕ → List Instruction → List Instruction → List Instruction → Program
program locations sums first second one two three =
    record {
      locations = locations;
      sums = sums;
      intervals = first ∷ second ∷ [];
      lengths = length one ∷ length two ∷ length three ∷ [];
      slots = slots one ++ (slots two ++ slots three);
    }

abbrev pub lent : Program → Lengths
lent p = record { locations = p.locations; sums = p.sums; counts = 297; ring = 64 }

-- all readings 0 but the first
abbrev pub readings : Float → List Float
readings v = v ∷ replicate 195 (fin false 0 (pos 0))

-- a tick: 'Table 1 first'
abbrev pub tick : Float → ℕ → ℕ → List Call → List Call
tick v day time cs = scan Timed.One day time (readings v) ∷ scan Timed.Two day time (readings v) ∷ cs

abbrev pub at : ℕ → Location
at n = record { number = n; indexed = false }

abbrev pub indexed : ℕ → Location
indexed n = record { number = n; indexed = true }

abbrev pub whole : ℕ → Float
whole n = fin false n (pos 0)

-- ---- what is seen of a memory

abbrev pub words : Option Memory → List ℕ
words none = []
words (some m) = m.storage.words

abbrev pub values : List ℕ → Option Memory → List Float
values l none = []
values l (some m) = map (λ n. m.cells.locations n) l

abbrev ports : List ℕ → Option Memory → List Bool
ports l none = []
ports l (some m) = map (λ n. m.signals.ports n) l

-- from fresh, each scan within 200 steps
abbrev pub after : Program → List Call → Option Memory
after p cs = computed p (lent p) 200 cs fresh

-- ---- document 01's whole listing

abbrev pub listing : Program
listing =
    program 2 0 80 0
    (MeasureSingle 1 5 (record { 0 = 1 }) (at 1) (record { multiplier = whole 1; offset = whole 0 }) ∷ Do (Command.Raise 0) ∷ Sample 1 (at 1) ∷ [])
    []
    []

-- 2.5 and -0.0625
abbrev pub listing_ticks : List Call
listing_ticks = tick (fin false 5 (negsuc 0)) 1 0 (tick (fin false 5 (negsuc 0)) 1 40 (tick (fin true 1 (negsuc 3)) 1 80 []))

-- ---- one program for each rule

-- Table 1 every second, and the subroutines of Table 3
abbrev pub every : ℕ → ℕ → List Instruction → List Instruction → Program
every locations sums one three = program locations sums 80 0 one [] three

abbrev pub once : List Call
once = tick (whole 0) 1 0 []

-- `(89 location relation F command)`
abbrev pub if_equal : ℕ → ℕ → Command → Instruction
if_equal n f c = IfFixed (at n) Relation.Equal (whole f) c

-- 'a loop's 95 goes back behind its 87 while passes are left': 1 + 3 × 2 entries, and location 1 three times
abbrev pub three_passes : Program
three_passes = every 1 0 (Loop 0 3 ∷ Increment (at 1) ∷ End ∷ []) []

-- 'command 0 ends the scan', from a subroutine too
abbrev stop_inside : Program
stop_inside = every 2 0 (Do (Command.Call 1) ∷ Increment (at 1) ∷ []) (Subroutine 1 ∷ Increment (at 2) ∷ Do Command.Stop ∷ End ∷ [])

-- 'an exit goes past the innermost own loop's End', out of two Then Dos
abbrev exit_out : Program
exit_out =
    every 3 0
    (Loop 0 5 ∷ Increment (at 1) ∷ if_equal 3 0 Command.Then ∷ if_equal 1 2 Command.Then ∷ Do Command.ExitIfTrue ∷ End ∷ End ∷ End ∷ Increment (at 2) ∷ [])
    []

-- 'a false command 30 goes past its Else', 'an Else reached goes past its End'
abbrev both_halves : Program
both_halves =
    every 5 0
    (if_equal 1 0 Command.Then ∷ Increment (at 2) ∷ Else ∷ Increment (at 3) ∷ End
    ∷ (if_equal 1 7 Command.Then ∷ Increment (at 4) ∷ Else ∷ Increment (at 5) ∷ End ∷ []))
    []

-- seven subroutines deep, each back behind its call
abbrev calls : ℕ → List Instruction → List Instruction
calls k r = Subroutine k ∷ Do (Command.Call (k - 1)) ∷ Increment (at k) ∷ End ∷ r

abbrev pub seven_deep : Program
seven_deep = every 7 0 (Do (Command.Call 7) ∷ []) (calls 7 (calls 6 (calls 5 (calls 4 (calls 3 (calls 2 (Subroutine 1 ∷ Increment (at 1) ∷ End ∷ [])))))))

-- 'on pass p of the innermost loop open in its own table or subroutine'
abbrev own_loop : Program
own_loop = every 7 0 (Loop 0 3 ∷ Increment (indexed 2) ∷ Do (Command.Call 1) ∷ End ∷ []) (Subroutine 1 ∷ Increment (indexed 5) ∷ End ∷ [])

-- 92: every minute, by the table's scan before this one
abbrev every_minute : Program
every_minute = every 1 0 (IfTime 0 1 Command.Then ∷ Increment (at 1) ∷ End ∷ []) []

-- the average of 1 and 2, and a maximum whose first sample is less than what the sum held
abbrev statistics : Program
statistics = every 1 2 (Increment (at 1) ∷ if_equal 1 2 (Command.Raise 0) ∷ Average 1 (at 1) ∷ Maximum 1 (at 1) ∷ []) []

-- 'What would be stored and isn't finite is stored as -99,999.'
abbrev divide_by_zero : Program
divide_by_zero = every 2 0 (Divide (at 1) (at 2) (at 1) ∷ Do (Command.Raise 0) ∷ Sample 1 (at 1) ∷ []) []

-- flag 0 is low again as the table starts: an entry in front of the raising one never stores
abbrev lowered : Program
lowered = every 1 0 (Sample 1 (at 1) ∷ Do (Command.Raise 0) ∷ []) []

-- Table 2 is off
abbrev off : Program
off = program 1 0 80 0 [] (Increment (at 1) ∷ []) []

-- a keyed location and a keyed flag; a location above I and flag 9 are refused
abbrev keyed : Program
keyed = every 2 0 (IfFlag 1 true Command.Then ∷ Add (at 1) (at 1) (at 2) ∷ End ∷ []) []

abbrev keyed_calls : List Call
keyed_calls = key_location 1 (whole 5) ∷ key_flag 1 ∷ key_location 3 (whole 1) ∷ key_flag 9 ∷ once

-- 1 and 2 with two reps each: following channels and locations, and 2d - 1 less 2d
abbrev measured : Program
measured =
    every 4 0
    (MeasureSingle 2 5 (record { 0 = 1 }) (at 1) (record { multiplier = whole 3; offset = whole 1 })
    ∷ MeasureDifferential 2 5 (record { 0 = 1 }) (at 3) (record { multiplier = whole 1; offset = whole 0 })
    ∷ [])
    []

-- '110 (day, then the former)', at 13:07
abbrev clocked : Program
clocked = every 1 0 (Do (Command.Raise 0) ∷ StoreTime TimeCode.DayHoursMinutes ∷ []) []

-- 'no samples give -99,999, for 72 zero': flag 9 is high
abbrev unsampled : Program
unsampled = every 1 2 (Do (Command.Raise 9) ∷ Do (Command.Raise 0) ∷ Total 1 (at 1) ∷ Minimum 1 (at 1) ∷ []) []

-- a port high, then another low
abbrev ported : Program
ported = every 1 0 (Do (Command.PortHigh 3) ∷ Do (Command.PortHigh 4) ∷ Do (Command.PortLow 3) ∷ []) []

abbrev within : Program → ℕ → Option Memory
within p steps = computed p (lent p) steps once fresh

pub record Runs : Type 0 where
  -- 'gives `102,2.500` and `102,-0.063`'
  pub whole_listing : words (after listing listing_ticks) ≡ 64614 ∷ 27076 ∷ 64614 ∷ 57407 ∷ []
  pub passes : values (1 ∷ []) (within three_passes 7) ≡ whole 3 ∷ []
  pub passes_need : values (1 ∷ []) (within three_passes 6) ≡ []
  pub stopped : values (1 ∷ 2 ∷ []) (after stop_inside once) ≡ whole 0 ∷ whole 1 ∷ []
  pub exited : values (1 ∷ 2 ∷ []) (after exit_out once) ≡ fin false 1 (pos 1) ∷ whole 1 ∷ []
  pub halves : values (2 ∷ 3 ∷ 4 ∷ 5 ∷ []) (after both_halves once) ≡ whole 1 ∷ whole 0 ∷ whole 0 ∷ whole 1 ∷ []
  pub deep : values (1 ∷ 2 ∷ 7 ∷ []) (after seven_deep once) ≡ whole 1 ∷ whole 1 ∷ whole 1 ∷ []
  pub moved : values (2 ∷ 3 ∷ 4 ∷ 5 ∷ 6 ∷ []) (after own_loop once) ≡ whole 1 ∷ whole 1 ∷ whole 1 ∷ whole 3 ∷ whole 0 ∷ []
  pub minutes : values (1 ∷ []) (after every_minute (tick (whole 0) 1 0 (tick (whole 0) 1 80 (tick (whole 0) 1 4800 [])))) ≡ fin false 1 (pos 1) ∷ []
  pub averaged : words (computed statistics (lent statistics) 9 (tick (whole 0) 1 0 (tick (whole 0) 1 80 [])) (set_sum 0 (whole 5) (set_sum 1 (whole 9) fresh))) ≡ 64614 ∷ 26076 ∷ 26576 ∷ []
  pub low_again : words (after lowered (tick (whole 0) 1 0 (tick (whole 0) 1 80 []))) ≡ []
  pub not_run : values (1 ∷ []) (after off once) ≡ whole 0 ∷ []
  pub keyed_in : values (1 ∷ 2 ∷ 3 ∷ []) (after keyed keyed_calls) ≡ whole 5 ∷ fin false 5 (pos 1) ∷ whole 0 ∷ []
  pub measured_reps : values (1 ∷ 2 ∷ 3 ∷ 4 ∷ []) (after measured (tick (whole 5) 1 0 [])) ≡ fin false 1 (pos 4) ∷ whole 1 ∷ whole 5 ∷ whole 0 ∷ []
  pub clock_time : words (after clocked (tick (whole 0) 5 3777600 [])) ≡ 64613 ∷ 29576 ∷ 1307 ∷ []
  pub no_samples : words (after unsampled once) ≡ 64614 ∷ 24576 ∷ 39767 ∷ []
  pub ports_set : ports (3 ∷ 4 ∷ []) (after ported once) ≡ false ∷ true ∷ []
  pub not_finite : words (after divide_by_zero once) ≡ 64614 ∷ 39767 ∷ []
  pub replaced : values (1 ∷ []) (after divide_by_zero once) ≡ overrange ∷ []

pub worked : Runs
unfolding span climb size odd units round neg sum add sub mul div lt eq le ne of_int finite stored digits_at places_within digits_within negative value_word start_word command_flow flow scaled sums numbers_from slot entries all_sums sums_before first_sum interval label fresh each holds time_is raise commanded write sample write_time later_sample result nothing statistic way_of ways behind_label shift loop_open test effect leave go_on act due starting refusal finish computed
worked =
    record {
      whole_listing = refl;
      passes = refl;
      passes_need = refl;
      stopped = refl;
      exited = refl;
      halves = refl;
      deep = refl;
      moved = refl;
      minutes = refl;
      averaged = refl;
      low_again = refl;
      not_run = refl;
      keyed_in = refl;
      measured_reps = refl;
      clock_time = refl;
      no_samples = refl;
      ports_set = refl;
      not_finite = refl;
      replaced = refl;
    }
