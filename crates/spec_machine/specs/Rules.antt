-- A small program for each rule that Worked.antt has none for, and what it leaves, by computation. Assumes nothing.
use Rattle.std.specs.Prelude.{◌≡◌, refl, ℕ, true, false, List, [], ◌∷◌, map, pos, Float}
use Rattle.std.proofs.Math.Option.{Option, none, some}
use Rattle.std.specs.Float.{fin}
use Rattle.std.specs.Float.Ieee.{span, climb, size, odd, units, round, neg, sum, add, sub, mul, div, lt, eq, le, ne, of_int}
use Rattle.base_float.specs.Finite.{finite, stored, overrange}
use Rattle.storage_word.specs.Word.{digits_at, places_within, digits_within, negative, value_word, start_word}
use Rattle.base_program.specs.declared.Command.{Command}
use Rattle.base_program.specs.declared.Instruction.{Instruction}
use Rattle.base_program.specs.declared.Instruction.TheVariants.{End, MeasureSingle, Increment, Sample, Average, Maximum, Minimum, Subroutine, Do, Loop, IfFixed, IfFlag, IfTime}
use Rattle.base_program.specs.declared.Program.{Program}
use Rattle.base_program.specs.declared.Relation.{Relation}
use Rattle.base_program.specs.declared.Relation.TheVariants.{Equal, NotEqual, AtLeast, Below}
use Rattle.base_program.specs.declared.Timed.{Timed}
use Rattle.base_program.specs.Flow.{command_flow, flow}
use Rattle.base_program.specs.Measure.{scaled}
use Rattle.base_program.specs.Reach.{sums, numbers_from}
use Rattle.base_program.specs.Entries.{slot, entries, all_sums, sums_before, first_sum}
use Rattle.spec_check.specs.Ranges.{interval}
use Rattle.spec_check.specs.Blocks.{label}
use Rattle.spec_machine.specs.Memory.{Memory, fresh}
use Rattle.spec_machine.specs.Values.{each, holds, time_is}
use Rattle.spec_machine.specs.Output.{raise, commanded, write, sample, write_time, later_sample, result, nothing, statistic}
use Rattle.spec_machine.specs.Ends.{way_of, ways, behind_label}
use Rattle.spec_machine.specs.Machine.{shift, loop_open, test, effect, leave, go_on, act}
use Rattle.spec_machine.specs.Run.{due, starting}
use Rattle.spec_machine.specs.Calls.{Call, scan, key_flag, refusal}
use Rattle.spec_machine.specs.Computed.{finish, computed}
use Rattle.spec_machine.specs.Worked.{program, every, once, tick, readings, at, whole, words, values, after, if_equal}

-- 'Raising flag 0, even when high, begins a new array'
abbrev raised_twice : Program
raised_twice = every 1 0 (Do (Command.Raise 0) ∷ Sample 1 (at 1) ∷ Do (Command.Raise 0) ∷ Sample 1 (at 1) ∷ []) []

-- 'table × 100 + entry', in a subroutine
abbrev raised_below : Program
raised_below = every 1 0 (Do (Command.Call 1) ∷ []) (Subroutine 1 ∷ Do (Command.Raise 0) ∷ Sample 1 (at 1) ∷ End ∷ [])

-- 'A later one replaces a maximum only if greater, a minimum only if less': of 2, 3, 1 and 2, flag 1 being keyed before the last
abbrev extremes : Program
extremes =
    every 1 2
    (MeasureSingle 1 5 (record { 0 = 1 }) (at 1) (record { multiplier = whole 1; offset = whole 0 })
    ∷ IfFlag 1 true (Command.Raise 0)
    ∷ Maximum 1 (at 1)
    ∷ Minimum 1 (at 1)
    ∷ [])
    []

-- a test that is true adds 1 to its location
abbrev counted : Relation → List Instruction
counted r =
    IfFixed (at 1) r (whole 1) Command.Then ∷ Increment (at 2) ∷ End
    ∷ (IfFixed (at 1) r (whole 3) Command.Then ∷ Increment (at 3) ∷ End
    ∷ (IfFixed (at 1) r (whole 5) Command.Then ∷ Increment (at 4) ∷ End ∷ []))

abbrev related : Relation → Program
related r = every 4 0 (Increment (at 1) ∷ Increment (at 1) ∷ Increment (at 1) ∷ counted r) []

-- 'Flags 0 and 9 are lowered as a table starts'
abbrev nine_low : Program
nine_low = every 1 0 (IfFlag 9 true Command.Then ∷ Increment (at 1) ∷ End ∷ Do (Command.Raise 9) ∷ []) []

-- 92 by the day too, and by its own table
abbrev every_minute : Program
every_minute = every 1 0 (IfTime 0 1 Command.Then ∷ Increment (at 1) ∷ End ∷ []) []

abbrev both_tables : Program
both_tables =
    program 2 0 80 80 (IfTime 0 1 Command.Then ∷ Increment (at 1) ∷ End ∷ []) (IfTime 0 1 Command.Then ∷ Increment (at 2) ∷ End ∷ []) []

abbrev second_first : List Call
second_first = scan Timed.Two 1 0 (readings (whole 0)) ∷ scan Timed.One 1 0 (readings (whole 0)) ∷ []

-- '32 if false'
abbrev exit_if_false : Program
exit_if_false = every 1 0 (Loop 0 5 ∷ Increment (at 1) ∷ IfFixed (at 1) Below (whole 3) Command.ExitIfFalse ∷ End ∷ []) []

-- 'What would be stored and isn't finite is stored as -99,999', a sum too: 2 to the 127th, twice
abbrev summed : Program
summed =
    every 1 1 (MeasureSingle 1 5 (record { 0 = 1 }) (at 1) (record { multiplier = whole 1; offset = whole 0 }) ∷ Average 1 (at 1) ∷ []) []

abbrev sums_of : List ℕ → Option Memory → List Float
sums_of l none = []
sums_of l (some m) = map (λ n. m.cells.sums n) l

pub record Rules : Type 0 where
  pub raised_twice_lem : words (after raised_twice once) ≡ 64613 ∷ 24576 ∷ 64615 ∷ 24576 ∷ []
  pub raised_below_lem : words (after raised_below once) ≡ 64814 ∷ 24576 ∷ []
  pub equal : values (2 ∷ 3 ∷ 4 ∷ []) (after (related Equal) once) ≡ whole 0 ∷ whole 1 ∷ whole 0 ∷ []
  pub not_equal : values (2 ∷ 3 ∷ 4 ∷ []) (after (related NotEqual) once) ≡ whole 1 ∷ whole 0 ∷ whole 1 ∷ []
  pub at_least : values (2 ∷ 3 ∷ 4 ∷ []) (after (related AtLeast) once) ≡ whole 1 ∷ whole 1 ∷ whole 0 ∷ []
  pub below : values (2 ∷ 3 ∷ 4 ∷ []) (after (related Below) once) ≡ whole 0 ∷ whole 0 ∷ whole 1 ∷ []
  pub nine_low_lem : values (1 ∷ []) (after nine_low (tick (whole 0) 1 0 (tick (whole 0) 1 80 []))) ≡ whole 0 ∷ []
  pub another_day : values (1 ∷ []) (after every_minute (tick (whole 0) 1 0 (tick (whole 0) 2 0 []))) ≡ fin false 1 (pos 1) ∷ []
  pub own_table : values (1 ∷ 2 ∷ []) (after both_tables second_first) ≡ whole 1 ∷ whole 1 ∷ []
  pub exit_if_false_lem : values (1 ∷ []) (after exit_if_false once) ≡ whole 3 ∷ []
  pub sum_not_finite : sums_of (0 ∷ []) (after summed (tick (fin false 1 (pos 127)) 1 0 (tick (fin false 1 (pos 127)) 1 80 []))) ≡ overrange ∷ []
  pub kept : words (after extremes (tick (fin false 1 (pos 1)) 1 0 (tick (whole 3) 1 80 (tick (whole 1) 1 160 (key_flag 1 ∷ tick (fin false 1 (pos 1)) 1 240 []))))) ≡ 64614 ∷ 27576 ∷ 25576 ∷ []

pub rules : Rules
unfolding span climb size odd units round neg sum add sub mul div lt eq le ne of_int finite stored digits_at places_within digits_within negative value_word start_word command_flow flow scaled sums numbers_from slot entries all_sums sums_before first_sum interval label fresh each holds time_is raise commanded write sample write_time later_sample result nothing statistic way_of ways behind_label shift loop_open test effect leave go_on act due starting refusal finish computed
rules =
    record {
      raised_twice_lem = refl;
      raised_below_lem = refl;
      equal = refl;
      not_equal = refl;
      at_least = refl;
      below = refl;
      nine_low_lem = refl;
      another_day = refl;
      own_table = refl;
      exit_if_false_lem = refl;
      sum_not_finite = refl;
      kept = refl;
    }
