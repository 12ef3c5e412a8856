-- Worked examples of the CR7 manual, keyed in document 01's form, by computation: a value shown as 5.091 is the word 8,192 × 3 + 5,091. Assumes
-- nothing.
use Rattle.std.specs.Prelude.{◌≡◌, refl, ℕ, ◌-◌, true, false, List, [], ◌∷◌, ◌++◌, map, length, replicate, Float}
use Rattle.std.specs.Float.{binary32}
use Rattle.std.specs.Float.Ieee.{span, climb, size, odd, units, round, neg, sum, add, sub, mul, div, lt, eq, le, ne, of_int}
use Rattle.base_float.specs.Finite.{finite, stored}
use Rattle.storage_word.specs.Word.{digits_at, places_within, digits_within, negative, value_word, start_word}
use Rattle.base_program.specs.declared.Command.{Command}
use Rattle.base_program.specs.declared.Instruction.TheVariants.{End, Else, MeasureSingle, SetFixed, Copy, Increment, AddFixed, MultiplyFixed, Divide, Sample, Average, Subroutine, Do, Loop, IfFixed, IfFlag, IfTime}
use Rattle.base_program.specs.declared.Program.{Program}
use Rattle.base_program.specs.declared.Relation.{Relation}
use Rattle.base_program.specs.declared.Relation.TheVariants.{Below}
use Rattle.base_program.specs.declared.Scale.{Scale}
use Rattle.base_program.specs.declared.Timed.{Timed}
use Rattle.base_program.specs.Flow.{command_flow, flow}
use Rattle.base_program.specs.Measure.{scaled}
use Rattle.base_program.specs.Reach.{sums, numbers_from}
use Rattle.base_program.specs.Entries.{slot, entries, all_sums, sums_before, first_sum}
use Rattle.spec_check.specs.Ranges.{interval}
use Rattle.spec_check.specs.Blocks.{label}
use Rattle.spec_machine.specs.Memory.{fresh}
use Rattle.spec_machine.specs.Values.{each, holds, time_is}
use Rattle.spec_machine.specs.Output.{raise, commanded, write, sample, write_time, later_sample, result, nothing, statistic}
use Rattle.spec_machine.specs.Ends.{way_of, ways, behind_label}
use Rattle.spec_machine.specs.Machine.{shift, loop_open, test, effect, leave, go_on, act}
use Rattle.spec_machine.specs.Run.{due, starting}
use Rattle.spec_machine.specs.Calls.{Call, scan, refusal}
use Rattle.spec_machine.specs.Computed.{finish, computed}
use Rattle.spec_machine.specs.Worked.{program, at, indexed, whole, every, once, words, after}

-- F as it is keyed: n / d
abbrev keyed : ℕ → ℕ → Float
keyed n d = round binary32 false n d

abbrev unit : Scale
unit = record { multiplier = whole 1; offset = whole 0 }

-- these readings first, then zeros
abbrev tick_with : List Float → ℕ → ℕ → List Call → List Call
tick_with r day time cs =
    scan Timed.One day time (r ++ replicate (196 - length r) (whole 0)) ∷ scan Timed.Two day time (r ++ replicate (196 - length r) (whole 0)) ∷ cs

-- 87 with an average inside: ten samples of one sum, and the first pass stores the average
abbrev average_in_aLoop : Program
average_in_aLoop =
    every 10 1
    (MeasureSingle 10 5 (record { 0 = 1 }) (at 1) unit ∷ IfTime 1 1440 (Command.Raise 0) ∷ Loop 0 10 ∷ Average 1 (indexed 1) ∷ End ∷ [])
    []

abbrev one_to_ten : List Float
one_to_ten = map (λ n. keyed n 1) (numbers_from 1 10)

-- a wind vane that turns from 0 to 540 degrees, in a subroutine
abbrev degrees : Program
degrees =
    program 5 0 240 0
    (MeasureSingle 1 16 (record { 0 = 1 }) (at 2) unit
    ∷ Do (Command.Call 1)
    ∷ MultiplyFixed (at 3) (keyed 18519 10000) (at 5)
    ∷ Do (Command.Raise 0)
    ∷ Sample 1 (at 3)
    ∷ Sample 1 (at 5)
    ∷ [])
    []
    (Subroutine 1
    ∷ IfFixed (at 3) Relation.AtLeast (keyed 270 1) Command.Then
    ∷ Do (Command.Raise 1)
    ∷ Else
    ∷ Do (Command.Lower 1)
    ∷ End
    ∷ Copy (at 2) (at 3)
    ∷ IfFixed (at 3) Below (keyed 180 1) Command.Then
    ∷ IfFlag 1 true Command.Then
    ∷ AddFixed (at 3) (keyed 360 1) (at 3)
    ∷ End
    ∷ End
    ∷ End
    ∷ [])

abbrev turns : List Call
turns =
    tick_with (keyed 350 1 ∷ []) 1 0
    (tick_with (keyed 10 1 ∷ []) 1 240 (tick_with (keyed 200 1 ∷ []) 1 480 (tick_with (keyed 10 1 ∷ []) 1 720 [])))

-- the array's id is that of the entry that raised flag 0
abbrev entry18 : Program
entry18 = every 1 0 (replicate 17 (Increment (at 1)) ++ (Do (Command.Raise 0) ∷ Sample 1 (at 1) ∷ [])) []

-- 1 / 0, where document 01 departs from the manual
abbrev one_by_zero : Program
one_by_zero =
    every 3 0 (SetFixed (whole 1) (at 1) ∷ SetFixed (whole 0) (at 2) ∷ Divide (at 1) (at 2) (at 3) ∷ Do (Command.Raise 0) ∷ Sample 1 (at 3) ∷ []) []

pub record Manual : Type 0 where
  -- 102,5.091,2.000,3.000,4.000,5.000,6.000,7.00,8.00,9.00,10.00
  pub average_in_a_loop : words (after average_in_aLoop (tick_with one_to_ten 1 0 (tick_with one_to_ten 1 4800 [])))
      ≡ 64614 ∷ 29667 ∷ 26576 ∷ 27576 ∷ 28576 ∷ 29576 ∷ 30576 ∷ 17084 ∷ 17184 ∷ 17284 ∷ 17384 ∷ []
  -- 104,350.0,648.2 and 104,370.0,685.2 and 104,200.0,370.4 and 104,10.00,18.52
  pub degrees_540 : words (after degrees turns) ≡ 64616 ∷ 11692 ∷ 14674 ∷ 64616 ∷ 11892 ∷ 15044 ∷ 64616 ∷ 10192 ∷ 11896 ∷ 64616 ∷ 17384 ∷ 18236 ∷ []
  -- 118,17.00
  pub id_118 : words (after entry18 once) ≡ 64630 ∷ 18084 ∷ []
  -- 104,-6999
  pub division_by_zero : words (after one_by_zero once) ≡ 64616 ∷ 39767 ∷ []

pub manual : Manual
unfolding span climb size odd units round neg sum add sub mul div lt eq le ne of_int finite stored digits_at places_within digits_within negative value_word start_word command_flow flow scaled sums numbers_from slot entries all_sums sums_before first_sum interval label fresh each holds time_is raise commanded write sample write_time later_sample result nothing statistic way_of ways behind_label shift loop_open test effect leave go_on act due starting refusal finish computed
manual = record { average_in_a_loop = refl; degrees_540 = refl; id_118 = refl; division_by_zero = refl }
