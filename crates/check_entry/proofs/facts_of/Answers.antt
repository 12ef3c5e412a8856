-- Each arm is one case of the definitions.
use mathlib.Core.Path.{refl, ◌∙◌}
use Rattle.base_float.specs.Laws.{is_finite_says}
use Rattle.base_program.specs.Flow.{flow}
use Rattle.base_program.specs.Reach.{locations, readings, sums}
use Rattle.spec_check.specs.Calls.{any_beyond}
use Rattle.record_codes.specs.Loaded.{decode}
use Rattle.spec_check.specs.Ranges.{in_range}
use Rattle.check_reach.specs.Needs.{fixed_needs, moved_needs}
use Rattle.check_reach.specs.Reached.{no_cards}
use Rattle.check_facts.specs.Told.{told}
use Rattle.check_entry.proofs.facts_of.Goals as goal

pub returns-in-End : goal.returns-in-End
unfolding in_range flow sums locations readings any_beyond fixed_needs moved_needs decode
returns-in-End c =
    told c.args.most c.args.i _ _ _ _ _ _ c.facts_with.ensures c.in-End.is refl refl refl c.nowhere.ensures

pub returns-in-Else : goal.returns-in-Else
unfolding in_range flow sums locations readings any_beyond fixed_needs moved_needs decode
returns-in-Else c =
    told c.args.most c.args.i _ _ _ _ _ _ c.facts_with-in-Else.ensures c.in-Else.is refl refl refl c.nowhere-in-Else.ensures

pub returns-in-MeasureSingle : goal.returns-in-MeasureSingle
unfolding in_range flow sums locations readings any_beyond fixed_needs moved_needs decode
returns-in-MeasureSingle c =
    told c.args.most c.args.i _ _ _ _ _ _ c.facts_with-in-MeasureSingle.ensures c.in-MeasureSingle.is c.measure_in_range.ensures refl refl c.single_reach.ensures

pub returns-in-MeasureDifferential : goal.returns-in-MeasureDifferential
unfolding in_range flow sums locations readings any_beyond fixed_needs moved_needs decode
returns-in-MeasureDifferential c =
    told c.args.most c.args.i _ _ _ _ _ _ c.facts_with-in-MeasureDifferential.ensures c.in-MeasureDifferential.is c.measure_in_range-in-MeasureDifferential.ensures refl refl c.differential_reach.ensures

pub returns-in-SetFixed : goal.returns-in-SetFixed
unfolding in_range flow sums locations readings any_beyond decode
returns-in-SetFixed c =
    told c.args.most c.args.i _ _ _ _ _ _ c.facts_with-in-SetFixed.ensures c.in-SetFixed.is (c.is_finite.ensures.value ∙ is_finite_says c.in-SetFixed.f) refl refl (c.one_reach.ensures ∙ no_cards _)

pub returns-in-Copy : goal.returns-in-Copy
unfolding in_range flow sums locations readings any_beyond decode
returns-in-Copy c =
    told c.args.most c.args.i _ _ _ _ _ _ c.facts_with-in-Copy.ensures c.in-Copy.is refl refl refl (c.two_reach.ensures ∙ no_cards _)

pub returns-in-Increment : goal.returns-in-Increment
unfolding in_range flow sums locations readings any_beyond decode
returns-in-Increment c =
    told c.args.most c.args.i _ _ _ _ _ _ c.facts_with-in-Increment.ensures c.in-Increment.is refl refl refl (c.one_reach-in-Increment.ensures ∙ no_cards _)

pub returns-in-Add : goal.returns-in-Add
unfolding in_range flow sums locations readings any_beyond decode
returns-in-Add c =
    told c.args.most c.args.i _ _ _ _ _ _ c.facts_with-in-Add.ensures c.in-Add.is refl refl refl (c.three_reach.ensures ∙ no_cards _)

pub returns-in-AddFixed : goal.returns-in-AddFixed
unfolding in_range flow sums locations readings any_beyond decode
returns-in-AddFixed c =
    told c.args.most c.args.i _ _ _ _ _ _ c.facts_with-in-AddFixed.ensures c.in-AddFixed.is (c.is_finite-in-AddFixed.ensures.value ∙ is_finite_says c.in-AddFixed.f) refl refl (c.two_reach-in-AddFixed.ensures ∙ no_cards _)

pub returns-in-Subtract : goal.returns-in-Subtract
unfolding in_range flow sums locations readings any_beyond decode
returns-in-Subtract c =
    told c.args.most c.args.i _ _ _ _ _ _ c.facts_with-in-Subtract.ensures c.in-Subtract.is refl refl refl (c.three_reach-in-Subtract.ensures ∙ no_cards _)

pub returns-in-Multiply : goal.returns-in-Multiply
unfolding in_range flow sums locations readings any_beyond decode
returns-in-Multiply c =
    told c.args.most c.args.i _ _ _ _ _ _ c.facts_with-in-Multiply.ensures c.in-Multiply.is refl refl refl (c.three_reach-in-Multiply.ensures ∙ no_cards _)

pub returns-in-MultiplyFixed : goal.returns-in-MultiplyFixed
unfolding in_range flow sums locations readings any_beyond decode
returns-in-MultiplyFixed c =
    told c.args.most c.args.i _ _ _ _ _ _ c.facts_with-in-MultiplyFixed.ensures c.in-MultiplyFixed.is (c.is_finite-in-MultiplyFixed.ensures.value ∙ is_finite_says c.in-MultiplyFixed.f) refl refl (c.two_reach-in-MultiplyFixed.ensures ∙ no_cards _)

pub returns-in-Divide : goal.returns-in-Divide
unfolding in_range flow sums locations readings any_beyond decode
returns-in-Divide c =
    told c.args.most c.args.i _ _ _ _ _ _ c.facts_with-in-Divide.ensures c.in-Divide.is refl refl refl (c.three_reach-in-Divide.ensures ∙ no_cards _)

pub returns-in-Sample : goal.returns-in-Sample
unfolding in_range flow sums locations readings any_beyond decode
returns-in-Sample c =
    told c.args.most c.args.i _ _ _ _ _ _ c.facts_with-in-Sample.ensures c.in-Sample.is c.is_reps.ensures refl refl (c.one_reach-in-Sample.ensures ∙ no_cards _)

pub returns-in-Average : goal.returns-in-Average
unfolding in_range flow sums locations readings any_beyond decode
returns-in-Average c =
    told c.args.most c.args.i _ _ _ _ _ _ c.facts_with-in-Average.ensures c.in-Average.is c.is_reps-in-Average.ensures refl refl (c.one_reach-in-Average.ensures ∙ no_cards _)

pub returns-in-Total : goal.returns-in-Total
unfolding in_range flow sums locations readings any_beyond decode
returns-in-Total c =
    told c.args.most c.args.i _ _ _ _ _ _ c.facts_with-in-Total.ensures c.in-Total.is c.is_reps-in-Total.ensures refl refl (c.one_reach-in-Total.ensures ∙ no_cards _)

pub returns-in-Maximum : goal.returns-in-Maximum
unfolding in_range flow sums locations readings any_beyond decode
returns-in-Maximum c =
    told c.args.most c.args.i _ _ _ _ _ _ c.facts_with-in-Maximum.ensures c.in-Maximum.is c.is_reps-in-Maximum.ensures refl refl (c.one_reach-in-Maximum.ensures ∙ no_cards _)

pub returns-in-Minimum : goal.returns-in-Minimum
unfolding in_range flow sums locations readings any_beyond decode
returns-in-Minimum c =
    told c.args.most c.args.i _ _ _ _ _ _ c.facts_with-in-Minimum.ensures c.in-Minimum.is c.is_reps-in-Minimum.ensures refl refl (c.one_reach-in-Minimum.ensures ∙ no_cards _)

pub returns-in-StoreTime : goal.returns-in-StoreTime
unfolding in_range flow sums locations readings any_beyond fixed_needs moved_needs decode
returns-in-StoreTime c =
    told c.args.most c.args.i _ _ _ _ _ _ c.facts_with-in-StoreTime.ensures c.in-StoreTime.is refl refl refl c.nowhere-in-StoreTime.ensures

pub returns-in-Subroutine : goal.returns-in-Subroutine
unfolding in_range flow sums locations readings any_beyond fixed_needs moved_needs decode
returns-in-Subroutine c =
    told c.args.most c.args.i _ _ _ _ _ _ c.facts_with-in-Subroutine.ensures c.in-Subroutine.is c.is_label.ensures c.encode_flow.ensures refl c.nowhere-in-Subroutine.ensures

pub returns-in-Do : goal.returns-in-Do
unfolding in_range flow sums locations readings any_beyond fixed_needs moved_needs decode
returns-in-Do c =
    told c.args.most c.args.i _ _ _ _ _ _ c.facts_with-in-Do.ensures c.in-Do.is c.do_in_range.ensures c.command_code.ensures refl c.nowhere-in-Do.ensures

pub returns-in-Loop : goal.returns-in-Loop
unfolding in_range flow sums locations readings any_beyond fixed_needs moved_needs decode
returns-in-Loop c =
    told c.args.most c.args.i _ _ _ _ _ _ c.facts_with-in-Loop.ensures c.in-Loop.is c.loop_in_range.ensures c.encode_flow-in-Loop.ensures refl c.nowhere-in-Loop.ensures

pub returns-in-IfLocations : goal.returns-in-IfLocations
unfolding in_range flow sums locations readings any_beyond decode
returns-in-IfLocations c =
    told c.args.most c.args.i _ _ _ _ _ _ c.facts_with-in-IfLocations.ensures c.in-IfLocations.is c.command_in_range.ensures c.command_code-in-IfLocations.ensures refl (c.two_reach-in-IfLocations.ensures ∙ no_cards _)

pub returns-in-IfFixed : goal.returns-in-IfFixed
unfolding in_range flow sums locations readings any_beyond decode
returns-in-IfFixed c =
    told c.args.most c.args.i _ _ _ _ _ _ c.facts_with-in-IfFixed.ensures c.in-IfFixed.is c.fixed_in_range.ensures c.command_code-in-IfFixed.ensures refl (c.one_reach-in-IfFixed.ensures ∙ no_cards _)

pub returns-in-IfFlag : goal.returns-in-IfFlag
unfolding in_range flow sums locations readings any_beyond fixed_needs moved_needs decode
returns-in-IfFlag c =
    told c.args.most c.args.i _ _ _ _ _ _ c.facts_with-in-IfFlag.ensures c.in-IfFlag.is c.flag_in_range.ensures c.command_code-in-IfFlag.ensures refl c.nowhere-in-IfFlag.ensures

pub returns-in-IfTime : goal.returns-in-IfTime
unfolding in_range flow sums locations readings any_beyond fixed_needs moved_needs decode
returns-in-IfTime c =
    told c.args.most c.args.i _ _ _ _ _ _ c.facts_with-in-IfTime.ensures c.in-IfTime.is c.time_in_range.ensures c.command_code-in-IfTime.ensures refl c.nowhere-in-IfTime.ensures
