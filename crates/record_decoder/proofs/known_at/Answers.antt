-- Each arm is one number's case of what lies in a slot, made of the fields as they were read.
use mathlib.Core.Path.{sym, ap, ◌∙◌}
use Prim.Native.Nat.{◌+◌, ◌*◌}
use lib.ListN.{get_or}
use Rattle.base_laws.specs.Tests.{yes, no, both, not_first, not_second}
use Rattle.base_program.specs.Codes.{relation_of, is_code, code_of}
use Rattle.base_program.specs.declared.Instruction.TheVariants.{MeasureSingle, MeasureDifferential, SetFixed, Copy, Increment, Add, AddFixed, Subtract, Multiply, MultiplyFixed, Divide, Sample, Average, Total, Maximum, Minimum, StoreTime, Subroutine, Do, Loop, IfLocations, IfFixed, IfFlag, IfTime}
use Rattle.record_layout.specs.Layout.{is_set, is_relation, is_command, command_laid}
use Rattle.record_fields.specs.Numbers.{is_1, is_2, is_30, is_31, is_32, is_33, is_34, is_35, is_36, is_37, is_38, is_70, is_71, is_72, is_73, is_74, is_77, is_85, is_86, is_87, is_88, is_89, is_91, is_92, is_94, is_95}
use Rattle.record_fields.specs.Unknown.{is_unknown}
use Rattle.record_fields.specs.Decoded.{of_two, of_three, of_four, of_five}
use Rattle.record_decoder.proofs.Fields.{read_ok, read_err, refused}
use Rattle.record_decoder.proofs.known_at.Goals as goal

pub returns-in-1 : goal.returns-in-1
returns-in-1 g c =
    of_five MeasureSingle c.byte_at.ensures c.byte_at-in-1.ensures (ap (λ n. record { 0 = n }) c.byte_at-in-1-2.ensures) c.location_at.ensures c.scale_at.ensures ∙ sym (is_1 c.args.n.now c.args.v.now c.args.s (sym c.field_at.ensures ∙ c.in-1.is))

pub returns-in-2 : goal.returns-in-2
returns-in-2 g c =
    of_five MeasureDifferential c.byte_at-in-2.ensures c.byte_at-in-2-2.ensures (ap (λ n. record { 0 = n }) c.byte_at-in-2-3.ensures) c.location_at-in-2.ensures c.scale_at-in-2.ensures ∙ sym (is_2 c.args.n.now c.args.v.now c.args.s (sym c.field_at.ensures ∙ c.in-2.is))

pub returns-in-30 : goal.returns-in-30
returns-in-30 g c =
    of_two SetFixed c.value_at.ensures c.location_at-in-30.ensures ∙ sym (is_30 c.args.n.now c.args.v.now c.args.s (sym c.field_at.ensures ∙ c.in-30.is))

pub returns-in-31 : goal.returns-in-31
returns-in-31 g c =
    of_two Copy c.location_at-in-31.ensures c.location_at-in-31-2.ensures ∙ sym (is_31 c.args.n.now c.args.v.now c.args.s (sym c.field_at.ensures ∙ c.in-31.is))

pub returns-in-32 : goal.returns-in-32
returns-in-32 g c =
    ap Increment c.location_at-in-32.ensures ∙ sym (is_32 c.args.n.now c.args.v.now c.args.s (sym c.field_at.ensures ∙ c.in-32.is))

pub returns-in-33 : goal.returns-in-33
returns-in-33 g c =
    of_three Add c.location_at-in-33.ensures c.location_at-in-33-2.ensures c.location_at-in-33-3.ensures ∙ sym (is_33 c.args.n.now c.args.v.now c.args.s (sym c.field_at.ensures ∙ c.in-33.is))

pub returns-in-34 : goal.returns-in-34
returns-in-34 g c =
    of_three AddFixed c.location_at-in-34.ensures c.value_at-in-34.ensures c.location_at-in-34-2.ensures ∙ sym (is_34 c.args.n.now c.args.v.now c.args.s (sym c.field_at.ensures ∙ c.in-34.is))

pub returns-in-35 : goal.returns-in-35
returns-in-35 g c =
    of_three Subtract c.location_at-in-35.ensures c.location_at-in-35-2.ensures c.location_at-in-35-3.ensures ∙ sym (is_35 c.args.n.now c.args.v.now c.args.s (sym c.field_at.ensures ∙ c.in-35.is))

pub returns-in-36 : goal.returns-in-36
returns-in-36 g c =
    of_three Multiply c.location_at-in-36.ensures c.location_at-in-36-2.ensures c.location_at-in-36-3.ensures ∙ sym (is_36 c.args.n.now c.args.v.now c.args.s (sym c.field_at.ensures ∙ c.in-36.is))

pub returns-in-37 : goal.returns-in-37
returns-in-37 g c =
    of_three MultiplyFixed c.location_at-in-37.ensures c.value_at-in-37.ensures c.location_at-in-37-2.ensures ∙ sym (is_37 c.args.n.now c.args.v.now c.args.s (sym c.field_at.ensures ∙ c.in-37.is))

pub returns-in-38 : goal.returns-in-38
returns-in-38 g c =
    of_three Divide c.location_at-in-38.ensures c.location_at-in-38-2.ensures c.location_at-in-38-3.ensures ∙ sym (is_38 c.args.n.now c.args.v.now c.args.s (sym c.field_at.ensures ∙ c.in-38.is))

pub returns-in-70 : goal.returns-in-70
returns-in-70 g c =
    of_two Sample c.byte_at-in-70.ensures c.location_at-in-70.ensures ∙ sym (is_70 c.args.n.now c.args.v.now c.args.s (sym c.field_at.ensures ∙ c.in-70.is))

pub returns-in-71 : goal.returns-in-71
returns-in-71 g c =
    of_two Average c.byte_at-in-71.ensures c.location_at-in-71.ensures ∙ sym (is_71 c.args.n.now c.args.v.now c.args.s (sym c.field_at.ensures ∙ c.in-71.is))

pub returns-in-72 : goal.returns-in-72
returns-in-72 g c =
    of_two Total c.byte_at-in-72.ensures c.location_at-in-72.ensures ∙ sym (is_72 c.args.n.now c.args.v.now c.args.s (sym c.field_at.ensures ∙ c.in-72.is))

pub returns-in-73 : goal.returns-in-73
returns-in-73 g c =
    of_two Maximum c.byte_at-in-73.ensures c.location_at-in-73.ensures ∙ sym (is_73 c.args.n.now c.args.v.now c.args.s (sym c.field_at.ensures ∙ c.in-73.is))

pub returns-in-74 : goal.returns-in-74
returns-in-74 g c =
    of_two Minimum c.byte_at-in-74.ensures c.location_at-in-74.ensures ∙ sym (is_74 c.args.n.now c.args.v.now c.args.s (sym c.field_at.ensures ∙ c.in-74.is))

pub returns-in-85 : goal.returns-in-85
returns-in-85 g c =
    ap Subroutine c.byte_at-in-85.ensures ∙ sym (is_85 c.args.n.now c.args.v.now c.args.s (sym c.field_at.ensures ∙ c.in-85.is))

pub returns-in-87 : goal.returns-in-87
returns-in-87 g c =
    of_two Loop c.field_at-in-87.ensures c.field_at-in-87-2.ensures ∙ sym (is_87 c.args.n.now c.args.v.now c.args.s (sym c.field_at.ensures ∙ c.in-87.is))

pub returns-in-94 : goal.returns-in-94
returns-in-94 g c =
    sym (is_94 c.args.n.now c.args.v.now c.args.s (sym c.field_at.ensures ∙ c.in-94.is))

pub returns-in-95 : goal.returns-in-95
returns-in-95 g c =
    sym (is_95 c.args.n.now c.args.v.now c.args.s (sym c.field_at.ensures ∙ c.in-95.is))

pub returns-in_default : goal.returns-in_default
returns-in_default g c =
    is_unknown c.args.n.now c.args.v.now c.args.s _ (sym c.field_at.ensures) c.in_default.in_default-own.rest.0.0.0.0.0.0.0.0.0.0.0.0.0.0.0.0.0.0.0.0.0.0.0.0.0.1 c.in_default.in_default-own.rest.0.0.0.0.0.0.0.0.0.0.0.0.0.0.0.0.0.0.0.0.0.0.0.0.1 c.in_default.in_default-own.rest.0.0.0.0.0.0.0.0.0.0.0.0.0.0.0.0.0.0.0.0.0.0.0.1 c.in_default.in_default-own.rest.0.0.0.0.0.0.0.0.0.0.0.0.0.0.0.0.0.0.0.0.0.0.1 c.in_default.in_default-own.rest.0.0.0.0.0.0.0.0.0.0.0.0.0.0.0.0.0.0.0.0.0.1 c.in_default.in_default-own.rest.0.0.0.0.0.0.0.0.0.0.0.0.0.0.0.0.0.0.0.0.1 c.in_default.in_default-own.rest.0.0.0.0.0.0.0.0.0.0.0.0.0.0.0.0.0.0.0.1 c.in_default.in_default-own.rest.0.0.0.0.0.0.0.0.0.0.0.0.0.0.0.0.0.0.1 c.in_default.in_default-own.rest.0.0.0.0.0.0.0.0.0.0.0.0.0.0.0.0.0.1 c.in_default.in_default-own.rest.0.0.0.0.0.0.0.0.0.0.0.0.0.0.0.0.1 c.in_default.in_default-own.rest.0.0.0.0.0.0.0.0.0.0.0.0.0.0.0.1 c.in_default.in_default-own.rest.0.0.0.0.0.0.0.0.0.0.0.0.0.0.1 c.in_default.in_default-own.rest.0.0.0.0.0.0.0.0.0.0.0.0.0.1 c.in_default.in_default-own.rest.0.0.0.0.0.0.0.0.0.0.0.0.1 c.in_default.in_default-own.rest.0.0.0.0.0.0.0.0.0.0.0.1 c.in_default.in_default-own.rest.0.0.0.0.0.0.0.0.0.0.1 c.in_default.in_default-own.rest.0.0.0.0.0.0.0.0.0.1 c.in_default.in_default-own.rest.0.0.0.0.0.0.0.0.1 c.in_default.in_default-own.rest.0.0.0.0.0.0.0.1 c.in_default.in_default-own.rest.0.0.0.0.0.0.1 c.in_default.in_default-own.rest.0.0.0.0.0.1 c.in_default.in_default-own.rest.0.0.0.0.1 c.in_default.in_default-own.rest.0.0.0.1 c.in_default.in_default-own.rest.0.0.1 c.in_default.in_default-own.rest.0.1 c.in_default.in_default-own.rest.1

pub returns-in_err-ok-in-77 : goal.returns-in_err-ok-in-77
returns-in_err-ok-in-77 g c =
    rw c.from_residual.ensures (is_77 c.args.n.now c.args.v.now c.args.s (sym c.field_at.ensures ∙ c.in-77.is) ∙ no _ _ (ap is_code (sym c.field_at-in-77.ensures) ∙ read_err (code_of c.field_at-in-77.result) _ c.try_from.ensures c.in_err-ok-in-77.ensures.value))

pub returns-in_ok-ok-in-77 : goal.returns-in_ok-ok-in-77
returns-in_ok-ok-in-77 g c =
    ap StoreTime ((read_ok _ c.try_from.ensures c.in_ok-ok-in-77.ensures.value).1 ∙ ap code_of c.field_at-in-77.ensures) ∙ sym (is_77 c.args.n.now c.args.v.now c.args.s (sym c.field_at.ensures ∙ c.in-77.is) ∙ yes _ _ (ap is_code (sym c.field_at-in-77.ensures) ∙ (read_ok _ c.try_from.ensures c.in_ok-ok-in-77.ensures.value).0))

pub returns-in_err-known_command-in-86 : goal.returns-in_err-known_command-in-86
returns-in_err-known_command-in-86 g c =
    rw c.from_residual-in_err-known_command-in-86.ensures (is_86 c.args.n.now c.args.v.now c.args.s (sym c.field_at.ensures ∙ c.in-86.is) ∙ no _ _ (ap is_command (sym c.field_at-in-86.ensures) ∙ refused _ c.in_err-known_command-in-86.ensures))

pub returns-in_ok-known_command-in-86 : goal.returns-in_ok-known_command-in-86
returns-in_ok-known_command-in-86 g c =
    ap Do (c.in_ok-known_command-in-86.ensures.1 ∙ ap command_laid c.field_at-in-86.ensures) ∙ sym (is_86 c.args.n.now c.args.v.now c.args.s (sym c.field_at.ensures ∙ c.in-86.is) ∙ yes _ _ (ap is_command (sym c.field_at-in-86.ensures) ∙ c.in_ok-known_command-in-86.ensures.0))

pub returns-in_err-ok-in-88 : goal.returns-in_err-ok-in-88
returns-in_err-ok-in-88 g c =
    rw c.from_residual-in_err-ok-in-88.ensures (is_88 c.args.n.now c.args.v.now c.args.s (sym c.field_at.ensures ∙ c.in-88.is) ∙ no _ _ (not_first _ (ap is_relation (sym c.field_at-in-88.ensures) ∙ read_err (relation_of c.field_at-in-88.result) _ c.try_from-in-88.ensures c.in_err-ok-in-88.ensures.value)))

pub returns-in_err-known_command-in-88 : goal.returns-in_err-known_command-in-88
returns-in_err-known_command-in-88 g c =
    rw c.from_residual-in_err-known_command-in-88.ensures (is_88 c.args.n.now c.args.v.now c.args.s (sym c.field_at.ensures ∙ c.in-88.is) ∙ no _ _ (not_second (is_relation (get_or c.args.n.now (9 + 8 * c.args.s + 3) 0)) (ap is_command (sym c.field_at-in-88-2.ensures) ∙ refused _ c.in_err-known_command-in-88.ensures)))

pub returns-in_err-ok-in-89 : goal.returns-in_err-ok-in-89
returns-in_err-ok-in-89 g c =
    rw c.from_residual-in_err-ok-in-89.ensures (is_89 c.args.n.now c.args.v.now c.args.s (sym c.field_at.ensures ∙ c.in-89.is) ∙ no _ _ (not_first _ (ap is_relation (sym c.field_at-in-89.ensures) ∙ read_err (relation_of c.field_at-in-89.result) _ c.try_from-in-89.ensures c.in_err-ok-in-89.ensures.value)))

pub returns-in_err-known_command-in-89 : goal.returns-in_err-known_command-in-89
returns-in_err-known_command-in-89 g c =
    rw c.from_residual-in_err-known_command-in-89.ensures (is_89 c.args.n.now c.args.v.now c.args.s (sym c.field_at.ensures ∙ c.in-89.is) ∙ no _ _ (not_second (is_relation (get_or c.args.n.now (9 + 8 * c.args.s + 3) 0)) (ap is_command (sym c.field_at-in-89-2.ensures) ∙ refused _ c.in_err-known_command-in-89.ensures)))

pub returns-in_ok-known_command-in-88 : goal.returns-in_ok-known_command-in-88
returns-in_ok-known_command-in-88 g c =
    of_four IfLocations c.location_at-in-88.ensures ((read_ok _ c.try_from-in-88.ensures c.in_ok-ok-in-88.ensures.value).1 ∙ ap relation_of c.field_at-in-88.ensures) c.location_at-in-88-2.ensures (c.in_ok-known_command-in-88.ensures.1 ∙ ap command_laid c.field_at-in-88-2.ensures) ∙ sym (is_88 c.args.n.now c.args.v.now c.args.s (sym c.field_at.ensures ∙ c.in-88.is) ∙ yes _ _ (both (ap is_relation (sym c.field_at-in-88.ensures) ∙ (read_ok _ c.try_from-in-88.ensures c.in_ok-ok-in-88.ensures.value).0) (ap is_command (sym c.field_at-in-88-2.ensures) ∙ c.in_ok-known_command-in-88.ensures.0)))

pub returns-in_ok-known_command-in-89 : goal.returns-in_ok-known_command-in-89
returns-in_ok-known_command-in-89 g c =
    of_four IfFixed c.location_at-in-89.ensures ((read_ok _ c.try_from-in-89.ensures c.in_ok-ok-in-89.ensures.value).1 ∙ ap relation_of c.field_at-in-89.ensures) c.value_at-in-89.ensures (c.in_ok-known_command-in-89.ensures.1 ∙ ap command_laid c.field_at-in-89-2.ensures) ∙ sym (is_89 c.args.n.now c.args.v.now c.args.s (sym c.field_at.ensures ∙ c.in-89.is) ∙ yes _ _ (both (ap is_relation (sym c.field_at-in-89.ensures) ∙ (read_ok _ c.try_from-in-89.ensures c.in_ok-ok-in-89.ensures.value).0) (ap is_command (sym c.field_at-in-89-2.ensures) ∙ c.in_ok-known_command-in-89.ensures.0)))

pub returns-in_err-known_command-in-91 : goal.returns-in_err-known_command-in-91
returns-in_err-known_command-in-91 g c =
    rw c.from_residual-in_err-known_command-in-91.ensures (is_91 c.args.n.now c.args.v.now c.args.s (sym c.field_at.ensures ∙ c.in-91.is) ∙ no _ _ (ap is_command (sym c.field_at-in-91-2.ensures) ∙ refused _ c.in_err-known_command-in-91.ensures))

pub returns-in_ok-known_command-in-91 : goal.returns-in_ok-known_command-in-91
returns-in_ok-known_command-in-91 g c =
    of_three IfFlag c.byte_at-in-91.ensures (ap (λ n. is_set n) c.field_at-in-91.ensures) (c.in_ok-known_command-in-91.ensures.1 ∙ ap command_laid c.field_at-in-91-2.ensures) ∙ sym (is_91 c.args.n.now c.args.v.now c.args.s (sym c.field_at.ensures ∙ c.in-91.is) ∙ yes _ _ (ap is_command (sym c.field_at-in-91-2.ensures) ∙ c.in_ok-known_command-in-91.ensures.0))

pub returns-in_err-known_command-in-92 : goal.returns-in_err-known_command-in-92
returns-in_err-known_command-in-92 g c =
    rw c.from_residual-in_err-known_command-in-92.ensures (is_92 c.args.n.now c.args.v.now c.args.s (sym c.field_at.ensures ∙ c.in-92.is) ∙ no _ _ (ap is_command (sym c.field_at-in-92-3.ensures) ∙ refused _ c.in_err-known_command-in-92.ensures))

pub returns-in_ok-known_command-in-92 : goal.returns-in_ok-known_command-in-92
returns-in_ok-known_command-in-92 g c =
    of_three IfTime c.field_at-in-92.ensures c.field_at-in-92-2.ensures (c.in_ok-known_command-in-92.ensures.1 ∙ ap command_laid c.field_at-in-92-3.ensures) ∙ sym (is_92 c.args.n.now c.args.v.now c.args.s (sym c.field_at.ensures ∙ c.in-92.is) ∙ yes _ _ (ap is_command (sym c.field_at-in-92-3.ensures) ∙ c.in_ok-known_command-in-92.ensures.0))
