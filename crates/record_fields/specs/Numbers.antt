-- The instruction in a slot, by the slot's own numbers and values: for each number of an instruction the one that the layout defines. By cases.
-- Assumes nothing.
use Rattle.std.specs.Prelude.{◌≡◌, ℕ, ◌+◌, ◌*◌, ◌<◌, ◌&&◌, List, length, get_or, drop, Float}
use Rattle.std.proofs.Math.Path.{refl}
use Rattle.std.proofs.Common.{sym, ap, ◌∙◌, arith, add-zero, get_or-drop}
use Rattle.base_program.specs.declared.Scale.{Scale}
use Rattle.base_program.specs.declared.Instruction.{Instruction}
use Rattle.base_program.specs.declared.Instruction.TheVariants.{End, Else, MeasureSingle, MeasureDifferential, SetFixed, Copy, Increment, Add, AddFixed, Subtract, Multiply, MultiplyFixed, Divide, Sample, Average, Total, Maximum, Minimum, StoreTime, Subroutine, Do, Loop, IfLocations, IfFixed, IfFlag, IfTime}
use Rattle.base_program.specs.Codes.{relation_of, is_code, code_of}
use Rattle.base_float.specs.Finite.{zero_float}
use Rattle.record_layout.specs.Layout.{byte_of, is_set, location_laid, scale_of, is_relation, is_command, command_laid, known, control_of, instruction_of, in_slot}

-- the slots lie within what is lent
abbrev pub SlotLent : List ℕ → List Float → ℕ → Type 0
SlotLent ns vs s = (length ns ≡ 2385) × (length vs ≡ 594) × (s < 297)

-- the instruction in slot s
unfoldable pub lies : List ℕ → List Float → ℕ → Instruction
lies ns vs s =
    instruction_of (get_or ns (9 + 8 * s + 0) 0) (get_or ns (9 + 8 * s + 1) 0) (get_or ns (9 + 8 * s + 2) 0) (get_or ns (9 + 8 * s + 3) 0) (get_or ns (9 + 8 * s + 4) 0)
    (get_or ns (9 + 8 * s + 5) 0) (get_or ns (9 + 8 * s + 6) 0) (get_or vs (2 * s) zero_float) (get_or vs (2 * s + 1) zero_float)

pub lies_in_slot : (ns : List ℕ) (vs : List Float) (s : ℕ) → lies ns vs s ≡ in_slot (drop (9 + 8 * s) ns) (drop (2 * s) vs)
unfolding lies in_slot
lies_in_slot ns vs s = simp (get_or-drop, add-zero)

module _ (ns : List ℕ) (vs : List Float) (s : ℕ) where
  -- its numbers, its first value, and both values as a scale
  abbrev number : ℕ → ℕ
  number k = get_or ns (9 + 8 * s + k) 0

  abbrev value : Float
  value = get_or vs (2 * s) zero_float

  abbrev scale : Scale
  scale = scale_of (get_or vs (2 * s) zero_float) (get_or vs (2 * s + 1) zero_float)

  pub is_1 : get_or ns (9 + 8 * s + 0) 0 ≡ 1 → lies ns vs s ≡ MeasureSingle (byte_of (number 1)) (byte_of (number 2)) (record { 0 = byte_of (number 3) }) (location_laid (number 4) (number 5)) scale
  unfolding lies instruction_of
  is_1 h = rw h refl

  pub is_2 : get_or ns (9 + 8 * s + 0) 0 ≡ 2 → lies ns vs s ≡ MeasureDifferential (byte_of (number 1)) (byte_of (number 2)) (record { 0 = byte_of (number 3) }) (location_laid (number 4) (number 5)) scale
  unfolding lies instruction_of
  is_2 h = rw h refl

  pub is_30 : get_or ns (9 + 8 * s + 0) 0 ≡ 30 → lies ns vs s ≡ SetFixed value (location_laid (number 1) (number 2))
  unfolding lies instruction_of
  is_30 h = rw h refl

  pub is_31 : get_or ns (9 + 8 * s + 0) 0 ≡ 31 → lies ns vs s ≡ Copy (location_laid (number 1) (number 2)) (location_laid (number 3) (number 4))
  unfolding lies instruction_of
  is_31 h = rw h refl

  pub is_32 : get_or ns (9 + 8 * s + 0) 0 ≡ 32 → lies ns vs s ≡ Increment (location_laid (number 1) (number 2))
  unfolding lies instruction_of
  is_32 h = rw h refl

  pub is_33 : get_or ns (9 + 8 * s + 0) 0 ≡ 33 → lies ns vs s ≡ Add (location_laid (number 1) (number 2)) (location_laid (number 3) (number 4)) (location_laid (number 5) (number 6))
  unfolding lies instruction_of
  is_33 h = rw h refl

  pub is_34 : get_or ns (9 + 8 * s + 0) 0 ≡ 34 → lies ns vs s ≡ AddFixed (location_laid (number 1) (number 2)) value (location_laid (number 3) (number 4))
  unfolding lies instruction_of
  is_34 h = rw h refl

  pub is_35 : get_or ns (9 + 8 * s + 0) 0 ≡ 35 → lies ns vs s ≡ Subtract (location_laid (number 1) (number 2)) (location_laid (number 3) (number 4)) (location_laid (number 5) (number 6))
  unfolding lies instruction_of
  is_35 h = rw h refl

  pub is_36 : get_or ns (9 + 8 * s + 0) 0 ≡ 36 → lies ns vs s ≡ Multiply (location_laid (number 1) (number 2)) (location_laid (number 3) (number 4)) (location_laid (number 5) (number 6))
  unfolding lies instruction_of
  is_36 h = rw h refl

  pub is_37 : get_or ns (9 + 8 * s + 0) 0 ≡ 37 → lies ns vs s ≡ MultiplyFixed (location_laid (number 1) (number 2)) value (location_laid (number 3) (number 4))
  unfolding lies instruction_of
  is_37 h = rw h refl

  pub is_38 : get_or ns (9 + 8 * s + 0) 0 ≡ 38 → lies ns vs s ≡ Divide (location_laid (number 1) (number 2)) (location_laid (number 3) (number 4)) (location_laid (number 5) (number 6))
  unfolding lies instruction_of
  is_38 h = rw h refl

  pub is_70 : get_or ns (9 + 8 * s + 0) 0 ≡ 70 → lies ns vs s ≡ Sample (byte_of (number 1)) (location_laid (number 2) (number 3))
  unfolding lies instruction_of
  is_70 h = rw h refl

  pub is_71 : get_or ns (9 + 8 * s + 0) 0 ≡ 71 → lies ns vs s ≡ Average (byte_of (number 1)) (location_laid (number 2) (number 3))
  unfolding lies instruction_of
  is_71 h = rw h refl

  pub is_72 : get_or ns (9 + 8 * s + 0) 0 ≡ 72 → lies ns vs s ≡ Total (byte_of (number 1)) (location_laid (number 2) (number 3))
  unfolding lies instruction_of
  is_72 h = rw h refl

  pub is_73 : get_or ns (9 + 8 * s + 0) 0 ≡ 73 → lies ns vs s ≡ Maximum (byte_of (number 1)) (location_laid (number 2) (number 3))
  unfolding lies instruction_of
  is_73 h = rw h refl

  pub is_74 : get_or ns (9 + 8 * s + 0) 0 ≡ 74 → lies ns vs s ≡ Minimum (byte_of (number 1)) (location_laid (number 2) (number 3))
  unfolding lies instruction_of
  is_74 h = rw h refl

  pub is_77 : get_or ns (9 + 8 * s + 0) 0 ≡ 77 → lies ns vs s ≡ known (is_code (number 1)) (StoreTime (code_of (number 1)))
  unfolding lies instruction_of
  is_77 h = rw h refl

  pub is_85 : get_or ns (9 + 8 * s + 0) 0 ≡ 85 → lies ns vs s ≡ Subroutine (byte_of (number 1))
  unfolding lies instruction_of control_of
  is_85 h = rw h refl

  pub is_86 : get_or ns (9 + 8 * s + 0) 0 ≡ 86 → lies ns vs s ≡ known (is_command (number 1)) (Do (command_laid (number 1)))
  unfolding lies instruction_of control_of
  is_86 h = rw h refl

  pub is_87 : get_or ns (9 + 8 * s + 0) 0 ≡ 87 → lies ns vs s ≡ Loop (number 1) (number 2)
  unfolding lies instruction_of control_of
  is_87 h = rw h refl

  pub is_88 : get_or ns (9 + 8 * s + 0) 0 ≡ 88 → lies ns vs s ≡ known (is_relation (number 3) && is_command (number 6)) (IfLocations (location_laid (number 1) (number 2)) (relation_of (number 3)) (location_laid (number 4) (number 5)) (command_laid (number 6)))
  unfolding lies instruction_of control_of
  is_88 h = rw h refl

  pub is_89 : get_or ns (9 + 8 * s + 0) 0 ≡ 89 → lies ns vs s ≡ known (is_relation (number 3) && is_command (number 4)) (IfFixed (location_laid (number 1) (number 2)) (relation_of (number 3)) value (command_laid (number 4)))
  unfolding lies instruction_of control_of
  is_89 h = rw h refl

  pub is_91 : get_or ns (9 + 8 * s + 0) 0 ≡ 91 → lies ns vs s ≡ known (is_command (number 3)) (IfFlag (byte_of (number 1)) (is_set (number 2)) (command_laid (number 3)))
  unfolding lies instruction_of control_of
  is_91 h = rw h refl

  pub is_92 : get_or ns (9 + 8 * s + 0) 0 ≡ 92 → lies ns vs s ≡ known (is_command (number 3)) (IfTime (number 1) (number 2) (command_laid (number 3)))
  unfolding lies instruction_of control_of
  is_92 h = rw h refl

  pub is_94 : get_or ns (9 + 8 * s + 0) 0 ≡ 94 → lies ns vs s ≡ Else
  unfolding lies instruction_of control_of
  is_94 h = rw h refl

  pub is_95 : get_or ns (9 + 8 * s + 0) 0 ≡ 95 → lies ns vs s ≡ End
  unfolding lies instruction_of control_of
  is_95 h = rw h refl
