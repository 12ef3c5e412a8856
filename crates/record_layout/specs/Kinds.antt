-- The instructions 77 to 95, whose numbers are written by a function of their own. Assumes nothing.
use Rattle.std.specs.Prelude.{Bool, true, false}
use Rattle.base_program.specs.declared.Instruction.{Instruction}
use Rattle.base_program.specs.declared.Instruction.TheVariants.{End, Else, MeasureSingle, MeasureDifferential, SetFixed, Copy, Increment, Add, AddFixed, Subtract, Multiply, MultiplyFixed, Divide, Sample, Average, Total, Maximum, Minimum, StoreTime, Subroutine, Do, Loop, IfLocations, IfFixed, IfFlag, IfTime}

unfoldable pub is_control : Instruction → Bool
is_control End = true
is_control Else = true
is_control (MeasureSingle reps range channel l scale) = false
is_control (MeasureDifferential reps range channel l scale) = false
is_control (SetFixed f z) = false
is_control (Copy x z) = false
is_control (Increment z) = false
is_control (Add x y z) = false
is_control (AddFixed x f z) = false
is_control (Subtract x y z) = false
is_control (Multiply x y z) = false
is_control (MultiplyFixed x f z) = false
is_control (Divide x y z) = false
is_control (Sample reps x) = false
is_control (Average reps x) = false
is_control (Total reps x) = false
is_control (Maximum reps x) = false
is_control (Minimum reps x) = false
is_control (StoreTime code) = true
is_control (Subroutine k) = true
is_control (Do c) = true
is_control (Loop delay count) = true
is_control (IfLocations x r y c) = true
is_control (IfFixed x r f c) = true
is_control (IfFlag f high c) = true
is_control (IfTime into interval c) = true
