-- The control-flow kind of an entry, its command, and the subroutine that it calls. Assumes nothing.
use Rattle.std.specs.Prelude.{ℕ, Bool, true, false}
use Rattle.std.proofs.Math.Option.{Option, none, some}
use Rattle.base_program.specs.declared.Command.{Command}
use Rattle.base_program.specs.declared.Command.TheVariants.{Stop, Call, Raise, Lower, Then, ExitIfTrue, ExitIfFalse, PortHigh, PortLow}
use Rattle.base_program.specs.declared.Instruction.{Instruction}
use Rattle.base_program.specs.declared.Instruction.TheVariants.{End, Else, MeasureSingle, MeasureDifferential, SetFixed, Copy, Increment, Add, AddFixed, Subtract, Multiply, MultiplyFixed, Divide, Sample, Average, Total, Maximum, Minimum, StoreTime, Subroutine, Do, Loop, IfLocations, IfFixed, IfFlag, IfTime}
use Rattle.base_program.specs.declared.Flow.{Flow}

-- 86, 88, 89, 91 and 92 have a command.
unfoldable pub command_of : Instruction → Option Command
command_of End = none
command_of Else = none
command_of (MeasureSingle reps range channel location scale) = none
command_of (MeasureDifferential reps range channel location scale) = none
command_of (SetFixed f z) = none
command_of (Copy x z) = none
command_of (Increment z) = none
command_of (Add x y z) = none
command_of (AddFixed x f z) = none
command_of (Subtract x y z) = none
command_of (Multiply x y z) = none
command_of (MultiplyFixed x f z) = none
command_of (Divide x y z) = none
command_of (Sample reps x) = none
command_of (Average reps x) = none
command_of (Total reps x) = none
command_of (Maximum reps x) = none
command_of (Minimum reps x) = none
command_of (StoreTime code) = none
command_of (Subroutine k) = none
command_of (Do c) = some c
command_of (Loop delay count) = none
command_of (IfLocations x r y c) = some c
command_of (IfFixed x r f c) = some c
command_of (IfFlag f high c) = some c
command_of (IfTime into interval c) = some c

-- 'Commands: 0 go to the end of the table ..; 1-9 and 79-99 call; .. 30 Then Do; 31 exit loop if true, 32 if false.' The others go on.
unfoldable pub command_flow : Command → Flow
command_flow Stop = Flow.Stop
command_flow (Call k) = Flow.Call k
command_flow (Raise f) = Flow.Next
command_flow (Lower f) = Flow.Next
command_flow Then = Flow.Then
command_flow ExitIfTrue = Flow.Exit true
command_flow ExitIfFalse = Flow.Exit false
command_flow (PortHigh p) = Flow.Next
command_flow (PortLow p) = Flow.Next

-- 85, 87, 94 and 95 by themselves, an entry with a command as that says, and any other goes on.
unfoldable pub flow : Instruction → Flow
unfolding command_flow
flow End = Flow.End
flow Else = Flow.Else
flow (MeasureSingle reps range channel location scale) = Flow.Next
flow (MeasureDifferential reps range channel location scale) = Flow.Next
flow (SetFixed f z) = Flow.Next
flow (Copy x z) = Flow.Next
flow (Increment z) = Flow.Next
flow (Add x y z) = Flow.Next
flow (AddFixed x f z) = Flow.Next
flow (Subtract x y z) = Flow.Next
flow (Multiply x y z) = Flow.Next
flow (MultiplyFixed x f z) = Flow.Next
flow (Divide x y z) = Flow.Next
flow (Sample reps x) = Flow.Next
flow (Average reps x) = Flow.Next
flow (Total reps x) = Flow.Next
flow (Maximum reps x) = Flow.Next
flow (Minimum reps x) = Flow.Next
flow (StoreTime code) = Flow.Next
flow (Subroutine k) = Flow.Subroutine k
flow (Do c) = command_flow c
flow (Loop delay count) = Flow.Loop count
flow (IfLocations x r y c) = command_flow c
flow (IfFixed x r f c) = command_flow c
flow (IfFlag f high c) = command_flow c
flow (IfTime into interval c) = command_flow c

-- the subroutine that an entry of this kind calls
unfoldable pub call_of : Flow → Option ℕ
call_of Flow.Next = none
call_of Flow.Else = none
call_of Flow.End = none
call_of Flow.Then = none
call_of Flow.Stop = none
call_of (Flow.Loop n) = none
call_of (Flow.Subroutine k) = none
call_of (Flow.Call k) = some k
call_of (Flow.Exit b) = none

-- 'Command 30, 87 and 85 open a block that 95 closes.'
unfoldable pub opens : Flow → Bool
opens Flow.Next = false
opens Flow.Else = false
opens Flow.End = false
opens Flow.Then = true
opens Flow.Stop = false
opens (Flow.Loop n) = true
opens (Flow.Subroutine k) = true
opens (Flow.Call k) = false
opens (Flow.Exit b) = false
