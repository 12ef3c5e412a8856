-- The number of a subroutine that an entry in range calls: by cases on the instruction. Assumes nothing.
use Rattle.std.specs.Prelude.{◌≡◌, refl, ℕ, ◌<◌, Bool, true, false, ◌&&◌, ◌||◌, leb}
use Rattle.std.proofs.Common.{sym, subst, arith, leb-true}
use Rattle.base_float.specs.Finite.{finite}
use Rattle.base_program.specs.declared.Command.{Command}
use Rattle.base_program.specs.declared.Command.TheVariants.{Stop, Call, Raise, Lower, Then, ExitIfTrue, ExitIfFalse, PortHigh, PortLow}
use Rattle.base_program.specs.declared.Flow.{Flow}
use Rattle.base_program.specs.declared.Instruction.{Instruction}
use Rattle.base_program.specs.declared.Instruction.TheVariants.{End, Else, MeasureSingle, MeasureDifferential, SetFixed, Copy, Increment, Add, AddFixed, Subtract, Multiply, MultiplyFixed, Divide, Sample, Average, Total, Maximum, Minimum, StoreTime, Subroutine, Do, Loop, IfLocations, IfFixed, IfFlag, IfTime}
use Rattle.base_program.specs.Flow.{flow, command_flow}
use Rattle.spec_check.specs.Ranges.{in_range, command_in_range, is_unconditional}
use Rattle.base_program.specs.Codes.{is_label, between}
use Rattle.base_laws.specs.Tests.{and_both}

-- the kinds of flow that call nothing
abbrev Calls : Flow → ℕ → Type 0
Calls Flow.Next k = ⊥
Calls Flow.Else k = ⊥
Calls Flow.End k = ⊥
Calls Flow.Then k = ⊥
Calls Flow.Stop k = ⊥
Calls (Flow.Loop n) k = ⊥
Calls (Flow.Subroutine j) k = ⊥
Calls (Flow.Call j) k = j ≡ k
Calls (Flow.Exit b) k = ⊥

calls_is : {f : Flow} {k : ℕ} → f ≡ Flow.Call k → Calls f k
calls_is {f} {k} e = subst (λ z. Calls z k) (sym e) refl

label_small : (k : ℕ) → is_label k ≡ true → k < 256
label_small k h = by (between 1 9 k) refl h
  where
    by : (b : Bool) → between 1 9 k ≡ b → b || between 79 99 k ≡ true → k < 256
    by true e g = omega (arith, leb-true k 9 (and_both (leb 1 k) (leb k 9) e).1)
    by false e g = omega (arith, leb-true k 99 (and_both (leb 79 k) (leb k 99) g).1)

command_small : (c : Command) (k : ℕ) → Calls (command_flow c) k → command_in_range c ≡ true → k < 256
unfolding command_flow command_in_range
command_small Stop k e r = absurd e
command_small (Call j) k e r = subst (λ z. z < 256) e (label_small j r)
command_small (Raise f) k e r = absurd e
command_small (Lower f) k e r = absurd e
command_small Then k e r = absurd e
command_small ExitIfTrue k e r = absurd e
command_small ExitIfFalse k e r = absurd e
command_small (PortHigh q) k e r = absurd e
command_small (PortLow q) k e r = absurd e

entry_small : (i : Instruction) (k : ℕ) → Calls (flow i) k → in_range i ≡ true → k < 256
unfolding flow in_range
entry_small End k e r = absurd e
entry_small Else k e r = absurd e
entry_small (MeasureSingle n range channel location scale) k e r = absurd e
entry_small (MeasureDifferential n range channel location scale) k e r = absurd e
entry_small (SetFixed f z) k e r = absurd e
entry_small (Copy a z) k e r = absurd e
entry_small (Increment z) k e r = absurd e
entry_small (Add a b z) k e r = absurd e
entry_small (AddFixed a f z) k e r = absurd e
entry_small (Subtract a b z) k e r = absurd e
entry_small (Multiply a b z) k e r = absurd e
entry_small (MultiplyFixed a f z) k e r = absurd e
entry_small (Divide a b z) k e r = absurd e
entry_small (Sample n a) k e r = absurd e
entry_small (Average n a) k e r = absurd e
entry_small (Total n a) k e r = absurd e
entry_small (Maximum n a) k e r = absurd e
entry_small (Minimum n a) k e r = absurd e
entry_small (StoreTime code) k e r = absurd e
entry_small (Subroutine j) k e r = absurd e
entry_small (Do c) k e r = command_small c k e (and_both (command_in_range c) (is_unconditional c) r).0
entry_small (Loop delay count) k e r = absurd e
entry_small (IfLocations a j b c) k e r = command_small c k e r
entry_small (IfFixed a j f c) k e r = command_small c k e (and_both (finite f) (command_in_range c) r).1
entry_small (IfFlag f high c) k e r = command_small c k e (and_both (leb f 9) (command_in_range c) r).1
entry_small (IfTime into interval c) k e r =
    command_small c k e (and_both (between 1 1440 interval) (command_in_range c) (and_both (leb into 1439) (between 1 1440 interval && command_in_range c) r).1).1

pub call_small : (i : Instruction) → in_range i ≡ true → (k : ℕ) → flow i ≡ Flow.Call k → k < 256
call_small i r k e = entry_small i k (calls_is e) r
