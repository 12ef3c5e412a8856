-- Where a command leads is where its flow leads; the test of an exit is whether it came out as asked. Assumes nothing.
use Rattle.std.specs.Prelude.{◌≡◌, refl, ℕ, Bool, true, false, not, List}
use Rattle.std.proofs.Common.{sym, ap, ◌∙◌, subst, arith}
use Rattle.std.specs.Bool.{beq}
use Rattle.base_program.specs.declared.Command.{Command}
use Rattle.base_program.specs.Flow.{command_flow}
use Rattle.spec_buffers.specs.Held.{Held}
use Rattle.spec_buffers.specs.Effects.{command_held, command_held_if}
use Rattle.scan_marks.specs.Marks.{Mark, stack}
use Rattle.scan_marks.specs.Move.{Moved, stay, move_to, exit_to}
use Rattle.scan_marks.specs.Laws.{moved_to}
use Rattle.scan_commands.specs.Moving.{Moving}

pub stays : {ends elses subs marks : List ℕ} {home pc top : ℕ} → Moving pc home ends elses subs marks top → Moved (stay pc (stack marks top)) pc marks top
stays {marks = marks} {pc = pc} {top = top} m =
    moved_to marks top pc (stack marks top) (stay pc (stack marks top)) m.ready.place (let g = m.ready.room in omega arith) m.ready.shifted refl refl

-- where the command that it was found to be leads
pub leads_as : (ends elses subs : List ℕ) (home pc : ℕ) (s : List Mark) (b : Bool) {c d : Command} → c ≡ d → {r : ℕ} {marks : List ℕ} {top : ℕ}
    → Moved (move_to ends elses subs home (command_flow d) b pc s) r marks top → Moved (move_to ends elses subs home (command_flow c) b pc s) r marks top
leads_as ends elses subs home pc s b told {r} {marks} {top} m =
    subst (λ z. Moved (move_to ends elses subs home (command_flow z) b pc s) r marks top) (sym told) m

pub same_true : (b : Bool) → b ≡ beq b true
same_true true = refl
same_true false = refl

pub same_false : (b : Bool) → not b ≡ beq b false
same_false true = refl
same_false false = refl

-- one test for another that is the same
pub tested_as : (ends : List ℕ) (pc : ℕ) (s : List Mark) {a b : Bool} → a ≡ b → {r : ℕ} {marks : List ℕ} {top : ℕ} → Moved (exit_to ends a pc s) r marks top
    → Moved (exit_to ends b pc s) r marks top
tested_as ends pc s e {r} {marks} {top} m = subst (λ z. Moved (exit_to ends z pc s) r marks top) e m

-- a Then Do sets nothing, whatever its test
pub then_sets_nothing : (b : Bool) (id : ℕ) {c : Command} → c ≡ Command.Then → (h : Held) → h ≡ command_held_if b id c h
unfolding command_held
then_sets_nothing b id e h = by b ∙ ap (λ z. command_held_if b id z h) (sym e)
  where
    by : (b : Bool) → h ≡ command_held_if b id Command.Then h
    by true = refl
    by false = refl
