-- Where an entry leads does not depend on what the machine holds: with the memory changed by any f it leads to the same place, with what f makes
-- of its memory. By the kinds of control flow. Assumes nothing.
use Rattle.std.specs.Prelude.{◌≡◌, ℕ, Bool, ltb}
use Rattle.std.proofs.Math.Path.{refl}
use Rattle.std.proofs.Math.Bool.{true, false}
use Rattle.std.specs.Bool.{beq}
use mathlib.Core.List.{List, [], ◌∷◌}
use Rattle.std.proofs.Math.Option.{Option, none, some}
use Rattle.base_program.specs.declared.Flow.{Flow}
use Rattle.base_program.specs.declared.Program.{Program}
use Rattle.base_program.specs.declared.Table.{Table}
use Rattle.base_program.specs.Entries.{entries}
use Rattle.spec_machine.specs.Memory.{Memory}
use Rattle.spec_machine.specs.Values.{Scan}
use Rattle.spec_machine.specs.Ends.{Way, behind_label}
use Rattle.spec_machine.specs.Machine.{Open, then_do, loop, Place, Config, Next, next, done, stuck, loop_open, pass_over, if_false, past_end, leave, exit, call, back, again, go_on}

abbrev pub config_with : (Memory → Memory) → Config → Config
config_with f c = record { place = c.place; callers = c.callers; memory = f c.memory }

abbrev pub next_with : (Memory → Memory) → Next → Next
next_with f (next c) = next (config_with f c)
next_with f done = done
next_with f stuck = stuck

module _ (f : Memory → Memory) (m : Memory) where
  leave_with : (bs : List Open) (ws : List Way) (t : Table) (cs : List Place) → leave bs ws t cs (f m) ≡ next_with f (leave bs ws t cs m)
  unfolding leave
  leave_with [] ws t cs = refl
  leave_with (b ∷ bs) [] t cs = refl
  leave_with (then_do ∷ bs) (w ∷ ws) t cs = leave_with bs ws t cs
  leave_with (loop a n j ∷ bs) (w ∷ ws) t cs = refl

  over_with : (o : Option ℕ) (e : ℕ) (t : Table) (bs : List Open) (cs : List Place) → pass_over o e t bs cs (f m) ≡ next_with f (pass_over o e t bs cs m)
  over_with none e t bs cs = refl
  over_with (some q) e t bs cs = refl

  false_with : (ws : List Way) (t : Table) (bs : List Open) (cs : List Place) → if_false ws t bs cs (f m) ≡ next_with f (if_false ws t bs cs m)
  false_with [] t bs cs = refl
  false_with (w ∷ ws) t bs cs = over_with w.behind_else w.behind_end t bs cs

  past_with : (ws : List Way) (t : Table) (bs : List Open) (cs : List Place) → past_end ws t bs cs (f m) ≡ next_with f (past_end ws t bs cs m)
  past_with [] t bs cs = refl
  past_with (w ∷ ws) t bs cs = refl

  back_with : (cs : List Place) → back cs (f m) ≡ next_with f (back cs m)
  back_with [] = refl
  back_with (c ∷ cs) = refl

  again_with : (b : Bool) (a n j : ℕ) (t : Table) (e : ℕ) (bs : List Open) (cs : List Place)
      → again b a n j t e bs cs (f m) ≡ next_with f (again b a n j t e bs cs m)
  again_with true a n j t e bs cs = refl
  again_with false a n j t e bs cs = refl

  call_with : (o : Option ℕ) (b : Bool) (t : Table) (e : ℕ) (bs : List Open) (cs : List Place) → call o b t e bs cs (f m) ≡ next_with f (call o b t e bs cs m)
  call_with none b t e bs cs = refl
  call_with (some q) true t e bs cs = refl
  call_with (some q) false t e bs cs = refl

  exit_with : (o b : Bool) (ws : List Way) (t : Table) (e : ℕ) (bs : List Open) (cs : List Place)
      → exit o b ws t e bs cs (f m) ≡ next_with f (exit o b ws t e bs cs m)
  exit_with false b ws t e bs cs = refl
  exit_with true true ws t e bs cs = leave_with bs ws t cs
  exit_with true false ws t e bs cs = refl

  pub go_with : (p : Program) (x : Scan) (y : Flow) (b : Bool) (ws : List Way) (t : Table) (e : ℕ) (bs : List Open) (cs : List Place)
      → go_on p x y b ws t e bs cs (f m) ≡ next_with f (go_on p x y b ws t e bs cs m)
  unfolding go_on
  go_with p x Flow.Next b ws t e bs cs = refl
  go_with p x Flow.Else b ws t e [] cs = refl
  go_with p x Flow.Else b ws t e (then_do ∷ bs) cs = past_with ws t bs cs
  go_with p x Flow.Else b ws t e (loop a n j ∷ bs) cs = refl
  go_with p x Flow.End b ws t e [] cs = back_with cs
  go_with p x Flow.End b ws t e (then_do ∷ bs) cs = refl
  go_with p x Flow.End b ws t e (loop a n j ∷ bs) cs = again_with (ltb j n) a n j t e bs cs
  go_with p x Flow.Then true ws t e bs cs = refl
  go_with p x Flow.Then false ws t e bs cs = false_with ws t bs cs
  go_with p x Flow.Stop true ws t e bs cs = refl
  go_with p x Flow.Stop false ws t e bs cs = refl
  go_with p x (Flow.Loop n) b ws t e bs cs = refl
  go_with p x (Flow.Subroutine k) b ws t e bs cs = refl
  go_with p x (Flow.Call k) b ws t e bs cs = call_with (behind_label k 0 (entries p Table.Three)) b t e bs cs
  go_with p x (Flow.Exit when) b ws t e bs cs = exit_with (loop_open bs) (beq b when) ws t e bs cs
