-- Records that agree in I, M, both V, the lengths and the entries in use are run alike: the plain machine takes the same steps, and a table is due at
-- the same ticks. Each by the kinds of entry; only a table's entries, its length and the first sum of an entry are read of a record. Assumes nothing.
use Rattle.std.specs.Prelude.{◌≡◌, ℕ, suc, ◌%◌, Bool, ◌&&◌, length, drop}
use Rattle.std.proofs.Math.Path.{refl, ap}
use Rattle.std.proofs.Common.{sym, ◌∙◌}
use Rattle.std.proofs.Math.Bool.{true, false, not}
use mathlib.Core.List.{List, [], ◌∷◌}
use Rattle.std.proofs.Math.Dec.{eqb}
use Rattle.base_program.specs.declared.Flow.{Flow}
use Rattle.base_program.specs.declared.Instruction.{Instruction}
use Rattle.base_program.specs.declared.Instruction.TheVariants.{End, Else, MeasureSingle, MeasureDifferential, SetFixed, Copy, Increment, Add, AddFixed, Subtract, Multiply, MultiplyFixed, Divide, Sample, Average, Total, Maximum, Minimum, StoreTime, Subroutine, Do, Loop, IfLocations, IfFixed, IfFlag, IfTime}
use Rattle.base_program.specs.declared.Program.{Program}
use Rattle.base_program.specs.declared.Table.{Table}
use Rattle.base_program.specs.declared.Table.TheVariants.{Three}
use Rattle.base_program.specs.declared.Timed.{Timed}
use Rattle.base_program.specs.Flow.{flow}
use Rattle.base_program.specs.Reach.{moved}
use Rattle.base_program.specs.Entries.{slot, entries, first_sum}
use Rattle.proof_record.specs.SameRecord.{Same, same_interval, same_first_sums}
use Rattle.spec_machine.specs.Memory.{Memory}
use Rattle.spec_machine.specs.Values.{Scan}
use Rattle.spec_machine.specs.Output.{Statistic, average, total, maximum, minimum, statistic}
use Rattle.spec_machine.specs.Ends.{Way, ways, behind_label}
use Rattle.spec_machine.specs.Machine.{Open, then_do, loop, Place, Config, at, next, shift, table_of, test, effect, call, go_on, act, step}
use Rattle.spec_machine.specs.Run.{due, Steps, here, onward, Ends}

module _ (p q : Program) (s : Same p q) where
  -- ---- when a table runs

  pub same_due : (t : Timed) (time : ℕ) → due p t time ≡ due q t time
  unfolding due
  same_due t time = ap (λ v. not (eqb v 0) && eqb (time % v) 0) (same_interval p q s (table_of t))

  -- ---- a step

  module _ (x : Scan) where
    same_statistic : (w : Statistic) (t : Table) (e n l : ℕ) (m : Memory)
        → statistic w n (first_sum p t e) (slot t e) l m ≡ statistic w n (first_sum q t e) (slot t e) l m
    same_statistic w t e n l m = ap (λ k. statistic w n k (slot t e) l m) (same_first_sums p q s t e)

    same_effect : (t : Table) (e k : ℕ) (i : Instruction) (m : Memory) → effect p x t e k i m ≡ effect q x t e k i m
    unfolding effect test
    same_effect t e k End m = refl
    same_effect t e k Else m = refl
    same_effect t e k (MeasureSingle reps range channel location scale) m = refl
    same_effect t e k (MeasureDifferential reps range channel location scale) m = refl
    same_effect t e k (SetFixed f z) m = refl
    same_effect t e k (Copy a z) m = refl
    same_effect t e k (Increment z) m = refl
    same_effect t e k (Add a b z) m = refl
    same_effect t e k (AddFixed a f z) m = refl
    same_effect t e k (Subtract a b z) m = refl
    same_effect t e k (Multiply a b z) m = refl
    same_effect t e k (MultiplyFixed a f z) m = refl
    same_effect t e k (Divide a b z) m = refl
    same_effect t e k (Sample reps l) m = refl
    same_effect t e k (Average reps l) m = same_statistic average t e reps (moved k l) m
    same_effect t e k (Total reps l) m = same_statistic total t e reps (moved k l) m
    same_effect t e k (Maximum reps l) m = same_statistic maximum t e reps (moved k l) m
    same_effect t e k (Minimum reps l) m = same_statistic minimum t e reps (moved k l) m
    same_effect t e k (StoreTime code) m = refl
    same_effect t e k (Subroutine n) m = refl
    same_effect t e k (Do c) m = refl
    same_effect t e k (Loop delay count) m = refl
    same_effect t e k (IfLocations a r b c) m = refl
    same_effect t e k (IfFixed a r f c) m = refl
    same_effect t e k (IfFlag f high c) m = refl
    same_effect t e k (IfTime into interval c) m = refl

    same_go_on : (f : Flow) (b : Bool) (ws : List Way) (t : Table) (e : ℕ) (bs : List Open) (cs : List Place) (m : Memory)
        → go_on p x f b ws t e bs cs m ≡ go_on q x f b ws t e bs cs m
    unfolding go_on
    same_go_on Flow.Next b ws t e bs cs m = refl
    same_go_on Flow.Else b ws t e [] cs m = refl
    same_go_on Flow.Else b ws t e (then_do ∷ bs) cs m = refl
    same_go_on Flow.Else b ws t e (loop a n j ∷ bs) cs m = refl
    same_go_on Flow.End b ws t e [] cs m = refl
    same_go_on Flow.End b ws t e (then_do ∷ bs) cs m = refl
    same_go_on Flow.End b ws t e (loop a n j ∷ bs) cs m = refl
    same_go_on Flow.Then true ws t e bs cs m = refl
    same_go_on Flow.Then false ws t e bs cs m = refl
    same_go_on Flow.Stop true ws t e bs cs m = ap (λ l. next (at (table_of x.table) (length l) [] [] m)) (s.tables (table_of x.table))
    same_go_on Flow.Stop false ws t e bs cs m = refl
    same_go_on (Flow.Loop n) b ws t e bs cs m = refl
    same_go_on (Flow.Subroutine k) b ws t e bs cs m = refl
    same_go_on (Flow.Call k) b ws t e bs cs m = ap (λ l. call (behind_label k 0 l) b t e bs cs m) (s.tables Three)
    same_go_on (Flow.Exit when) b ws t e bs cs m = refl

    same_act : (l : List Instruction) (t : Table) (e : ℕ) (bs : List Open) (cs : List Place) (m : Memory)
        → act p x l t e bs cs m ≡ act q x l t e bs cs m
    unfolding act test
    same_act [] t e [] [] m = refl
    same_act [] t e [] (c ∷ cs) m = refl
    same_act [] t e (b ∷ bs) cs m = refl
    same_act (i ∷ r) t e bs cs m =
        same_go_on (flow i) (test p x (shift bs) i m) (ways (suc e) r) t (suc e) bs cs (effect p x t (suc e) (shift bs) i m)
        ∙ ap (go_on q x (flow i) (test p x (shift bs) i m) (ways (suc e) r) t (suc e) bs cs) (same_effect t (suc e) (shift bs) i m)

    same_step : (c : Config) → step p x c ≡ step q x c
    same_step c =
        same_act (drop c.place.before (entries p c.place.table)) c.place.table c.place.before c.place.blocks c.callers c.memory
        ∙ ap (λ l. act q x (drop c.place.before l) c.place.table c.place.before c.place.blocks c.callers c.memory)
        (s.tables c.place.table)

    -- ---- a run

    same_steps : {n : ℕ} {c d : Config} → Steps p x n c d → Steps q x n c d
    same_steps here = here
    same_steps (onward {c = c} e r) = onward (sym (same_step c) ∙ e) (same_steps r)

    pub same_ends : {c : Config} {n : ℕ} {m : Memory} → Ends p x c n m → Ends q x c n m
    same_ends r =
        record { final = r.final; steps = same_steps r.steps; ended = sym (same_step r.final) ∙ r.ended; left = r.left }
