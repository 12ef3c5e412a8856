-- Where a scan stands: the place that it is at and those that it goes back to lie before an entry of their table or just behind its last one, and the
-- outermost is in the table scanned. A step keeps this, a case for each kind of entry. Assumes nothing.
use Rattle.std.specs.Prelude.{◌≡◌, refl, Bool, ltb}
use Rattle.std.proofs.Math.Path.{ap}
use Rattle.std.proofs.Common.{subst}
use Prim.Native.Nat.{ℕ, suc, ◌≤◌}
use native.Mathlib.Omega.{arith}
use Rattle.std.proofs.Math.Bool.{true, false}
use Rattle.std.specs.Bool.{beq}
use mathlib.Core.List.{List, [], ◌∷◌}
use Rattle.std.proofs.Math.Option.{Option, none, some}
use Rattle.std.proofs.Math.ListN.{length, drop, length-drop}
use Rattle.base_laws.specs.Lists.{drop_next}
use Rattle.base_program.specs.declared.Flow.{Flow}
use Rattle.base_program.specs.declared.Instruction.{Instruction}
use Rattle.base_program.specs.declared.Program.{Program}
use Rattle.base_program.specs.declared.Table.{Table}
use Rattle.base_program.specs.Flow.{flow}
use Rattle.base_program.specs.Entries.{entries}
use Rattle.spec_machine.specs.Ends.{Way, ways, behind_label}
use Rattle.spec_machine.specs.Limits.{Each}
use Rattle.spec_machine.specs.Machine.{Open, then_do, loop, Place, Config, Next, next, done, stuck, table_of, shift, loop_open, test, effect, pass_over, leave, call, exit, again, go_on, act, step}
use Rattle.spec_machine.specs.Memory.{Memory}
use Rattle.spec_machine.specs.Run.{Steps, here, onward}
use Rattle.spec_machine.specs.Values.{Scan}
use Rattle.scan_targets.specs.Laws.{Behind, Chained, chained, label_behind}

module _ (p : Program) (x : Scan) where
  abbrev size : Table → ℕ
  size t = length (entries p t)

  abbrev LoopIn : ℕ → Open → Type 0
  LoopIn n then_do = Unit {0}
  LoopIn n (loop a c j) = a ≤ n

  abbrev pub PlaceIn : Place → Type 0
  PlaceIn q = (q.before ≤ size q.table) × Each (LoopIn (size q.table)) q.blocks

  -- what is entered from table t was entered from the table scanned
  abbrev pub Outside : Table → List Place → Type 0
  Outside t [] = t ≡ table_of x.table
  Outside t (c ∷ cs) = PlaceIn c × Outside c.table cs

  abbrev pub Stays : Next → Type 0
  Stays (next c) = PlaceIn c.place × Outside c.place.table c.callers
  Stays done = Unit {0}
  Stays stuck = Unit {0}

  -- ---- an entry, with the place e behind it

  module _ (t : Table) (e : ℕ) (cs : List Place) (m : Memory) (inside : e ≤ size t) (outside : Outside t cs) where
    leave_stays : (bs : List Open) (ws : List Way) → Each (LoopIn (size t)) bs → Chained (entries p t) e ws → Stays (leave bs ws t cs m)
    unfolding leave
    leave_stays [] ws o c = tt
    leave_stays (then_do ∷ bs) [] o c = tt
    leave_stays (loop a n j ∷ bs) [] o c = tt
    leave_stays (then_do ∷ bs) (w ∷ ws) o c = leave_stays bs ws o.1 c.4
    leave_stays (loop a n j ∷ bs) (w ∷ ws) o c = ((c.1, o.1), outside)

    again_stays : (b : Bool) (a n j : ℕ) (bs : List Open) → a ≤ size t → Each (LoopIn (size t)) bs → Stays (again b a n j t e bs cs m)
    again_stays true a n j bs l o = ((l, (l, o)), outside)
    again_stays false a n j bs l o = ((inside, o), outside)

    over_stays : (z : Option ℕ) (q : ℕ) (bs : List Open) → Behind (size t) z → q ≤ size t → Each (LoopIn (size t)) bs → Stays (pass_over z q t bs cs m)
    over_stays none q bs l l' o = ((l', o), outside)
    over_stays (some r) q bs l l' o = ((l.1, (tt, o)), outside)

    call_stays : (z : Option ℕ) (b : Bool) (bs : List Open) → ((q : ℕ) → z ≡ some q → q ≤ size Table.Three) → Each (LoopIn (size t)) bs → Stays (call z b t e bs cs m)
    call_stays none b bs l o = tt
    call_stays (some q) true bs l o = ((l q refl, tt), ((inside, o), outside))
    call_stays (some q) false bs l o = ((inside, o), outside)

    exit_stays : (own taken : Bool) (bs : List Open) (ws : List Way) → Each (LoopIn (size t)) bs → Chained (entries p t) e ws → Stays (exit own taken ws t e bs cs m)
    exit_stays false taken bs ws o c = tt
    exit_stays true true bs ws o c = leave_stays bs ws o c
    exit_stays true false bs ws o c = ((inside, o), outside)

  go_stays : (f : Flow) (b : Bool) (ws : List Way) (t : Table) (e : ℕ) (bs : List Open) (cs : List Place) (m : Memory) → e ≤ size t
      → Each (LoopIn (size t)) bs → Chained (entries p t) e ws → Outside t cs → Stays (go_on p x f b ws t e bs cs m)
  unfolding go_on
  go_stays Flow.Next b ws t e bs cs m i o c r = ((i, o), r)
  go_stays Flow.Else b ws t e [] cs m i o c r = tt
  go_stays Flow.Else b [] t e (then_do ∷ bs) cs m i o c r = tt
  go_stays Flow.Else b (w ∷ ws) t e (then_do ∷ bs) cs m i o c r = ((c.1, o.1), r)
  go_stays Flow.Else b ws t e (loop a n j ∷ bs) cs m i o c r = tt
  go_stays Flow.End b ws t e [] [] m i o c r = tt
  go_stays Flow.End b ws t e [] (d ∷ cs) m i o c r = r
  go_stays Flow.End b ws t e (then_do ∷ bs) cs m i o c r = ((i, o.1), r)
  go_stays Flow.End b ws t e (loop a n j ∷ bs) cs m i o c r = again_stays t e cs m i r (ltb j n) a n j bs o.0 o.1
  go_stays Flow.Then true ws t e bs cs m i o c r = ((i, (tt, o)), r)
  go_stays Flow.Then false [] t e bs cs m i o c r = tt
  go_stays Flow.Then false (w ∷ ws) t e bs cs m i o c r = over_stays t e cs m i r w.behind_else w.behind_end bs c.2 c.1 o
  go_stays Flow.Stop true ws t e bs cs m i o c r = ((omega arith, tt), refl)
  go_stays Flow.Stop false ws t e bs cs m i o c r = ((i, o), r)
  go_stays (Flow.Loop n) b ws t e bs cs m i o c r = ((i, (i, o)), r)
  go_stays (Flow.Subroutine k) b ws t e bs cs m i o c r = tt
  go_stays (Flow.Call k) b ws t e bs cs m i o c r =
      call_stays t e cs m i r (behind_label k 0 (entries p Table.Three)) b bs (λ q h. omega (arith, (label_behind k 0 q (entries p Table.Three) h).1)) o
  go_stays (Flow.Exit when) b ws t e bs cs m i o c r = exit_stays t e cs m i r (loop_open bs) (beq b when) bs ws o c

  -- ---- a step

  act_stays : (l : List Instruction) (t : Table) (e : ℕ) (bs : List Open) (cs : List Place) (m : Memory) → drop e (entries p t) ≡ l
      → Each (LoopIn (size t)) bs → Outside t cs → Stays (act p x l t e bs cs m)
  unfolding act
  act_stays [] t e [] [] m h o r = tt
  act_stays [] t e [] (c ∷ cs) m h o r = tt
  act_stays [] t e (b ∷ bs) cs m h o r = tt
  act_stays (i ∷ l) t e bs cs m h o r =
      let behind : drop (suc e) (entries p t) ≡ l = drop_next e (entries p t) h in
      go_stays (flow i) (test p x (shift bs) i m) (ways (suc e) l) t (suc e) bs cs (effect p x t (suc e) (shift bs) i m)
      (omega (arith, length-drop e (entries p t), let z : length (drop e (entries p t)) ≡ suc (length l) = ap length h in z))
      o (chained (entries p t) l (suc e) behind) r

  step_stays : (c : Config) → Stays (next c) → Stays (step p x c)
  step_stays c s =
      act_stays (drop c.place.before (entries p c.place.table)) c.place.table c.place.before c.place.blocks c.callers c.memory refl
      s.0.1 s.1

  pub steps_stay : {n : ℕ} {c d : Config} → Steps p x n c d → Stays (next c) → Stays (next d)
  steps_stay here s = s
  steps_stay (onward {c = c} e r) s = steps_stay r (subst Stays e (step_stays c s))
