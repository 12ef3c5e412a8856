-- The plain machine: places, open blocks, and what one entry does. It knows no limits. Assumes nothing.
use Rattle.std.specs.Prelude.{ℕ, suc, ◌+◌, ◌*◌, ◌-◌, Bool, true, false, cond, List, [], ◌∷◌, length, drop, ltb}
use Rattle.std.specs.Bool.{beq}
use Rattle.std.proofs.Math.Option.{Option, none, some}
use Rattle.std.specs.Float.{binary32}
use Rattle.std.specs.Float.Ieee.{add, sub, mul, div}
use Rattle.base_program.specs.declared.Flow.{Flow}
use Rattle.base_program.specs.declared.Command.{Command}
use Rattle.base_program.specs.declared.Instruction.{Instruction}
use Rattle.base_program.specs.declared.Instruction.TheVariants.{End, Else, MeasureSingle, MeasureDifferential, SetFixed, Copy, Increment, Add, AddFixed, Subtract, Multiply, MultiplyFixed, Divide, Sample, Average, Total, Maximum, Minimum, StoreTime, Subroutine, Do, Loop, IfLocations, IfFixed, IfFlag, IfTime}
use Rattle.base_program.specs.declared.Program.{Program}
use Rattle.base_program.specs.declared.Table.{Table}
use Rattle.base_program.specs.declared.Timed.{Timed}
use Rattle.base_program.specs.declared.Timed.TheVariants.{One, Two}
use Rattle.base_program.specs.Flow.{flow}
use Rattle.base_program.specs.Entries.{row, slot, entries, first_sum}
use Rattle.spec_machine.specs.Memory.{Memory}
use Rattle.spec_machine.specs.Values.{Scan, load, store, measure_single, measure_differential, one_float, holds, time_is}
use Rattle.base_program.specs.Reach.{moved}
use Rattle.spec_machine.specs.Output.{commanded, when_output, sample, write_time, Statistic, average, total, maximum, minimum, statistic}
use Rattle.spec_machine.specs.Ends.{Way, ways, behind_label}

-- ---- configurations

-- A Then Do, in either half; a loop, with the place behind its 87, its count and the pass that it is on, from 1.
pub data Open : Type 0 where
  then_do : Open
  loop : ℕ → ℕ → ℕ → Open

-- a place: a table, how many of its entries stand before, and the blocks open in this table or subroutine, innermost first
pub record Place : Type 0 where
  pub table : Table
  pub before : ℕ
  pub blocks : List Open

-- where the scan is, the places behind the calls that it is in, innermost first, and the memory
pub record Config : Type 0 where
  pub place : Place
  pub callers : List Place
  pub memory : Memory

abbrev pub place_at : Table → ℕ → List Open → Place
place_at t e bs = record { table = t; before = e; blocks = bs }

abbrev pub at : Table → ℕ → List Open → List Place → Memory → Config
at t e bs cs m = record { place = place_at t e bs; callers = cs; memory = m }

pub data Next : Type 0 where
  next : Config → Next
  -- the scan has ended
  done : Next
  -- 'no next step'
  stuck : Next

-- 'on pass p of the innermost loop open in its own table or subroutine .. moved up by p - 1; outside a loop by 0'
unfoldable pub shift : List Open → ℕ
shift [] = 0
shift (then_do ∷ bs) = shift bs
shift (loop a n p ∷ bs) = p - 1

unfoldable pub loop_open : List Open → Bool
loop_open [] = false
loop_open (then_do ∷ bs) = loop_open bs
loop_open (loop a n p ∷ bs) = true

abbrev pub table_of : Timed → Table
table_of One = Table.One
table_of Two = Table.Two

-- ---- what one entry tests and does

-- 'table × 100 + entry'
abbrev pub array_id : Table → ℕ → ℕ
array_id t e = (row t + 1) * 100 + e

module _ (p : Program) (x : Scan) where
  -- the test of an entry, with indexed locations moved up by s; '86 is always true'
  unfoldable pub test : ℕ → Instruction → Memory → Bool
  test s End m = true
  test s Else m = true
  test s (MeasureSingle reps range channel location scale) m = true
  test s (MeasureDifferential reps range channel location scale) m = true
  test s (SetFixed f z) m = true
  test s (Copy a z) m = true
  test s (Increment z) m = true
  test s (Add a b z) m = true
  test s (AddFixed a f z) m = true
  test s (Subtract a b z) m = true
  test s (Multiply a b z) m = true
  test s (MultiplyFixed a f z) m = true
  test s (Divide a b z) m = true
  test s (Sample reps l) m = true
  test s (Average reps l) m = true
  test s (Total reps l) m = true
  test s (Maximum reps l) m = true
  test s (Minimum reps l) m = true
  test s (StoreTime code) m = true
  test s (Subroutine k) m = true
  test s (Do c) m = true
  test s (Loop delay count) m = true
  test s (IfLocations a r b c) m = holds r (load (moved s a) m) (load (moved s b) m)
  test s (IfFixed a r f c) m = holds r (load (moved s a) m) f
  test s (IfFlag f high c) m = beq (m.signals.flags f) high
  test s (IfTime into interval c) m = time_is x into interval

  -- a command that is carried out if this is true
  abbrev pub command_if : Bool → Table → ℕ → Command → Memory → Memory
  command_if b t e c m = cond b (commanded (array_id t e) c m) m

  -- 71 to 74: 'each take reps sums, handed out in entry order .., and one sample count for the entry'
  abbrev pub statistic_of : Statistic → Table → ℕ → ℕ → ℕ → Memory → Memory
  statistic_of q t e n l m = statistic q n (first_sum p t e) (slot t e) l m

  -- what entry e of table t does to the memory
  unfoldable pub effect : Table → ℕ → ℕ → Instruction → Memory → Memory
  effect t e s End m = m
  effect t e s Else m = m
  effect t e s (MeasureSingle reps range channel location scale) m = measure_single x reps channel.0 (moved s location) scale m
  effect t e s (MeasureDifferential reps range channel location scale) m =
      measure_differential x reps channel.0 (moved s location) scale m
  effect t e s (SetFixed f z) m = store (moved s z) f m
  effect t e s (Copy a z) m = store (moved s z) (load (moved s a) m) m
  effect t e s (Increment z) m = store (moved s z) (add binary32 (load (moved s z) m) one_float) m
  effect t e s (Add a b z) m = store (moved s z) (add binary32 (load (moved s a) m) (load (moved s b) m)) m
  effect t e s (AddFixed a f z) m = store (moved s z) (add binary32 (load (moved s a) m) f) m
  effect t e s (Subtract a b z) m = store (moved s z) (sub binary32 (load (moved s a) m) (load (moved s b) m)) m
  effect t e s (Multiply a b z) m = store (moved s z) (mul binary32 (load (moved s a) m) (load (moved s b) m)) m
  effect t e s (MultiplyFixed a f z) m = store (moved s z) (mul binary32 (load (moved s a) m) f) m
  effect t e s (Divide a b z) m = store (moved s z) (div binary32 (load (moved s a) m) (load (moved s b) m)) m
  effect t e s (Sample reps l) m = sample reps (moved s l) m
  effect t e s (Average reps l) m = statistic_of average t e reps (moved s l) m
  effect t e s (Total reps l) m = statistic_of total t e reps (moved s l) m
  effect t e s (Maximum reps l) m = statistic_of maximum t e reps (moved s l) m
  effect t e s (Minimum reps l) m = statistic_of minimum t e reps (moved s l) m
  effect t e s (StoreTime code) m = when_output (write_time x code) m
  effect t e s (Subroutine k) m = m
  effect t e s (Do c) m = command_if true t e c m
  effect t e s (Loop delay count) m = m
  effect t e s (IfLocations a r b c) m = command_if (test s (IfLocations a r b c) m) t e c m
  effect t e s (IfFixed a r f c) m = command_if (test s (IfFixed a r f c) m) t e c m
  effect t e s (IfFlag f high c) m = command_if (test s (IfFlag f high c) m) t e c m
  effect t e s (IfTime into interval c) m = command_if (test s (IfTime into interval c) m) t e c m

-- ---- where it goes on

-- 'a false command 30 goes past its Else, its block open, or with no Else past its End'
abbrev pub pass_over : Option ℕ → ℕ → Table → List Open → List Place → Memory → Next
pass_over (some q) e t bs cs m = next (at t q (then_do ∷ bs) cs m)
pass_over none e t bs cs m = next (at t e bs cs m)

abbrev pub if_false : List Way → Table → List Open → List Place → Memory → Next
if_false [] t bs cs m = stuck
if_false (w ∷ ws) t bs cs m = pass_over w.behind_else w.behind_end t bs cs m

-- 'an Else reached goes past its End'
abbrev pub past_end : List Way → Table → List Open → List Place → Memory → Next
past_end [] t bs cs m = stuck
past_end (w ∷ ws) t bs cs m = next (at t w.behind_end bs cs m)

-- 'an exit goes past the innermost own loop's End'; 'Passing an End closes its block and all in it.'
unfoldable pub leave : List Open → List Way → Table → List Place → Memory → Next
leave [] ws t cs m = stuck
leave (b ∷ bs) [] t cs m = stuck
leave (then_do ∷ bs) (w ∷ ws) t cs m = leave bs ws t cs m
leave (loop a n j ∷ bs) (w ∷ ws) t cs m = next (at t w.behind_end bs cs m)

-- 31 and 32: 'no next step .. with no block of its kind open'
abbrev pub exit : Bool → Bool → List Way → Table → ℕ → List Open → List Place → Memory → Next
exit false taken ws t e bs cs m = stuck
exit true true ws t e bs cs m = leave bs ws t cs m
exit true false ws t e bs cs m = next (at t e bs cs m)

-- 'a subroutine call goes past its 85': with nothing open there; 'no next step .. to a call of a number that no 85 has'
abbrev pub call : Option ℕ → Bool → Table → ℕ → List Open → List Place → Memory → Next
call none taken t e bs cs m = stuck
call (some q) true t e bs cs m = next (at Table.Three q [] (place_at t e bs ∷ cs) m)
call (some q) false t e bs cs m = next (at t e bs cs m)

-- 'the 95 that closes that goes back behind the call'
abbrev pub back : List Place → Memory → Next
back [] m = stuck
back (c ∷ cs) m = next (record { place = c; callers = cs; memory = m })

-- 'a loop's 95 goes back behind its 87 while passes are left'
abbrev pub again : Bool → ℕ → ℕ → ℕ → Table → ℕ → List Open → List Place → Memory → Next
again true a n j t e bs cs m = next (at t a (loop a n (suc j) ∷ bs) cs m)
again false a n j t e bs cs m = next (at t e bs cs m)

module _ (p : Program) (x : Scan) where
  -- 'command 0 ends the scan': it goes to the end of the table scanned, with nothing open
  abbrev pub stop : Memory → Next
  stop m = next (at (table_of x.table) (length (entries p (table_of x.table))) [] [] m)

  -- An entry of this kind, whose test came out so: where it goes. The place behind it is e of table t, from where the ways are ws.
  unfoldable pub go_on : Flow → Bool → List Way → Table → ℕ → List Open → List Place → Memory → Next
  go_on Flow.Next b ws t e bs cs m = next (at t e bs cs m)
  go_on Flow.Else b ws t e [] cs m = stuck
  go_on Flow.Else b ws t e (then_do ∷ bs) cs m = past_end ws t bs cs m
  go_on Flow.Else b ws t e (loop a n j ∷ bs) cs m = stuck
  go_on Flow.End b ws t e [] cs m = back cs m
  go_on Flow.End b ws t e (then_do ∷ bs) cs m = next (at t e bs cs m)
  go_on Flow.End b ws t e (loop a n j ∷ bs) cs m = again (ltb j n) a n j t e bs cs m
  go_on Flow.Then true ws t e bs cs m = next (at t e (then_do ∷ bs) cs m)
  go_on Flow.Then false ws t e bs cs m = if_false ws t bs cs m
  go_on Flow.Stop true ws t e bs cs m = stop m
  go_on Flow.Stop false ws t e bs cs m = next (at t e bs cs m)
  go_on (Flow.Loop n) b ws t e bs cs m = next (at t e (loop e n 1 ∷ bs) cs m)
  go_on (Flow.Subroutine k) b ws t e bs cs m = stuck
  go_on (Flow.Call k) b ws t e bs cs m = call (behind_label k 0 (entries p Table.Three)) b t e bs cs m
  go_on (Flow.Exit when) b ws t e bs cs m = exit (loop_open bs) (beq b when) ws t e bs cs m

  -- 'A step carries out one entry': the first of these, which stand behind e entries of table t. 'a table's end with nothing open' ends the scan.
  unfoldable pub act : List Instruction → Table → ℕ → List Open → List Place → Memory → Next
  act [] t e [] [] m = done
  act [] t e [] (c ∷ cs) m = stuck
  act [] t e (b ∷ bs) cs m = stuck
  act (i ∷ r) t e bs cs m =
      go_on (flow i) (test p x (shift bs) i m) (ways (suc e) r) t (suc e) bs cs (effect p x t (suc e) (shift bs) i m)

  abbrev pub step : Config → Next
  step c = act (drop c.place.before (entries p c.place.table)) c.place.table c.place.before c.place.blocks c.callers c.memory
