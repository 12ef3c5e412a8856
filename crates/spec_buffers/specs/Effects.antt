-- The test and the effect of an entry on what is held: the plain machine's, with lists in place of functions. Assumes nothing.
use Rattle.std.specs.Prelude.{ℕ, ◌+◌, Bool, true, false, cond, List, get_or, set, eqb, ltb, Float}
use Rattle.std.specs.Bool.{beq}
use Rattle.std.specs.Float.{binary32}
use Rattle.std.specs.Float.Ieee.{add, sub, mul, div}
use Rattle.base_program.specs.declared.Command.{Command}
use Rattle.base_program.specs.declared.Command.TheVariants.{Stop, Call, Raise, Lower, Then, ExitIfTrue, ExitIfFalse, PortHigh, PortLow}
use Rattle.base_program.specs.declared.Instruction.{Instruction}
use Rattle.base_program.specs.declared.Instruction.TheVariants.{End, Else, MeasureSingle, MeasureDifferential, SetFixed, Copy, Increment, Add, AddFixed, Subtract, Multiply, MultiplyFixed, Divide, Sample, Average, Total, Maximum, Minimum, StoreTime, Subroutine, Do, Loop, IfLocations, IfFixed, IfFlag, IfTime}
use Rattle.base_program.specs.declared.Program.{Program}
use Rattle.base_program.specs.declared.Table.{Table}
use Rattle.base_program.specs.Entries.{slot, first_sum}
use Rattle.spec_machine.specs.Values.{Scan, one_float, holds, time_is}
use Rattle.base_program.specs.Reach.{moved}
use Rattle.spec_machine.specs.Output.{Statistic, average, total, maximum, minimum, clock}
use Rattle.spec_machine.specs.Machine.{array_id}
use Rattle.spec_buffers.specs.Held.{Held, Out}
use Rattle.spec_buffers.specs.Cells.{load_at, store_at, store_each, single_value, differential_value}
use Rattle.spec_buffers.specs.Output.{sample_out, time_out, take_sums, store_out, clear_sums, set_port_at, begin_out}

-- ---- one part of what is held

abbrev pub on_locations : (List Float → List Float) → Held → Held
on_locations f h = record { locations = f h.locations; sums = h.sums; counts = h.counts; flags = h.flags; ports = h.ports; out = h.out }

abbrev pub on_out : (Out → Out) → Held → Held
on_out f h = record { locations = h.locations; sums = h.sums; counts = h.counts; flags = h.flags; ports = h.ports; out = f h.out }

abbrev pub on_sums : List Float → List ℕ → Out → Held → Held
on_sums u c o h = record { locations = h.locations; sums = u; counts = c; flags = h.flags; ports = h.ports; out = o }

abbrev pub on_flags : List Bool → List Bool → Out → Held → Held
on_flags f q o h = record { locations = h.locations; sums = h.sums; counts = h.counts; flags = f; ports = q; out = o }

abbrev pub flag_of : Held → ℕ → Bool
flag_of h f = get_or h.flags f false

-- ---- 71 to 74: the entry has n sums from s on and the count c; the locations from `at` on

abbrev pub count_of : ℕ → Held → ℕ
count_of c h = get_or h.counts c 0

unfoldable pub take_held : Statistic → ℕ → ℕ → ℕ → ℕ → Held → Held
take_held q n s c at h =
    cond (flag_of h 9) h
    (cond (ltb (count_of c h) 16777215)
    (on_sums (take_sums q n s (count_of c h) h.locations at h.sums) (set h.counts c (count_of c h + 1)) h.out h)
    h)

unfoldable pub store_held : Statistic → ℕ → ℕ → ℕ → Held → Held
store_held q n s c h =
    cond (flag_of h 0) (on_sums (clear_sums n s h.sums) (set h.counts c 0) (store_out q n s (count_of c h) h.sums h.out) h) h

abbrev pub statistic_held : Statistic → ℕ → ℕ → ℕ → ℕ → Held → Held
statistic_held q n s c at h = store_held q n s c (take_held q n s c at h)

-- ---- commands, in the entry with this id

unfoldable pub raise_held : ℕ → ℕ → Held → Held
raise_held id f h = on_flags (set h.flags f true) h.ports (cond (eqb f 0) (begin_out id h.out) h.out) h

unfoldable pub command_held : ℕ → Command → Held → Held
command_held id Stop h = h
command_held id (Call k) h = h
command_held id (Raise f) h = raise_held id f h
command_held id (Lower f) h = on_flags (set h.flags f false) h.ports h.out h
command_held id Then h = h
command_held id ExitIfTrue h = h
command_held id ExitIfFalse h = h
command_held id (PortHigh q) h = on_flags h.flags (set_port_at q true h.ports) h.out h
command_held id (PortLow q) h = on_flags h.flags (set_port_at q false h.ports) h.out h

abbrev pub command_held_if : Bool → ℕ → Command → Held → Held
command_held_if b id c h = cond b (command_held id c h) h

-- ---- an entry

-- what a scan's entries read beside what is held: the table's tick, the table's previous scan, and the readings lent
unfoldable pub test_held : Scan → ℕ → Instruction → Held → Bool
test_held x s End h = true
test_held x s Else h = true
test_held x s (MeasureSingle n range channel location scale) h = true
test_held x s (MeasureDifferential n range channel location scale) h = true
test_held x s (SetFixed f z) h = true
test_held x s (Copy a z) h = true
test_held x s (Increment z) h = true
test_held x s (Add a b z) h = true
test_held x s (AddFixed a f z) h = true
test_held x s (Subtract a b z) h = true
test_held x s (Multiply a b z) h = true
test_held x s (MultiplyFixed a f z) h = true
test_held x s (Divide a b z) h = true
test_held x s (Sample n l) h = true
test_held x s (Average n l) h = true
test_held x s (Total n l) h = true
test_held x s (Maximum n l) h = true
test_held x s (Minimum n l) h = true
test_held x s (StoreTime code) h = true
test_held x s (Subroutine k) h = true
test_held x s (Do c) h = true
test_held x s (Loop delay count) h = true
test_held x s (IfLocations a r b c) h = holds r (load_at h.locations (moved s a)) (load_at h.locations (moved s b))
test_held x s (IfFixed a r f c) h = holds r (load_at h.locations (moved s a)) f
test_held x s (IfFlag f high c) h = beq (flag_of h f) high
test_held x s (IfTime into interval c) h = time_is x into interval

-- the sums and the count of entry e of table t
abbrev pub statistic_at : Program → Statistic → Table → ℕ → ℕ → ℕ → Held → Held
statistic_at p q t e n at h = statistic_held q n (first_sum p t e) (slot t e) at h

-- r are the readings lent
unfoldable pub effect_held : Program → Scan → List Float → Table → ℕ → ℕ → Instruction → Held → Held
effect_held p x r t e s End h = h
effect_held p x r t e s Else h = h
effect_held p x r t e s (MeasureSingle n range channel location scale) h =
    on_locations (store_each n (moved s location) (single_value r channel.0 scale)) h
effect_held p x r t e s (MeasureDifferential n range channel location scale) h =
    on_locations (store_each n (moved s location) (differential_value r channel.0 scale)) h
effect_held p x r t e s (SetFixed f z) h = on_locations (store_at (moved s z) f) h
effect_held p x r t e s (Copy a z) h = on_locations (store_at (moved s z) (load_at h.locations (moved s a))) h
effect_held p x r t e s (Increment z) h = on_locations (store_at (moved s z) (add binary32 (load_at h.locations (moved s z)) one_float)) h
effect_held p x r t e s (Add a b z) h =
    on_locations (store_at (moved s z) (add binary32 (load_at h.locations (moved s a)) (load_at h.locations (moved s b)))) h
effect_held p x r t e s (AddFixed a f z) h = on_locations (store_at (moved s z) (add binary32 (load_at h.locations (moved s a)) f)) h
effect_held p x r t e s (Subtract a b z) h =
    on_locations (store_at (moved s z) (sub binary32 (load_at h.locations (moved s a)) (load_at h.locations (moved s b)))) h
effect_held p x r t e s (Multiply a b z) h =
    on_locations (store_at (moved s z) (mul binary32 (load_at h.locations (moved s a)) (load_at h.locations (moved s b)))) h
effect_held p x r t e s (MultiplyFixed a f z) h = on_locations (store_at (moved s z) (mul binary32 (load_at h.locations (moved s a)) f)) h
effect_held p x r t e s (Divide a b z) h =
    on_locations (store_at (moved s z) (div binary32 (load_at h.locations (moved s a)) (load_at h.locations (moved s b)))) h
effect_held p x r t e s (Sample n l) h = cond (flag_of h 0) (on_out (sample_out h.locations n (moved s l)) h) h
effect_held p x r t e s (Average n l) h = statistic_at p average t e n (moved s l) h
effect_held p x r t e s (Total n l) h = statistic_at p total t e n (moved s l) h
effect_held p x r t e s (Maximum n l) h = statistic_at p maximum t e n (moved s l) h
effect_held p x r t e s (Minimum n l) h = statistic_at p minimum t e n (moved s l) h
effect_held p x r t e s (StoreTime code) h = cond (flag_of h 0) (on_out (time_out code x.day (clock x)) h) h
effect_held p x r t e s (Subroutine k) h = h
effect_held p x r t e s (Do c) h = command_held_if true (array_id t e) c h
effect_held p x r t e s (Loop delay count) h = h
effect_held p x r t e s (IfLocations a k b c) h = command_held_if (test_held x s (IfLocations a k b c) h) (array_id t e) c h
effect_held p x r t e s (IfFixed a k f c) h = command_held_if (test_held x s (IfFixed a k f c) h) (array_id t e) c h
effect_held p x r t e s (IfFlag f high c) h = command_held_if (test_held x s (IfFlag f high c) h) (array_id t e) c h
effect_held p x r t e s (IfTime into interval c) h = command_held_if (test_held x s (IfTime into interval c) h) (array_id t e) c h
