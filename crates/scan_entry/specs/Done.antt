-- What an entry does: the plain machine's effect on what is held, and where it leads. Assumes nothing.
use Rattle.std.specs.Prelude.{◌≡◌, ℕ, List, Float}
use Rattle.base_program.specs.declared.Instruction.{Instruction}
use Rattle.base_program.specs.declared.Program.{Program}
use Rattle.base_program.specs.declared.Table.{Table}
use Rattle.base_program.specs.Flow.{flow}
use Rattle.spec_machine.specs.Values.{Scan}
use Rattle.spec_buffers.specs.Held.{Held}
use Rattle.spec_buffers.specs.Effects.{test_held, effect_held}
use Rattle.scan_marks.specs.Marks.{Mark}
use Rattle.scan_marks.specs.Move.{Moved, move_to}
use Rattle.scan_entry.specs.Asks.{EntryNumbers, EntryTold}

-- from h to h', and from the place pc with the marks s to the answer r with the marks behind it
pub record Done (k : EntryNumbers) (i : Instruction) (readings : List Float) (h h' : Held) (ends elses subs : List ℕ) (home pc : ℕ) (s : List Mark)
    (r : ℕ) (marks : List ℕ) (top : ℕ) : Type 0 where
  pub effect : (p : Program) (x : Scan) (t : Table) (e : ℕ) → EntryTold p x t e k → h' ≡ effect_held p x readings t e k.shift i h
  pub move : (p : Program) (x : Scan) (t : Table) (e : ℕ) → EntryTold p x t e k
      → Moved (move_to ends elses subs home (flow i) (test_held x k.shift i h) pc s) r marks top
