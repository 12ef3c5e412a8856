-- What a step reaches is all that it reads and writes: the statement. Assumes nothing.
use Rattle.std.specs.Prelude.{◌≡◌, ℕ}
use Rattle.base_program.specs.declared.Instruction.{Instruction}
use Rattle.base_program.specs.declared.Program.{Program}
use Rattle.base_program.specs.declared.Table.{Table}
use Rattle.base_program.specs.Entries.{slot}
use Rattle.base_program.specs.Reach.{readings}
use Rattle.spec_machine.specs.Memory.{Memory}
use Rattle.spec_machine.specs.Values.{Scan}
use Rattle.spec_machine.specs.Machine.{test, effect}
use Rattle.spec_machine.specs.Limits.{reached_locations, reached_sums, Each}

-- ---- nothing else changes

-- m' has what m has, but for the locations, the sums and the count that the entry reaches
pub record FrameKept (p : Program) (t : Table) (e s : ℕ) (i : Instruction) (m m' : Memory) : Type 0 where
  pub locations : (n : ℕ) → Each (λ k. n ≡ k → ⊥) (reached_locations s i) → m'.cells.locations n ≡ m.cells.locations n
  pub sums : (n : ℕ) → Each (λ k. n ≡ k → ⊥) (reached_sums p t e i) → m'.cells.sums n ≡ m.cells.sums n
  pub counts : (n : ℕ) → (n ≡ slot t e → ⊥) → m'.cells.counts n ≡ m.cells.counts n
  pub last : m'.last ≡ m.last

abbrev pub NothingElseChanges : Type 0
NothingElseChanges =
    (p : Program) (x : Scan) (t : Table) (e s : ℕ) (i : Instruction) (m : Memory) → FrameKept p t e s i m (effect p x t e s i m)

-- ---- nothing else matters

-- two memories that an entry cannot tell apart
pub record Alike (p : Program) (t : Table) (e s : ℕ) (i : Instruction) (m m' : Memory) : Type 0 where
  pub locations : Each (λ k. m.cells.locations k ≡ m'.cells.locations k) (reached_locations s i)
  pub sums : Each (λ k. m.cells.sums k ≡ m'.cells.sums k) (reached_sums p t e i)
  pub counts : m.cells.counts (slot t e) ≡ m'.cells.counts (slot t e)
  pub signals : m.signals ≡ m'.signals
  pub storage : m.storage ≡ m'.storage

-- two scans that an entry cannot tell apart: the readings that it takes are the same
pub record AlikeScan (i : Instruction) (x y : Scan) : Type 0 where
  pub readings : Each (λ k. x.readings k ≡ y.readings k) (readings i)
  pub day : x.day ≡ y.day
  pub time : x.time ≡ y.time
  pub previous : x.previous ≡ y.previous

abbrev pub NothingElseMatters : Type 0
NothingElseMatters =
    (p : Program) (x y : Scan) (t : Table) (e s : ℕ) (i : Instruction) (m m' : Memory) → AlikeScan i x y → Alike p t e s i m m'
    → (test p x s i m ≡ test p y s i m') × Alike p t e s i (effect p x t e s i m) (effect p y t e s i m')
