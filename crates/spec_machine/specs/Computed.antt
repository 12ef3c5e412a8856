-- A run and a list of calls, computed: with enough steps for each scan. Assumes nothing.
use Prim.Native.Nat.{ℕ, zero, suc}
use Rattle.std.specs.Prelude.{Bool, true, false, not}
use mathlib.Core.List.{List, [], ◌∷◌}
use Rattle.std.proofs.Math.Option.{Option, none, some}
use Rattle.base_program.specs.declared.Program.{Program}
use Rattle.spec_machine.specs.Memory.{Memory, set_location, set_flag}
use Rattle.spec_machine.specs.Values.{Scan}
use Rattle.spec_machine.specs.Machine.{Config, Next, next, done, stuck, step}
use Rattle.spec_machine.specs.Run.{due, scan_of, start}
use Rattle.spec_machine.specs.Calls.{Call, scan, key_location, key_flag, Lengths, refusal, reading_of}

-- ---- a run

module _ (p : Program) (x : Scan) where
  abbrev pub finish_of : Next → Memory → (Config → Option Memory) → Option Memory
  finish_of done m go = some m
  finish_of stuck m go = none
  finish_of (next d) m go = go d

  -- what the run from c leaves, if it ends within f steps
  unfoldable pub finish : ℕ → Config → Option Memory
  finish zero c = finish_of (step p x c) c.memory (λ d. none)
  finish (suc f) c = finish_of (step p x c) c.memory (λ d. finish f d)

-- ---- a list of calls

module _ (p : Program) (n : Lengths) (f : ℕ) where
  abbrev pub scanned : Bool → Scan → Memory → Option Memory
  scanned true x m = finish p x f (start x m)
  scanned false x m = some m

  abbrev pub carried : Call → Memory → Option Memory
  carried (scan t day time r) m = scanned (due p t time) (scan_of t day time (reading_of r) m) m
  carried (key_location k v) m = some (set_location k v m)
  carried (key_flag g) m = some (set_flag g (not (m.signals.flags g)) m)

  abbrev pub held : ℕ → Call → Memory → Option Memory
  held zero c m = carried c m
  held (suc k) c m = some m

  abbrev pub then_all : Option Memory → (Memory → Option Memory) → Option Memory
  then_all none go = none
  then_all (some m) go = go m

  -- what the calls leave, if each scan ends within f steps
  unfoldable pub computed : List Call → Memory → Option Memory
  computed [] m = some m
  computed (c ∷ cs) m = then_all (held (refusal p n c) c m) (λ m'. computed cs m')
