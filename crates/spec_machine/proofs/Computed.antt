-- A run and a list of calls, computed: what a computation gives, with enough steps for each scan, is what the plain machine leaves. Assumes nothing.
use Rattle.std.proofs.Math.Path.{◌≡◌, refl}
use Rattle.std.proofs.Common.{sym, arith}
use Prim.Native.Nat.{ℕ, zero, suc}
use Rattle.std.specs.Prelude.{Bool, true, false}
use mathlib.Core.List.{List, [], ◌∷◌}
use Rattle.std.proofs.Math.Option.{Option, none, some}
use Rattle.base_program.specs.declared.Program.{Program}
use Rattle.spec_machine.specs.Memory.{Memory}
use Rattle.spec_machine.specs.Values.{Scan}
use Rattle.spec_machine.specs.Machine.{Config, Next, next, done, stuck, step}
use Rattle.spec_machine.specs.Run.{due, scan_of, start, here, onward, Ends}
use Rattle.spec_machine.specs.Calls.{Call, scan, key_location, key_flag, Lengths, refusal, reading_of, MachineScanned, Answering, AfterAll, nothing, and_then}
use Rattle.spec_machine.specs.Computed.{finish_of, finish, scanned, held, then_all, computed}

some_same : {a b : Memory} → some a ≡ some b → a ≡ b
some_same e = cc

not_some : {a : Memory} → none ≡ some a → ⊥
not_some e = let z : ◌≡◌ {A = ℕ} 0 1 = cc in omega arith

-- ---- a run

module _ (p : Program) (x : Scan) where
  pub finish_ends : (f : ℕ) (c : Config) (m : Memory) → finish p x f c ≡ some m → (n : ℕ) × Ends p x c n m
  unfolding finish
  finish_ends zero c m h = by (step p x c) refl h
    where
      by : (y : Next) → step p x c ≡ y → finish_of p x y c.memory (λ d. none) ≡ some m → (n : ℕ) × Ends p x c n m
      by (next d) q g = absurd (not_some g)
      by done q g = (0, record { final = c; steps = here; ended = q; left = some_same g })
      by stuck q g = absurd (not_some g)
  finish_ends (suc f) c m h = by (step p x c) refl h (λ d g. finish_ends f d m g)
    where
      by : (y : Next) → step p x c ≡ y → finish_of p x y c.memory (λ d. finish p x f d) ≡ some m
          → ((d : Config) → finish p x f d ≡ some m → (n : ℕ) × Ends p x d n m) → (n : ℕ) × Ends p x c n m
      by (next d) q g ih =
          let z = ih d g in
          (suc z.0, record { final = z.1.final; steps = onward q z.1.steps; ended = z.1.ended; left = z.1.left })
      by done q g ih = (0, record { final = c; steps = here; ended = q; left = some_same g })
      by stuck q g ih = absurd (not_some g)

-- ---- a list of calls

module _ (p : Program) (n : Lengths) (f : ℕ) where
  held_after : (k : ℕ) (c : Call) (m m' : Memory) → held p n f k c m ≡ some m' → Answering k p c m m'
  held_after zero (scan t day time r) m m' h = by (due p t time) h
    where
      x : Scan
      x = scan_of t day time (reading_of r) m

      by : (b : Bool) → scanned p n f b x m ≡ some m' → MachineScanned b p t day time r m m'
      by true g = finish_ends p x f (start x m) m' g
      by false g = sym (some_same g)
  held_after zero (key_location k v) m m' h = sym (some_same h)
  held_after zero (key_flag g) m m' h = sym (some_same h)
  held_after (suc k) c m m' h = sym (some_same h)

  pub computed_after : (cs : List Call) (m m' : Memory) → computed p n f cs m ≡ some m' → AfterAll p n cs m m'
  unfolding computed
  computed_after [] m m' h = rw (some_same h) nothing
  computed_after (c ∷ cs) m m' h = by (held p n f (refusal p n c) c m) refl h (λ w g. computed_after cs w m' g)
    where
      by : (o : Option Memory) → held p n f (refusal p n c) c m ≡ o → then_all p n f o (λ w. computed p n f cs w) ≡ some m'
          → ((w : Memory) → computed p n f cs w ≡ some m' → AfterAll p n cs w m') → AfterAll p n (c ∷ cs) m m'
      by none q g ih = absurd (let z : ◌≡◌ {A = ℕ} 0 1 = cc in omega arith)
      by (some w) q g ih = and_then (held_after (refusal p n c) c m w q) (ih w g)
