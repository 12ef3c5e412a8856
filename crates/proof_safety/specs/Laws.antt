-- The run of a scan as a function: from one configuration there is one end, and what a bounded computation of the run gives is that end.
-- Assumes nothing.
use Rattle.std.specs.Prelude.{◌≡◌, refl, ℕ, zero, suc, ◌≤◌, Bool, true, false, List, [], ◌∷◌}
use Rattle.std.proofs.Common.{sym, ap, ◌∙◌, subst, arith}
use Rattle.std.proofs.Math.Option.{Option, none, some}
use Rattle.base_program.specs.declared.Program.{Program}
use Rattle.spec_check.specs.declared.Verdict.{Verdict}
use Rattle.spec_check.specs.Check.{check}
use Rattle.spec_check.specs.Counts.{stated_count}
use Rattle.spec_machine.specs.Memory.{Memory}
use Rattle.spec_machine.specs.Values.{Scan}
use Rattle.spec_machine.specs.Machine.{Config, next, done, table_of, step}
use Rattle.spec_machine.specs.Run.{due, scan_of, start, Steps, here, onward, Ends}
use Rattle.spec_machine.specs.Calls.{Call, scan, key_location, key_flag, Lengths, refusal, reading_of, MachineScanned, Carried, Answering, After, AfterAll, nothing, and_then}
use Rattle.proof_safety.specs.Proof.{safety}

-- ---- one end

same_next : {c d : Config} → next c ≡ next d → c ≡ d
same_next e = cc

not_done : {c : Config} → next c ≡ done → ⊥
not_done e = let z : ◌≡◌ {A = ℕ} 0 1 = cc in omega arith

module _ (p : Program) (x : Scan) where
  -- two runs from one configuration that both end, end in one
  pub one_final : {n k : ℕ} {c d e : Config} → Steps p x n c d → step p x d ≡ done → Steps p x k c e → step p x e ≡ done → d ≡ e
  one_final here h here g = refl
  one_final here h (onward q s) g = absurd (not_done (sym q ∙ h))
  one_final (onward q r) h here g = absurd (not_done (sym q ∙ g))
  one_final {k = suc k} {e = e} (onward q r) h (onward {c = c} w s) g = one_final r h (subst (λ z. Steps p x k z e) (same_next (sym w ∙ q)) s) g

  pub one_end : {n k : ℕ} {c : Config} {m m' : Memory} → Ends p x c n m → Ends p x c k m' → m ≡ m'
  one_end a b = sym a.left ∙ ap (λ d. d.memory) (one_final a.steps a.ended b.steps b.ended) ∙ b.left

-- ---- calls of a passed program

module _ (p : Program) (first second : ℕ) (ok : check p ≡ Verdict.Pass first second) where
  -- what a scan leaves, as a function
  pub run : Scan → Memory → Memory
  run x m = (safety p first second ok x m).0.1

  pub run_ends : (x : Scan) (m : Memory) → (n : ℕ) × Ends p x (start x m) n (run x m) × (n ≤ stated_count p (table_of x.table))
  unfolding run
  run_ends x m = let z = (safety p first second ok x m).0 in (z.0, z.2, z.3)

  pub run_only : (x : Scan) (m m' : Memory) (n : ℕ) → Ends p x (start x m) n m' → m' ≡ run x m
  run_only x m m' n e = one_end p x e (run_ends x m).1

  -- every call leaves one memory, and so does every list of calls
  pub some_after : (n : Lengths) (c : Call) (m : Memory) → (m' : Memory) × After p n c m m'
  some_after n c m = by (refusal p n c)
    where
      carried : (d : Call) → (m' : Memory) × Carried p d m m'
      carried (scan t day time r) = due_or_not (due p t time)
        where
          due_or_not : (b : Bool) → (m' : Memory) × MachineScanned b p t day time r m m'
          due_or_not true = let x : Scan = scan_of t day time (reading_of r) m in let z = run_ends x m in (run x m, (z.0, z.1))
          due_or_not false = (m, refl)
      carried (key_location k v) = (_, refl)
      carried (key_flag f) = (_, refl)

      by : (k : ℕ) → (m' : Memory) × Answering k p c m m'
      by zero = carried c
      by (suc k) = (m, refl)

  pub one_after : (n : Lengths) (c : Call) (m a b : Memory) → After p n c m a → After p n c m b → a ≡ b
  one_after n c m a b = by (refusal p n c)
    where
      carried : (d : Call) → Carried p d m a → Carried p d m b → a ≡ b
      carried (scan t day time r) g₀ h₀ = due_or_not (due p t time) g₀ h₀
        where
          due_or_not : (z : Bool) → MachineScanned z p t day time r m a → MachineScanned z p t day time r m b → a ≡ b
          due_or_not true g h = one_end p (scan_of t day time (reading_of r) m) g.1 h.1
          due_or_not false g h = g ∙ sym h
      carried (key_location k v) g h = g ∙ sym h
      carried (key_flag f) g h = g ∙ sym h

      by : (k : ℕ) → Answering k p c m a → Answering k p c m b → a ≡ b
      by zero g h = carried c g h
      by (suc k) g h = g ∙ sym h

  pub some_after_all : (n : Lengths) (cs : List Call) (m : Memory) → (m' : Memory) × AfterAll p n cs m m'
  some_after_all n [] m = (m, nothing)
  some_after_all n (c ∷ cs) m =
      let z = some_after n c m in
      let y = some_after_all n cs z.0 in
      (y.0, and_then z.1 y.1)

  pub one_after_all : (n : Lengths) {cs : List Call} {m a b : Memory} → AfterAll p n cs m a → AfterAll p n cs m b → a ≡ b
  one_after_all n nothing nothing = refl
  one_after_all n {cs = c ∷ cs} {m = m} {b = b} (and_then g r) (and_then h s) =
      one_after_all n r (subst (λ z. AfterAll p n cs z b) (one_after n c m _ _ h g) s)
