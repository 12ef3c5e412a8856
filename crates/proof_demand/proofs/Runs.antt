-- Each scan of a passed program is safe. The counts that the check answers are the stated counts, and they bound every run: the run that ends is
-- the longest, since each configuration has one step. Assumes nothing.
use Rattle.std.specs.Prelude.{◌≡◌, ℕ, suc, ◌≤◌, ◌++◌}
use Rattle.std.proofs.Common.{sym, ◌∙◌, subst, arith}
use Rattle.base_program.specs.declared.Finding.{Finding}
use Rattle.base_program.specs.declared.Program.{Program}
use Rattle.base_program.specs.declared.Timed.{Timed}
use Rattle.base_program.specs.declared.Timed.TheVariants.{One, Two}
use Rattle.base_program.specs.declared.Table.{Table}
use Rattle.spec_check.specs.declared.Verdict.{Verdict}
use Rattle.spec_check.specs.Check.{check, first_of, verdict, walk_ranges, walk_blocks, walk_reach, walk_chains, walk_sums, walk_counts}
use Rattle.spec_check.specs.Counts.{stated_count}
use Rattle.spec_machine.specs.Memory.{Memory}
use Rattle.spec_machine.specs.Values.{Scan}
use Rattle.spec_machine.specs.Machine.{Config, next, done, table_of, step}
use Rattle.spec_machine.specs.Run.{start, Steps, here, onward}
use Rattle.proof_safety.specs.Proof.{safety}
use Rattle.proof_demand.specs.Demand3.{Safe, stated_for}

same_next : {c d : Config} → next c ≡ next d → c ≡ d
same_next e = cc

not_done : {c : Config} → next c ≡ done → ⊥
not_done e = let z : ◌≡◌ {A = ℕ} 0 1 = cc in omega arith

not_longer : (p : Program) (x : Scan) {n k : ℕ} {c d e : Config} → Steps p x n c d → step p x d ≡ done → Steps p x k c e → k ≤ n
not_longer p x here h here = omega arith
not_longer p x here h (onward q s) = absurd (not_done (sym q ∙ h))
not_longer p x (onward q r) h here = omega arith
not_longer p x {k = suc k} {e = e} (onward q r) h (onward w s) =
    omega (arith, not_longer p x r h (subst (λ z. Steps p x k z e) (same_next (sym w ∙ q)) s))

stated : (p : Program) (first second : ℕ) → check p ≡ Verdict.Pass first second → (first ≡ stated_count p Table.One) × (second ≡ stated_count p Table.Two)
unfolding check
stated p first second =
    by (first_of (walk_ranges p ++ (walk_blocks p ++ (walk_reach p ++ (walk_chains p ++ (walk_sums p ++ walk_counts p)))))) (stated_count p Table.One) (stated_count p Table.Two)
  where
    by : (f : Finding) (n m : ℕ) → verdict f n m ≡ Verdict.Pass first second → (first ≡ n) × (second ≡ m)
    by Finding.Clean n m e = (cc, cc)
    by (Finding.Fault k t i) n m e = absurd (let z : ◌≡◌ {A = ℕ} 0 1 = cc in omega arith)

module _ (p : Program) (first second : ℕ) (ok : check p ≡ Verdict.Pass first second) (x : Scan) (m : Memory) where
  -- every run of a passed program's scan, whether it has ended or not
  pub not_over : (k : ℕ) (c : Config) → Steps p x k (start x m) c → k ≤ stated_for first second x.table
  not_over k c s =
      let z = (safety p first second ok x m).0 in
      omega (arith, not_longer p x z.2.steps z.2.ended s, z.3, stated_for_lem x.table)
    where
      stated_for_lem : (t : Timed) → stated_count p (table_of t) ≡ stated_for first second t
      stated_for_lem One = sym (stated p first second ok).0
      stated_for_lem Two = sym (stated p first second ok).1

  pub safe : Safe p (stated_for first second x.table) x m
  safe =
      let z = safety p first second ok x m in
      record { within = z.1; count = not_over; ends = (z.0.0, z.0.1, z.0.2) }
