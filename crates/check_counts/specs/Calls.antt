-- Where calls add the same up to 60,001, so do counts; and what a call adds goes by what its own calls add. Assumes nothing.
use Rattle.std.specs.Prelude.{◌≡◌, refl, ℕ, suc, ◌+◌, ◌*◌, ◌≤◌, false, List, [], ◌∷◌, map}
use Rattle.std.proofs.Common.{sym, ap, ◌∙◌, arith}
use Rattle.base_program.specs.declared.Flow.{Flow}
use Rattle.base_program.specs.declared.Instruction.{Instruction}
use Rattle.base_program.specs.declared.Program.{Program}
use Rattle.base_program.specs.Flow.{flow, call_of}
use Rattle.spec_check.specs.Calls.{body, chain}
use Rattle.spec_check.specs.Counts.{top, rest, added_on, block, count_entry, counts, count, call_count}
use Rattle.proof_check.specs.CallLaws.{OnCall, AllCalls, all_calls, both_calls, no_call_lem, depth_enough}
use Rattle.check_count.specs.Saturate.{sat, sat_mul}

-- equal up to 60,001
abbrev Alike : List ℕ → List ℕ → Type 0
Alike cs ds = map sat cs ≡ map sat ds

alike_top : (cs ds : List ℕ) → Alike cs ds → sat (top cs) ≡ sat (top ds)
alike_top cs ds h = sym (of cs) ∙ ap top h ∙ of ds
  where
    of : (l : List ℕ) → top (map sat l) ≡ sat (top l)
    of [] = refl
    of (c ∷ l) = refl

alike_rest : (cs ds : List ℕ) → Alike cs ds → Alike (rest cs) (rest ds)
alike_rest cs ds h = sym (of cs) ∙ ap rest h ∙ of ds
  where
    of : (l : List ℕ) → rest (map sat l) ≡ map sat (rest l)
    of [] = refl
    of (c ∷ l) = refl

alike_added_on_lem : (v w : ℕ) (cs ds : List ℕ) → sat v ≡ sat w → Alike cs ds → Alike (added_on v cs) (added_on w ds)
alike_added_on_lem v w cs ds e h =
    ap (λ n. n ∷ map sat (rest cs)) (let t : sat (top cs) ≡ sat (top ds) = alike_top cs ds h in let g : sat (v + top cs) ≡ sat (w + top ds) = omega arith in g)
    ∙ ap (λ l. sat (w + top ds) ∷ l) (alike_rest cs ds h)

alike_block : (n : ℕ) (cs ds : List ℕ) → Alike cs ds → Alike (block n cs) (block n ds)
alike_block n cs ds h =
    ap (λ k. k ∷ map sat (rest (rest cs)))
    (sym (sat_mul 1 n (top cs) (top (rest cs)))
    ∙ ap (λ k. sat (1 + n * k + top (rest cs))) (alike_top cs ds h)
    ∙ (let t : sat (top (rest cs)) ≡ sat (top (rest ds)) = alike_top (rest cs) (rest ds) (alike_rest cs ds h) in
    let g : sat (1 + n * sat (top ds) + top (rest cs)) ≡ sat (1 + n * sat (top ds) + top (rest ds)) = omega arith in
    g)
    ∙ sat_mul 1 n (top ds) (top (rest ds)))
    ∙ ap (λ l. sat (1 + n * top ds + top (rest ds)) ∷ l) (alike_rest (rest cs) (rest ds) (alike_rest cs ds h))

counts_alike : (f g : ℕ → ℕ) (l : List Instruction) → AllCalls (λ j. sat (f j) ≡ sat (g j)) l → Alike (counts f l) (counts g l)
unfolding counts count_entry call_of
counts_alike f g [] a = refl
counts_alike f g (i ∷ r) a = by (flow i) a.0 (counts_alike f g r a.1)
  where
    by : (x : Flow) → OnCall (λ j. sat (f j) ≡ sat (g j)) (call_of x) → Alike (counts f r) (counts g r) → Alike (count_entry f x (counts f r)) (count_entry g x (counts g r))
    by Flow.Next h e = alike_added_on_lem 1 1 (counts f r) (counts g r) refl e
    by Flow.Else h e = alike_added_on_lem 1 1 (counts f r) (counts g r) refl e
    by Flow.End h e = ap (λ l. 1 ∷ l) e
    by Flow.Then h e = alike_block 1 (counts f r) (counts g r) e
    by Flow.Stop h e = alike_added_on_lem 1 1 (counts f r) (counts g r) refl e
    by (Flow.Loop n) h e = alike_block n (counts f r) (counts g r) e
    by (Flow.Subroutine k) h e = alike_block 1 (counts f r) (counts g r) e
    by (Flow.Call k) h e = alike_added_on_lem (1 + f k) (1 + g k) (counts f r) (counts g r) (omega arith) e
    by (Flow.Exit b) h e = alike_added_on_lem 1 1 (counts f r) (counts g r) refl e

pub count_alike : (f g : ℕ → ℕ) (l : List Instruction) → AllCalls (λ j. sat (f j) ≡ sat (g j)) l → sat (count f l) ≡ sat (count g l)
count_alike f g l a = alike_top (counts f l) (counts g l) (counts_alike f g l a)

-- what a call of k adds, by what its own calls add
pub one_level : (p : Program) (g : ℕ → ℕ) (h k : ℕ) → h ≤ 6 → chain p (suc h) k ≡ false
    → AllCalls (λ j. chain p h j ≡ false → g j ≡ sat (call_count p 7 j)) (body p k)
    → sat (count g (body p k)) ≡ sat (call_count p 7 k)
unfolding chain call_count
one_level p g h k small short a =
    count_alike g (call_count p 6) (body p k)
    (all_calls (body p k) by
    (both_calls (λ j. chain p h j ≡ false → g j ≡ sat (call_count p 7 j)) (λ j. chain p h j ≡ false) (body p k) a (no_call_lem (chain p h) (body p k) short)))
  where
    by : (j : ℕ) → (chain p h j ≡ false → g j ≡ sat (call_count p 7 j)) × (chain p h j ≡ false) → sat (g j) ≡ sat (call_count p 6 j)
    by j q =
        let e : g j ≡ sat (call_count p 7 j) = q.0 q.1 in
        let d : call_count p 7 j ≡ call_count p 6 j = depth_enough p h 7 j q.1 (omega arith) ∙ sym (depth_enough p h 6 j q.1 small) in
        omega arith
