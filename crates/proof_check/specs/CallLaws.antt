-- What holds of every call of a list of entries; that a count goes by what its calls add, and by nothing behind the End that closes it; and that
-- where chains are short it goes by no depth. Each by recursion on the entries. Assumes nothing.
use Rattle.std.specs.Prelude.{◌≡◌, refl, Bool, cond, ◌||◌}
use Rattle.std.proofs.Common.{ap, ◌∙◌, arith}
use Prim.Native.Nat.{ℕ, zero, suc, ◌+◌, ◌*◌, ◌≤◌}
use Rattle.std.proofs.Math.Bool.{true, false}
use mathlib.Core.List.{List, [], ◌∷◌}
use Rattle.std.proofs.Math.Option.{Option, none, some}
use Rattle.base_program.specs.declared.Flow.{Flow}
use Rattle.base_program.specs.declared.Instruction.{Instruction}
use Rattle.base_program.specs.declared.Program.{Program}
use Rattle.base_program.specs.Flow.{flow, call_of, opens}
use Rattle.spec_check.specs.Blocks.{is, kind, label, same}
use Rattle.spec_check.specs.Calls.{behind, up_to_end, body, any_call, chain}
use Rattle.spec_check.specs.Counts.{top, rest, added_on, block, count_entry, counts, count, call_count}
use Rattle.base_laws.specs.Tests.{neither}

-- ---- what holds of every call

abbrev pub OnCall : (ℕ → Type 0) → Option ℕ → Type 0
OnCall P none = Unit {0}
OnCall P (some j) = P j

abbrev pub AllCalls : (ℕ → Type 0) → List Instruction → Type 0
AllCalls P [] = Unit {0}
AllCalls P (i ∷ r) = OnCall P (call_of (flow i)) × AllCalls P r

pub all_calls : {P Q : ℕ → Type 0} (l : List Instruction) → ((j : ℕ) → P j → Q j) → AllCalls P l → AllCalls Q l
all_calls [] f a = tt
all_calls {P} {Q} (i ∷ r) f a = (on (call_of (flow i)) a.0, all_calls r f a.1)
  where
    on : (o : Option ℕ) → OnCall P o → OnCall Q o
    on none h = tt
    on (some j) h = f j h

pub both_calls : (P Q : ℕ → Type 0) (l : List Instruction) → AllCalls P l → AllCalls Q l → AllCalls (λ j. P j × Q j) l
both_calls P Q [] a b = tt
both_calls P Q (i ∷ r) a b = (on (call_of (flow i)) a.0 b.0, both_calls P Q r a.1 b.1)
  where
    on : (o : Option ℕ) → OnCall P o → OnCall Q o → OnCall (λ j. P j × Q j) o
    on none h k = tt
    on (some j) h k = (h, k)

-- no call for which f holds
pub no_call_lem : (f : ℕ → Bool) (l : List Instruction) → any_call f l ≡ false → AllCalls (λ j. f j ≡ false) l
unfolding any_call
no_call_lem f [] h = tt
no_call_lem f (i ∷ r) h = by (call_of (flow i)) refl (λ e. no_call_lem f r e)
  where
    by : (o : Option ℕ) → call_of (flow i) ≡ o → (any_call f r ≡ false → AllCalls (λ j. f j ≡ false) r)
        → OnCall (λ j. f j ≡ false) (call_of (flow i)) × AllCalls (λ j. f j ≡ false) r
    by none e ih = (rw e tt, ih (rw e at h))
    by (some j) e ih =
        let q : f j || any_call f r ≡ false = rw e at h in
        (rw e (neither (f j) (any_call f r) q).0, ih (neither (f j) (any_call f r) q).1)

module _ (P : ℕ → Type 0) where
  pub calls_behind : (k : ℕ) (l : List Instruction) → AllCalls P l → AllCalls P (behind k l)
  unfolding behind
  calls_behind k [] a = tt
  calls_behind k (i ∷ r) a = by (same (some k) (label (flow i))) (calls_behind k r a.1)
    where
      by : (b : Bool) → AllCalls P (behind k r) → AllCalls P (cond b r (behind k r))
      by true h = a.1
      by false h = h

  pub calls_to_end : (n : ℕ) (l : List Instruction) → AllCalls P l → AllCalls P (up_to_end n l)
  unfolding up_to_end
  calls_to_end n [] a = tt
  calls_to_end zero (i ∷ r) a = (a.0, by (is 95 (flow i)) (calls_to_end (cond (opens (flow i)) 1 0) r a.1))
    where
      by : (b : Bool) → AllCalls P (up_to_end (cond (opens (flow i)) 1 0) r) → AllCalls P (cond b [] (up_to_end (cond (opens (flow i)) 1 0) r))
      by true h = tt
      by false h = h
  calls_to_end (suc n) (i ∷ r) a = (a.0, calls_to_end (cond (is 95 (flow i)) n (cond (opens (flow i)) (suc (suc n)) (suc n))) r a.1)

-- ---- counts by what calls add

-- equal where calls add the same
pub counts_same : (f g : ℕ → ℕ) (l : List Instruction) → AllCalls (λ j. f j ≡ g j) l → counts f l ≡ counts g l
unfolding counts count_entry call_of
counts_same f g [] a = refl
counts_same f g (i ∷ r) a = by (flow i) a.0 ∙ ap (count_entry g (flow i)) (counts_same f g r a.1)
  where
    by : (x : Flow) → OnCall (λ j. f j ≡ g j) (call_of x) → count_entry f x (counts f r) ≡ count_entry g x (counts f r)
    by Flow.Next h = refl
    by Flow.Else h = refl
    by Flow.End h = refl
    by Flow.Then h = refl
    by Flow.Stop h = refl
    by (Flow.Loop n) h = refl
    by (Flow.Subroutine k) h = refl
    by (Flow.Call k) h = ap (λ n. added_on (1 + n) (counts f r)) h
    by (Flow.Exit b) h = refl

-- ---- nothing behind the closing End counts

abbrev Agree : ℕ → List ℕ → List ℕ → Type 0
Agree zero cs ds = Unit {0}
Agree (suc n) cs ds = (top cs ≡ top ds) × Agree n (rest cs) (rest ds)

agree_refl : (n : ℕ) (cs : List ℕ) → Agree n cs cs
agree_refl zero cs = tt
agree_refl (suc n) cs = (refl, agree_refl n (rest cs))

agree_counting : (n w : ℕ) (cs ds : List ℕ) → Agree (suc n) cs ds → Agree (suc n) (added_on w cs) (added_on w ds)
agree_counting n w cs ds a = (ap (λ k. w + k) a.0, a.1)

agree_block : (n m : ℕ) (cs ds : List ℕ) → Agree (suc (suc n)) cs ds → Agree (suc n) (block m cs) (block m ds)
agree_block n m cs ds a = (ap (λ k. 1 + m * k + top (rest cs)) a.0 ∙ ap (λ k. 1 + m * top ds + k) a.1.0, a.1.1)

module _ (f : ℕ → ℕ) (r : List Instruction) (ih : (n : ℕ) → Agree (suc n) (counts f r) (counts f (up_to_end n r))) where
  cut_first : (x : Flow) → Agree 1 (count_entry f x (counts f r)) (count_entry f x (counts f (cond (is 95 x) [] (up_to_end (cond (opens x) 1 0) r))))
  unfolding count_entry kind opens counts
  cut_first Flow.Next = agree_counting 0 1 (counts f r) (counts f (up_to_end 0 r)) (ih 0)
  cut_first Flow.Else = agree_counting 0 1 (counts f r) (counts f (up_to_end 0 r)) (ih 0)
  cut_first Flow.End = (refl, tt)
  cut_first Flow.Then = agree_block 0 1 (counts f r) (counts f (up_to_end 1 r)) (ih 1)
  cut_first Flow.Stop = agree_counting 0 1 (counts f r) (counts f (up_to_end 0 r)) (ih 0)
  cut_first (Flow.Loop m) = agree_block 0 m (counts f r) (counts f (up_to_end 1 r)) (ih 1)
  cut_first (Flow.Subroutine k) = agree_block 0 1 (counts f r) (counts f (up_to_end 1 r)) (ih 1)
  cut_first (Flow.Call k) = agree_counting 0 (1 + f k) (counts f r) (counts f (up_to_end 0 r)) (ih 0)
  cut_first (Flow.Exit b) = agree_counting 0 1 (counts f r) (counts f (up_to_end 0 r)) (ih 0)

  cut_inner : (n : ℕ) (x : Flow)
      → Agree (suc (suc n)) (count_entry f x (counts f r)) (count_entry f x (counts f (up_to_end (cond (is 95 x) n (cond (opens x) (suc (suc n)) (suc n))) r)))
  unfolding count_entry kind opens
  cut_inner n Flow.Next = agree_counting (suc n) 1 (counts f r) (counts f (up_to_end (suc n) r)) (ih (suc n))
  cut_inner n Flow.Else = agree_counting (suc n) 1 (counts f r) (counts f (up_to_end (suc n) r)) (ih (suc n))
  cut_inner n Flow.End = (refl, ih n)
  cut_inner n Flow.Then = agree_block (suc n) 1 (counts f r) (counts f (up_to_end (suc (suc n)) r)) (ih (suc (suc n)))
  cut_inner n Flow.Stop = agree_counting (suc n) 1 (counts f r) (counts f (up_to_end (suc n) r)) (ih (suc n))
  cut_inner n (Flow.Loop m) = agree_block (suc n) m (counts f r) (counts f (up_to_end (suc (suc n)) r)) (ih (suc (suc n)))
  cut_inner n (Flow.Subroutine k) = agree_block (suc n) 1 (counts f r) (counts f (up_to_end (suc (suc n)) r)) (ih (suc (suc n)))
  cut_inner n (Flow.Call k) = agree_counting (suc n) (1 + f k) (counts f r) (counts f (up_to_end (suc n) r)) (ih (suc n))
  cut_inner n (Flow.Exit b) = agree_counting (suc n) 1 (counts f r) (counts f (up_to_end (suc n) r)) (ih (suc n))

cut : (f : ℕ → ℕ) (n : ℕ) (l : List Instruction) → Agree (suc n) (counts f l) (counts f (up_to_end n l))
unfolding counts up_to_end
cut f zero [] = agree_refl 1 []
cut f (suc n) [] = agree_refl (suc (suc n)) []
cut f zero (i ∷ r) = cut_first f r (λ n. cut f n r) (flow i)
cut f (suc n) (i ∷ r) = cut_inner f r (λ m. cut f m r) n (flow i)

pub count_to_end : (f : ℕ → ℕ) (l : List Instruction) → count f l ≡ count f (up_to_end 0 l)
count_to_end f l = (cut f 0 l).0

-- ---- where chains are short, depth does not matter

pub depth_enough : (p : Program) (n m k : ℕ) → chain p n k ≡ false → n ≤ m → call_count p m k ≡ call_count p n k
unfolding chain call_count
depth_enough p zero m k h l = absurd (let z : ◌≡◌ {A = ℕ} 1 0 = ap (λ c. cond c 1 0) h in omega arith)
depth_enough p (suc n) zero k h l = absurd (omega arith)
depth_enough p (suc n) (suc m) k h l =
    ap top
    (counts_same (call_count p m) (call_count p n) (body p k)
    (all_calls (body p k) (λ j e. depth_enough p n m j e (omega arith)) (no_call_lem (chain p n) (body p k) h)))
