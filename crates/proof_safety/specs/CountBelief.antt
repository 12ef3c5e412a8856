-- What the stated count says, in document 01's words: of entries that close no block but those opened among them (`Level`). Assumes nothing.
use Rattle.std.specs.Prelude.{◌≡◌, ℕ, zero, suc, ◌+◌, ◌*◌, ◌≤◌, true, false, List, [], ◌∷◌, ◌++◌}
use Rattle.std.proofs.Math.Path.{refl, ap}
use Rattle.std.proofs.Common.{sym, ◌∙◌, append_assoc}
use native.Mathlib.Omega.{arith}
use Rattle.base_program.specs.declared.Flow.{Flow}
use Rattle.base_program.specs.declared.Instruction.{Instruction}
use Rattle.base_program.specs.declared.Program.{Program}
use Rattle.base_program.specs.Flow.{flow, opens}
use Rattle.base_laws.specs.Tests.{apart}
use Rattle.spec_check.specs.Blocks.{is, kind}
use Rattle.spec_check.specs.Calls.{body, chain}
use Rattle.spec_check.specs.Counts.{top, rest, added_on, block, count_entry, counts, count, call_count}
use Rattle.proof_check.specs.CallLaws.{depth_enough}
use Rattle.spec_machine.specs.Matching.{Level}

-- what such entries add in front of others: their own count, and nothing behind the next closing End
pub record Adds (f : ℕ → ℕ) (b l : List Instruction) : Type 0 where
  pub here : count f (b ++ l) ≡ count f b + count f l
  pub behind : rest (counts f (b ++ l)) ≡ rest (counts f l)

module _ (f : ℕ → ℕ) where
  -- '1 an entry'; a call '1 + what it adds'
  abbrev pub own : Flow → ℕ
  own (Flow.Call k) = 1 + f k
  own Flow.Next = 1
  own Flow.Else = 1
  own Flow.End = 1
  own Flow.Then = 1
  own Flow.Stop = 1
  own (Flow.Loop n) = 1
  own (Flow.Subroutine k) = 1
  own (Flow.Exit b) = 1

  abbrev pub passes_of : Flow → ℕ
  passes_of (Flow.Loop n) = n
  passes_of (Flow.Call k) = 1
  passes_of Flow.Next = 1
  passes_of Flow.Else = 1
  passes_of Flow.End = 1
  passes_of Flow.Then = 1
  passes_of Flow.Stop = 1
  passes_of (Flow.Subroutine k) = 1
  passes_of (Flow.Exit b) = 1

  plain : (x : Flow) (cs : List ℕ) → opens x ≡ false → is 95 x ≡ false → count_entry f x cs ≡ added_on (own x) cs
  unfolding count_entry opens kind
  plain Flow.Next cs o e = refl
  plain Flow.Else cs o e = refl
  plain Flow.End cs o e = absurd (apart e)
  plain Flow.Then cs o e = absurd (apart o)
  plain Flow.Stop cs o e = refl
  plain (Flow.Loop n) cs o e = absurd (apart o)
  plain (Flow.Subroutine k) cs o e = absurd (apart o)
  plain (Flow.Call k) cs o e = refl
  plain (Flow.Exit b) cs o e = refl

  opening : (x : Flow) (cs : List ℕ) → opens x ≡ true → count_entry f x cs ≡ block (passes_of x) cs
  unfolding count_entry opens
  opening Flow.Next cs o = absurd (apart (sym o))
  opening Flow.Else cs o = absurd (apart (sym o))
  opening Flow.End cs o = absurd (apart (sym o))
  opening Flow.Then cs o = refl
  opening Flow.Stop cs o = absurd (apart (sym o))
  opening (Flow.Loop n) cs o = refl
  opening (Flow.Subroutine k) cs o = refl
  opening (Flow.Call k) cs o = absurd (apart (sym o))
  opening (Flow.Exit b) cs o = absurd (apart (sym o))

  ending : (x : Flow) (cs : List ℕ) → is 95 x ≡ true → count_entry f x cs ≡ 1 ∷ cs
  unfolding count_entry kind
  ending Flow.Next cs e = absurd (apart (sym e))
  ending Flow.Else cs e = absurd (apart (sym e))
  ending Flow.End cs e = refl
  ending Flow.Then cs e = absurd (apart (sym e))
  ending Flow.Stop cs e = absurd (apart (sym e))
  ending (Flow.Loop n) cs e = absurd (apart (sym e))
  ending (Flow.Subroutine k) cs e = absurd (apart (sym e))
  ending (Flow.Call k) cs e = absurd (apart (sym e))
  ending (Flow.Exit b) cs e = absurd (apart (sym e))

  split_sum : (a b c : ℕ) → a + (b + c) ≡ a + b + c
  split_sum a b c = omega arith

  loops : (n : ℕ) → opens (Flow.Loop n) ≡ true
  unfolding opens
  loops n = refl

  thens : opens Flow.Then ≡ true
  unfolding opens
  thens = refl

  -- a block in front of l, where its body adds its count
  block_top : (i e : Instruction) (b r : List Instruction) → opens (flow i) ≡ true → is 95 (flow e) ≡ true → Adds f b (e ∷ r)
      → counts f (i ∷ (b ++ (e ∷ r))) ≡ (1 + passes_of (flow i) * (count f b + 1) + count f r) ∷ rest (counts f r)
  unfolding counts
  block_top i e b r o g a =
      opening (flow i) (counts f (b ++ (e ∷ r))) o
      ∙ ap (λ k. (1 + passes_of (flow i) * k + top (rest (counts f (b ++ (e ∷ r))))) ∷ rest (rest (counts f (b ++ (e ∷ r)))))
      (a.here ∙ ap (λ cs. count f b + top cs) (ending (flow e) (counts f r) g))
      ∙ ap (λ cs. (1 + passes_of (flow i) * (count f b + 1) + top cs) ∷ rest cs)
      (a.behind ∙ ap rest (ending (flow e) (counts f r) g))

  pub level_adds : {b : List Instruction} → Level b → (l : List Instruction) → Adds f b l
  unfolding counts
  level_adds Level.empty l = record { here = omega arith; behind = refl }
  level_adds (Level.entry {i = i} {r = r} o e c) l =
      let a : Adds f r l = level_adds c l in
      record {
        here = ap top (plain (flow i) (counts f (r ++ l)) o e) ∙ ap (λ k. own (flow i) + k) a.here
            ∙ (let g : own (flow i) + (count f r + count f l) ≡ own (flow i) + count f r + count f l = omega arith in g)
            ∙ ap (λ k. k + count f l) (sym (ap top (plain (flow i) (counts f r) o e)));
        behind = ap rest (plain (flow i) (counts f (r ++ l)) o e) ∙ a.behind;
      }
  level_adds (Level.block {o = i} {a = b} {r = r} e o c g d) l =
      let a : Adds f r l = level_adds d l in
      let far : counts f (i ∷ (b ++ (e ∷ (r ++ l)))) ≡ (1 + passes_of (flow i) * (count f b + 1) + count f (r ++ l)) ∷ rest (counts f (r ++ l)) =
      block_top i e b (r ++ l) o g (level_adds c (e ∷ (r ++ l))) in
      let near : counts f (i ∷ (b ++ (e ∷ r))) ≡ (1 + passes_of (flow i) * (count f b + 1) + count f r) ∷ rest (counts f r) =
      block_top i e b r o g (level_adds c (e ∷ r)) in
      let joined : counts f (i ∷ ((b ++ (e ∷ r)) ++ l)) ≡ counts f (i ∷ (b ++ (e ∷ (r ++ l)))) = ap (λ x. counts f (i ∷ x)) (append_assoc b (e ∷ r) l) in
      record {
        here = ap top (joined ∙ far) ∙ ap (λ k. 1 + passes_of (flow i) * (count f b + 1) + k) a.here
            ∙ split_sum (1 + passes_of (flow i) * (count f b + 1)) (count f r) (count f l)
            ∙ ap (λ k. k + count f l) (sym (ap top near));
        behind = ap rest (joined ∙ far) ∙ a.behind;
      }

  -- 'a loop is 1 + count × (body + 1)': the 87, and on each pass its body and its End
  pub count_loop : (n : ℕ) (i e : Instruction) {b : List Instruction} (r : List Instruction) → flow i ≡ Flow.Loop n → is 95 (flow e) ≡ true → Level b
      → count f (i ∷ (b ++ (e ∷ r))) ≡ 1 + n * (count f b + 1) + count f r
  count_loop n i e {b} r h g c =
      ap top (block_top i e b r (ap opens h ∙ loops n) g (level_adds c (e ∷ r)))
      ∙ ap (λ x. 1 + passes_of x * (count f b + 1) + count f r) h

  -- 'Both halves of an If are added': the test, all that stands up to its End, an Else among it, and the End
  pub count_if : (i e : Instruction) {b : List Instruction} (r : List Instruction) → flow i ≡ Flow.Then → is 95 (flow e) ≡ true → Level b
      → count f (i ∷ (b ++ (e ∷ r))) ≡ 1 + (count f b + 1) + count f r
  count_if i e {b} r h g c =
      ap top (block_top i e b r (ap opens h ∙ thens) g (level_adds c (e ∷ r)))
      ∙ ap (λ x. 1 + passes_of x * (count f b + 1) + count f r) h
      ∙ (let m : 1 + 1 * (count f b + 1) + count f r ≡ 1 + (count f b + 1) + count f r = omega arith in m)

  -- '1 an entry; a call adds the count .. of its subroutine's entries after 85'
  pub count_call : (k : ℕ) (i : Instruction) (r : List Instruction) → flow i ≡ Flow.Call k → count f (i ∷ r) ≡ 1 + f k + count f r
  unfolding counts count_entry
  count_call k i r h = ap (λ x. top (count_entry f x (counts f r))) h

-- 'by these same rules': where 19 is not met, what a call adds is the count of the subroutine's entries, with what their own calls add
pub call_counts : (p : Program) (k : ℕ) → chain p 7 k ≡ false → call_count p 7 k ≡ count (call_count p 7) (body p k)
unfolding call_count
call_counts p k h = sym (depth_enough p 7 8 k h (omega arith))
