-- Where the walk of blocks finds nothing, a subroutine's body is what stands between its 85 and the next one: no 85 stands where a block is
-- open, and every other entry does. By recursion on the entries, with the blocks that are open. Assumes nothing.
use Rattle.std.specs.Prelude.{◌≡◌, refl, Bool, true, false, not, ◌&&◌, ◌||◌, length, get_or, take, drop}
use Rattle.std.proofs.Common.{sym, ◌∙◌, eq-eqb}
use Rattle.std.proofs.Math.Path.{ap, subst}
use Prim.Native.Nat.{ℕ, zero, suc, ◌+◌, ◌-◌, ◌<◌}
use native.Mathlib.Omega.{arith}
use Rattle.std.proofs.Math.Bool.{cond}
use mathlib.Core.List.{List, [], ◌∷◌}
use Rattle.std.proofs.Math.Option.{none, some}
use Rattle.std.proofs.Math.Dec.{eqb-suc-zero}
use Rattle.base_program.specs.declared.Flow.{Flow}
use Rattle.base_program.specs.declared.Instruction.{Instruction}
use Rattle.base_program.specs.declared.Program.{Program}
use Rattle.base_program.specs.declared.Table.TheVariants.{Three}
use Rattle.base_program.specs.Flow.{flow, call_of, opens}
use Rattle.base_program.specs.Entries.{entries}
use Rattle.spec_check.specs.Blocks.{Block, then_do, else_do, subroutine, loop, halved, outer, through, blocks_after, is_none, is, kind, label, same, label_before, fault10, fault11, fault12, fault13}
use Rattle.spec_check.specs.Calls.{behind, up_to_end, body, any_call}
use Rattle.spec_check.specs.Check.{walk_blocks, block_fault}
use Rattle.record_codes.specs.Kinds.{none_some}
use Rattle.proof_check.specs.Passed.{Clean, blocks_clean, no_fault}
use Rattle.check_chains.specs.Chains.{call_holds, closes, inside, until_label, up_next, any_next}
use Rattle.base_laws.specs.Tests.{neither}

-- ---- tests

unequal : {A : Type 0} → true ≡ false → A
unequal h = absurd (let z : ◌≡◌ {A = ℕ} 0 1 = cc in omega arith)

-- an 85 exactly where none is open, from faults 10, 12 and 13
where_none : (s t b : Bool) → s && not b ≡ false → not (s || t) && b ≡ false → t && b ≡ false → s ≡ b
where_none true t true h g f = refl
where_none true t false h g f = unequal h
where_none false true true h g f = unequal f
where_none false false true h g f = unequal g
where_none false t false h g f = refl

-- ---- the blocks that are open

-- with bs open before these entries, each 85 stands where none is open, and each other entry where one is
abbrev Standing : List Block → List Instruction → Type 0
Standing bs [] = Unit {0}
Standing bs (i ∷ r) = (is 85 (flow i) ≡ is_none bs) × Standing (through (flow i) bs) r

standing : (bs : List Block) (l : List Instruction)
    → ((k : ℕ) → k < length l → is 85 (flow (get_or l k Instruction.End)) ≡ is_none (blocks_after bs (take k l))) → Standing bs l
unfolding blocks_after
standing bs [] h = tt
standing bs (i ∷ r) h = (h 0 (omega arith), standing (through (flow i) bs) r (λ k m. h (suc k) (omega arith)))

halved_length : (bs : List Block) → length (halved bs) ≡ length bs
halved_length [] = refl
halved_length (then_do ∷ bs) = refl
halved_length (else_do ∷ bs) = refl
halved_length (subroutine ∷ bs) = refl
halved_length (loop n ∷ bs) = refl

outer_length : (d : ℕ) (bs : List Block) → length bs ≡ suc d → length (outer bs) ≡ d
outer_length d [] h = absurd (omega arith)
outer_length d (b ∷ bs) h = omega arith

some_open : {A : Type 0} (bs : List Block) → 0 < length bs → true ≡ is_none bs → A
some_open [] h q = absurd (omega arith)
some_open (b ∷ bs) h q = unequal q

none_open : (bs : List Block) → length bs ≡ 0 → is_none bs ≡ true
none_open [] h = refl
none_open (b ∷ bs) h = absurd (omega arith)

open_length : (bs : List Block) → true ≡ is_none bs → length bs ≡ 0
open_length [] h = refl
open_length (b ∷ bs) h = unequal h

-- ---- up to the End, up to the next 85

-- where none is open an 85 comes next
next_label : (bs : List Block) (r : List Instruction) → length bs ≡ 0 → Standing bs r → until_label r ≡ []
unfolding until_label
next_label bs [] h s = refl
next_label bs (i ∷ r) h s = ap (λ b. cond b [] (i ∷ until_label r)) (s.0 ∙ none_open bs h)

module _ (i : Instruction) (r : List Instruction) (ih : (d : ℕ) (bs : List Block) → length bs ≡ suc d → Standing bs r → up_to_end d r ≡ until_label r) where
  on : (d : ℕ) (bs : List Block) → length bs ≡ suc d → Standing bs r → ◌≡◌ {A = List Instruction} (i ∷ up_to_end d r) (i ∷ until_label r)
  on d bs h s = ap (λ l. i ∷ l) (ih d bs h s)

  step : (d : ℕ) (bs : List Block) (x : Flow) → length bs ≡ suc d → is 85 x ≡ is_none bs → Standing (through x bs) r
      → i ∷ cond (closes x d) [] (up_to_end (inside x d) r) ≡ cond (is 85 x) [] (i ∷ until_label r)
  unfolding kind opens through
  step d bs Flow.Next h q s = on d bs h s
  step d bs Flow.Else h q s = on d (halved bs) (halved_length bs ∙ h) s
  step zero bs Flow.End h q s = ap (λ l. i ∷ l) (sym (next_label (outer bs) r (outer_length 0 bs h) s))
  step (suc d) bs Flow.End h q s =
      ap (λ b. i ∷ cond b [] (up_to_end (suc d - 1) r)) (eqb-suc-zero d) ∙ on (suc d - 1) (outer bs) (outer_length (suc d) bs h ∙ omega arith) s
  step d bs Flow.Then h q s = on (d + 1) (then_do ∷ bs) (omega arith) s
  step d bs Flow.Stop h q s = on d bs h s
  step d bs (Flow.Loop n) h q s = on (d + 1) (loop n ∷ bs) (omega arith) s
  step d bs (Flow.Subroutine k) h q s = some_open bs (omega arith) q
  step d bs (Flow.Call k) h q s = on d bs h s
  step d bs (Flow.Exit b) h q s = on d bs h s

-- with d blocks open inside the subroutine
to_label : (d : ℕ) (bs : List Block) (l : List Instruction) → length bs ≡ suc d → Standing bs l → up_to_end d l ≡ until_label l
unfolding up_to_end until_label
to_label zero bs [] h s = refl
to_label (suc d) bs [] h s = refl
to_label d bs (i ∷ r) h s = up_next d i r ∙ step i r (λ e cs g t. to_label e cs r g t) d bs (flow i) h s.0 s.1

-- behind an 85
one_open : (x : Flow) (k : ℕ) (bs : List Block) → label x ≡ some k → is 85 x ≡ is_none bs → length (through x bs) ≡ 1
unfolding label kind through
one_open Flow.Next k bs q h = none_some q
one_open Flow.Else k bs q h = none_some q
one_open Flow.End k bs q h = none_some q
one_open Flow.Then k bs q h = none_some q
one_open Flow.Stop k bs q h = none_some q
one_open (Flow.Loop n) k bs q h = none_some q
one_open (Flow.Subroutine j) k bs q h = ap suc (open_length bs h)
one_open (Flow.Call j) k bs q h = none_some q
one_open (Flow.Exit b) k bs q h = none_some q

behind_label_lem : (bs : List Block) (l : List Instruction) (e k : ℕ) → Standing bs l → label (flow (get_or l e Instruction.End)) ≡ some k
    → up_to_end 0 (drop (suc e) l) ≡ until_label (drop (suc e) l)
unfolding label flow
behind_label_lem bs [] e k s q = none_some q
behind_label_lem bs (i ∷ r) zero k s q = to_label 0 (through (flow i) bs) r (one_open (flow i) k bs q s.0) s.1
behind_label_lem bs (i ∷ r) (suc e) k s q = behind_label_lem (through (flow i) bs) r e k s.1 q

-- ---- the calls up to the next 85

label_kind : (x : Flow) → label x ≡ none → is 85 x ≡ false
unfolding label kind
label_kind Flow.Next q = refl
label_kind Flow.Else q = refl
label_kind Flow.End q = refl
label_kind Flow.Then q = refl
label_kind Flow.Stop q = refl
label_kind (Flow.Loop n) q = refl
label_kind (Flow.Subroutine k) q = none_some (sym q)
label_kind (Flow.Call k) q = refl
label_kind (Flow.Exit b) q = refl

pub until_call : (g : ℕ → Bool) (i : Instruction) (r : List Instruction) → label (flow i) ≡ none
    → any_call g (until_label (i ∷ r)) ≡ call_holds g (call_of (flow i)) || any_call g (until_label r)
unfolding until_label
until_call g i r q = ap (λ b. any_call g (cond b [] (i ∷ until_label r))) (label_kind (flow i) q) ∙ any_next g i (until_label r)

pub until_label_lem : (i : Instruction) (r : List Instruction) (k : ℕ) → flow i ≡ Flow.Subroutine k → until_label (i ∷ r) ≡ []
unfolding until_label kind
until_label_lem i r k q = ap (λ x. cond (is 85 x) [] (i ∷ until_label r)) q

-- ---- the first 85 with a number

first_label : (l : List Instruction) (e k : ℕ) → label (flow (get_or l e Instruction.End)) ≡ some k → label_before (some k) (take e l) ≡ false → behind k l ≡ drop (suc e) l
unfolding behind label_before label flow
first_label [] e k q h = none_some q
first_label (i ∷ r) zero k q h = ap (λ b. cond b r (behind k r)) (ap (same (some k)) q ∙ eq-eqb k k refl)
first_label (i ∷ r) (suc e) k q h =
    let z = neither (same (some k) (label (flow i))) (label_before (some k) (take e r)) h in
    ap (λ b. cond b r (behind k r)) z.0 ∙ first_label r e k q z.1

-- ---- a subroutine's body

module _ (p : Program) (clean : Clean (walk_blocks p)) where
  -- faults 10 to 13 of entry e, from 0
  at : (e : ℕ) → e < length (entries p Three)
      → (is 85 (flow (get_or (entries p Three) e Instruction.End)) ≡ is_none (blocks_after [] (take e (entries p Three))))
      × (label_before (label (flow (get_or (entries p Three) e Instruction.End))) (take e (entries p Three)) ≡ false)
  unfolding block_fault
  at e h =
      let f₁ = no_fault (fault10 p Three (1 + e)) 9 _ ((blocks_clean p clean Three).0 e h) in
      let f₂ = no_fault (fault11 p Three (1 + e)) 10 _ f₁.1 in
      let f₃ = no_fault (fault12 p Three (1 + e)) 11 _ f₂.1 in
      let f₄ = no_fault (fault13 p Three (1 + e)) 12 _ f₃.1 in
      subst
      (λ j. (is 85 (flow (get_or (entries p Three) j Instruction.End)) ≡ is_none (blocks_after [] (take j (entries p Three)))) × (label_before (label (flow (get_or (entries p Three) j Instruction.End))) (take j (entries p Three)) ≡ false))
      (let g : 1 + e - 1 ≡ e = omega arith in g)
      (where_none _ _ _ f₁.0 f₃.0 f₄.0, f₂.0)

  pub body_between : (e k : ℕ) → e < length (entries p Three) → label (flow (get_or (entries p Three) e Instruction.End)) ≡ some k → body p k ≡ until_label (drop (suc e) (entries p Three))
  unfolding body
  body_between e k h q =
      ap (up_to_end 0) (first_label (entries p Three) e k q (ap (λ o. label_before o (take e (entries p Three))) (sym q) ∙ (at e h).1))
      ∙ behind_label_lem [] (entries p Three) e k (standing [] (entries p Three) (λ j m. (at j m).0)) q
