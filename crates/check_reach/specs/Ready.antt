-- What the walk of faults 18 and 20 is lent, and what it judges of an entry. Assumes nothing.
use Rattle.std.specs.Prelude.{◌≡◌, refl, ℕ, zero, suc, ◌+◌, ◌*◌, ◌-◌, ◌≤◌, ◌<◌, Bool, true, false, ◌&&◌, ◌||◌, List, length, get_or, ltb, eqb}
use Rattle.std.proofs.Common.{sym, ap, ◌∙◌, arith, lt-ltb, ltb-true}
use Rattle.base_program.specs.declared.Flow.{Flow}
use Rattle.base_program.specs.declared.Instruction.{Instruction}
use Rattle.base_program.specs.declared.Program.{Program}
use Rattle.base_program.specs.declared.Table.{Table}
use Rattle.base_program.specs.declared.Table.TheVariants.{Three}
use Rattle.base_program.specs.Flow.{call_of}
use Rattle.base_program.specs.Reach.{numbers_from}
use Rattle.base_program.specs.Entries.{row, entries}
use Rattle.spec_check.specs.Calls.{missing, any_beyond}
use Rattle.record_codes.specs.Kinds.{decode_cases}
use Rattle.proof_check.specs.Labels.{not_label_before_lem}
use Rattle.record_codes.specs.Loaded.{LengthsAre, FlowsAre, SubsAre, decode}
use Rattle.check_reach.specs.Needs.{entry_need}

-- what each entry needs, where I is `most`
abbrev pub NeedsAre : Program → ℕ → List ℕ → Type 0
NeedsAre p most needs =
    (t : Table) (k : ℕ) → k < length (entries p t) → get_or needs (99 * row t + k) 0 ≡ entry_need most (get_or (entries p t) k Instruction.End)

pub record ReachReady (p : Program) (lengths : List ℕ) (most : ℕ) (codes needs subs : List ℕ) : Type 0 where
  pub lengths_are : LengthsAre p lengths
  pub most_is : most ≡ p.locations
  pub flows_are : FlowsAre p codes
  pub needs_are : NeedsAre p most needs
  pub subs_are : SubsAre p subs

-- ---- 18

-- a call of a subroutine that has no entry
abbrev pub unknown : Flow → List ℕ → Bool
unknown Flow.Next subs = false
unknown Flow.Else subs = false
unknown Flow.End subs = false
unknown Flow.Then subs = false
unknown Flow.Stop subs = false
unknown (Flow.Loop n) subs = false
unknown (Flow.Subroutine k) subs = false
unknown (Flow.Call k) subs = eqb (get_or subs k 0) 0
unknown (Flow.Exit b) subs = false

pub unknown_missing : (p : Program) (subs : List ℕ) → SubsAre p subs → (c : ℕ) → unknown (decode c) subs ≡ missing (call_of (decode c)) (entries p Three)
unfolding call_of
unknown_missing p subs s =
    decode_cases (λ x. unknown x subs ≡ missing (call_of x) (entries p Three)) refl refl refl refl refl (λ n. refl) (λ k h. refl)
    (λ k h. ap (λ n. eqb n 0) (s k h) ∙ sym (not_label_before_lem k 1 (entries p Three) (omega arith)))
    (λ b. refl)

-- ---- the readings of 20

-- the last of the readings is the highest
abbrev pub past : ℕ → ℕ → Bool
past k n = ltb 0 n && ltb 196 (k + n - 1)

higher : (a b : ℕ) → a ≤ b → ltb 196 a || ltb 196 b ≡ ltb 196 b
higher a b h = by (ltb 196 a) refl
  where
    by : (t : Bool) → ltb 196 a ≡ t → t || ltb 196 b ≡ ltb 196 b
    by true e = sym (lt-ltb 196 b (omega (arith, ltb-true 196 a e)))
    by false e = refl

last : (k n : ℕ) → any_beyond 196 (numbers_from k (suc n)) ≡ ltb 196 (k + n)
unfolding any_beyond numbers_from
last k zero = by (ltb 196 k) ∙ ap (ltb 196) (let g : k ≡ k + 0 = omega arith in g)
  where
    by : (t : Bool) → t || false ≡ t
    by true = refl
    by false = refl
last k (suc n) =
    ap (λ b. ltb 196 k || b) (last (suc k) n ∙ ap (ltb 196) (let g : suc k + n ≡ k + suc n = omega arith in g)) ∙ higher k (k + suc n) (omega arith)

pub past_beyond : (k n : ℕ) → past k n ≡ any_beyond 196 (numbers_from k n)
unfolding any_beyond numbers_from
past_beyond k zero = refl
past_beyond k (suc n) =
    ap (λ b. b && ltb 196 (k + suc n - 1)) (lt-ltb 0 (suc n) (omega arith))
    ∙ ap (ltb 196) (let g : k + suc n - 1 ≡ k + n = omega arith in g)
    ∙ sym (last k n)
