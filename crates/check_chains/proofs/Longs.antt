-- The walk over the 85s, as steps from entry to entry. Assumes nothing.
use mathlib.Core.Path.{◌≡◌, refl, sym, ap, ◌∙◌, subst}
use Prim.Native.Nat.{ℕ, zero, suc, ◌+◌, ◌-◌, ◌≤◌, ◌<◌}
use native.Mathlib.Omega.{arith}
use mathlib.Core.Bool.{Bool, true, false}
use mathlib.Core.List.{List, [], ◌++◌}
use lib.ListN.{length, get_or, drop}
use Rattle.base_program.specs.declared.Finding.{Finding}
use Rattle.base_program.specs.declared.Instruction.{Instruction}
use Rattle.base_program.specs.declared.Program.{Program}
use Rattle.base_program.specs.declared.Table.{Table}
use Rattle.base_program.specs.declared.Table.TheVariants.{Three}
use Rattle.base_program.specs.Flow.{flow}
use Rattle.base_program.specs.Entries.{entries}
use Rattle.spec_check.specs.Blocks.{label}
use Rattle.spec_check.specs.Calls.{starts_long, fault19}
use Rattle.spec_check.specs.Check.{JudgedPlace, judged, or, entry_places, first_of, walk_chains}
use Rattle.record_codes.specs.Kinds.{decode_cases}
use Rattle.record_codes.specs.Loaded.{decode}
use Rattle.proof_check.specs.Walk.{nowhere, place_clean, place_faulty, places_passed, tables_next, entry_places_length, entry_place}
use Rattle.check_subroutines.specs.Listed.{Uncalling, ListedCalls, in_list}
use Rattle.check_chains.specs.Chains.{LongReady, call_holds, high}

abbrev long_fault : Program → ℕ → ℕ
long_fault p e = or (fault19 p e) 19 0

abbrev long_places : Program → Table → List JudgedPlace
long_places p t = entry_places (long_fault p) p t

-- before entry e, from 0
pub record AtLong (codes : List ℕ) (n : ℕ) (heights : List ℕ) (e : ℕ) : Type 0 where
  pub left : (p : Program) → LongReady p codes n heights → first_of (drop e (long_places p Three) ++ []) ≡ first_of (walk_chains p)

module _ (codes : List ℕ) (n : ℕ) (heights : List ℕ) where
  pub long_starts : AtLong codes n heights 0
  unfolding walk_chains
  long_starts = record { left = λ p r. sym (ap first_of (tables_next (long_places p) 2 (omega arith))) }

  module _ (e : ℕ) (a : AtLong codes n heights e) where
    pub long_ends : n ≤ e → (p : Program) → LongReady p codes n heights → Finding.Clean ≡ first_of (walk_chains p)
    unfolding first_of
    long_ends h p r =
        sym (ap first_of (places_passed (long_places p Three) [] e (omega (arith, r.length_is, entry_places_length (long_fault p) p Three)))) ∙ a.left p r

    module _ (within : e < n) where
      -- the code of entry e tells whether it starts a long chain
      abbrev told : Bool
      told = call_holds (high heights 7) (label (decode (get_or codes (198 + e) 0)))

      long : (p : Program) → LongReady p codes n heights → told ≡ fault19 p (1 + e)
      unfolding label
      long p r =
          decode_cases (λ y. call_holds (high heights 7) (label y) ≡ starts_long p (label y)) refl refl refl refl refl (λ m. refl) (λ k h. r.told k h) (λ j h. refl) (λ b. refl) (get_or codes (198 + e) 0)
          ∙ ap (λ y. starts_long p (label y)) (r.flows_are Three e (omega (arith, r.length_is)))
          ∙ ap (λ j. starts_long p (label (flow (get_or (entries p Three) j Instruction.End)))) (let g : e ≡ 1 + e - 1 = omega arith in g)

      place : (p : Program) → LongReady p codes n heights → (b : Bool) → told ≡ b → get_or (long_places p Three) e nowhere ≡ judged (or b 19 0) 3 (1 + e)
      place p r b h =
          entry_place (long_fault p) p Three e (omega (arith, r.length_is)) ∙ ap (λ t. judged (or t 19 0) 3 (1 + e)) (sym (long p r) ∙ h)

      in_places : (p : Program) → LongReady p codes n heights → e < length (long_places p Three)
      in_places p r = omega (arith, r.length_is, entry_places_length (long_fault p) p Three)

      pub long_found : told ≡ true → (p : Program) → LongReady p codes n heights → Finding.Fault 19 3 (1 + e) ≡ first_of (walk_chains p)
      long_found h p r =
          sym (place_faulty (long_places p Three) [] e (in_places p r) 19 3 (1 + e) (place p r true h) (λ z. omega arith)) ∙ a.left p r

      pub long_on : told ≡ false → AtLong codes n heights (e + 1)
      long_on h = record { left = λ p r. sym (place_clean (long_places p Three) [] e (in_places p r) 3 (1 + e) (place p r false h)) ∙ a.left p r }

-- ---- over the list, from its end: the entries before the first place, and those between two places, are no 85s

module _ (codes list : List ℕ) (m : ℕ) (listed : ListedCalls codes list m) (heights : List ℕ) where
  abbrev size : ℕ
  size = get_or list 0 0

  -- past entries that are no 85s
  past : (d e : ℕ) → e + d ≤ size → ((x : ℕ) → e ≤ x → x < e + d → Uncalling (get_or codes (198 + x) 0)) → AtLong codes size heights e → AtLong codes size heights (e + d)
  past zero e h u a = subst (AtLong codes size heights) (let g : e ≡ e + 0 = omega arith in g) a
  past (suc d) e h u a =
      subst (AtLong codes size heights) (let g : e + 1 + d ≡ e + suc d = omega arith in g)
      (past d (e + 1) (omega arith) (λ x b c. u x (omega arith) (omega arith))
      (long_on codes size heights e a (omega arith) (ap (call_holds (high heights 7)) (u e (omega arith) (omega arith)).0)))

  past_to : (e f : ℕ) → e ≤ f → f ≤ size → ((x : ℕ) → e ≤ x → x < f → Uncalling (get_or codes (198 + x) 0)) → AtLong codes size heights e → AtLong codes size heights f
  past_to e f h k u a =
      subst (AtLong codes size heights) (let g : e + (f - e) ≡ f = omega arith in g)
      (past (f - e) e (omega arith) (λ x b c. u x b (omega arith)) a)

  -- to the place that is last on the list
  pub long_first : AtLong codes size heights (get_or list m 0)
  long_first =
      past_to 0 (get_or list m 0) (omega arith) (in_list codes list m listed m (omega arith)) (λ x b c. listed.rest x b c) (long_starts codes size heights)

  -- from behind one place to the next
  pub long_next : (i : ℕ) → i < m → AtLong codes size heights (get_or list (i + 1) 0 + 1) → AtLong codes size heights (get_or list i 0)
  long_next i h a =
      past_to (get_or list (i + 1) 0 + 1) (get_or list i 0) (omega (arith, listed.falls i h)) (in_list codes list m listed i (omega arith))
      (λ x b c. listed.gaps i x h (omega arith) c) a
