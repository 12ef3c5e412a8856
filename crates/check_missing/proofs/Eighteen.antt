-- The walk of fault 18 alone as steps: an entry has that fault or none. And the needs seen so far are none. Assumes nothing.
use mathlib.Core.Path.{◌≡◌, refl, sym, ap, ◌∙◌}
use Prim.Native.Nat.{ℕ, ◌+◌, ◌*◌, ◌/◌, ◌≤◌, ◌<◌}
use native.Mathlib.Omega.{arith}
use mathlib.Core.Bool.{Bool, true, false}
use lib.Dec.{eqb}
use borrow.Author.Tests.{eqb-true, eqb-false}
use mathlib.Core.List.{List, []}
use mathlib.Core.Option.{none}
use lib.ListN.{length, get_or, take}
use Rattle.base_program.specs.declared.Finding.{Finding}
use Rattle.base_program.specs.declared.Instruction.{Instruction}
use Rattle.base_program.specs.declared.Program.{Program}
use Rattle.base_program.specs.declared.Table.TheVariants.{Three}
use Rattle.base_program.specs.Flow.{flow, call_of}
use Rattle.base_program.specs.Entries.{entries, table_at}
use Rattle.base_program.specs.Laws.{row_at}
use Rattle.spec_check.specs.Blocks.{blocks_after}
use Rattle.spec_check.specs.Calls.{missing, passes_in_force}
use Rattle.spec_check.specs.Check.{or, first_of, walk_reach}
use Rattle.record_codes.specs.Loaded.{LengthsAre, decode}
use Rattle.record_codes.specs.Kinds.{decode_cases, none_some, not_call}
use Rattle.check_reach.specs.Ready.{unknown, unknown_missing}
use Rattle.check_missing.specs.Needless.{MissingReady, Needless}
use Rattle.check_missing.specs.Places.{LeftTables, LeftEntries, fault_from, first_entry, last_entry, within, fault_there, next_entry}

-- a code of another kind calls nothing
pub not_unknown : (c : ℕ) (subs : List ℕ) → (c / 65536 ≡ 7 → ⊥) → unknown (decode c) subs ≡ false
unfolding call_of
not_unknown c subs h = decode_cases (λ x. call_of x ≡ none → unknown x subs ≡ false) (λ e. refl) (λ e. refl) (λ e. refl) (λ e. refl) (λ e. refl) (λ n e. refl) (λ k m e. refl) (λ k m e. none_some (sym e)) (λ b e. refl) c (not_call c h)

module _ (lengths codes subs : List ℕ) where
  abbrev pub Known : Program → Type 0
  Known p = MissingReady p lengths codes subs

  sized : (p : Program) → Known p → LengthsAre p lengths
  sized p r = r.lengths_are

  module _ (t : ℕ) (in_tables : t < 3) where
    pub enter : LeftTables Known t → LeftEntries Known t 0
    enter = first_entry Known lengths sized t in_tables

    pub leave : (n : ℕ) → n ≡ get_or lengths t 0 → LeftEntries Known t n → LeftTables Known (t + 1)
    leave = last_entry Known lengths sized t in_tables

    module _ (e : ℕ) (in_table : e < get_or lengths t 0) where
      right : (b : Bool) → b ≡ unknown (decode (get_or codes (99 * t + e) 0)) subs → (p : Program) → Known p → or b 18 0 ≡ fault_from p (table_at t) e
      right b h p r =
          ap (λ c. or c 18 0)
          (h ∙ unknown_missing p subs r.subs_are (get_or codes (99 * t + e) 0) ∙ ap (λ y. missing (call_of y) (entries p Three)) kind)
          ∙ ap (λ c. or (missing (call_of (flow (get_or (entries p (table_at t)) e Instruction.End))) (entries p Three)) 18 (or c 20 0))
          (sym (r.near (table_at t) e in_use (passes_in_force (blocks_after [] (take e (entries p (table_at t)))))))
        where
          in_use : e < length (entries p (table_at t))
          in_use = within Known lengths sized t in_tables e in_table p r

          kind : decode (get_or codes (99 * t + e) 0) ≡ flow (get_or (entries p (table_at t)) e Instruction.End)
          kind = ap (λ n. decode (get_or codes (99 * n + e) 0)) (sym (row_at t in_tables)) ∙ r.flows_are (table_at t) e in_use

      pub missing_there : LeftEntries Known t e → true ≡ unknown (decode (get_or codes (99 * t + e) 0)) subs
          → (p : Program) → Known p → Finding.Fault 18 (t + 1) (1 + e) ≡ first_of (walk_reach p)
      missing_there left h = fault_there Known lengths sized t in_tables e in_table left 18 (right true h) (λ z. omega arith)

      pub none_missing : LeftEntries Known t e → false ≡ unknown (decode (get_or codes (99 * t + e) 0)) subs → LeftEntries Known t (e + 1)
      none_missing left h = next_entry Known lengths sized t in_tables e in_table left 0 (right false h) refl

-- ---- the needs seen so far

-- of the tables before row t, and of the first e entries of that row
pub record SeenNone (needs lengths : List ℕ) (t e : ℕ) : Type 0 where
  pub none : (u k : ℕ) → u ≤ t → k < get_or lengths u 0 → (u ≡ t → k < e) → get_or needs (99 * u + k) 0 ≡ 0

pub seen_start : (needs lengths : List ℕ) → SeenNone needs lengths 0 0
seen_start needs lengths = record { none = λ u k a b h. absurd (let z : k < 0 = h (omega arith) in omega arith) }

pub seen_entry : (needs lengths : List ℕ) (t e : ℕ) → SeenNone needs lengths t e → get_or needs (99 * t + e) 0 ≡ 0 → SeenNone needs lengths t (e + 1)
seen_entry needs lengths t e seen z = record { none = λ u k a b h. by u k a b h (eqb u t) (eqb k e) refl refl }
  where
    by : (u k : ℕ) → u ≤ t → k < get_or lengths u 0 → (u ≡ t → k < e + 1) → (s q : Bool) → eqb u t ≡ s → eqb k e ≡ q → get_or needs (99 * u + k) 0 ≡ 0
    by u k a b h true true x y = ap (λ n. get_or needs n 0) (let m : 99 * u + k ≡ 99 * t + e = omega (arith, eqb-true u t x, eqb-true k e y) in m) ∙ z
    by u k a b h true false x y = seen.none u k a b (λ w. omega (arith, h w, eqb-false k e y))
    by u k a b h false q x y = seen.none u k a b (λ w. absurd (eqb-false u t x w))

pub seen_table : (needs lengths : List ℕ) (t n : ℕ) → n ≡ get_or lengths t 0 → SeenNone needs lengths t n → SeenNone needs lengths (t + 1) 0
seen_table needs lengths t n all seen = record { none = λ u k a b h. by u k a b h (eqb u (t + 1)) refl }
  where
    by : (u k : ℕ) → u ≤ t + 1 → k < get_or lengths u 0 → (u ≡ t + 1 → k < 0) → (s : Bool) → eqb u (t + 1) ≡ s → get_or needs (99 * u + k) 0 ≡ 0
    by u k a b h true x = absurd (let z : k < 0 = h (eqb-true u (t + 1) x) in omega arith)
    by u k a b h false x =
        seen.none u k (omega (arith, eqb-false u (t + 1) x)) b (λ w. let g : get_or lengths u 0 ≡ get_or lengths t 0 = ap (λ m. get_or lengths m 0) w in omega arith)

pub seen_all : (needs lengths : List ℕ) → SeenNone needs lengths 3 0 → Needless needs lengths
seen_all needs lengths seen t e h k = seen.none t e (omega arith) k (λ w. absurd (omega arith))
