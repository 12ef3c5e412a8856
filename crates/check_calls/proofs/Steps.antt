-- The walk of faults 18 and 20 as steps from one state to the next, with the passes in force. Assumes nothing.
use mathlib.Core.Path.{◌≡◌, refl, sym, ap, ◌∙◌}
use Prim.Native.Nat.{ℕ, ◌+◌, ◌*◌, ◌≤◌, ◌<◌}
use native.Mathlib.Omega.{arith}
use mathlib.Core.Bool.{Bool, true, false, ◌&&◌, ◌||◌}
use Rattle.std.specs.Prelude.{cond, Option, Some, None}
use Rattle.std.proofs.lemmas.Option.{none-some}
use lib.Dec.{eqb}
use borrow.Author.Tests.{eqb-true}
use mathlib.Core.List.{List, []}
use lib.ListN.{length, get_or, take, set}
use Rattle.base_program.specs.declared.Finding.{Finding}
use Rattle.base_program.specs.declared.Flow.{Flow}
use Rattle.base_program.specs.declared.Instruction.{Instruction}
use Rattle.base_program.specs.declared.Program.{Program}
use Rattle.base_program.specs.declared.Table.TheVariants.{Three}
use Rattle.base_program.specs.Flow.{flow, call_of}
use Rattle.base_program.specs.Reach.{locations, readings}
use Rattle.base_program.specs.Entries.{entries, table_at}
use Rattle.base_program.specs.Laws.{row_at}
use Rattle.spec_check.specs.Blocks.{Block, through, blocks_after}
use Rattle.spec_check.specs.Calls.{missing, any_outside, any_beyond, passes_in_force}
use Rattle.spec_check.specs.Check.{or, first_of, walk_reach}
use Rattle.record_codes.specs.Loaded.{LengthsAre, decode}
use Rattle.check_passes.specs.Passes.{PassesHeld, held_none, held_top, blocks_next}
use Rattle.check_reach.specs.Needs.{entry_need, beyond_moved, entry_beyond}
use Rattle.check_reach.specs.Ready.{ReachReady, unknown, unknown_missing}
use Rattle.check_missing.specs.Places.{LeftTables, LeftEntries, fault_from, first_table, last_table, first_entry, last_entry, within, fault_there, next_entry}

-- what the walk is lent
pub record Given : Type 0 where
  pub lengths : List ℕ
  pub most : ℕ
  pub codes : List ℕ
  pub needs : List ℕ
  pub subs : List ℕ

abbrev pub given : List ℕ → ℕ → List ℕ → List ℕ → List ℕ → Given
given lengths most codes needs subs = record { lengths = lengths; most = most; codes = codes; needs = needs; subs = subs }

abbrev Ready : Given → Program → Type 0
Ready g p = ReachReady p g.lengths g.most g.codes g.needs g.subs

both_true : (a b : Bool) → a && b ≡ true → (a ≡ true) × (b ≡ true)
both_true true b h = (refl, h)
both_true false b h = absurd (let z : ◌≡◌ {A = ℕ} 0 1 = cc in omega arith)

-- an answer of `reach_fault` as the fault's number, 0 for none
pub some_fault : (u b : Bool) (n : ℕ) → ◌≡◌ {A = Option ℕ} (Some n) (cond u (Some 18) (cond b (Some 20) None)) → (n ≡ or u 18 (or b 20 0)) × (n ≡ 0 → ⊥)
some_fault true b n h = let e : n ≡ 18 = cc in (e, λ z. omega arith)
some_fault false true n h = let e : n ≡ 20 = cc in (e, λ z. omega arith)
some_fault false false n h = absurd (none-some n (sym h))

pub no_fault : (u b : Bool) → ◌≡◌ {A = Option ℕ} None (cond u (Some 18) (cond b (Some 20) None)) → 0 ≡ or u 18 (or b 20 0)
no_fault true b h = absurd (none-some 18 h)
no_fault false true h = absurd (none-some 20 h)
no_fault false false h = refl

-- before the table of row t
pub record AtTable (g : Given) (t : ℕ) : Type 0 where
  pub left : LeftTables (Ready g) t

-- before entry e, from 0, of the table of row t
pub record AtEntry (g : Given) (l : List ℕ) (depth t e : ℕ) : Type 0 where
  pub left : LeftEntries (Ready g) t e
  pub held : (p : Program) → Ready g p → PassesHeld l depth (blocks_after [] (take e (entries p (table_at t))))

module _ (g : Given) where
  sized : (p : Program) → Ready g p → LengthsAre p g.lengths
  sized p r = r.lengths_are

  pub walk_starts : AtTable g 0
  walk_starts = record { left = first_table (Ready g) }

  pub walk_ends : AtTable g 3 → (p : Program) → Ready g p → Finding.Clean ≡ first_of (walk_reach p)
  walk_ends a = last_table (Ready g) a.left

  module _ (t : ℕ) (in_tables : t < 3) where
    pub table_starts : (l : List ℕ) → 0 < length l → AtTable g t → AtEntry g (set l 0 1) 0 t 0
    unfolding blocks_after
    table_starts l h a = record {
      left = first_entry (Ready g) g.lengths sized t in_tables a.left;
      held = λ p r. held_none l h;
    }

    pub table_passed : (l : List ℕ) (depth n : ℕ) → n ≡ get_or g.lengths t 0 → AtEntry g l depth t n → AtTable g (t + 1)
    table_passed l depth n all a = record { left = last_entry (Ready g) g.lengths sized t in_tables n all a.left }

    module _ (e : ℕ) (in_table : e < get_or g.lengths t 0) (small : g.most ≤ 65535) where
      in_use : (p : Program) → Ready g p → e < length (entries p (table_at t))
      in_use p r = within (Ready g) g.lengths sized t in_tables e in_table p r

      kind : (p : Program) → Ready g p → decode (get_or g.codes (99 * t + e) 0) ≡ flow (get_or (entries p (table_at t)) e Instruction.End)
      kind p r = ap (λ n. decode (get_or g.codes (99 * n + e) 0)) (sym (row_at t in_tables)) ∙ r.flows_are (table_at t) e (in_use p r)

      need_at : (p : Program) → Ready g p → get_or g.needs (99 * t + e) 0 ≡ entry_need g.most (get_or (entries p (table_at t)) e Instruction.End)
      need_at p r = ap (λ n. get_or g.needs (99 * n + e) 0) (sym (row_at t in_tables)) ∙ r.needs_are (table_at t) e (in_use p r)

      module _ (x : Flow) (told : x ≡ decode (get_or g.codes (99 * t + e) 0)) (l : List ℕ) (depth : ℕ) (a : AtEntry g l depth t e) (fault : ℕ)
          (found : fault
          ≡ or (unknown x g.subs) 18
          (or (beyond_moved g.most (get_or l depth 0) (get_or g.needs (99 * t + e) 0)) 20 0)) where
        module _ (p : Program) (r : Ready g p) where
          here : Instruction
          here = get_or (entries p (table_at t)) e Instruction.End

          now_passes : ℕ
          now_passes = passes_in_force (blocks_after [] (take e (entries p (table_at t))))

          beyond_is : beyond_moved g.most (get_or l depth 0) (get_or g.needs (99 * t + e) 0)
              ≡ any_outside p.locations now_passes (locations here) || any_beyond 196 (readings here)
          unfolding here now_passes
          beyond_is =
              ap (λ n. beyond_moved g.most n (get_or g.needs (99 * t + e) 0)) (held_top l depth _ (a.held p r))
              ∙ ap (beyond_moved g.most now_passes) (need_at p r)
              ∙ sym (entry_beyond g.most now_passes small here)
              ∙ ap (λ n. any_outside n now_passes (locations here) || any_beyond 196 (readings here)) r.most_is

          right : fault ≡ fault_from p (table_at t) e
          unfolding here now_passes
          right =
              found
              ∙ ap (λ b. or (unknown x g.subs) 18 (or b 20 0)) beyond_is
              ∙ ap (λ b. or b 18 (or (any_outside p.locations now_passes (locations here) || any_beyond 196 (readings here)) 20 0))
              (ap (λ y. unknown y g.subs) told ∙ unknown_missing p g.subs r.subs_are (get_or g.codes (99 * t + e) 0) ∙ ap (λ y. missing (call_of y) (entries p Three)) (kind p r))

        pub fault_in_entry : (fault ≡ 0 → ⊥) → (p : Program) → Ready g p → Finding.Fault fault (t + 1) (1 + e) ≡ first_of (walk_reach p)
        fault_in_entry = fault_there (Ready g) g.lengths sized t in_tables e in_table a.left fault right

        pub entry_passed : fault ≡ 0 → (l' : List ℕ) (depth' : ℕ) → ((bs : List Block) → PassesHeld l depth bs → PassesHeld l' depth' (through x bs))
            → AtEntry g l' depth' t (e + 1)
        entry_passed h l' depth' on = record {
          left = next_entry (Ready g) g.lengths sized t in_tables e in_table a.left fault right h;
          held = λ p r. rw (← blocks_next (entries p (table_at t)) e (in_use p r)) (rw (← (told ∙ kind p r)) (on _ (a.held p r)));
        }

      -- an entry that goes on and needs nothing has no fault, and leaves the blocks open as they are
      pub plain_passed : (l : List ℕ) (depth : ℕ) → AtEntry g l depth t e → eqb (get_or g.codes (99 * t + e) 0) 0 && eqb (get_or g.needs (99 * t + e) 0) 0 ≡ true
          → AtEntry g l depth t (e + 1)
      unfolding decode through
      plain_passed l depth a h =
          entry_passed Flow.Next (sym (ap decode none)) l depth a 0
          (sym (ap (λ n. or false 18 (or (beyond_moved g.most (get_or l depth 0) n) 20 0)) needless))
          refl l depth (λ bs k. k)
        where
          none : get_or g.codes (99 * t + e) 0 ≡ 0
          none = eqb-true (get_or g.codes (99 * t + e) 0) 0 (both_true (eqb (get_or g.codes (99 * t + e) 0) 0) (eqb (get_or g.needs (99 * t + e) 0) 0) h).0

          needless : get_or g.needs (99 * t + e) 0 ≡ 0
          needless = eqb-true (get_or g.needs (99 * t + e) 0) 0 (both_true (eqb (get_or g.codes (99 * t + e) 0) 0) (eqb (get_or g.needs (99 * t + e) 0) 0) h).1
