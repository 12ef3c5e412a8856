-- What a pass says: no fault at any place. The first fault of all walks is none, so each place of each walk has none. Assumes nothing.
use Rattle.std.specs.Prelude.{◌≡◌, refl, ℕ, zero, suc, ◌+◌, ◌-◌, ◌<◌, Bool, true, false, cond, length, get_or, eqb}
use Rattle.std.proofs.Common.{sym, ap, ◌∙◌, arith, inl, inr, eqb-true}
use mathlib.Core.List.{List, [], ◌∷◌, ◌++◌}
use Rattle.base_program.specs.declared.Finding.{Finding}
use Rattle.base_program.specs.declared.Instruction.{Instruction}
use Rattle.base_program.specs.declared.Program.{Program}
use Rattle.base_program.specs.declared.Table.{Table}
use Rattle.base_program.specs.declared.Table.TheVariants.{One, Two, Three}
use Rattle.base_program.specs.Flow.{flow}
use Rattle.base_program.specs.Entries.{entries}
use Rattle.spec_check.specs.declared.Verdict.{Verdict}
use Rattle.spec_check.specs.Ranges.{fault2, fault2header, fault5}
use Rattle.spec_check.specs.Blocks.{fault17, label}
use Rattle.spec_check.specs.Calls.{fault19, behind, up_to_end, body, any_call, chain, starts_long}
use Rattle.spec_check.specs.Counts.{fault21, fault22}
use Rattle.spec_check.specs.Check.{JudgedPlace, judged, or, number, entry_places, all_tables, table_ranges, table_blocks, walk_ranges, walk_blocks, walk_reach, walk_chains, walk_sums, walk_counts, block_fault, reach_fault, first_of, verdict, check}
use Rattle.proof_check.specs.Labels.{label_place, LabelFound, found, Placed, placed, absent}
use Rattle.proof_check.specs.Walk.{or_else, first_append, nowhere, entry_place, entry_places_length}

-- ---- walks that find nothing

abbrev pub Clean : List JudgedPlace → Type 0
Clean l = first_of l ≡ Finding.Clean

never : {n t e : ℕ} → Finding.Fault n t e ≡ Finding.Clean → ⊥
never h = let z : ◌≡◌ {A = ℕ} 0 1 = cc in omega arith

both : (l r : List JudgedPlace) → Clean (l ++ r) → Clean l × Clean r
both l r h = by (first_of l) refl (sym (first_append l r) ∙ h)
  where
    by : (f : Finding) → first_of l ≡ f → or_else f (first_of r) ≡ Finding.Clean → (first_of l ≡ Finding.Clean) × (first_of r ≡ Finding.Clean)
    by Finding.Clean e q = (e, q)
    by (Finding.Fault n t e) q z = absurd (never z)

head : (n t e : ℕ) (r : List JudgedPlace) → Clean (judged n t e ∷ r) → (n ≡ 0) × Clean r
unfolding first_of
head n t e r h = by (eqb n 0) refl h
  where
    by : (b : Bool) → eqb n 0 ≡ b → cond b (first_of r) (Finding.Fault n t e) ≡ Finding.Clean → (n ≡ 0) × (first_of r ≡ Finding.Clean)
    by true q z = (eqb-true n 0 q, z)
    by false q z = absurd (never z)

-- no fault at any place of a clean walk
clean_at : (l : List JudgedPlace) (k : ℕ) → Clean l → k < length l → (get_or l k nowhere).fault ≡ 0
clean_at [] k h m = absurd (omega arith)
clean_at (j ∷ l) zero h m = (head j.fault j.table j.entry l h).0
clean_at (j ∷ l) (suc k) h m = clean_at l k (head j.fault j.table j.entry l h).1 (omega arith)

clean_entry : (judge : ℕ → ℕ) (p : Program) (t : Table) → Clean (entry_places judge p t) → (k : ℕ) → k < length (entries p t) → judge (1 + k) ≡ 0
clean_entry judge p t h k m =
    ap (λ j. j.fault) (sym (entry_place judge p t k m)) ∙ clean_at (entry_places judge p t) k h (omega (arith, entry_places_length judge p t))

each_table : (f : Table → List JudgedPlace) → Clean (all_tables f) → (t : Table) → Clean (f t)
each_table f h One = (both (f One) _ h).0
each_table f h Two = (both (f Two) _ (both (f One) _ h).1).0
each_table f h Three = (both (f Two) _ (both (f One) _ h).1).1

-- a place's fault is none: neither this one nor a later one
pub no_fault : (b : Bool) (n later : ℕ) → or b (suc n) later ≡ 0 → (b ≡ false) × (later ≡ 0)
no_fault true n later h = absurd (omega arith)
no_fault false n later h = (refl, h)

only : (b : Bool) (n : ℕ) → or b (suc n) 0 ≡ 0 → b ≡ false
only b n h = (no_fault b n 0 h).0

-- ---- what a pass says

pub record Passed (p : Program) : Type 0 where
  pub is_in_range : (t : Table) (k : ℕ) → k < length (entries p t) → fault2 p t (1 + k) ≡ false
  pub blocks : (t : Table) (k : ℕ) → k < length (entries p t) → block_fault p t (1 + k) ≡ 0
  pub closed : (t : Table) → fault17 p t ≡ false
  pub reach : (t : Table) (k : ℕ) → k < length (entries p t) → reach_fault p t (1 + k) ≡ 0
  pub chains : (k : ℕ) → k < length (entries p Three) → fault19 p (1 + k) ≡ false
  pub sums : (t : Table) (k : ℕ) → k < length (entries p t) → fault21 p t (1 + k) ≡ false
  pub counts : (fault22 p One ≡ false) × (fault22 p Two ≡ false)

module _ (p : Program) where
  ranges_clean : Clean (walk_ranges p) → (t : Table) (k : ℕ) → k < length (entries p t) → fault2 p t (1 + k) ≡ false
  unfolding walk_ranges
  ranges_clean h t k m =
      let tables = (head (or (fault2header p) 2 0) 0 0 (all_tables (table_ranges p)) h).1 in
      let rows = (head (or (fault5 p t) 5 0) (number t) 0 _ (each_table (table_ranges p) tables t)).1 in
      only (fault2 p t (1 + k)) 1 (clean_entry (λ e. or (fault2 p t e) 2 0) p t (both (entry_places (λ e. or (fault2 p t e) 2 0) p t) _ rows).0 k m)

  pub blocks_clean : Clean (walk_blocks p) → (t : Table) → ((k : ℕ) → k < length (entries p t) → block_fault p t (1 + k) ≡ 0) × (fault17 p t ≡ false)
  unfolding walk_blocks
  blocks_clean h t =
      let rows = both (entry_places (block_fault p t) p t) _ (each_table (table_blocks p) h t) in
      (clean_entry (block_fault p t) p t rows.0, only (fault17 p t) 16 (head (or (fault17 p t) 17 0) (number t) _ [] rows.1).0)

  reach_clean : Clean (walk_reach p) → (t : Table) (k : ℕ) → k < length (entries p t) → reach_fault p t (1 + k) ≡ 0
  unfolding walk_reach
  reach_clean h t = clean_entry (reach_fault p t) p t (each_table (λ u. entry_places (reach_fault p u) p u) h t)

  pub chains_clean : Clean (walk_chains p) → (k : ℕ) → k < length (entries p Three) → fault19 p (1 + k) ≡ false
  unfolding walk_chains
  chains_clean h k m = only (fault19 p (1 + k)) 18 (clean_entry (λ e. or (fault19 p e) 19 0) p Three h k m)

  sums_clean : Clean (walk_sums p) → (t : Table) (k : ℕ) → k < length (entries p t) → fault21 p t (1 + k) ≡ false
  unfolding walk_sums
  sums_clean h t k m =
      only (fault21 p t (1 + k)) 20
      (clean_entry (λ e. or (fault21 p t e) 21 0) p t (each_table (λ u. entry_places (λ e. or (fault21 p u e) 21 0) p u) h t) k m)

  counts_clean : Clean (walk_counts p) → (fault22 p One ≡ false) × (fault22 p Two ≡ false)
  unfolding walk_counts
  counts_clean h =
      let one = head (or (fault22 p One) 22 0) 1 0 _ h in
      (only (fault22 p One) 21 one.0, only (fault22 p Two) 21 (head (or (fault22 p Two) 22 0) 2 0 [] one.1).0)

  all_clean : (f : Finding) (a b n m : ℕ) → verdict f a b ≡ Verdict.Pass n m → f ≡ Finding.Clean
  all_clean Finding.Clean a b n m h = refl
  all_clean (Finding.Fault k t e) a b n m h = absurd (let z : ◌≡◌ {A = ℕ} 0 1 = cc in omega arith)

  pub passed : (n m : ℕ) → check p ≡ Verdict.Pass n m → Passed p
  unfolding check
  passed n m h =
      let w₀ = both (walk_ranges p) _ (all_clean _ _ _ n m h) in
      let w₁ = both (walk_blocks p) _ w₀.1 in
      let w₂ = both (walk_reach p) _ w₁.1 in
      let w₃ = both (walk_chains p) _ w₂.1 in
      let w₄ = both (walk_sums p) _ w₃.1 in
      record {
        is_in_range = ranges_clean w₀.0;
        blocks = λ t. (blocks_clean w₁.0 t).0;
        closed = λ t. (blocks_clean w₁.0 t).1;
        reach = reach_clean w₂.0;
        chains = chains_clean w₃.0;
        sums = sums_clean w₄.0;
        counts = counts_clean w₄.1;
      }

-- ---- where 19 is not met no chain is long, called or not

none_behind : (p : Program) (k : ℕ) → behind k (entries p Three) ≡ [] → chain p 7 k ≡ false
unfolding chain body up_to_end any_call
none_behind p k h = ap (λ l. any_call (chain p 6) (up_to_end 0 l)) h

pub no_long : (p : Program) → ((e : ℕ) → e < length (entries p Three) → fault19 p (1 + e) ≡ false) → (k : ℕ) → chain p 7 k ≡ false
no_long p h k = by (placed k 1 (entries p Three))
  where
    by : Placed 1 (length (entries p Three)) (label_place k 1 (entries p Three)) → chain p 7 k ≡ false
    by (inl e) = none_behind p k (absent k 1 (entries p Three) (omega arith) e)
    by (inr e) =
        let there : LabelFound k e.0 (entries p Three) = found k 1 e.0 (entries p Three) (omega arith) e.1 in
        ap (starts_long p) (sym there.has_label)
        ∙ ap (λ n. starts_long p (label (flow (get_or (entries p Three) n Instruction.End)))) (let g : e.0 ≡ 1 + e.0 - 1 = omega arith in g)
        ∙ h e.0 there.within
