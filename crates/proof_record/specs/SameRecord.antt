-- Records that agree in I, M, both V, the lengths and the entries in use are checked alike: unused slots do not matter. Each by putting one
-- record's entries in the place of the other's. Assumes nothing.
use Rattle.std.specs.Prelude.{◌≡◌, length, take, ltb}
use Rattle.std.proofs.Math.Path.{refl, ap, ap₂, fun_ext}
use Prim.Native.Nat.{ℕ, zero, suc, ◌+◌, ◌-◌}
use mathlib.Core.List.{List, [], ◌∷◌, ◌++◌, map}
use Rattle.std.proofs.Math.Option.{Option, none, some}
use Rattle.std.proofs.Math.ListN.{get_or}
use Rattle.base_program.specs.declared.Instruction.{Instruction}
use Rattle.base_program.specs.declared.Program.{Program}
use Rattle.base_program.specs.declared.Table.{Table}
use Rattle.base_program.specs.declared.Table.TheVariants.{One, Two, Three}
use Rattle.base_program.specs.Flow.{flow}
use Rattle.base_program.specs.Reach.{numbers_from}
use Rattle.base_program.specs.Entries.{claimed, entries, entry_at, all_sums, sums_before, first_sum}
use Rattle.spec_check.specs.Ranges.{interval, fault2, fault2header, fault5, fault6}
use Rattle.spec_check.specs.Blocks.{label, fault17}
use Rattle.spec_check.specs.Calls.{body, behind, up_to_end, any_call, chain, starts_long, fault19}
use Rattle.spec_check.specs.Counts.{count, call_count, stated_count, fault21}
use Rattle.spec_check.specs.Check.{JudgedPlace, judged, or, number, entry_places, all_tables, table_ranges, walk_ranges, block_fault, table_blocks, walk_blocks, reach_fault, walk_reach, walk_chains, walk_sums, walk_counts, first_of, verdict, check}

pub record Same (p q : Program) : Type 0 where
  pub locations : p.locations ≡ q.locations
  pub sums : p.sums ≡ q.sums
  pub intervals : p.intervals ≡ q.intervals
  pub lengths : (t : Table) → claimed p t ≡ claimed q t
  pub tables : (t : Table) → entries p t ≡ entries q t

module _ (p q : Program) (s : Same p q) where
  -- ---- what is read of a record

  pub same_interval : (t : Table) → interval p t ≡ interval q t
  unfolding interval
  same_interval One = ap (λ l. get_or l 0 0) s.intervals
  same_interval Two = ap (λ l. get_or l 1 0) s.intervals
  same_interval Three = refl

  same_entry : (t : Table) (e : ℕ) → entry_at p t e ≡ entry_at q t e
  same_entry t e = ap (λ l. get_or l (e - 1) Instruction.End) (s.tables t)

  same_before : (t : Table) → sums_before p t ≡ sums_before q t
  unfolding sums_before
  same_before One = refl
  same_before Two = ap all_sums (s.tables One)
  same_before Three = ap₂ (λ a b. all_sums a + all_sums b) (s.tables One) (s.tables Two)

  pub same_first_sums : (t : Table) (e : ℕ) → first_sum p t e ≡ first_sum q t e
  unfolding first_sum
  same_first_sums t e = ap₂ (λ n l. n + all_sums (take (e - 1) l)) (same_before t) (s.tables t)

  -- ---- subroutines

  same_body : (k : ℕ) → body p k ≡ body q k
  unfolding body
  same_body k = ap (λ l. up_to_end 0 (behind k l)) (s.tables Three)

  same_chain : (n k : ℕ) → chain p n k ≡ chain q n k
  unfolding chain
  same_chain zero k = refl
  same_chain (suc n) k = ap₂ any_call (fun_ext (same_chain n)) (same_body k)

  same_call_count : (n k : ℕ) → call_count p n k ≡ call_count q n k
  unfolding call_count
  same_call_count zero k = refl
  same_call_count (suc n) k = ap₂ count (fun_ext (same_call_count n)) (same_body k)

  same_count : (t : Table) → stated_count p t ≡ stated_count q t
  same_count t = ap₂ count (fun_ext (same_call_count 7)) (s.tables t)

  -- ---- the walks

  same_places : (f g : ℕ → ℕ) (t : Table) → ((e : ℕ) → f e ≡ g e) → entry_places f p t ≡ entry_places g q t
  same_places f g t h = ap₂ (λ judge l. map (λ e. judged (judge e) (number t) e) (numbers_from 1 (length l))) (fun_ext h) (s.tables t)

  same_tables : (f g : Table → List JudgedPlace) → ((t : Table) → f t ≡ g t) → all_tables f ≡ all_tables g
  same_tables f g h = ap all_tables (fun_ext h)

  same_ranges : walk_ranges p ≡ walk_ranges q
  unfolding walk_ranges
  same_ranges =
      ap₂ ◌∷◌ header
      (same_tables (table_ranges p) (table_ranges q)
      (λ t.
      ap₂ ◌∷◌ (first t)
      (ap₂ ◌++◌
      (same_places (λ e. or (fault2 p t e) 2 0) (λ e. or (fault2 q t e) 2 0) t (λ e. rw (s.tables t)))
      (last t))))
    where
      header : judged (or (fault2header p) 2 0) 0 0 ≡ judged (or (fault2header q) 2 0) 0 0
      header = rw (s.locations, s.sums)

      first : (t : Table) → judged (or (fault5 p t) 5 0) (number t) 0 ≡ judged (or (fault5 q t) 5 0) (number t) 0
      first t = rw (same_interval t)

      last : (t : Table) → judged (or (fault6 p t) 6 0) (number t) 100 ∷ [] ≡ judged (or (fault6 q t) 6 0) (number t) 100 ∷ []
      last t = rw (s.lengths t)

  same_block : (t : Table) (e : ℕ) → block_fault p t e ≡ block_fault q t e
  unfolding block_fault
  same_block t e = rw (s.tables t)

  same_blocks : walk_blocks p ≡ walk_blocks q
  unfolding walk_blocks
  same_blocks =
      same_tables (table_blocks p) (table_blocks q)
      (λ t. ap₂ ◌++◌ (same_places (block_fault p t) (block_fault q t) t (same_block t)) (last t))
    where
      last : (t : Table) → judged (or (fault17 p t) 17 0) (number t) (length (entries p t) + 1) ∷ []
          ≡ judged (or (fault17 q t) 17 0) (number t) (length (entries q t) + 1) ∷ []
      last t = rw (s.tables t)

  same_reach_fault : (t : Table) (e : ℕ) → reach_fault p t e ≡ reach_fault q t e
  unfolding reach_fault
  same_reach_fault t e = rw (s.tables t, s.tables Three, s.locations)

  same_reach : walk_reach p ≡ walk_reach q
  unfolding walk_reach
  same_reach =
      same_tables (λ t. entry_places (reach_fault p t) p t) (λ t. entry_places (reach_fault q t) q t)
      (λ t. same_places (reach_fault p t) (reach_fault q t) t (same_reach_fault t))

  same_long : (o : Option ℕ) → starts_long p o ≡ starts_long q o
  same_long none = refl
  same_long (some k) = same_chain 7 k

  same_chains : walk_chains p ≡ walk_chains q
  unfolding walk_chains
  same_chains =
      same_places (λ e. or (fault19 p e) 19 0) (λ e. or (fault19 q e) 19 0) Three
      (λ e. ap₂ (λ f i. or (f (label (flow i))) 19 0) (fun_ext same_long) (same_entry Three e))

  same_sums : walk_sums p ≡ walk_sums q
  unfolding walk_sums
  same_sums =
      same_tables (λ t. entry_places (λ e. or (fault21 p t e) 21 0) p t) (λ t. entry_places (λ e. or (fault21 q t e) 21 0) q t)
      (λ t. same_places (λ e. or (fault21 p t e) 21 0) (λ e. or (fault21 q t e) 21 0) t (λ e. rw (same_first_sums t e, s.tables t, s.sums)))

  same_counts : walk_counts p ≡ walk_counts q
  unfolding walk_counts
  same_counts =
      ap₂ (λ n m. judged (or (ltb 60000 n) 22 0) 1 0 ∷ (judged (or (ltb 60000 m) 22 0) 2 0 ∷ [])) (same_count One) (same_count Two)

  -- ---- the check

  pub same_check : check p ≡ check q
  unfolding check
  same_check =
      λ i.
      verdict
      (first_of (same_ranges i ++ (same_blocks i ++ (same_reach i ++ (same_chains i ++ (same_sums i ++ same_counts i))))))
      (same_count One i)
      (same_count Two i)
