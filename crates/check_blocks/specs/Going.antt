-- The walk of faults 10 to 17 from entry to entry: the blocks that are open, and what is left to judge. Assumes nothing.
use Rattle.std.specs.Prelude.{◌≡◌, ℕ, zero, suc, ◌+◌, ◌-◌, ◌*◌, ◌<◌, true, false, not, ◌&&◌, ◌⊎◌, List, [], ◌∷◌, ◌++◌, length, get_or, take, drop, ltb, eqb}
use Rattle.std.proofs.Math.Path.{refl, sym}
use Rattle.std.proofs.Common.{ap, ◌∙◌, arith, add-one, inl, inr, length-append, take-suc, take_all, get_or-append-add, ne_eqb}
use Rattle.std.proofs.Math.Option.{none, some}
use Rattle.std.proofs.Math.ListN.{get_or-append}
use Rattle.base_program.specs.declared.Finding.{Finding}
use Rattle.base_program.specs.declared.Flow.{Flow}
use Rattle.base_program.specs.declared.Instruction.{Instruction}
use Rattle.base_program.specs.declared.Program.{Program}
use Rattle.base_program.specs.declared.Table.{Table}
use Rattle.base_program.specs.declared.Table.TheVariants.{One, Two, Three}
use Rattle.base_program.specs.Flow.{flow}
use Rattle.base_program.specs.Entries.{entries, table_at}
use Rattle.spec_check.specs.Blocks.{Block, through, blocks_after, is_none, label, label_before, is_three, fault17}
use Rattle.spec_check.specs.Check.{judged, or, number, entry_places, first_of, block_fault, table_blocks, walk_blocks}
use Rattle.proof_check.specs.Walk.{nowhere, place_clean, place_faulty, places_passed, tables_from, tables_next, entry_places_length, entry_place}
use Rattle.base_program.specs.Laws.{row_at}
use Rattle.record_codes.specs.Loaded.{LengthsAre, FlowsAre, SubsAre, decode}
use Rattle.proof_check.specs.Labels.{label_place, label_before_place_lem}
use Rattle.check_open.specs.declared.Block.{Block as Open}
use Rattle.check_open.specs.Stack.{stack_of}
use Rattle.check_block.specs.Judge.{judge, again_of, judge_next, none_open}
use Rattle.record_codes.specs.Kinds.{label_small}

pub record BlocksReady (p : Program) (codes lengths subs : List ℕ) : Type 0 where
  pub lengths_are : LengthsAre p lengths
  pub flows_are : FlowsAre p codes
  pub subs_are : SubsAre p subs

-- at entry e, from 0, of row t
pub record BlocksGoing (p : Program) (t e : ℕ) (blocks : List Open) (depth : ℕ) : Type 0 where
  pub same : first_of (drop e (table_blocks p (table_at t)) ++ tables_from (table_blocks p) (t + 1)) ≡ first_of (walk_blocks p)
  pub open_blocks : stack_of blocks depth ≡ blocks_after [] (take e (entries p (table_at t)))

-- at the start of row t
abbrev pub TableGoing : Program → ℕ → Type 0
TableGoing p t = first_of (tables_from (table_blocks p) t) ≡ first_of (walk_blocks p)

-- ---- the code's tests

pub is_third : (t : ℕ) → t < 3 → eqb t 2 ≡ is_three (table_at t)
is_third zero h = refl
is_third (suc zero) h = refl
is_third (suc (suc zero)) h = refl
is_third (suc (suc (suc t))) h = absurd (omega arith)

module _ (p : Program) (codes lengths subs : List ℕ) (ready : BlocksReady p codes lengths subs) (t : ℕ) (below : t < 3) where
  abbrev T : Table
  T = table_at t

  pub length_is : length (entries p T) ≡ get_or lengths t 0
  length_is = ready.lengths_are T ∙ ap (λ k. get_or lengths k 0) (row_at t below)

  pub number_is : number T ≡ t + 1
  number_is = ap (λ k. k + 1) (row_at t below)

  module _ (e : ℕ) (within : e < length (entries p T)) where
    abbrev entry : Instruction
    entry = get_or (entries p T) e Instruction.End

    pub flow_is : decode (get_or codes (99 * t + e) 0) ≡ flow entry
    flow_is = ap (λ k. decode (get_or codes (99 * k + e) 0)) (sym (row_at t below)) ∙ ready.flows_are T e within

    place_is : get_or (table_blocks p T) e nowhere ≡ judged (block_fault p T (1 + e)) (number T) (1 + e)
    place_is =
        get_or-append (entry_places (block_fault p T) p T) (judged (or (fault17 p T) 17 0) (number T) (length (entries p T) + 1) ∷ []) nowhere e (omega (arith, entry_places_length (block_fault p T) p T))
        ∙ entry_place (block_fault p T) p T e within

    inside : e < length (table_blocks p T)
    inside = omega (arith, entry_places_length (block_fault p T) p T, length-append (entry_places (block_fault p T) p T) (judged (or (fault17 p T) 17 0) (number T) (length (entries p T) + 1) ∷ []))

-- ---- the fault of an entry

label_before_none_lem : (l : List Instruction) → label_before none l ≡ false
unfolding label_before
label_before_none_lem [] = refl
label_before_none_lem (i ∷ r) = label_before_none_lem r

-- a number again matters in Table 3 only, where the table of first places tells
again_same : (p : Program) (subs : List ℕ) → SubsAre p subs → (t : Table) (x : Flow) (bs : List Block) (e : ℕ) → ((k : ℕ) → label x ≡ some k → k < 256)
    → judge (is_three t) x bs (again_of x (e + 1) subs) ≡ judge (is_three t) x bs (label_before (label x) (take e (entries p t)))
unfolding label judge Rattle.spec_check.specs.Blocks.kind
again_same p subs s t Flow.Next bs e m = ap (λ b. judge (is_three t) Flow.Next bs b) (sym (label_before_none_lem (take e (entries p t))))
again_same p subs s t Flow.Else bs e m = ap (λ b. judge (is_three t) Flow.Else bs b) (sym (label_before_none_lem (take e (entries p t))))
again_same p subs s t Flow.End bs e m = ap (λ b. judge (is_three t) Flow.End bs b) (sym (label_before_none_lem (take e (entries p t))))
again_same p subs s t Flow.Then bs e m = ap (λ b. judge (is_three t) Flow.Then bs b) (sym (label_before_none_lem (take e (entries p t))))
again_same p subs s t Flow.Stop bs e m = ap (λ b. judge (is_three t) Flow.Stop bs b) (sym (label_before_none_lem (take e (entries p t))))
again_same p subs s t (Flow.Loop n) bs e m = ap (λ b. judge (is_three t) (Flow.Loop n) bs b) (sym (label_before_none_lem (take e (entries p t))))
again_same p subs s One (Flow.Subroutine k) bs e m = refl
again_same p subs s Two (Flow.Subroutine k) bs e m = refl
again_same p subs s Three (Flow.Subroutine k) bs e m =
    ap (λ f. judge true (Flow.Subroutine k) bs (ltb 0 f && ltb f (e + 1))) (s k (m k refl))
    ∙ ap (λ n. judge true (Flow.Subroutine k) bs (ltb 0 (label_place k 1 (entries p Three)) && ltb (label_place k 1 (entries p Three)) n)) (let g : e + 1 ≡ 1 + e = omega arith in g)
    ∙ ap (λ b. judge true (Flow.Subroutine k) bs b) (sym (label_before_place_lem k 1 e (entries p Three) (omega arith)))
again_same p subs s t (Flow.Call k) bs e m = ap (λ b. judge (is_three t) (Flow.Call k) bs b) (sym (label_before_none_lem (take e (entries p t))))
again_same p subs s t (Flow.Exit c) bs e m = ap (λ b. judge (is_three t) (Flow.Exit c) bs b) (sym (label_before_none_lem (take e (entries p t))))

-- entry e from 0 is entry 1 + e
fault_at : (p : Program) (t : Table) (e : ℕ)
    → block_fault p t (1 + e)
    ≡ judge (is_three t) (flow (get_or (entries p t) e Instruction.End)) (blocks_after [] (take e (entries p t))) (label_before (label (flow (get_or (entries p t) e Instruction.End))) (take e (entries p t)))
unfolding block_fault judge
fault_at p t e =
    ap
    (λ (k : ℕ).
    judge (is_three t) (flow (get_or (entries p t) k Instruction.End)) (blocks_after [] (take k (entries p t)))
    (label_before (label (flow (get_or (entries p t) k Instruction.End))) (take k (entries p t))))
    (let g : 1 + e - 1 ≡ e = omega arith in g)

blocks_snoc : (bs : List Block) (l : List Instruction) (i : Instruction) → blocks_after bs (l ++ i ∷ []) ≡ through (flow i) (blocks_after bs l)
unfolding blocks_after
blocks_snoc bs [] i = refl
blocks_snoc bs (j ∷ l) i = blocks_snoc (through (flow j) bs) l i

-- ---- a turn

module _ (p : Program) (codes lengths subs : List ℕ) (ready : BlocksReady p codes lengths subs) (t : ℕ) (below : t < 3) (e : ℕ)
    (within : e < length (entries p (table_at t))) (blocks : List Open) (depth : ℕ) (going : BlocksGoing p t e blocks depth) (x : Flow)
    (told : x ≡ decode (get_or codes (99 * t + e) 0)) where
  kind_is : x ≡ flow (get_or (entries p (table_at t)) e Instruction.End)
  kind_is = told ∙ flow_is p codes lengths subs ready t below e within

  judged_right : judge (eqb t 2) x (stack_of blocks depth) (again_of x (e + 1) subs) ≡ block_fault p (table_at t) (1 + e)
  judged_right =
      ap (λ b. judge b x (stack_of blocks depth) (again_of x (e + 1) subs)) (is_third t below)
      ∙ ap (λ s. judge (is_three (table_at t)) x s (again_of x (e + 1) subs)) going.open_blocks
      ∙ again_same p subs ready.subs_are (table_at t) x (blocks_after [] (take e (entries p (table_at t)))) e
      (λ k h. label_small (get_or codes (99 * t + e) 0) k (ap label (sym told) ∙ h))
      ∙ ap (λ y. judge (is_three (table_at t)) y (blocks_after [] (take e (entries p (table_at t)))) (label_before (label y) (take e (entries p (table_at t))))) kind_is
      ∙ sym (fault_at p (table_at t) e)

  place : (n : ℕ) → n ≡ judge (eqb t 2) x (stack_of blocks depth) (again_of x (e + 1) subs) → get_or (table_blocks p (table_at t)) e nowhere ≡ judged n (t + 1) (e + 1)
  place n h =
      place_is p codes lengths subs ready t below e within
      ∙ ap (λ f. judged f (number (table_at t)) (1 + e)) (sym (h ∙ judged_right))
      ∙ ap (λ r. judged n r (1 + e)) (number_is p codes lengths subs ready t below)
      ∙ ap (λ r. judged n (t + 1) r) (let g : 1 + e ≡ e + 1 = omega arith in g)

  pub fault_here : (n : ℕ) → n ≡ judge (eqb t 2) x (stack_of blocks depth) (again_of x (e + 1) subs) → (n ≡ 0 → ⊥) → Finding.Fault n (t + 1) (e + 1) ≡ first_of (walk_blocks p)
  fault_here n h nonzero =
      sym
      (place_faulty (table_blocks p (table_at t)) (tables_from (table_blocks p) (t + 1)) e (inside p codes lengths subs ready t below e within) n (t + 1) (e + 1) (place n h) nonzero)
      ∙ going.same

  pub go_on_lem : (n : ℕ) → n ≡ judge (eqb t 2) x (stack_of blocks depth) (again_of x (e + 1) subs) → n ≡ 0 → (blocks' : List Open) (depth' : ℕ)
      → stack_of blocks' depth' ≡ through x (stack_of blocks depth) → BlocksGoing p t (e + 1) blocks' depth'
  go_on_lem n h zero_is blocks' depth' passed =
      record {
        same =
            sym
            (place_clean (table_blocks p (table_at t)) (tables_from (table_blocks p) (t + 1)) e (inside p codes lengths subs ready t below e within) (t + 1) (e + 1)
            (place n h ∙ ap (λ f. judged f (t + 1) (e + 1)) zero_is))
            ∙ going.same;
        open_blocks =
            passed
            ∙ ap (through x) going.open_blocks
            ∙ ap (λ y. through y (blocks_after [] (take e (entries p (table_at t))))) kind_is
            ∙ sym (blocks_snoc [] (take e (entries p (table_at t))) (get_or (entries p (table_at t)) e Instruction.End))
            ∙ ap (blocks_after []) (sym (take-suc (entries p (table_at t)) e Instruction.End within))
            ∙ ap (λ k. blocks_after [] (take k (entries p (table_at t)))) (sym (add-one e));
      }

-- An entry with code 0 opens and closes no block: only 12 can be its fault.
module _ (p : Program) (codes lengths subs : List ℕ) (ready : BlocksReady p codes lengths subs) (t : ℕ) (below : t < 3) (e : ℕ)
    (within : e < length (entries p (table_at t))) (blocks : List Open) (depth : ℕ) (going : BlocksGoing p t e blocks depth)
    (plain : get_or codes (99 * t + e) 0 ≡ 0) where
  next_told : Flow.Next ≡ decode (get_or codes (99 * t + e) 0)
  unfolding decode
  next_told = sym (ap decode plain)

  next_judged : or (eqb t 2 && eqb depth 0) 12 0 ≡ judge (eqb t 2) Flow.Next (stack_of blocks depth) (again_of Flow.Next (e + 1) subs)
  next_judged = ap (λ b. or (eqb t 2 && b) 12 0) (sym (none_open blocks depth)) ∙ sym (judge_next (eqb t 2) (stack_of blocks depth))

  pub fault_next : t ≡ 2 → eqb depth 0 ≡ true → Finding.Fault 12 3 (e + 1) ≡ first_of (walk_blocks p)
  fault_next third outside =
      ap (λ k. Finding.Fault 12 k (e + 1)) (let g : 3 ≡ t + 1 = omega arith in g)
      ∙ fault_here p codes lengths subs ready t below e within blocks depth going Flow.Next next_told 12
      (sym (ap (λ k. or (eqb k 2 && eqb depth 0) 12 0) third ∙ ap (λ b. or b 12 0) outside) ∙ next_judged)
      (λ q. omega arith)

  next_clean : ((t ≡ 2) × (eqb depth 0 ≡ false)) ⊎ (t ≡ 2 → ⊥) → 0 ≡ or (eqb t 2 && eqb depth 0) 12 0
  next_clean (inl q) = sym (ap (λ k. or (eqb k 2 && eqb depth 0) 12 0) q.0 ∙ ap (λ b. or b 12 0) q.1)
  next_clean (inr q) = sym (ap (λ b. or (b && eqb depth 0) 12 0) (ne_eqb t 2 q))

  pub go_next : ((t ≡ 2) × (eqb depth 0 ≡ false)) ⊎ (t ≡ 2 → ⊥) → BlocksGoing p t (e + 1) blocks depth
  unfolding through
  go_next h = go_on_lem p codes lengths subs ready t below e within blocks depth going Flow.Next next_told 0 (next_clean h ∙ next_judged) refl blocks depth refl

-- ---- the ends of a table

pub table_start : (p : Program) (t : ℕ) (blocks : List Open) → t < 3 → TableGoing p t → BlocksGoing p t 0 blocks 0
unfolding stack_of blocks_after
table_start p t blocks h g = record { same = ap first_of (sym (tables_next (table_blocks p) t h)) ∙ g; open_blocks = refl }

module _ (p : Program) (codes lengths subs : List ℕ) (ready : BlocksReady p codes lengths subs) (t : ℕ) (below : t < 3) (n : ℕ)
    (size : length (entries p (table_at t)) ≡ n) (blocks : List Open) (depth : ℕ) (going : BlocksGoing p t n blocks depth) where
  all_places : length (table_blocks p (table_at t)) ≡ n + 1
  all_places =
      length-append (entry_places (block_fault p (table_at t)) p (table_at t)) (judged (or (fault17 p (table_at t)) 17 0) (number (table_at t)) (length (entries p (table_at t)) + 1) ∷ [])
      ∙ ap (λ k. k + 1) (entry_places_length (block_fault p (table_at t)) p (table_at t) ∙ size)

  left_open : fault17 p (table_at t) ≡ not (eqb depth 0)
  left_open =
      ap (λ l. not (is_none (blocks_after [] l))) (sym (take_all n (entries p (table_at t)) (omega arith)))
      ∙ ap (λ s. not (is_none s)) (sym going.open_blocks)
      ∙ ap not (none_open blocks depth)

  last_place : get_or (table_blocks p (table_at t)) n nowhere ≡ judged (or (not (eqb depth 0)) 17 0) (t + 1) (n + 1)
  last_place =
      ap (λ k. get_or (table_blocks p (table_at t)) k nowhere) (let g : n ≡ length (entry_places (block_fault p (table_at t)) p (table_at t)) + 0 = omega (arith, entry_places_length (block_fault p (table_at t)) p (table_at t)) in g)
      ∙ get_or-append-add (entry_places (block_fault p (table_at t)) p (table_at t)) (judged (or (fault17 p (table_at t)) 17 0) (number (table_at t)) (length (entries p (table_at t)) + 1) ∷ []) 0 nowhere
      ∙ ap (λ b. judged (or b 17 0) (number (table_at t)) (length (entries p (table_at t)) + 1)) left_open
      ∙ ap (λ k. judged (or (not (eqb depth 0)) 17 0) k (length (entries p (table_at t)) + 1)) (number_is p codes lengths subs ready t below)
      ∙ ap (λ k. judged (or (not (eqb depth 0)) 17 0) (t + 1) (k + 1)) size

  pub missing_end : (depth ≡ 0 → ⊥) → Finding.Fault 17 (t + 1) (n + 1) ≡ first_of (walk_blocks p)
  missing_end h =
      sym
      (place_faulty (table_blocks p (table_at t)) (tables_from (table_blocks p) (t + 1)) n (omega (arith, all_places)) 17 (t + 1) (n + 1)
      (last_place ∙ ap (λ b. judged (or (not b) 17 0) (t + 1) (n + 1)) (ne_eqb depth 0 h))
      (λ q. omega arith))
      ∙ going.same

  pub next_table : depth ≡ 0 → TableGoing p (t + 1)
  next_table h =
      ap first_of (sym (places_passed (table_blocks p (table_at t)) (tables_from (table_blocks p) (t + 1)) (n + 1) (omega (arith, all_places))))
      ∙ sym
      (place_clean (table_blocks p (table_at t)) (tables_from (table_blocks p) (t + 1)) n (omega (arith, all_places)) (t + 1) (n + 1)
      (last_place ∙ ap (λ k. judged (or (not (eqb k 0)) 17 0) (t + 1) (n + 1)) h))
      ∙ going.same

pub walk_start : (p : Program) → TableGoing p 0
unfolding walk_blocks
walk_start p = refl

pub walk_end : (p : Program) (t : ℕ) → t ≡ 3 → TableGoing p t → Finding.Clean ≡ first_of (walk_blocks p)
unfolding first_of
walk_end p t h g = ap (λ k. first_of (tables_from (table_blocks p) k)) (sym h) ∙ g
