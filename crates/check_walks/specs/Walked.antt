-- The walks joined: what each lends the next, and the verdict as the first fault of all. Assumes nothing.
use Rattle.std.specs.Prelude.{◌≡◌, refl, ℕ, zero, suc, ◌≤◌, ◌<◌, Bool, true, false, cond, List, ◌++◌, length, get_or, leb, ltb, eqb}
use Rattle.std.proofs.Common.{sym, ◌∙◌, arith, append_assoc, lt-ltb, le-ltb, ltb-true, ltb-false, leb-false}
use Rattle.std.proofs.Math.Path.{ap}
use Rattle.base_program.specs.declared.Finding.{Finding}
use Rattle.base_program.specs.declared.Program.{Program}
use Rattle.base_program.specs.declared.Table.{Table}
use Rattle.base_program.specs.declared.Table.TheVariants.{One, Two, Three}
use Rattle.base_program.specs.Entries.{row, claimed, entries}
use Rattle.spec_check.specs.declared.Verdict.{Verdict}
use Rattle.spec_check.specs.Calls.{chain}
use Rattle.spec_check.specs.Counts.{stated_count, fault22}
use Rattle.spec_check.specs.Check.{JudgedPlace, or, first_of, verdict, check, walk_ranges, walk_blocks, walk_reach, walk_chains, walk_sums, walk_counts}
use Rattle.proof_check.specs.Walk.{or_else, first_append}
use Rattle.proof_check.specs.Passed.{chains_clean, no_long}
use Rattle.record_codes.specs.Loaded.{FlowsAre, SumsAre, SubsAre, LengthsAre}
use Rattle.check_subroutines.specs.Listed.{ListedCalls}
use Rattle.check_reach.specs.Ready.{NeedsAre}
use Rattle.check_count.specs.Saturate.{sat}
use Rattle.check_counts.specs.Tables.{TablesCounted}
use Rattle.check_verdict.specs.Verdict.{count_verdict}

-- ---- what the later walks are lent

abbrev pub Sized : Program → Type 0
Sized p = (t : Table) → (length (entries p t) ≡ get_or p.lengths (row t) 0) × (claimed p t ≤ 99)

-- whatever the record
pub record WalkLent (lengths codes needs starts list : List ℕ) (m : ℕ) (heights : List ℕ) : Type 0 where
  pub short : (t : ℕ) → t < 3 → get_or lengths t 0 ≤ 99
  pub codes_size : length codes ≡ 297
  pub needs_size : length needs ≡ 297
  pub starts_size : length starts ≡ 256
  pub listed : ListedCalls codes list m
  pub head_is : get_or list 0 0 ≡ get_or lengths 2 0
  pub heights_size : length heights ≡ 256
  pub heights_zero : (k : ℕ) → get_or heights k 0 ≡ 0

-- of a record
pub record WalksKnow (p : Program) (lengths : List ℕ) (most : ℕ) (codes needs : List ℕ) : Type 0 where
  pub lengths_are : LengthsAre p lengths
  pub most_is : most ≡ p.locations
  pub flows_are : FlowsAre p codes
  pub needs_are : NeedsAre p most needs

-- of a record in which the first walk found no fault
pub record Ranged (p : Program) (lengths : List ℕ) (most limit : ℕ) (codes taken needs : List ℕ) : Type 0 where
  pub clean : first_of (walk_ranges p) ≡ Finding.Clean
  pub sized : Sized p
  pub known : WalksKnow p lengths most codes needs
  pub sums_are : SumsAre p taken
  pub limit_is : p.sums ≡ limit

-- the walks of faults 10 to 20
abbrev pub middle : Program → List JudgedPlace
middle p = walk_blocks p ++ (walk_reach p ++ walk_chains p)

pub record CallsWalked (p : Program) (heights : List ℕ) (r : Finding) : Type 0 where
  pub finding : r ≡ first_of (middle p)
  pub heights_are : r ≡ Finding.Clean → (k : ℕ) → k < 256 → (s : ℕ) → s ≤ 7 → leb s (get_or heights k 0) ≡ chain p s k
  pub short : r ≡ Finding.Clean → (k : ℕ) → k < 256 → get_or heights k 0 ≤ 6
  pub heights_size : length heights ≡ 256

-- The verdict; of a record that passes also what the walks found of its entries.
pub record WalksFound (p : Program) (codes taken starts : List ℕ) : Type 0 where
  pub lengths_are : Sized p
  pub flows_are : FlowsAre p codes
  pub sums_are : SumsAre p taken
  pub subs_are : SubsAre p starts
  pub codes_size : length codes ≡ 297
  pub taken_size : length taken ≡ 297
  pub starts_size : length starts ≡ 256

pub record VerdictFound (p : Program) (codes taken starts : List ℕ) (r : Verdict) : Type 0 where
  pub verdict : r ≡ check p
  pub passed : (first second : ℕ) → r ≡ Verdict.Pass first second → WalksFound p codes taken starts

not_passed : {n t e a b : ℕ} → Verdict.Fault n t e ≡ Verdict.Pass a b → ⊥
not_passed h = let z : ◌≡◌ {A = ℕ} 0 1 = cc in omega arith

pub fault_found : (p : Program) (codes taken starts : List ℕ) (n t e : ℕ) → Verdict.Fault n t e ≡ check p → VerdictFound p codes taken starts (Verdict.Fault n t e)
fault_found p codes taken starts n t e h = record { verdict = h; passed = λ a b z. absurd (not_passed z) }

-- ---- a walk that finds nothing, and one that does

clean_fault : {n t e : ℕ} → Finding.Fault n t e ≡ Finding.Clean → ⊥
clean_fault h = let z : ◌≡◌ {A = ℕ} 0 1 = cc in omega arith

pub found_here : (f : Finding) (l r : List JudgedPlace) → f ≡ first_of l → (n t e : ℕ) → f ≡ Finding.Fault n t e → f ≡ first_of (l ++ r)
found_here f l r h n t e q = q ∙ ap (λ x. or_else x (first_of r)) (sym q ∙ h) ∙ sym (first_append l r)

pub found_later : (f : Finding) (l r : List JudgedPlace) → first_of l ≡ Finding.Clean → f ≡ first_of r → f ≡ first_of (l ++ r)
found_later f l r h q = q ∙ sym (first_append l r ∙ ap (λ x. or_else x (first_of r)) h)

-- ---- no chain is long where 19 is not met

pub short_chains : (p : Program) (heights : List ℕ) → first_of (walk_chains p) ≡ Finding.Clean
    → ((k : ℕ) → k < 256 → (s : ℕ) → s ≤ 7 → leb s (get_or heights k 0) ≡ chain p s k) → (k : ℕ) → k < 256 → get_or heights k 0 ≤ 6
short_chains p heights h are k m =
    let g : get_or heights k 0 < 7 = leb-false 7 (get_or heights k 0) (are k m 7 (omega arith) ∙ no_long p (chains_clean p h) k) in
    omega arith

-- ---- the verdict

module _ (p : Program) where
  last : List JudgedPlace
  last = walk_sums p ++ walk_counts p

  in_order_lem : walk_ranges p ++ (middle p ++ last) ≡ walk_ranges p ++ (walk_blocks p ++ (walk_reach p ++ (walk_chains p ++ (walk_sums p ++ walk_counts p))))
  unfolding last
  in_order_lem =
      ap (λ l. walk_ranges p ++ l)
      (append_assoc (walk_blocks p) (walk_reach p ++ walk_chains p) last ∙ ap (λ l. walk_blocks p ++ l) (append_assoc (walk_reach p) (walk_chains p) last))

  checked : (f : Finding) → f ≡ first_of (walk_ranges p ++ (middle p ++ last)) → verdict f (stated_count p One) (stated_count p Two) ≡ check p
  unfolding check
  checked f h = ap (λ x. verdict x (stated_count p One) (stated_count p Two)) (h ∙ ap first_of in_order_lem)

  pub fault_in_ranges : (f : Finding) (n t e : ℕ) → f ≡ first_of (walk_ranges p) → f ≡ Finding.Fault n t e → Verdict.Fault n t e ≡ check p
  fault_in_ranges f n t e h q = ap (λ x. verdict x (stated_count p One) (stated_count p Two)) (sym q) ∙ checked f (found_here f (walk_ranges p) (middle p ++ last) h n t e q)

  module _ (ranges : first_of (walk_ranges p) ≡ Finding.Clean) where
    pub fault_in_middle : (f : Finding) (n t e : ℕ) → f ≡ first_of (middle p) → f ≡ Finding.Fault n t e → Verdict.Fault n t e ≡ check p
    fault_in_middle f n t e h q =
        ap (λ x. verdict x (stated_count p One) (stated_count p Two)) (sym q)
        ∙ checked f (found_later f (walk_ranges p) (middle p ++ last) ranges (found_here f (middle p) last h n t e q))

    module _ (calls : first_of (middle p) ≡ Finding.Clean) where
      pub fault_in_sums : (f : Finding) (n t e : ℕ) → f ≡ first_of (walk_sums p) → f ≡ Finding.Fault n t e → Verdict.Fault n t e ≡ check p
      unfolding last
      fault_in_sums f n t e h q =
          ap (λ x. verdict x (stated_count p One) (stated_count p Two)) (sym q)
          ∙ checked f
          (found_later f (walk_ranges p) (middle p ++ last) ranges
          (found_later f (middle p) last calls (found_here f (walk_sums p) (walk_counts p) h n t e q)))

      module _ (sums : first_of (walk_sums p) ≡ Finding.Clean) where
        counts_decide : verdict (first_of (walk_counts p)) (stated_count p One) (stated_count p Two) ≡ check p
        unfolding last
        counts_decide =
            checked (first_of (walk_counts p))
            (found_later (first_of (walk_counts p)) (walk_ranges p) (middle p ++ last) ranges
            (found_later (first_of (walk_counts p)) (middle p) last calls (found_later (first_of (walk_counts p)) (walk_sums p) (walk_counts p) sums refl)))

        abbrev decided : Bool → Bool → Verdict
        decided a b =
            verdict
            (cond (eqb (or a 22 0) 0) (cond (eqb (or b 22 0) 0) Finding.Clean (Finding.Fault (or b 22 0) 2 0)) (Finding.Fault (or a 22 0) 1 0))
            (stated_count p One)
            (stated_count p Two)

        by_counts : (a b : Bool) → fault22 p One ≡ a → fault22 p Two ≡ b → decided a b ≡ check p
        unfolding walk_counts first_of
        by_counts a b h k = ap (λ x. decided x b) (sym h) ∙ ap (decided (fault22 p One)) (sym k) ∙ counts_decide

        module _ (first second : ℕ) (counted : TablesCounted p first second) where
          over : (t : Table) (n : ℕ) → n ≡ sat (stated_count p t) → 60000 < n → fault22 p t ≡ true
          over t n h q = lt-ltb 60000 (stated_count p t) (omega arith)

          within : (t : Table) (n : ℕ) → n ≡ sat (stated_count p t) → n ≤ 60000 → fault22 p t ≡ false
          within t n h q = le-ltb 60000 (stated_count p t) (omega arith)

          pub first_over : 60000 < first → Verdict.Fault 22 1 0 ≡ check p
          first_over h = by_counts true (fault22 p Two) (over One first counted.first_is h) refl

          pub second_over : first ≤ 60000 → 60000 < second → Verdict.Fault 22 2 0 ≡ check p
          second_over h k = by_counts false true (within One first counted.first_is h) (over Two second counted.second_is k)

          pub passes : first ≤ 60000 → second ≤ 60000 → Verdict.Pass first second ≡ check p
          passes h k =
              ap (λ n. Verdict.Pass n second) (let g : first ≡ stated_count p One = (let e : first ≡ sat (stated_count p One) = counted.first_is in omega arith) in g)
              ∙ ap (Verdict.Pass (stated_count p One)) (let g : second ≡ stated_count p Two = (let e : second ≡ sat (stated_count p Two) = counted.second_is in omega arith) in g)
              ∙ by_counts false false (within One first counted.first_is h) (within Two second counted.second_is k)

pub counts_verdict : (p : Program) → first_of (walk_ranges p) ≡ Finding.Clean → first_of (middle p) ≡ Finding.Clean → first_of (walk_sums p) ≡ Finding.Clean → (first second : ℕ)
    → TablesCounted p first second → count_verdict first second ≡ check p
counts_verdict p r m s first second c = by (ltb 60000 first) refl (ltb 60000 second) refl
  where
    by : (a : Bool) → ltb 60000 first ≡ a → (b : Bool) → ltb 60000 second ≡ b → cond a (Verdict.Fault 22 1 0) (cond b (Verdict.Fault 22 2 0) (Verdict.Pass first second)) ≡ check p
    by true h b k = first_over p r m s first second c (ltb-true 60000 first h)
    by false h true k = second_over p r m s first second c (ltb-false 60000 first h) (ltb-true 60000 second k)
    by false h false k = passes p r m s first second c (ltb-false 60000 first h) (ltb-false 60000 second k)

-- ---- what each walk is lent

pub sized_short : (p : Program) → Sized p → (t : ℕ) → t < 3 → get_or p.lengths t 0 ≤ 99
sized_short p s zero h = (s One).1
sized_short p s (suc zero) h = (s Two).1
sized_short p s (suc (suc zero)) h = (s Three).1
sized_short p s (suc (suc (suc t))) h = absurd (omega arith)

-- a fault of one of the middle walks, or none
pub middle_blocks : (p : Program) (f : Finding) (n t e : ℕ) → f ≡ first_of (walk_blocks p) → f ≡ Finding.Fault n t e → f ≡ first_of (middle p)
middle_blocks p f n t e h q = found_here f (walk_blocks p) (walk_reach p ++ walk_chains p) h n t e q

pub middle_reach : (p : Program) (f : Finding) (n t e : ℕ) → first_of (walk_blocks p) ≡ Finding.Clean → f ≡ first_of (walk_reach p) → f ≡ Finding.Fault n t e → f ≡ first_of (middle p)
middle_reach p f n t e b h q = found_later f (walk_blocks p) (walk_reach p ++ walk_chains p) b (found_here f (walk_reach p) (walk_chains p) h n t e q)

pub middle_chains : (p : Program) (f : Finding) → first_of (walk_blocks p) ≡ Finding.Clean → first_of (walk_reach p) ≡ Finding.Clean → f ≡ first_of (walk_chains p) → f ≡ first_of (middle p)
middle_chains p f b c h = found_later f (walk_blocks p) (walk_reach p ++ walk_chains p) b (found_later f (walk_reach p) (walk_chains p) c h)

pub not_clean : (f : Finding) (n t e : ℕ) → f ≡ Finding.Fault n t e → f ≡ Finding.Clean → ⊥
not_clean f n t e h q = clean_fault (sym h ∙ q)
