-- The check of a record in lent buffers is the check of the record that they hold, with 3 for 2 where the number is none: an entry with such a number
-- is read as `85 0`, a fault 2 at the same place of the same walk, and no later walk has a fault 2. Assumes nothing.
use Rattle.std.proofs.Math.Path.{◌≡◌, refl, sym, ap}
use Rattle.std.proofs.Common.{◌∙◌, subst}
use Prim.Native.Nat.{ℕ, zero, suc, ◌+◌, ◌-◌, ◌*◌, ◌≤◌, ◌<◌, min}
use native.Mathlib.Omega.{arith}
use Rattle.std.specs.Prelude.{Bool, ◌&&◌, ◌||◌, length, get_or, leb, Float}
use Rattle.std.proofs.Math.Bool.{true, false, not, cond}
use mathlib.Core.List.{List, [], ◌∷◌, ◌++◌, map}
use Rattle.std.proofs.Math.Dec.{eqb}
use borrow.Author.Tests.{eqb-true, eq-eqb, ne_eqb, le-leb, lt-leb}
use Rattle.base_laws.specs.Tests.{not_second}
use Rattle.base_program.specs.declared.Finding.{Finding}
use Rattle.base_program.specs.declared.Instruction.{Instruction}
use Rattle.base_program.specs.declared.Program.{Program}
use Rattle.base_program.specs.declared.Table.{Table}
use Rattle.base_program.specs.declared.Table.TheVariants.{One, Two, Three}
use Rattle.base_program.specs.Codes.{between, is_label}
use Rattle.base_program.specs.Entries.{row, slot, entries, entry_at}
use Rattle.base_program.specs.Laws.{entries_length, entry_in_slot}
use Rattle.base_program.specs.Reach.{numbers_from}
use Rattle.spec_check.specs.declared.Verdict.{Verdict}
use Rattle.spec_check.specs.Ranges.{in_range, fault2, fault2header, fault5, fault6}
use Rattle.spec_check.specs.Blocks.{fault10, fault11, fault12, fault13, fault14, fault15, fault16, fault17}
use Rattle.spec_check.specs.Calls.{fault18, fault19, fault20}
use Rattle.spec_check.specs.Counts.{fault21, fault22, stated_count}
use Rattle.spec_check.specs.Check.{JudgedPlace, judged, or, number, entry_places, all_tables, table_ranges, walk_ranges, block_fault, table_blocks, walk_blocks, reach_fault, walk_reach, walk_chains, walk_sums, walk_counts, first_of, verdict, check}
use Rattle.proof_check.specs.Walk.{or_else, first_append}
use Rattle.record_layout.specs.Layout.{unknown, record_of}
use Rattle.record_fields.specs.Numbers.{lies}
use Rattle.record_fields.specs.Entries.{length_lies, slots_full, entry_lies}
use Rattle.record_fields.specs.Unknown.{is_unknown}
use Rattle.check_known.specs.Laid.{is_instruction, number_at, fault3, table_laid, walk_laid, check_laid}
use Rattle.check_known.specs.ByNumber.{is_three, by_number}

map_append : {A B : Type 0} (f : A → B) (xs ys : List A) → map f (xs ++ ys) ≡ map f xs ++ map f ys
map_append f [] ys = refl
map_append f (x ∷ xs) ys = ap (λ l. f x ∷ l) (map_append f xs ys)

-- ---- a place by its number

module _ (ns : List ℕ) where
  abbrev as_told : JudgedPlace → JudgedPlace
  as_told j = judged (cond (is_three ns j.fault j.table j.entry) 3 j.fault) j.table j.entry

  abbrev told_finding : Finding → Finding
  told_finding Finding.Clean = Finding.Clean
  told_finding (Finding.Fault n t e) = Finding.Fault (cond (is_three ns n t e) 3 n) t e

  three_two : (n t e : ℕ) → is_three ns n t e ≡ true → n ≡ 2
  unfolding is_three
  three_two n t e h = by (eqb n 2) refl h
    where
      by : (b : Bool) → eqb n 2 ≡ b → b && (between 1 3 t && (between 1 99 e && not (is_instruction (number_at ns t e)))) ≡ true → n ≡ 2
      by true q g = eqb-true n 2 q
      by false q g = absurd (let z : ◌≡◌ {A = ℕ} 0 1 = ap (λ b. cond b 1 0) g in omega arith)

  not_zero : (n t e : ℕ) → eqb (cond (is_three ns n t e) 3 n) 0 ≡ eqb n 0
  not_zero n t e = by (is_three ns n t e) refl
    where
      by : (b : Bool) → is_three ns n t e ≡ b → eqb (cond b 3 n) 0 ≡ eqb n 0
      by true q = ap (λ k. eqb k 0) (sym (three_two n t e q))
      by false q = refl

  first_told : (l : List JudgedPlace) → first_of (map as_told l) ≡ told_finding (first_of l)
  unfolding first_of
  first_told [] = refl
  first_told (j ∷ l) =
      ap (λ b. cond b (first_of (map as_told l)) (told_finding (Finding.Fault j.fault j.table j.entry))) (not_zero j.fault j.table j.entry)
      ∙ by (eqb j.fault 0) (first_told l)
    where
      by : (b : Bool) → first_of (map as_told l) ≡ told_finding (first_of l)
          → cond b (first_of (map as_told l)) (told_finding (Finding.Fault j.fault j.table j.entry))
          ≡ told_finding (cond b (first_of l) (Finding.Fault j.fault j.table j.entry))
      by true h = h
      by false h = refl

  -- no entry
  same_at : (n t e : ℕ) → between 1 99 e ≡ false → judged n t e ≡ as_told (judged n t e)
  unfolding is_three
  same_at n t e h =
      sym
      (ap (λ b. judged (cond (eqb n 2 && (between 1 3 t && (b && not (is_instruction (number_at ns t e))))) 3 n) t e) h
      ∙ ap (λ b. judged (cond (eqb n 2 && b) 3 n) t e) (not_second (between 1 3 t) refl)
      ∙ ap (λ b. judged (cond b 3 n) t e) (not_second (eqb n 2) refl))

  places : (table : ℕ) (g h : ℕ → ℕ) (n k : ℕ) → ((e : ℕ) → k ≤ e → e < k + n → judged (g e) table e ≡ as_told (judged (h e) table e))
      → map (λ e. judged (g e) table e) (numbers_from k n) ≡ map as_told (map (λ e. judged (h e) table e) (numbers_from k n))
  unfolding numbers_from
  places table g h zero k q = refl
  places table g h (suc n) k q =
      ap (λ (j : JudgedPlace). j ∷ map (λ e. judged (g e) table e) (numbers_from (suc k) n)) (q k (omega arith) (omega arith))
      ∙ ap (λ l. as_told (judged (h k) table k) ∷ l) (places table g h n (suc k) (λ e a b. q e (omega (arith, a)) (omega (arith, b))))

-- ---- an entry with no such number

module _ (n : ℕ) (none : is_instruction n ≡ false) where
  abbrev Not : ℕ → Type 0
  Not k = n ≡ k → ⊥

  not_one : (k : ℕ) → is_instruction k ≡ true → Not k
  not_one k h e = let z : ◌≡◌ {A = ℕ} 0 1 = ap (λ b. cond b 1 0) (sym none ∙ ap is_instruction e ∙ h) in omega arith

  pub no_number : (ns : List ℕ) (vs : List Float) (s : ℕ) → get_or ns (9 + 8 * s + 0) 0 ≡ n → lies ns vs s ≡ unknown
  unfolding is_instruction
  no_number ns vs s e =
      is_unknown ns vs s n e (not_one 1 refl) (not_one 2 refl) (not_one 30 refl) (not_one 31 refl) (not_one 32 refl) (not_one 33 refl) (not_one 34 refl) (not_one 35 refl) (not_one 36 refl) (not_one 37 refl) (not_one 38 refl) (not_one 70 refl) (not_one 71 refl) (not_one 72 refl) (not_one 73 refl) (not_one 74 refl) (not_one 77 refl) (not_one 85 refl) (not_one 86 refl) (not_one 87 refl) (not_one 88 refl) (not_one 89 refl) (not_one 91 refl) (not_one 92 refl) (not_one 94 refl) (not_one 95 refl)

-- it is out of range, and nothing else is asked
unknown_out : not (in_range unknown) ≡ true
unfolding in_range
unknown_out = refl

below_3 : (t : Table) → row t < 3
below_3 One = omega arith
below_3 Two = omega arith
below_3 Three = omega arith

pub between_is : (a b n : ℕ) → a ≤ n → n ≤ b → between a b n ≡ true
between_is a b n h g = ap (λ c. c && leb n b) (le-leb a n h) ∙ le-leb n b g

module _ (ns : List ℕ) (vs : List Float) where
  abbrev p : Program
  p = record_of ns vs

  module _ (t : Table) (e : ℕ) (least : 1 ≤ e) (most : e ≤ length (entries p t)) where
    few : e ≤ 99
    few = omega (arith, most, entries_length p t (slots_full ns vs))

    held : entry_at p t e ≡ lies ns vs (99 * row t + (e - 1))
    unfolding slot
    held =
        entry_in_slot p t (slots_full ns vs) e least most
        ∙ ap (λ k. (get_or p.slots k (record { instruction = Instruction.End })).instruction) (let g : 99 * row t + e - 1 ≡ 99 * row t + (e - 1) = omega arith in g)
        ∙ entry_lies ns vs (row t) (e - 1) (below_3 t)
        (omega (arith, most, entries_length p t (slots_full ns vs), length_lies ns vs (row t) (below_3 t)))

    entry_unknown : is_instruction (number_at ns (number t) e) ≡ false → fault2 p t e ≡ true
    entry_unknown h =
        ap (λ x. not (in_range x))
        (held
        ∙ no_number (number_at ns (number t) e) h ns vs (99 * row t + (e - 1))
        (ap (λ k. get_or ns k 0) (let g : 9 + 8 * (99 * row t + (e - 1)) + 0 ≡ 9 + 8 * (99 * (row t + 1 - 1) + (e - 1)) = omega arith in g)))
        ∙ unknown_out

    entry_told : judged (or (fault3 ns t e) 3 (or (fault2 p t e) 2 0)) (number t) e ≡ as_told ns (judged (or (fault2 p t e) 2 0) (number t) e)
    unfolding is_three
    entry_told = by (is_instruction (number_at ns (number t) e)) refl
      where
        inside : (n : ℕ) (b : Bool) → eqb n 2 && (between 1 3 (number t) && (between 1 99 e && b)) ≡ eqb n 2 && b
        inside n b =
            ap (λ x. eqb n 2 && (x && (between 1 99 e && b))) (between_is 1 3 (number t) (omega arith) (omega (arith, below_3 t)))
            ∙ ap (λ x. eqb n 2 && (x && b)) (between_is 1 99 e least few)

        by : (b : Bool) → is_instruction (number_at ns (number t) e) ≡ b
            → judged (or (fault3 ns t e) 3 (or (fault2 p t e) 2 0)) (number t) e ≡ as_told ns (judged (or (fault2 p t e) 2 0) (number t) e)
        by true q =
            ap (λ b. judged (or (not b) 3 (or (fault2 p t e) 2 0)) (number t) e) q
            ∙ sym
            (ap (λ b. judged (cond b 3 (or (fault2 p t e) 2 0)) (number t) e)
            (inside (or (fault2 p t e) 2 0) (not (is_instruction (number_at ns (number t) e)))
            ∙ ap (λ b. eqb (or (fault2 p t e) 2 0) 2 && not b) q
            ∙ not_second (eqb (or (fault2 p t e) 2 0) 2) refl))
        by false q =
            ap (λ b. judged (or (not b) 3 (or (fault2 p t e) 2 0)) (number t) e) q
            ∙ sym
            (ap (λ b. judged (cond b 3 (or (fault2 p t e) 2 0)) (number t) e)
            (inside (or (fault2 p t e) 2 0) (not (is_instruction (number_at ns (number t) e)))
            ∙ ap (λ b. eqb (or (fault2 p t e) 2 0) 2 && not b) q
            ∙ ap (λ b. eqb (or b 2 0) 2 && true) (entry_unknown q)))

  table_told : (t : Table) → table_laid ns p t ≡ map (as_told ns) (table_ranges p t)
  table_told t =
      let five = judged (or (fault5 p t) 5 0) (number t) 0 in
      let six = judged (or (fault6 p t) 6 0) (number t) 100 in
      ap (λ l. five ∷ (l ++ (six ∷ [])))
      (places ns (number t) (λ e. or (fault3 ns t e) 3 (or (fault2 p t e) 2 0)) (λ e. or (fault2 p t e) 2 0) (length (entries p t)) 1
      (λ e a b. entry_told t e a (omega (arith, b))))
      ∙ ap (λ j. j ∷ (map (as_told ns) (entry_places (λ e. or (fault2 p t e) 2 0) p t) ++ (six ∷ []))) (same_at ns (or (fault5 p t) 5 0) (number t) 0 refl)
      ∙ ap (λ j. as_told ns five ∷ (map (as_told ns) (entry_places (λ e. or (fault2 p t e) 2 0) p t) ++ (j ∷ []))) (same_at ns (or (fault6 p t) 6 0) (number t) 100 refl)
      ∙ ap (λ l. as_told ns five ∷ l) (sym (map_append (as_told ns) (entry_places (λ e. or (fault2 p t e) 2 0) p t) (six ∷ [])))

  walk_told : walk_laid ns p ≡ map (as_told ns) (walk_ranges p)
  unfolding walk_laid walk_ranges
  walk_told =
      ap (λ j. j ∷ all_tables (table_laid ns p)) (same_at ns (or (fault2header p) 2 0) 0 0 refl)
      ∙ ap (λ l. as_told ns (judged (or (fault2header p) 2 0) 0 0) ∷ l)
      (ap (λ l. l ++ (table_laid ns p Two ++ table_laid ns p Three)) (table_told One)
      ∙ ap (λ l. map (as_told ns) (table_ranges p One) ++ (l ++ table_laid ns p Three)) (table_told Two)
      ∙ ap (λ l. map (as_told ns) (table_ranges p One) ++ (map (as_told ns) (table_ranges p Two) ++ l)) (table_told Three)
      ∙ ap (λ l. map (as_told ns) (table_ranges p One) ++ l) (sym (map_append (as_told ns) (table_ranges p Two) (table_ranges p Three)))
      ∙ sym (map_append (as_told ns) (table_ranges p One) (table_ranges p Two ++ table_ranges p Three)))

-- ---- the later walks

-- no place has fault 2
pub data NoTwo : List JudgedPlace → Type 0 where
  nothing : NoTwo []
  further : {j : JudgedPlace} {l : List JudgedPlace} → eqb j.fault 2 ≡ false → NoTwo l → NoTwo (j ∷ l)

joined : {l r : List JudgedPlace} → NoTwo l → NoTwo r → NoTwo (l ++ r)
joined nothing b = b
joined (further h a) b = further h (joined a b)

or_not : (b : Bool) (n m : ℕ) → eqb n 2 ≡ false → eqb m 2 ≡ false → eqb (or b n m) 2 ≡ false
or_not true n m h g = h
or_not false n m h g = g

each : (f : ℕ → ℕ) (table : ℕ) → ((e : ℕ) → eqb (f e) 2 ≡ false) → (n k : ℕ) → NoTwo (map (λ e. judged (f e) table e) (numbers_from k n))
unfolding numbers_from
each f table h zero k = nothing
each f table h (suc n) k = further (h k) (each f table h n (suc k))

tables : (f : Table → List JudgedPlace) → ((t : Table) → NoTwo (f t)) → NoTwo (all_tables f)
tables f h = joined (h One) (joined (h Two) (h Three))

module _ (p : Program) where
  block_not : (t : Table) (e : ℕ) → eqb (block_fault p t e) 2 ≡ false
  unfolding block_fault
  block_not t e =
      or_not (fault10 p t e) 10 _ refl
      (or_not (fault11 p t e) 11 _ refl
      (or_not (fault12 p t e) 12 _ refl
      (or_not (fault13 p t e) 13 _ refl (or_not (fault14 p t e) 14 _ refl (or_not (fault15 p t e) 15 _ refl (or_not (fault16 p t e) 16 0 refl refl))))))

  blocks_not : NoTwo (walk_blocks p)
  unfolding walk_blocks
  blocks_not =
      tables (table_blocks p)
      (λ t. joined (each (block_fault p t) (number t) (block_not t) (length (entries p t)) 1) (further (or_not (fault17 p t) 17 0 refl refl) nothing))

  reach_not : NoTwo (walk_reach p)
  unfolding walk_reach reach_fault
  reach_not =
      tables (λ t. entry_places (reach_fault p t) p t)
      (λ t. each (reach_fault p t) (number t) (λ e. or_not (fault18 p t e) 18 _ refl (or_not (fault20 p t e) 20 0 refl refl)) (length (entries p t)) 1)

  chains_not : NoTwo (walk_chains p)
  unfolding walk_chains
  chains_not = each (λ e. or (fault19 p e) 19 0) (number Three) (λ e. or_not (fault19 p e) 19 0 refl refl) (length (entries p Three)) 1

  sums_not : NoTwo (walk_sums p)
  unfolding walk_sums
  sums_not =
      tables (λ t. entry_places (λ e. or (fault21 p t e) 21 0) p t)
      (λ t. each (λ e. or (fault21 p t e) 21 0) (number t) (λ e. or_not (fault21 p t e) 21 0 refl refl) (length (entries p t)) 1)

  counts_not : NoTwo (walk_counts p)
  unfolding walk_counts
  counts_not = further (or_not (fault22 p One) 22 0 refl refl) (further (or_not (fault22 p Two) 22 0 refl refl) nothing)

  abbrev later_walks : List JudgedPlace
  later_walks = walk_blocks p ++ (walk_reach p ++ (walk_chains p ++ (walk_sums p ++ walk_counts p)))

  later_not : NoTwo later_walks
  later_not = joined blocks_not (joined reach_not (joined chains_not (joined sums_not counts_not)))

not_three : (ns : List ℕ) (n t e : ℕ) → eqb n 2 ≡ false → is_three ns n t e ≡ false
unfolding is_three
not_three ns n t e h = ap (λ b. b && (between 1 3 t && (between 1 99 e && not (is_instruction (number_at ns t e))))) h

first_not : {l : List JudgedPlace} → NoTwo l → (ns : List ℕ) → told_finding ns (first_of l) ≡ first_of l
unfolding first_of
first_not nothing ns = refl
first_not (further {j} {l} h a) ns = by (eqb j.fault 0) (first_not a ns)
  where
    by : (b : Bool) → told_finding ns (first_of l) ≡ first_of l
        → told_finding ns (cond b (first_of l) (Finding.Fault j.fault j.table j.entry)) ≡ cond b (first_of l) (Finding.Fault j.fault j.table j.entry)
    by true g = g
    by false g = ap (λ b. Finding.Fault (cond b 3 j.fault) j.table j.entry) (not_three ns j.fault j.table j.entry h)

-- ---- the check

told_verdict : (ns : List ℕ) (f : Finding) (n m : ℕ) → verdict (told_finding ns f) n m ≡ by_number ns (verdict f n m)
unfolding by_number
told_verdict ns Finding.Clean n m = refl
told_verdict ns (Finding.Fault k t e) n m = by (is_three ns k t e)
  where
    by : (b : Bool) → Verdict.Fault (cond b 3 k) t e ≡ cond b (Verdict.Fault 3 t e) (Verdict.Fault k t e)
    by true = refl
    by false = refl

told_or : (ns : List ℕ) (f g : Finding) → or_else (told_finding ns f) (told_finding ns g) ≡ told_finding ns (or_else f g)
told_or ns Finding.Clean g = refl
told_or ns (Finding.Fault k t e) g = refl

pub laid_by_number : (ns : List ℕ) (vs : List Float) → check_laid ns vs ≡ by_number ns (check (record_of ns vs))
unfolding check_laid check
laid_by_number ns vs =
    let p = record_of ns vs in
    ap (λ f. verdict f (stated_count p One) (stated_count p Two))
    (first_append (walk_laid ns p) (later_walks p)
    ∙ ap (λ l. or_else (first_of l) (first_of (later_walks p))) (walk_told ns vs)
    ∙ ap (λ f. or_else f (first_of (later_walks p))) (first_told ns (walk_ranges p))
    ∙ ap (λ f. or_else (told_finding ns (first_of (walk_ranges p))) f) (sym (first_not (later_not p) ns))
    ∙ told_or ns (first_of (walk_ranges p)) (first_of (later_walks p))
    ∙ ap (told_finding ns) (sym (first_append (walk_ranges p) (later_walks p))))
    ∙ told_verdict ns (first_of (walk_ranges p ++ later_walks p)) (stated_count p One) (stated_count p Two)

-- A record that passes is one whose buffers pass.
pub laid_passes : (ns : List ℕ) (vs : List Float) (a b : ℕ) → check (record_of ns vs) ≡ Verdict.Pass a b → check_laid ns vs ≡ Verdict.Pass a b
unfolding by_number
laid_passes ns vs a b h = laid_by_number ns vs ∙ ap (by_number ns) h

-- ---- test by test

pub take_first : (b rest : Bool) → b ≡ true → b || rest ≡ true
take_first b rest h = ap (λ x. x || rest) h

pub skip_first : (b rest : Bool) → b ≡ false → b || rest ≡ rest
skip_first b rest h = ap (λ x. x || rest) h

pub under : (a b n : ℕ) → n < a → between a b n ≡ false
under a b n h = ap (λ c. c && leb n b) (lt-leb a n h)

pub over : (a b n : ℕ) → b < n → between a b n ≡ false
over a b n h = ap (λ c. leb a n && c) (lt-leb n b h) ∙ not_second (leb a n) refl

module _ (ns : List ℕ) (n t e : ℕ) where
  pub no_two : (n ≡ 2 → ⊥) → is_three ns n t e ≡ false
  no_two h = not_three ns n t e (ne_eqb n 2 h)

  module _ (two : n ≡ 2) where
    on_two : is_three ns n t e ≡ between 1 3 t && (between 1 99 e && not (is_instruction (number_at ns t e)))
    unfolding is_three
    on_two = ap (λ b. b && (between 1 3 t && (between 1 99 e && not (is_instruction (number_at ns t e))))) (eq-eqb n 2 two)

    pub no_table : between 1 3 t ≡ false → is_three ns n t e ≡ false
    no_table h = on_two ∙ ap (λ b. b && (between 1 99 e && not (is_instruction (number_at ns t e)))) h

    module _ (table : between 1 3 t ≡ true) where
      on_table : is_three ns n t e ≡ between 1 99 e && not (is_instruction (number_at ns t e))
      on_table = on_two ∙ ap (λ b. b && (between 1 99 e && not (is_instruction (number_at ns t e)))) table

      pub no_entry : between 1 99 e ≡ false → is_three ns n t e ≡ false
      no_entry h = on_table ∙ ap (λ b. b && not (is_instruction (number_at ns t e))) h

      pub by_slot : between 1 99 e ≡ true → (b : Bool) → is_instruction (number_at ns t e) ≡ b → is_three ns n t e ≡ not b
      by_slot h b q = on_table ∙ ap (λ x. x && not (is_instruction (number_at ns t e))) h ∙ ap not q

  pub known_same : (v : Verdict) → v ≡ Verdict.Fault n t e → is_three ns n t e ≡ false → Verdict.Fault n t e ≡ by_number ns v
  unfolding by_number
  known_same v h q = sym (ap (λ b. cond b (Verdict.Fault 3 t e) (Verdict.Fault n t e)) q) ∙ sym (ap (by_number ns) h)

  pub known_three : (v : Verdict) → v ≡ Verdict.Fault n t e → is_three ns n t e ≡ true → Verdict.Fault 3 t e ≡ by_number ns v
  unfolding by_number
  known_three v h q = sym (ap (λ b. cond b (Verdict.Fault 3 t e) (Verdict.Fault n t e)) q) ∙ sym (ap (by_number ns) h)

pub known_pass : (ns : List ℕ) (v : Verdict) (a b : ℕ) → v ≡ Verdict.Pass a b → v ≡ by_number ns v
unfolding by_number
known_pass ns v a b h = h ∙ sym (ap (by_number ns) h)
