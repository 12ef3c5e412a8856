-- A text without fault: its tables, that each has at most 99 entries, and that the record has every entry in its table and place, since each
-- list of entries is padded to 99 slots. Assumes nothing.
use Rattle.std.specs.Prelude.{ℕ, zero, suc, ◌+◌, ◌-◌, ◌≤◌, ◌<◌, min, Bool, true, false, cond, not, ◌&&◌, get_or, take, drop, replicate, ltb, Result, Ok, Err}
use native.Mathlib.Omega.{arith}
use Rattle.std.proofs.Math.Path.{◌≡◌, refl, ap, subst}
use Rattle.std.proofs.Common.{sym, ◌∙◌, length-append, take_at}
use mathlib.Core.List.{List, [], ◌∷◌, ◌++◌, map, append_assoc, append-nil}
use Rattle.std.proofs.Math.ListN.{length}
use Rattle.std.proofs.lemmas.List.{length-map, length-replicate}
use Rattle.std.proofs.Math.Seq.{drop_at}
use Rattle.base_program.specs.declared.Finding.{Finding}
use Rattle.base_program.specs.declared.Instruction.{Instruction}
use Rattle.base_program.specs.declared.Program.{Program}
use Rattle.base_program.specs.declared.Slot.{Slot}
use Rattle.base_program.specs.declared.Table.{Table}
use Rattle.base_program.specs.declared.Table.TheVariants.{One, Two, Three}
use Rattle.base_program.specs.Entries.{claimed, entries, entry_at}
use Rattle.text_opening.specs.declared.Sizes.{Sizes}
use Rattle.text_keyed.specs.declared.Keyed.{Keyed}
use Rattle.text_items.specs.Split.{is_some}
use Rattle.text_opening.specs.Opening.{program_of, table_line, closes}
use Rattle.text_lines.specs.Line.{entry_of, limited}
use Rattle.text_lines.specs.LineLaws.{limited_few, limited_is}
use Rattle.text_keyed.specs.Text.{bad, clean, lines_of, bytes_behind, Said, faulty, says, entered, entries_from, KeyedTable, headed, table_read, slot_with, slots_of, program_with, ended, and_then, tables_read, sized_by, program_read, text_of}

-- ---- the entries that lines say

-- a fault is not what lines say
pub not_said : {A : Type 0} {k t n : ℕ} {x : A} {left : List (List ℕ)} → faulty k t n ≡ says x left → ⊥
not_said h = let z : ◌≡◌ {A = ℕ} 0 1 = cc in omega arith

-- what each entry of a list has
abbrev pub Each : (Instruction → Type 0) → List Instruction → Type 0
Each Q es = (j : ℕ) → j < length es → Q (get_or es j Instruction.End)

module _ (Q : Instruction → Type 0) (q : (l : List ℕ) (x : Instruction) → entry_of l ≡ Ok x → Q x) where
  each_more : (x : Instruction) (es : List Instruction) → Q x → Each Q es → Each Q (x ∷ es)
  each_more x es y h zero m = y
  each_more x es y h (suc j) m = h j (omega arith)

  -- Up to entry 99, each what its line says.
  pub entries_few : (ls : List (List ℕ)) (t n : ℕ) (es : List Instruction) (left : List (List ℕ)) → n ≤ 100 → entries_from t n ls ≡ says es left → (n + length es ≤ 100) × Each Q es
  unfolding entries_from
  entries_few [] t n es left m h = absurd (not_said h)
  entries_few (l ∷ r) t n es left m h = by (λ a xs z e. entries_few r t (n + 1) xs z (omega arith) e) (closes l) h
    where
      last : (xs : List Instruction) → [] ≡ xs → (n + length xs ≤ 100) × Each Q xs
      last [] e = (omega arith, λ j k. absurd (omega arith))
      last (x ∷ xs) e = absurd (let z : ◌≡◌ {A = ℕ} 0 1 = cc in omega arith)

      on : ((n ≡ 100 → ⊥) → (xs : List Instruction) (z : List (List ℕ)) → entries_from t (n + 1) r ≡ says xs z → (n + 1 + length xs ≤ 100) × Each Q xs)
          → (j : Result Instruction ℕ) → limited n (entry_of l) ≡ j → (y : Said (List Instruction)) → entries_from t (n + 1) r ≡ y → entered t n j y ≡ says es left → (n + length es ≤ 100) × Each Q es
      on ih (Err k) e y f g = absurd (not_said g)
      on ih (Ok x) e (faulty k u w) f g = absurd (not_said g)
      on ih (Ok x) e (says xs z) f g =
          let i = ih (limited_few n (entry_of l) x e) xs z f in
          let same : x ∷ xs ≡ es = cc in
          subst (λ ws. (n + length ws ≤ 100) × Each Q ws) same (omega (arith, i.0), each_more x xs (q l x (limited_is n (entry_of l) x e)) i.1)

      by : ((n ≡ 100 → ⊥) → (xs : List Instruction) (z : List (List ℕ)) → entries_from t (n + 1) r ≡ says xs z → (n + 1 + length xs ≤ 100) × Each Q xs)
          → (c : Bool) → cond c (says [] r) (entered t n (limited n (entry_of l)) (entries_from t (n + 1) r)) ≡ says es left → (n + length es ≤ 100) × Each Q es
      by ih true g = last es (cc)
      by ih false g = on ih (limited n (entry_of l)) refl (entries_from t (n + 1) r) refl g

  -- A table's first line says V, and those behind it at most 99 entries.
  pub table_few : (t : ℕ) (ls : List (List ℕ)) (x : KeyedTable) (left : List (List ℕ)) → table_read t ls ≡ says x left → (length x.entries ≤ 99) × Each Q x.entries
  unfolding table_read
  table_few t [] x left h = absurd (not_said h)
  table_few t (l ∷ r) x left h = by (table_line t l) (entries_from t 1 r) refl h
    where
      by : (v : Result ℕ ℕ) (y : Said (List Instruction)) → entries_from t 1 r ≡ y → headed t v y ≡ says x left → (length x.entries ≤ 99) × Each Q x.entries
      by (Err k) y f g = absurd (not_said g)
      by (Ok v) (faulty k u w) f g = absurd (not_said g)
      by (Ok v) (says es z) f g =
          let i = entries_few r t 1 es z (omega arith) f in
          let same : record { interval = v; entries = es } ≡ x = cc in
          subst (λ (w : KeyedTable). (length w.entries ≤ 99) × Each Q w.entries) same (omega (arith, i.0), i.1)

-- Each entry is what its line says: entry n stands in the first of these lines.
pub entry_lines : (ls : List (List ℕ)) (t n : ℕ) (es : List Instruction) (left : List (List ℕ)) → entries_from t n ls ≡ says es left
    → (j : ℕ) → j < length es → entry_of (get_or ls j []) ≡ Ok (get_or es j Instruction.End)
unfolding entries_from
entry_lines [] t n es left h = absurd (not_said h)
entry_lines (l ∷ r) t n es left h = by (λ xs z e. entry_lines r t (n + 1) xs z e) (closes l) h
  where
    none : (xs : List Instruction) → [] ≡ xs → (j : ℕ) → j < length xs → entry_of (get_or (l ∷ r) j []) ≡ Ok (get_or xs j Instruction.End)
    none [] e j m = absurd (omega arith)
    none (x ∷ xs) e j m = absurd (let z : ◌≡◌ {A = ℕ} 0 1 = cc in omega arith)

    more : (x : Instruction) (xs : List Instruction) → entry_of l ≡ Ok x
        → ((j : ℕ) → j < length xs → entry_of (get_or r j []) ≡ Ok (get_or xs j Instruction.End))
        → (j : ℕ) → j < length (x ∷ xs) → entry_of (get_or (l ∷ r) j []) ≡ Ok (get_or (x ∷ xs) j Instruction.End)
    more x xs e f zero m = e
    more x xs e f (suc j) m = f j (omega arith)

    on : ((xs : List Instruction) (z : List (List ℕ)) → entries_from t (n + 1) r ≡ says xs z → (j : ℕ) → j < length xs → entry_of (get_or r j []) ≡ Ok (get_or xs j Instruction.End))
        → (y : Result Instruction ℕ) → limited n (entry_of l) ≡ y → (s : Said (List Instruction)) → entries_from t (n + 1) r ≡ s → entered t n y s ≡ says es left
        → (j : ℕ) → j < length es → entry_of (get_or (l ∷ r) j []) ≡ Ok (get_or es j Instruction.End)
    on ih (Err k) e s f g = absurd (not_said g)
    on ih (Ok x) e (faulty k u w) f g = absurd (not_said g)
    on ih (Ok x) e (says xs z) f g =
        let same : x ∷ xs ≡ es = cc in
        subst (λ ws. (j : ℕ) → j < length ws → entry_of (get_or (l ∷ r) j []) ≡ Ok (get_or ws j Instruction.End)) same
        (more x xs (limited_is n (entry_of l) x e) (ih xs z f))

    by : ((xs : List Instruction) (z : List (List ℕ)) → entries_from t (n + 1) r ≡ says xs z → (j : ℕ) → j < length xs → entry_of (get_or r j []) ≡ Ok (get_or xs j Instruction.End))
        → (c : Bool) → cond c (says [] r) (entered t n (limited n (entry_of l)) (entries_from t (n + 1) r)) ≡ says es left
        → (j : ℕ) → j < length es → entry_of (get_or (l ∷ r) j []) ≡ Ok (get_or es j Instruction.End)
    by ih true g = none es (cc)
    by ih false g = on ih (limited n (entry_of l)) refl (entries_from t (n + 1) r) refl g

-- and of a table the entries stand in the lines behind its first.
pub table_lines : (t : ℕ) (ls : List (List ℕ)) (x : KeyedTable) (left : List (List ℕ)) → table_read t ls ≡ says x left
    → (j : ℕ) → j < length x.entries → entry_of (get_or ls (suc j) []) ≡ Ok (get_or x.entries j Instruction.End)
unfolding table_read
table_lines t [] x left h = absurd (not_said h)
table_lines t (l ∷ r) x left h = by (table_line t l) (entries_from t 1 r) refl h
  where
    by : (v : Result ℕ ℕ) (y : Said (List Instruction)) → entries_from t 1 r ≡ y → headed t v y ≡ says x left
        → (j : ℕ) → j < length x.entries → entry_of (get_or r j []) ≡ Ok (get_or x.entries j Instruction.End)
    by (Err k) y f g = absurd (not_said g)
    by (Ok v) (faulty k u w) f g = absurd (not_said g)
    by (Ok v) (says es z) f g =
        let same : record { interval = v; entries = es } ≡ x = cc in
        subst (λ (w : KeyedTable). (j : ℕ) → j < length w.entries → entry_of (get_or r j []) ≡ Ok (get_or w.entries j Instruction.End)) same
        (entry_lines r t 1 es z f)

-- The first line of a table that was read says its V.
pub table_opens : (t : ℕ) (ls : List (List ℕ)) (x : KeyedTable) (left : List (List ℕ)) → table_read t ls ≡ says x left → table_line t (get_or ls 0 []) ≡ Ok x.interval
unfolding table_read
table_opens t [] x left h = absurd (not_said h)
table_opens t (l ∷ r) x left h = by (table_line t l) refl (entries_from t 1 r) h
  where
    by : (v : Result ℕ ℕ) → table_line t l ≡ v → (y : Said (List Instruction)) → headed t v y ≡ says x left → table_line t l ≡ Ok x.interval
    by (Err k) e y g = absurd (not_said g)
    by (Ok v) e (faulty k u w) g = absurd (not_said g)
    by (Ok v) e (says es z) g = let same : record { interval = v; entries = es } ≡ x = cc in e ∙ ap (λ (w : KeyedTable). Ok w.interval) same

-- ---- what a text without fault says

pub not_clean : {A : Type 0} (k t e : ℕ) (p : Program) → bad k t e ≡ clean p → A
unfolding bad clean
not_clean k t e p h = let f : Finding.Fault k t e ≡ Finding.Clean = ap (λ (x : Keyed). x.finding) h in absurd (let y : ◌≡◌ {A = ℕ} 0 1 = cc in omega arith)

pub clean_is : (p q : Program) → clean p ≡ clean q → p ≡ q
unfolding clean
clean_is p q h = ap (λ (x : Keyed). x.program) h

-- I, M and three tables, each behind the one before
pub record TextSays (s : List ℕ) (p : Program) : Type 0 where
  pub locations : ℕ
  pub sums : ℕ
  pub one : KeyedTable
  pub two : KeyedTable
  pub three : KeyedTable
  pub behind_one : List (List ℕ)
  pub behind_two : List (List ℕ)
  pub behind_three : List (List ℕ)
  pub sizes : program_of (get_or (lines_of s) 0 []) ≡ Ok (record { locations = locations; sums = sums })
  pub first : table_read 1 (drop 1 (lines_of s)) ≡ says one behind_one
  pub second : table_read 2 behind_one ≡ says two behind_two
  pub third : table_read 3 behind_two ≡ says three behind_three
  pub is : program_with locations sums one two three ≡ p

ended_clean : (p q : Program) (ls : List (List ℕ)) (b : List ℕ) → ended p ls b ≡ clean q → p ≡ q
unfolding ended
ended_clean p q [] b h = not_clean 1 0 0 q h
ended_clean p q (l ∷ []) b h = by (closes l && not (is_some b)) h
  where
    by : (c : Bool) → cond c (clean p) (bad 1 0 0) ≡ clean q → p ≡ q
    by true g = clean_is p q g
    by false g = not_clean 1 0 0 q g
ended_clean p q (l ∷ r ∷ ls) b h = not_clean 1 0 0 q h

-- what goes on behind lines without fault
goes_on : {A : Type 0} (x : Said A) (f : A → List (List ℕ) → Keyed) (p : Program) → and_then x f ≡ clean p → (a : A) × (left : List (List ℕ)) × (x ≡ says a left) × (f a left ≡ clean p)
goes_on (faulty k t n) f p h = not_clean k t n p h
goes_on (says a left) f p h = (a, left, refl, h)

pub text_says : (s : List ℕ) (p : Program) → text_of s ≡ clean p → TextSays s p
unfolding text_of program_read tables_read
text_says s p h = by (ltb 16384 (length s)) h
  where
    tables : (i m : ℕ) → program_of (get_or (lines_of s) 0 []) ≡ Ok (record { locations = i; sums = m }) → tables_read i m (drop 1 (lines_of s)) (bytes_behind s) ≡ clean p → TextSays s p
    tables i m e g =
        let x = goes_on (table_read 1 (drop 1 (lines_of s))) _ p g in
        let y = goes_on (table_read 2 x.1) _ p x.3 in
        let z = goes_on (table_read 3 y.1) _ p y.3 in
        record {
          locations = i;
          sums = m;
          one = x.0;
          two = y.0;
          three = z.0;
          behind_one = x.1;
          behind_two = y.1;
          behind_three = z.1;
          sizes = e;
          first = x.2;
          second = y.2;
          third = z.2;
          is = ended_clean (program_with i m x.0 y.0 z.0) p z.1 (bytes_behind s) z.3;
        }

    sized : (v : Result Sizes ℕ) → program_of (get_or (lines_of s) 0 []) ≡ v → sized_by v (λ i m. tables_read i m (drop 1 (lines_of s)) (bytes_behind s)) ≡ clean p → TextSays s p
    sized (Err k) e g = not_clean k 0 0 p g
    sized (Ok z) e g = tables z.locations z.sums e g

    some : (ls : List (List ℕ)) → lines_of s ≡ ls → program_read ls (bytes_behind s) ≡ clean p → TextSays s p
    some [] e g = not_clean 1 0 0 p g
    some (l ∷ r) e g =
        sized (program_of l) (ap (λ (ls : List (List ℕ)). program_of (get_or ls 0 [])) e)
        (ap (λ (ls : List (List ℕ)). sized_by (program_of l) (λ i m. tables_read i m (drop 1 ls) (bytes_behind s))) e ∙ g)

    by : (c : Bool) → cond c (bad 1 0 0) (program_read (lines_of s) (bytes_behind s)) ≡ clean p → TextSays s p
    by true g = not_clean 1 0 0 p g
    by false g = some (lines_of s) refl g

-- ---- 'every entry in its table and place'

pub slots_length : (es : List Instruction) → length es ≤ 99 → length (slots_of es) ≡ 99
unfolding slots_of
slots_length es h =
    length-append (map slot_with es) (replicate (99 - length es) (slot_with Instruction.End))
    ∙ omega (arith, length-map es slot_with, length-replicate (99 - length es) (slot_with Instruction.End))

-- the list of a table of the text
abbrev pub list_of : Table → KeyedTable → KeyedTable → KeyedTable → List Instruction
list_of One one two three = one.entries
list_of Two one two three = two.entries
list_of Three one two three = three.entries

taken_back : (es : List Instruction) (r : List Slot) → length es ≤ 99 → map (λ (x : Slot). x.instruction) (take (min (length es) 99) (slots_of es ++ r)) ≡ es
unfolding slots_of
taken_back es r h =
    ap (λ k. map (λ (x : Slot). x.instruction) (take k (slots_of es ++ r))) (let z : min (length es) 99 ≡ length es = omega arith in z)
    ∙ ap (λ l. map (λ (x : Slot). x.instruction) (take (length es) l)) (append_assoc (map slot_with es) (replicate (99 - length es) (slot_with Instruction.End)) r)
    ∙ ap (map (λ (x : Slot). x.instruction)) (take_at (map slot_with es) _ (length es) (length-map es slot_with))
    ∙ unslotted es
  where
    unslotted : (xs : List Instruction) → map (λ (x : Slot). x.instruction) (map slot_with xs) ≡ xs
    unslotted [] = refl
    unslotted (x ∷ xs) = ap (λ (l : List Instruction). x ∷ l) (unslotted xs)

-- In a record of three lists each table is as long as its list, and has its entries.
module _ (i m : ℕ) (one two three : KeyedTable) (a : length one.entries ≤ 99) (b : length two.entries ≤ 99) (c : length three.entries ≤ 99) where
  tables_kept : (t : Table) → (claimed (program_with i m one two three) t ≡ length (list_of t one two three)) × (entries (program_with i m one two three) t ≡ list_of t one two three)
  unfolding program_with entries
  tables_kept One = (refl, taken_back one.entries _ a)
  tables_kept Two = (
    refl,
    ap (λ (l : List Slot). map (λ (x : Slot). x.instruction) (take (min (length two.entries) 99) l)) (drop_at (slots_of one.entries) _ 99 (slots_length one.entries a))
        ∙ taken_back two.entries _ b,
  )
  tables_kept Three = (
    refl,
    ap (λ (l : List Slot). map (λ (x : Slot). x.instruction) (take (min (length three.entries) 99) l))
        (ap (drop 198) (sym (append_assoc (slots_of one.entries) (slots_of two.entries) (slots_of three.entries)))
        ∙ drop_at (slots_of one.entries ++ slots_of two.entries) (slots_of three.entries) 198
        (length-append (slots_of one.entries) (slots_of two.entries) ∙ omega (arith, slots_length one.entries a, slots_length two.entries b)))
        ∙ ap (λ (l : List Slot). map (λ (x : Slot). x.instruction) (take (min (length three.entries) 99) l)) (sym (append-nil (slots_of three.entries)))
        ∙ taken_back three.entries [] c,
  )

-- table t of the record is as long as its list, and entry e of it is item e - 1 of that
pub record InPlace (p : Program) (t : Table) (es : List Instruction) : Type 0 where
  pub long : claimed p t ≡ length es
  pub all : entries p t ≡ es
  pub entry : (e : ℕ) → entry_at p t e ≡ get_or es (e - 1) Instruction.End

pub in_place : (s : List ℕ) (p : Program) (h : TextSays s p) (t : Table) → InPlace p t (list_of t h.one h.two h.three)
in_place s p h t =
    let k = tables_kept h.locations h.sums h.one h.two h.three (few 1 _ _ _ h.first) (few 2 _ _ _ h.second) (few 3 _ _ _ h.third) t in
    let e = ap (λ (q : Program). entries q t) (sym h.is) ∙ k.1 in
    record {
      long = ap (λ (q : Program). claimed q t) (sym h.is) ∙ k.0;
      all = e;
      entry = λ n. ap (λ (l : List Instruction). get_or l (n - 1) Instruction.End) e;
    }
  where
    few : (u : ℕ) (ls : List (List ℕ)) (x : KeyedTable) (left : List (List ℕ)) → table_read u ls ≡ says x left → length x.entries ≤ 99
    few u ls x left e = (table_few (λ _. ℕ) (λ _ _ _. 0) u ls x left e).0
