-- The tables read line by line into a running record, as the reader's loops do, are what `tables_read` says: the entries stored one by one from a
-- table's first slot on are its list, padded. Assumes nothing.
use Rattle.std.specs.Prelude.{Result, Ok, Err}
use Prim.Native.Nat.{ℕ, zero, suc, ◌+◌, ◌-◌, ◌*◌, ◌≤◌}
use native.Mathlib.Omega.{arith}
use mathlib.Core.Path.{◌≡◌, refl, sym, ap, ◌∙◌}
use mathlib.Core.Bool.{Bool, true, false, cond}
use mathlib.Core.List.{List, [], ◌∷◌, ◌++◌, map, append_assoc, append-nil}
use lib.ListN.{length, drop, set, replicate, length-append, length-map, length-replicate, replicate-append-replicate}
use lib.Seq.{take_at, drop-append-add, drop-append-le, sets, sets-eq}
use lib.Dec.{ltb, eqb}
use borrow.Author.Tests.{ne_eqb}
use Rattle.base_program.specs.declared.Instruction.{Instruction}
use Rattle.base_program.specs.declared.Program.{Program}
use Rattle.base_program.specs.declared.Slot.{Slot}
use Rattle.base_program.specs.Entries.{empty}
use Rattle.text_keyed.specs.declared.Keyed.{Keyed}
use Rattle.text_opening.specs.Opening.{table_line, closes}
use Rattle.text_lines.specs.Line.{entry_of, limited}
use Rattle.text_keyed.specs.Text.{bad, Said, faulty, says, entered, entries_from, KeyedTable, headed, table_read, slot_with, slots_of, program_with, ended, and_then, tables_read}
use Rattle.text_keyed.proofs.TextLaws.{table_few, slots_length}
use Rattle.base_laws.specs.Tests.{yes, no}

-- ---- the running record

unfoldable pub header_read : ℕ → ℕ → Program
header_read i m = record { locations = i; sums = m; intervals = empty.intervals; lengths = empty.lengths; slots = empty.slots }

-- the table of row 2 has no interval
unfoldable pub intervals_with : ℕ → ℕ → List ℕ → List ℕ
intervals_with t v intervals = cond (ltb t 2) (set intervals t v) intervals

abbrev pub with_interval : ℕ → ℕ → Program → Program
with_interval t v p =
    record {
      locations = p.locations;
      sums = p.sums;
      intervals = intervals_with t v p.intervals;
      lengths = p.lengths;
      slots = p.slots;
    }

abbrev pub with_slots : List Slot → Program → Program
with_slots slots p = record { locations = p.locations; sums = p.sums; intervals = p.intervals; lengths = p.lengths; slots = slots }

abbrev pub with_entry : ℕ → ℕ → Instruction → Program → Program
with_entry t n x p = with_slots (set p.slots (99 * t + n - 1) (slot_with x)) p

abbrev pub with_length : ℕ → ℕ → Program → Program
with_length t n p =
    record {
      locations = p.locations;
      sums = p.sums;
      intervals = p.intervals;
      lengths = set p.lengths t n;
      slots = p.slots;
    }

abbrev pub opened_by : ℕ → Result ℕ ℕ → (ℕ → Keyed) → Keyed
opened_by t (Err k) f = bad k (t + 1) 0
opened_by t (Ok v) f = f v

abbrev pub entered_by : ℕ → ℕ → Result Instruction ℕ → (Instruction → Keyed) → Keyed
entered_by t n (Err k) f = bad k (t + 1) n
entered_by t n (Ok x) f = f x

-- the table of row t from entry n on, 0 being its first line, and what stands behind it
unfoldable pub lines : ℕ → ℕ → Program → List (List ℕ) → List ℕ → Keyed
lines t n p [] b = bad 1 (t + 1) n
lines t n p (l ∷ r) b =
    cond (eqb n 0)
    (opened_by t (table_line (t + 1) l) (λ v. lines t 1 (with_interval t v p) r b))
    (cond (closes l)
    (cond (eqb (t + 1) 3) (ended (with_length t (n - 1) p) r b) (lines (t + 1) 0 (with_length t (n - 1) p) r b))
    (entered_by t n (limited n (entry_of l)) (λ x. lines t (n + 1) (with_entry t n x p) r b)))

-- what stands behind t tables
abbrev pub behind : ℕ → Program → List (List ℕ) → List ℕ → Keyed
behind t p r b = cond (eqb t 3) (ended p r b) (lines t 0 p r b)

-- ---- one line

module _ (t n : ℕ) (p : Program) (l : List ℕ) (r : List (List ℕ)) (b : List ℕ) where
  pub head_bad : (k : ℕ) → table_line (t + 1) l ≡ Err k → lines t 0 p (l ∷ r) b ≡ bad k (t + 1) 0
  unfolding lines
  head_bad k e = ap (λ x. opened_by t x (λ v. lines t 1 (with_interval t v p) r b)) e

  pub head_good : (v : ℕ) → table_line (t + 1) l ≡ Ok v → lines t 0 p (l ∷ r) b ≡ lines t 1 (with_interval t v p) r b
  unfolding lines
  head_good v e = ap (λ x. opened_by t x (λ v. lines t 1 (with_interval t v p) r b)) e

  pub table_closed : 1 ≤ n → closes l ≡ true → lines t n p (l ∷ r) b ≡ behind (t + 1) (with_length t (n - 1) p) r b
  unfolding lines
  table_closed h e = no _ _ (ne_eqb n 0 (omega arith)) ∙ yes _ _ e

  not_closed : 1 ≤ n → closes l ≡ false → lines t n p (l ∷ r) b ≡ entered_by t n (limited n (entry_of l)) (λ x. lines t (n + 1) (with_entry t n x p) r b)
  unfolding lines
  not_closed h e = no _ _ (ne_eqb n 0 (omega arith)) ∙ no _ _ e

  pub entry_bad : (k : ℕ) → 1 ≤ n → closes l ≡ false → limited n (entry_of l) ≡ Err k → lines t n p (l ∷ r) b ≡ bad k (t + 1) n
  entry_bad k h e j = not_closed h e ∙ ap (λ x. entered_by t n x (λ x. lines t (n + 1) (with_entry t n x p) r b)) j

  pub entry_good : (x : Instruction) → 1 ≤ n → closes l ≡ false → limited n (entry_of l) ≡ Ok x → lines t n p (l ∷ r) b ≡ lines t (n + 1) (with_entry t n x p) r b
  entry_good x h e j = not_closed h e ∙ ap (λ x. entered_by t n x (λ x. lines t (n + 1) (with_entry t n x p) r b)) j

-- ---- a table's entries, stored one by one

-- its entries from entry n on, and its length
abbrev with_entries : ℕ → ℕ → List Instruction → Program → Program
with_entries t n es p = with_length t (n - 1 + length es) (with_slots (sets p.slots (99 * t + n - 1) (map slot_with es)) p)

entries_run : (ls : List (List ℕ)) (t n : ℕ) (p : Program) (b : List ℕ) → 1 ≤ n → lines t n p ls b ≡ and_then (entries_from (t + 1) n ls) (λ es left. behind (t + 1) (with_entries t n es p) left b)
unfolding lines entries_from
entries_run [] t n p b h = refl
entries_run (l ∷ r) t n p b h =
    no _ _ (ne_eqb n 0 (omega arith)) ∙ by (λ x. entries_run r t (n + 1) (with_entry t n x p) b (omega arith)) (closes l)
  where
    more : (x : Instruction) (y : Said (List Instruction))
        → and_then y (λ es left. behind (t + 1) (with_entries t (n + 1) es (with_entry t n x p)) left b) ≡ and_then (entered (t + 1) n (Ok x) y) (λ es left. behind (t + 1) (with_entries t n es p) left b)
    more x (faulty k u e) = refl
    more x (says es left) =
        ap (λ j. behind (t + 1) (with_length t j (with_slots (sets (set p.slots (99 * t + n - 1) (slot_with x)) (99 * t + (n + 1) - 1) (map slot_with es)) p)) left b)
        (let z : n + 1 - 1 + length es ≡ n - 1 + suc (length es) = omega arith in z)
        ∙ ap (λ j. behind (t + 1) (with_length t (n - 1 + suc (length es)) (with_slots (sets (set p.slots (99 * t + n - 1) (slot_with x)) j (map slot_with es)) p)) left b)
        (let z : 99 * t + (n + 1) - 1 ≡ suc (99 * t + n - 1) = omega arith in z)

    on : ((x : Instruction) → lines t (n + 1) (with_entry t n x p) r b ≡ and_then (entries_from (t + 1) (n + 1) r) (λ es left. behind (t + 1) (with_entries t (n + 1) es (with_entry t n x p)) left b))
        → (j : Result Instruction ℕ) → entered_by t n j (λ x. lines t (n + 1) (with_entry t n x p) r b) ≡ and_then (entered (t + 1) n j (entries_from (t + 1) (n + 1) r)) (λ es left. behind (t + 1) (with_entries t n es p) left b)
    on ih (Err k) = refl
    on ih (Ok x) = ih x ∙ more x (entries_from (t + 1) (n + 1) r)

    by : ((x : Instruction) → lines t (n + 1) (with_entry t n x p) r b ≡ and_then (entries_from (t + 1) (n + 1) r) (λ es left. behind (t + 1) (with_entries t (n + 1) es (with_entry t n x p)) left b))
        → (c : Bool) → cond c (behind (t + 1) (with_length t (n - 1) p) r b) (entered_by t n (limited n (entry_of l)) (λ x. lines t (n + 1) (with_entry t n x p) r b))
        ≡ and_then (cond c (says [] r) (entered (t + 1) n (limited n (entry_of l)) (entries_from (t + 1) (n + 1) r))) (λ es left. behind (t + 1) (with_entries t n es p) left b)
    by ih true = ap (λ j. behind (t + 1) (with_length t j p) r b) (let z : n - 1 ≡ n - 1 + 0 = omega arith in z)
    by ih false = on ih (limited n (entry_of l))

-- a table's V, entries and length
abbrev with_table : ℕ → KeyedTable → Program → Program
with_table t x p = with_length t (length x.entries) (with_slots (sets p.slots (99 * t) (map slot_with x.entries)) (with_interval t x.interval p))

table_run : (ls : List (List ℕ)) (t : ℕ) (p : Program) (b : List ℕ) → lines t 0 p ls b ≡ and_then (table_read (t + 1) ls) (λ x left. behind (t + 1) (with_table t x p) left b)
unfolding lines table_read
table_run [] t p b = refl
table_run (l ∷ r) t p b = by (table_line (t + 1) l)
  where
    more : (v : ℕ) (y : Said (List Instruction))
        → and_then y (λ es left. behind (t + 1) (with_entries t 1 es (with_interval t v p)) left b) ≡ and_then (headed (t + 1) (Ok v) y) (λ x left. behind (t + 1) (with_table t x p) left b)
    more v (faulty k u e) = refl
    more v (says es left) =
        ap (λ j. behind (t + 1) (with_length t j (with_slots (sets p.slots (99 * t + 1 - 1) (map slot_with es)) (with_interval t v p))) left b)
        (let z : 1 - 1 + length es ≡ length es = omega arith in z)
        ∙ ap (λ j. behind (t + 1) (with_length t (length es) (with_slots (sets p.slots j (map slot_with es)) (with_interval t v p))) left b)
        (let z : 99 * t + 1 - 1 ≡ 99 * t = omega arith in z)

    by : (v : Result ℕ ℕ) → opened_by t v (λ v. lines t 1 (with_interval t v p) r b) ≡ and_then (headed (t + 1) v (entries_from (t + 1) 1 r)) (λ x left. behind (t + 1) (with_table t x p) left b)
    by (Err k) = refl
    by (Ok v) = entries_run r t 1 (with_interval t v p) b (omega arith) ∙ more v (entries_from (t + 1) 1 r)

-- ---- the slots of three tables

abbrev unused : Slot
unused = slot_with Instruction.End

drop_unused : (n k : ℕ) → drop k (replicate n unused) ≡ replicate (n - k) unused
drop_unused n zero = ap (λ j. replicate j unused) (let z : n ≡ n - 0 = omega arith in z)
drop_unused zero (suc k) = ap (λ j. replicate j unused) (let z : 0 ≡ 0 - suc k = omega arith in z)
drop_unused (suc n) (suc k) = drop_unused n k ∙ ap (λ j. replicate j unused) (let z : n - k ≡ suc n - suc k = omega arith in z)

-- a list stored into 99 unused slots is the list, padded
padded : (front back : List Slot) (k : ℕ) (es : List Instruction) → length front ≡ k → length es ≤ 99
    → sets (front ++ (replicate 99 unused ++ back)) k (map slot_with es) ≡ front ++ (slots_of es ++ back)
unfolding slots_of
padded front back k es e h =
    let n = length es in
    let vs = map slot_with es in
    let l : length vs ≡ n = length-map es slot_with in
    sets-eq vs (front ++ (replicate 99 unused ++ back)) k
    (omega (arith, l, length-append front (replicate 99 unused ++ back), length-append (replicate 99 unused) back, length-replicate 99 unused))
    ∙ ap (λ (x : List Slot). x ++ vs ++ drop (k + length vs) (front ++ (replicate 99 unused ++ back))) (take_at front (replicate 99 unused ++ back) k e)
    ∙ ap (λ (x : List Slot). front ++ vs ++ x)
    (ap (λ j. drop j (front ++ (replicate 99 unused ++ back))) (let z : k + length vs ≡ length front + n = omega arith in z)
    ∙ drop-append-add front (replicate 99 unused ++ back) n
    ∙ drop-append-le n (replicate 99 unused) back (omega (arith, length-replicate 99 unused))
    ∙ ap (λ (x : List Slot). x ++ back) (drop_unused 99 n))
    ∙ append_assoc front vs (replicate (99 - n) unused ++ back)
    ∙ ap (λ (x : List Slot). front ++ x) (sym (append_assoc vs (replicate (99 - n) unused) back))

slots_run : (a b c : List Instruction) → length a ≤ 99 → length b ≤ 99 → length c ≤ 99
    → sets (sets (sets (replicate 297 unused) 0 (map slot_with a)) 99 (map slot_with b)) 198 (map slot_with c) ≡ slots_of a ++ (slots_of b ++ slots_of c)
slots_run a b c x y z =
    ap (λ (l : List Slot). sets (sets l 99 (map slot_with b)) 198 (map slot_with c))
    (ap (λ (l : List Slot). sets l 0 (map slot_with a)) (sym (replicate-append-replicate 99 198 unused)) ∙ padded [] (replicate 198 unused) 0 a refl x)
    ∙ ap (λ (l : List Slot). sets l 198 (map slot_with c))
    (ap (λ (l : List Slot). sets (slots_of a ++ l) 99 (map slot_with b)) (sym (replicate-append-replicate 99 99 unused))
    ∙ padded (slots_of a) (replicate 99 unused) 99 b (slots_length a x) y)
    ∙ ap (λ (l : List Slot). sets l 198 (map slot_with c))
    (sym (append_assoc (slots_of a) (slots_of b) (replicate 99 unused)) ∙ ap (λ (l : List Slot). (slots_of a ++ slots_of b) ++ l) (sym (append-nil (replicate 99 unused))))
    ∙ padded (slots_of a ++ slots_of b) [] 198 c (length-append (slots_of a) (slots_of b) ∙ omega (arith, slots_length a x, slots_length b y)) z
    ∙ ap (λ (l : List Slot). (slots_of a ++ slots_of b) ++ l) (append-nil (slots_of c))
    ∙ append_assoc (slots_of a) (slots_of b) (slots_of c)

-- ---- three tables

record_run : (i m : ℕ) (one two three : KeyedTable) → length one.entries ≤ 99 → length two.entries ≤ 99 → length three.entries ≤ 99
    → with_table 2 three (with_table 1 two (with_table 0 one (header_read i m))) ≡ program_with i m one two three
unfolding header_read intervals_with empty program_with
record_run i m one two three x y z =
    ap (λ (slots : List Slot). record {
      locations = i;
      sums = m;
      intervals = one.interval ∷ two.interval ∷ [];
      lengths = length one.entries ∷ length two.entries ∷ length three.entries ∷ [];
      slots = slots;
    })
    (slots_run one.entries two.entries three.entries x y z)

few : (t : ℕ) (ls : List (List ℕ)) (x : KeyedTable) (left : List (List ℕ)) → table_read t ls ≡ says x left → length x.entries ≤ 99
few t ls x left e = (table_few (λ _. ℕ) (λ _ _ _. 0) t ls x left e).0

pub tables_run : (i m : ℕ) (ls : List (List ℕ)) (b : List ℕ) → behind 0 (header_read i m) ls b ≡ tables_read i m ls b
unfolding tables_read
tables_run i m ls b = table_run ls 0 (header_read i m) b ∙ first (table_read 1 ls) refl
  where
    third : (one two : KeyedTable) → length one.entries ≤ 99 → length two.entries ≤ 99 → (q : List (List ℕ)) (y : Said KeyedTable) → table_read 3 q ≡ y
        → and_then y (λ three z. ended (with_table 2 three (with_table 1 two (with_table 0 one (header_read i m)))) z b) ≡ and_then y (λ three z. ended (program_with i m one two three) z b)
    third one two f g q (faulty k t n) e = refl
    third one two f g q (says three z) e = ap (λ p. ended p z b) (record_run i m one two three f g (few 3 q three z e))

    second : (one : KeyedTable) → length one.entries ≤ 99 → (r : List (List ℕ)) (y : Said KeyedTable) → table_read 2 r ≡ y
        → and_then y (λ two q. lines 2 0 (with_table 1 two (with_table 0 one (header_read i m))) q b)
        ≡ and_then y (λ two q. and_then (table_read 3 q) (λ three z. ended (program_with i m one two three) z b))
    second one f r (faulty k t n) e = refl
    second one f r (says two q) e = table_run q 2 (with_table 1 two (with_table 0 one (header_read i m))) b ∙ third one two f (few 2 r two q e) q (table_read 3 q) refl

    first : (y : Said KeyedTable) → table_read 1 ls ≡ y
        → and_then y (λ one r. lines 1 0 (with_table 0 one (header_read i m)) r b)
        ≡ and_then y (λ one r. and_then (table_read 2 r) (λ two q. and_then (table_read 3 q) (λ three z. ended (program_with i m one two three) z b)))
    first (faulty k t n) e = refl
    first (says one r) e = table_run r 1 (with_table 0 one (header_read i m)) b ∙ second one (few 1 ls one r e) r (table_read 2 r) refl
