-- The record of a clean text: its numbers and all its entries are in their ranges, since each line was judged by them. Assumes nothing.
use Rattle.std.specs.Prelude.{ℕ, zero, suc, ◌+◌, ◌-◌, ◌≤◌, ◌<◌, ◌≡◌, refl, Bool, true, false, cond, ◌&&◌, List, [], ◌∷◌, ◌++◌, map, get_or, drop, replicate, ltb, eqb, Option, Some, None, Result, Ok, Err}
use Rattle.std.proofs.Common.{arith, ap, ◌∙◌, subst}
use Rattle.std.proofs.Math.ListN.{length, length-append}
use Rattle.text_number.specs.Keyed.{whole_of}
use Rattle.base_program.specs.declared.Instruction.{Instruction}
use Rattle.base_program.specs.declared.Program.{Program}
use Rattle.base_program.specs.declared.Slot.{Slot}
use Rattle.text_opening.specs.declared.Sizes.{Sizes}
use Rattle.base_program.specs.Ranges.{Inside, location_counts, sum_counts}
use Rattle.text_parameters.specs.Parameter.{item, number_in}
use Rattle.text_opening.specs.Opening.{opened, sized, the_program, program_in, program_of, is_keyed_interval, interval_keyed, is_table_line, table_items, table_in, table_line}
use Rattle.text_keyed.specs.Text.{clean, lines_of, slot_with, slots_of, program_with, text_of}
use Rattle.text_keyed.proofs.TextLaws.{Each, TextSays, text_says, table_few, table_opens, slots_length}
use Rattle.text_parameters.specs.RangeLaws.{number_is}
use Rattle.text_lines.specs.EntryLaws.{EachEntry, entry_sound}

-- the slot past the last
abbrev pub no_slot : Slot
no_slot = record { instruction = Instruction.End }

-- what a clean text's record has, P being what each entry has that is in its ranges
pub record CleanRecord (P : Instruction → Type 0) (p : Program) : Type 0 where
  pub locations : Inside location_counts p.locations
  pub sums : Inside sum_counts p.sums
  pub intervals : (j : ℕ) → j < 2 → is_keyed_interval (j + 1) (get_or p.intervals j 0) ≡ true
  pub lengths : (j : ℕ) → get_or p.lengths j 0 ≤ 99
  pub slots : (j : ℕ) → P (get_or p.slots j no_slot).instruction
  pub two : length p.intervals ≡ 2
  pub three : length p.lengths ≡ 3
  pub all : length p.slots ≡ 297

-- ---- the first lines

interval_is : (t : ℕ) (w : Option ℕ) (v : ℕ) → interval_keyed t w ≡ Ok v → is_keyed_interval t v ≡ true
unfolding interval_keyed
interval_is t None v e = absurd (let y : ◌≡◌ {A = ℕ} 0 1 = cc in omega arith)
interval_is t (Some u) v e = go (is_keyed_interval t u) refl e
  where
    go : (b : Bool) → is_keyed_interval t u ≡ b → cond {A = Result ℕ ℕ} b (Ok u) (Err 5) ≡ Ok v → is_keyed_interval t v ≡ true
    go true x e = let q : u ≡ v = cc in subst (λ z. is_keyed_interval t z ≡ true) q x
    go false x e = absurd (let y : ◌≡◌ {A = ℕ} 0 1 = cc in omega arith)

table_is : (t : ℕ) (ws : List (List ℕ)) (v : ℕ) → t < 3 → table_in t ws ≡ Ok v → is_keyed_interval t v ≡ true
unfolding table_in
table_is t ws v l e = go (eqb (length ws) (table_items t) && is_table_line t ws) (ltb t 3) (borrow.Author.Tests.lt-ltb t 3 l) e
  where
    go : (b c : Bool) → c ≡ true → cond {A = Result ℕ ℕ} b (cond c (interval_keyed t (whole_of (item ws 2))) (Ok 0)) (Err 1) ≡ Ok v → is_keyed_interval t v ≡ true
    go true true x e = interval_is t (whole_of (item ws 2)) v e
    go true false x e = absurd (let y : ◌≡◌ {A = ℕ} 0 1 = cc in omega arith)
    go false c x e = absurd (let y : ◌≡◌ {A = ℕ} 0 1 = cc in omega arith)

sized_is : (a b : Option ℕ) (i m : ℕ) → sized a b ≡ Ok (record { locations = i; sums = m }) → (a ≡ Some i) × (b ≡ Some m)
unfolding sized
sized_is (Some x) (Some y) i m e =
    let z : ◌≡◌ {A = Sizes} (record { locations = x; sums = y }) (record { locations = i; sums = m }) = cc in
    (ap (λ s. Some s.locations) z, ap (λ s. Some s.sums) z)
sized_is (Some x) None i m e = absurd (let y : ◌≡◌ {A = ℕ} 0 1 = cc in omega arith)
sized_is None b i m e = absurd (let y : ◌≡◌ {A = ℕ} 0 1 = cc in omega arith)

program_is : (ws : List (List ℕ)) (i m : ℕ) → program_in ws ≡ Ok (record { locations = i; sums = m }) → Inside location_counts i × Inside sum_counts m
unfolding program_in
program_is ws i m e = go (eqb (length ws) 3 && Rattle.text_items.specs.Split.is_same (item ws 0) the_program) e
  where
    go : (b : Bool) → cond b (sized (number_in location_counts ws 1) (number_in sum_counts ws 2)) (Err 1) ≡ Ok (record { locations = i; sums = m }) → Inside location_counts i × Inside sum_counts m
    go true e = let z = sized_is (number_in location_counts ws 1) (number_in sum_counts ws 2) i m e in (number_is location_counts ws 1 i z.0, number_is sum_counts ws 2 m z.1)
    go false e = absurd (let y : ◌≡◌ {A = ℕ} 0 1 = cc in omega arith)

-- ---- the slots

-- what the entry in each slot has
abbrev EachSlot : (Instruction → Type 0) → List Slot → Type 0
EachSlot P l = (j : ℕ) → P (get_or l j no_slot).instruction

module _ (P : Instruction → Type 0) (h : EachEntry P) where
  unused : (n : ℕ) → EachSlot P (replicate n no_slot)
  unused zero j = h.end_entry
  unused (suc n) zero = h.end_entry
  unused (suc n) (suc j) = unused n j

  in_use : (es : List Instruction) (r : List Slot) → Each P es → EachSlot P r → EachSlot P (map slot_with es ++ r)
  in_use [] r x y j = y j
  in_use (e ∷ es) r x y zero = x 0 (omega arith)
  in_use (e ∷ es) r x y (suc j) = in_use es r (λ k l. x (suc k) (omega arith)) y j

  after_slots : (l r : List Slot) → EachSlot P l → EachSlot P r → EachSlot P (l ++ r)
  after_slots [] r x y j = y j
  after_slots (s ∷ l) r x y zero = x 0
  after_slots (s ∷ l) r x y (suc j) = after_slots l r (λ k. x (suc k)) y j

  table_slots : (es : List Instruction) → Each P es → EachSlot P (slots_of es)
  unfolding slots_of
  table_slots es x = in_use es (replicate (99 - length es) no_slot) x (unused (99 - length es))

  -- ---- the record

  three_few : (a b c : ℕ) → a ≤ 99 → b ≤ 99 → c ≤ 99 → (j : ℕ) → get_or (a ∷ b ∷ c ∷ []) j 0 ≤ 99
  three_few a b c x y z zero = x
  three_few a b c x y z (suc zero) = y
  three_few a b c x y z (suc (suc zero)) = z
  three_few a b c x y z (suc (suc (suc j))) = omega arith

  both_intervals : (v w : ℕ) → is_keyed_interval 1 v ≡ true → is_keyed_interval 2 w ≡ true → (j : ℕ) → j < 2 → is_keyed_interval (j + 1) (get_or (v ∷ w ∷ []) j 0) ≡ true
  both_intervals v w x y zero l = x
  both_intervals v w x y (suc zero) l = y
  both_intervals v w x y (suc (suc j)) l = absurd (omega arith)

  of_tables : (s : List ℕ) (p : Program) (k : TextSays s p) → CleanRecord P (program_with k.locations k.sums k.one k.two k.three)
  unfolding program_with program_of table_line
  of_tables s p k =
      let sizes = program_is (opened (get_or (lines_of s) 0 [])) k.locations k.sums k.sizes in
      let one = table_few P (entry_sound P h) 1 (drop 1 (lines_of s)) k.one k.behind_one k.first in
      let two = table_few P (entry_sound P h) 2 k.behind_one k.two k.behind_two k.second in
      let three = table_few P (entry_sound P h) 3 k.behind_two k.three k.behind_three k.third in
      record {
        locations = sizes.0;
        sums = sizes.1;
        intervals =
            both_intervals k.one.interval k.two.interval
            (table_is 1 (opened (get_or (drop 1 (lines_of s)) 0 [])) k.one.interval (omega arith) (table_opens 1 (drop 1 (lines_of s)) k.one k.behind_one k.first))
            (table_is 2 (opened (get_or k.behind_one 0 [])) k.two.interval (omega arith) (table_opens 2 k.behind_one k.two k.behind_two k.second));
        lengths = three_few (length k.one.entries) (length k.two.entries) (length k.three.entries) one.0 two.0 three.0;
        slots =
            after_slots (slots_of k.one.entries) (slots_of k.two.entries ++ slots_of k.three.entries) (table_slots k.one.entries one.1)
            (after_slots (slots_of k.two.entries) (slots_of k.three.entries) (table_slots k.two.entries two.1) (table_slots k.three.entries three.1));
        two = refl;
        three = refl;
        all =
            length-append (slots_of k.one.entries) (slots_of k.two.entries ++ slots_of k.three.entries)
            ∙ omega (arith, length-append (slots_of k.two.entries) (slots_of k.three.entries), slots_length k.one.entries one.0, slots_length k.two.entries two.0, slots_length k.three.entries three.0);
      }

  -- A clean text's record has its numbers in their ranges, and in each slot an entry that is in its ranges.
  pub clean_sound : (s : List ℕ) (p : Program) → text_of s ≡ clean p → CleanRecord P p
  clean_sound s p e = let k = text_says s p e in subst (CleanRecord P) k.is (of_tables s p k)
