-- What was written of a record is read back: I, M, both V, the lengths and the entries of each table. By the slots in order. Assumes nothing.
use Rattle.std.specs.Prelude.{◌≡◌, Bool, Float}
use Rattle.std.proofs.Math.Path.{refl, sym, ap}
use Rattle.std.proofs.Common.{◌∙◌}
use Prim.Native.Nat.{ℕ, zero, suc, ◌+◌, ◌-◌, ◌*◌, ◌/◌, ◌%◌, ◌≤◌, ◌<◌, min}
use native.Mathlib.Omega.{arith}
use Rattle.std.proofs.Math.Bool.{true, false}
use mathlib.Core.List.{List, [], ◌∷◌, ◌++◌, append-nil, append_assoc}
use Rattle.std.proofs.Math.ListN.{length, get_or, drop, length-append, length-map}
use Rattle.std.proofs.Math.Dec.{eqb, ltb}
use borrow.Author.Tests.{eqb-true, eqb-false, lt-ltb}
use Rattle.std.proofs.Math.Seq.{ext_get_or, drop_at, drop-append-le, drop-append-add}
use Rattle.base_program.specs.declared.Instruction.{Instruction}
use Rattle.base_program.specs.declared.Instruction.TheVariants.{End, Else, MeasureSingle, MeasureDifferential, SetFixed, Copy, Increment, Add, AddFixed, Subtract, Multiply, MultiplyFixed, Divide, Sample, Average, Total, Maximum, Minimum, StoreTime, Subroutine, Do, Loop, IfLocations, IfFixed, IfFlag, IfTime}
use Rattle.base_program.specs.declared.Slot.{Slot}
use Rattle.base_program.specs.declared.Program.{Program}
use Rattle.base_program.specs.declared.Table.{Table}
use Rattle.base_program.specs.Entries.{row, slot, claimed, entries}
use Rattle.base_program.specs.Reach.{numbers_from}
use Rattle.base_program.specs.Laws.{numbers_from_at_lem, numbers_from_length_lem, entries_length, entry_in_slot}
use Rattle.base_laws.specs.Tests.{yes}
use Rattle.record_layout.specs.Layout.{in_slot, slot_numbers, slot_values, held, header, numbers_to, values_to, numbers_of, values_of, record_of, length_of, instruction_at, slot_at}
use Rattle.record_layout.specs.Laws.{bytes, instruction_back, at_map, places}

pub eight_numbers : (i : Instruction) → length (slot_numbers i) ≡ 8
unfolding slot_numbers
eight_numbers End = refl
eight_numbers Else = refl
eight_numbers (MeasureSingle reps range channel l scale) = refl
eight_numbers (MeasureDifferential reps range channel l scale) = refl
eight_numbers (SetFixed f z) = refl
eight_numbers (Copy x z) = refl
eight_numbers (Increment z) = refl
eight_numbers (Add x y z) = refl
eight_numbers (AddFixed x f z) = refl
eight_numbers (Subtract x y z) = refl
eight_numbers (Multiply x y z) = refl
eight_numbers (MultiplyFixed x f z) = refl
eight_numbers (Divide x y z) = refl
eight_numbers (Sample reps x) = refl
eight_numbers (Average reps x) = refl
eight_numbers (Total reps x) = refl
eight_numbers (Maximum reps x) = refl
eight_numbers (Minimum reps x) = refl
eight_numbers (StoreTime code) = refl
eight_numbers (Subroutine k) = refl
eight_numbers (Do c) = refl
eight_numbers (Loop delay count) = refl
eight_numbers (IfLocations x r y c) = refl
eight_numbers (IfFixed x r f c) = refl
eight_numbers (IfFlag f high c) = refl
eight_numbers (IfTime into interval c) = refl

pub two_values : (i : Instruction) → length (slot_values i) ≡ 2
unfolding slot_values
two_values End = refl
two_values Else = refl
two_values (MeasureSingle reps range channel l scale) = refl
two_values (MeasureDifferential reps range channel l scale) = refl
two_values (SetFixed f z) = refl
two_values (Copy x z) = refl
two_values (Increment z) = refl
two_values (Add x y z) = refl
two_values (AddFixed x f z) = refl
two_values (Subtract x y z) = refl
two_values (Multiply x y z) = refl
two_values (MultiplyFixed x f z) = refl
two_values (Divide x y z) = refl
two_values (Sample reps x) = refl
two_values (Average reps x) = refl
two_values (Total reps x) = refl
two_values (Maximum reps x) = refl
two_values (Minimum reps x) = refl
two_values (StoreTime code) = refl
two_values (Subroutine k) = refl
two_values (Do c) = refl
two_values (Loop delay count) = refl
two_values (IfLocations x r y c) = refl
two_values (IfFixed x r f c) = refl
two_values (IfFlag f high c) = refl
two_values (IfTime into interval c) = refl

-- what the types of a record's fields say
pub record Typed (p : Program) : Type 0 where
  pub slots : length p.slots ≡ 297
  pub intervals : length p.intervals ≡ 2
  pub lengths : length p.lengths ≡ 3
  pub few : (k : ℕ) → get_or p.lengths k 0 < 256
  pub fits : (s k : ℕ) → get_or (bytes (held p s)) k 0 < 256

module _ (p : Program) where
  length_numbers : (n : ℕ) → length (numbers_to p n) ≡ 8 * n
  unfolding numbers_to
  length_numbers zero = refl
  length_numbers (suc n) =
      length-append (numbers_to p n) (slot_numbers (held p n)) ∙ omega (arith, length_numbers n, eight_numbers (held p n))

  length_values : (n : ℕ) → length (values_to p n) ≡ 2 * n
  unfolding values_to
  length_values zero = refl
  length_values (suc n) = length-append (values_to p n) (slot_values (held p n)) ∙ omega (arith, length_values n, two_values (held p n))

  pub numbers_size : length (numbers_of p) ≡ 2385
  unfolding numbers_of
  numbers_size = length-append (header p) (numbers_to p 297) ∙ omega (arith, length_numbers 297)

  pub values_size : length (values_of p) ≡ 594
  unfolding values_of
  values_size = length_values 297

  numbers_in : (n s : ℕ) → s < n → (rest : List ℕ) × (drop (8 * s) (numbers_to p n) ≡ slot_numbers (held p s) ++ rest)
  unfolding numbers_to
  numbers_in zero s h = absurd (omega arith)
  numbers_in (suc n) s h = go (eqb s n) refl (λ low. numbers_in n s low)
    where
      go : (b : Bool) → eqb s n ≡ b → (s < n → (rest : List ℕ) × (drop (8 * s) (numbers_to p n) ≡ slot_numbers (held p s) ++ rest)) → (rest : List ℕ) × (drop (8 * s) (numbers_to p n ++ slot_numbers (held p n)) ≡ slot_numbers (held p s) ++ rest)
      go true e before = (
        [],
        ap (λ k. drop (8 * k) (numbers_to p n ++ slot_numbers (held p n))) (eqb-true s n e)
            ∙ drop_at (numbers_to p n) (slot_numbers (held p n)) (8 * n) (length_numbers n)
            ∙ ap (λ k. slot_numbers (held p k)) (sym (eqb-true s n e))
            ∙ sym (append-nil (slot_numbers (held p s))),
      )
      go false e before =
          let r = before (omega (arith, eqb-false s n e)) in (
            r.0 ++ slot_numbers (held p n),
            drop-append-le (8 * s) (numbers_to p n) (slot_numbers (held p n)) (omega (arith, length_numbers n, eqb-false s n e))
                ∙ ap (λ l. l ++ slot_numbers (held p n)) r.1
                ∙ append_assoc (slot_numbers (held p s)) r.0 (slot_numbers (held p n)),
          )

  values_in : (n s : ℕ) → s < n → (rest : List Float) × (drop (2 * s) (values_to p n) ≡ slot_values (held p s) ++ rest)
  unfolding values_to
  values_in zero s h = absurd (omega arith)
  values_in (suc n) s h = go (eqb s n) refl (λ low. values_in n s low)
    where
      go : (b : Bool) → eqb s n ≡ b → (s < n → (rest : List Float) × (drop (2 * s) (values_to p n) ≡ slot_values (held p s) ++ rest)) → (rest : List Float) × (drop (2 * s) (values_to p n ++ slot_values (held p n)) ≡ slot_values (held p s) ++ rest)
      go true e before = (
        [],
        ap (λ k. drop (2 * k) (values_to p n ++ slot_values (held p n))) (eqb-true s n e)
            ∙ drop_at (values_to p n) (slot_values (held p n)) (2 * n) (length_values n)
            ∙ ap (λ k. slot_values (held p k)) (sym (eqb-true s n e))
            ∙ sym (append-nil (slot_values (held p s))),
      )
      go false e before =
          let r = before (omega (arith, eqb-false s n e)) in (
            r.0 ++ slot_values (held p n),
            drop-append-le (2 * s) (values_to p n) (slot_values (held p n)) (omega (arith, length_values n, eqb-false s n e))
                ∙ ap (λ l. l ++ slot_values (held p n)) r.1
                ∙ append_assoc (slot_values (held p s)) r.0 (slot_values (held p n)),
          )

-- the record that is read from what was written of p
abbrev pub again : Program → Program
again p = record_of (numbers_of p) (values_of p)

module _ (p : Program) (g : Typed p) where
  slot_back : (s : ℕ) → s < 297 → in_slot (drop (9 + 8 * s) (numbers_of p)) (drop (2 * s) (values_of p)) ≡ held p s
  unfolding numbers_of values_of
  slot_back s h =
      let a = numbers_in p 297 s h in
      let b = values_in p 297 s h in
      ap (λ l. in_slot l (drop (2 * s) (values_to p 297))) (drop-append-add (header p) (numbers_to p 297) (8 * s) ∙ a.1)
      ∙ ap (in_slot (slot_numbers (held p s) ++ a.0)) b.1
      ∙ instruction_back (held p s) a.0 b.0 (g.fits s)

  pub sizes_back : ((again p).locations ≡ p.locations) × ((again p).sums ≡ p.sums)
  unfolding record_of numbers_of
  sizes_back = (refl, refl)

  pub intervals_back : (again p).intervals ≡ p.intervals
  unfolding record_of numbers_of numbers_from
  intervals_back =
      let whole : (v : ℕ) → v % 65536 + 65536 * (v / 65536) ≡ v = λ v. omega arith in
      ap (λ v. v ∷ (get_or p.intervals 1 0 % 65536 + 65536 * (get_or p.intervals 1 0 / 65536)) ∷ []) (whole (get_or p.intervals 0 0))
      ∙ ap (λ v. get_or p.intervals 0 0 ∷ v ∷ []) (whole (get_or p.intervals 1 0))
      ∙ places 2 p.intervals 0 g.intervals

  row_back : (t : Table) → length_of (numbers_of p) (row t) ≡ claimed p t
  unfolding numbers_of
  row_back Table.One = omega (arith, g.few 0)
  row_back Table.Two = omega (arith, g.few 1)
  row_back Table.Three = omega (arith, g.few 2)

  claimed_row : (t : Table) → claimed (again p) t ≡ length_of (numbers_of p) (row t)
  unfolding record_of
  claimed_row Table.One = refl
  claimed_row Table.Two = refl
  claimed_row Table.Three = refl

  pub lengths_back : (t : Table) → claimed (again p) t ≡ claimed p t
  lengths_back t = claimed_row t ∙ row_back t

  -- slot s of a table that has entry i, from 0
  entry_back : (t : Table) (i : ℕ) → i < claimed p t → i < 99 → row t ≤ 2 → instruction_at (numbers_of p) (values_of p) (99 * row t + i) ≡ held p (99 * row t + i)
  unfolding instruction_at
  entry_back t i few low table =
      yes _ _
      (ap (λ k. ltb ((99 * row t + i) % 99) (length_of (numbers_of p) k)) (let e : (99 * row t + i) / 99 ≡ row t = omega arith in e)
      ∙ ap (λ k. ltb k (length_of (numbers_of p) (row t))) (let e : (99 * row t + i) % 99 ≡ i = omega arith in e)
      ∙ lt-ltb i (length_of (numbers_of p) (row t)) (omega (arith, row_back t)))
      ∙ slot_back (99 * row t + i) (omega arith)

  row_small : (t : Table) → row t ≤ 2
  row_small Table.One = omega arith
  row_small Table.Two = omega arith
  row_small Table.Three = omega arith

  all_slots : length (again p).slots ≡ 297
  unfolding record_of
  all_slots = length-map (numbers_from 0 297) (slot_at (numbers_of p) (values_of p)) ∙ numbers_from_length_lem 0 297

  held_back : (s : ℕ) → s < 297 → held (again p) s ≡ instruction_at (numbers_of p) (values_of p) s
  unfolding record_of
  held_back s h =
      ap (λ (x : Slot). x.instruction)
      (at_map (slot_at (numbers_of p) (values_of p)) (numbers_from 0 297) s (record { instruction = End }) 0 (omega (arith, numbers_from_length_lem 0 297))
      ∙ ap (slot_at (numbers_of p) (values_of p)) (numbers_from_at_lem 0 297 s h ∙ omega arith))

  pub entries_back : (t : Table) → entries (again p) t ≡ entries p t
  unfolding slot
  entries_back t =
      let n = entries_length p t g.slots in
      let m : length (entries (again p) t) ≡ min (claimed p t) 99 = entries_length (again p) t all_slots ∙ ap (λ k. min k 99) (lengths_back t) in
      ext_get_or End (entries (again p) t) (entries p t) (m ∙ sym n)
      (λ i low.
      let few : i < min (claimed p t) 99 = omega arith in
      let at : 99 * row t + (i + 1) - 1 ≡ 99 * row t + i = omega arith in
      let place : i + 1 - 1 ≡ i = omega arith in
      ap (λ k. get_or (entries (again p) t) k End) (sym place)
      ∙ entry_in_slot (again p) t all_slots (i + 1) (omega arith) (omega arith)
      ∙ ap (held (again p)) at
      ∙ held_back (99 * row t + i) (omega (arith, row_small t))
      ∙ entry_back t i (omega arith) (omega arith) (row_small t)
      ∙ ap (held p) (sym at)
      ∙ sym (entry_in_slot p t g.slots (i + 1) (omega arith) (omega (arith, n)))
      ∙ ap (λ k. get_or (entries p t) k End) place)
