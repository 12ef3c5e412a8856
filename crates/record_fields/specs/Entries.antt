-- The parts of the record that lent buffers hold, as they lie there: I, M, both V, the lengths, and each entry in use as its slot's own numbers
-- say. By the layout's definitions. Assumes nothing.
use Rattle.std.specs.Prelude.{◌≡◌, List, [], ◌∷◌, length, get_or, drop, Float}
use Rattle.std.proofs.Math.Path.{refl, ap}
use Rattle.std.proofs.Common.{sym, ◌∙◌}
use Prim.Native.Nat.{ℕ, zero, suc, ◌+◌, ◌*◌, ◌/◌, ◌%◌, ◌<◌, min}
use native.Mathlib.Omega.{arith}
use Rattle.std.proofs.Math.ListN.{length-map}
use Rattle.std.proofs.Math.Dec.{ltb}
use borrow.Author.Tests.{lt-ltb}
use Rattle.base_program.specs.declared.Instruction.{Instruction}
use Rattle.base_program.specs.declared.Slot.{Slot}
use Rattle.base_program.specs.Reach.{numbers_from}
use Rattle.base_program.specs.Laws.{numbers_from_at_lem, numbers_from_length_lem}
use Rattle.base_laws.specs.Tests.{yes}
use Rattle.record_layout.specs.Layout.{in_slot, length_of, interval_of, instruction_at, slot_at, record_of, held}
use Rattle.record_layout.specs.Laws.{at_map}
use Rattle.record_fields.specs.Numbers.{lies, lies_in_slot}

-- the buffers are as large as a record
pub record Sized (ns : List ℕ) (vs : List Float) : Type 0 where
  pub numbers : length ns ≡ 2385
  pub values : length vs ≡ 594

module _ (ns : List ℕ) (vs : List Float) where
  pub locations_lie : (record_of ns vs).locations ≡ get_or ns 0 0
  unfolding record_of
  locations_lie = refl

  pub sums_lie : (record_of ns vs).sums ≡ get_or ns 1 0
  unfolding record_of
  sums_lie = refl

  pub intervals_lie : (record_of ns vs).intervals ≡ interval_of ns 2 ∷ interval_of ns 4 ∷ []
  unfolding record_of
  intervals_lie = refl

  pub lengths_lie : (record_of ns vs).lengths ≡ length_of ns 0 ∷ length_of ns 1 ∷ length_of ns 2 ∷ []
  unfolding record_of
  lengths_lie = refl

  -- of the table of row t
  pub length_lies : (t : ℕ) → t < 3 → get_or (record_of ns vs).lengths t 0 ≡ length_of ns t
  unfolding record_of
  length_lies zero h = refl
  length_lies (suc zero) h = refl
  length_lies (suc (suc zero)) h = refl
  length_lies (suc (suc (suc t))) h = absurd (omega arith)

  pub slots_full : length (record_of ns vs).slots ≡ 297
  unfolding record_of
  slots_full = length-map (numbers_from 0 297) (slot_at ns vs) ∙ numbers_from_length_lem 0 297

  held_lies : (s : ℕ) → s < 297 → held (record_of ns vs) s ≡ instruction_at ns vs s
  unfolding record_of
  held_lies s h =
      ap (λ (x : Slot). x.instruction)
      (at_map (slot_at ns vs) (numbers_from 0 297) s (record { instruction = Instruction.End }) 0 (omega (arith, numbers_from_length_lem 0 297))
      ∙ ap (slot_at ns vs) (numbers_from_at_lem 0 297 s h ∙ omega arith))

  in_use : (t e : ℕ) → e < 99 → e < length_of ns t → instruction_at ns vs (99 * t + e) ≡ in_slot (drop (9 + 8 * (99 * t + e)) ns) (drop (2 * (99 * t + e)) vs)
  unfolding instruction_at
  in_use t e h few =
      yes _ _
      (ap (λ k. ltb ((99 * t + e) % 99) (length_of ns k)) (let g : (99 * t + e) / 99 ≡ t = omega arith in g)
      ∙ ap (λ k. ltb k (length_of ns t)) (let g : (99 * t + e) % 99 ≡ e = omega arith in g)
      ∙ lt-ltb e (length_of ns t) few)

  -- entry e, from 0, of the table of row t
  pub entry_lies : (t e : ℕ) → t < 3 → e < min (length_of ns t) 99
      → (get_or (record_of ns vs).slots (99 * t + e) (record { instruction = Instruction.End })).instruction ≡ lies ns vs (99 * t + e)
  entry_lies t e in_tables in_table =
      held_lies (99 * t + e) (omega arith) ∙ in_use t e (omega arith) (omega arith) ∙ sym (lies_in_slot ns vs (99 * t + e))
