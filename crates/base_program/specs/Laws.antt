-- Laws of channels, entries and sums that callers use. Assumes nothing.
use Rattle.std.specs.Prelude.{◌≡◌, refl, ℕ, zero, suc, ◌+◌, ◌-◌, ◌*◌, ◌/◌, ◌%◌, ◌≤◌, ◌<◌, min, true, List, [], ◌∷◌, ◌++◌, map, length, take, drop, Float}
use Rattle.std.proofs.Common.{sym, ◌∙◌, add-one, get_or-take, take-suc}
use Rattle.std.proofs.Math.Path.{ap}
use native.Mathlib.Omega.{arith}
use Rattle.std.proofs.Math.Option.{Option, none, some}
use Rattle.std.proofs.Math.ListN.{get_or, length-take, length-drop, length-map, get_or-map}
use Rattle.std.proofs.Math.Seq.{get_or-drop}
use Rattle.base_float.specs.Finite.{finite, stored, overrange}
use Rattle.base_float.specs.Laws.{stored_finite}
use Rattle.base_program.specs.declared.Scale.{Scale}
use Rattle.base_program.specs.declared.Differential.{Differential}
use Rattle.base_program.specs.declared.Instruction.{Instruction}
use Rattle.base_program.specs.declared.Slot.{Slot}
use Rattle.base_program.specs.declared.Program.{Program}
use Rattle.base_program.specs.declared.Table.{Table}
use Rattle.base_program.specs.Ranges.{◌to◌}
use Rattle.base_program.specs.Channel.{on_card, card_of, channel_of, single_numbers, differential_numbers, inputs}
use Rattle.base_program.specs.Reach.{sums, numbers_from}
use Rattle.base_program.specs.Entries.{row, table_at, slot, claimed, entries, entry_at, all_sums, sums_before, first_sum}
use Rattle.base_program.specs.Measure.{scaled}

-- ---- channels: a card and a channel of it are read back from the number, and the number from them

pub channel_back_28 : (card channel : ℕ) → 1 ≤ card → 1 ≤ channel → channel ≤ 28 → (card_of 28 (on_card 28 card channel) ≡ card) × (channel_of 28 (on_card 28 card channel) ≡ channel)
channel_back_28 card channel c l h = (omega arith, omega arith)

pub channel_back_14 : (card channel : ℕ) → 1 ≤ card → 1 ≤ channel → channel ≤ 14 → (card_of 14 (on_card 14 card channel) ≡ card) × (channel_of 14 (on_card 14 card channel) ≡ channel)
channel_back_14 card channel c l h = (omega arith, omega arith)

pub number_back_28 : (n : ℕ) → 1 ≤ n → on_card 28 (card_of 28 n) (channel_of 28 n) ≡ n
number_back_28 n h = omega arith

pub number_back_14 : (n : ℕ) → 1 ≤ n → on_card 14 (card_of 14 n) (channel_of 14 n) ≡ n
number_back_14 n h = omega arith

-- 'There are 196 single-ended readings', and half as many differential channels.
pub channel_numbers : (single_numbers ≡ 1 to 196) × (differential_numbers ≡ 1 to 98)
channel_numbers = (refl, refl)

-- Differential channel d of a card reads single-ended channels 2d - 1 and 2d of the same card.
pub inputs_on_card : (x : Differential) (card d : ℕ) → 1 ≤ card → 1 ≤ d → x.0 ≡ on_card 14 card d
    → ((inputs x).high.0 ≡ on_card 28 card (2 * d - 1)) × ((inputs x).low.0 ≡ on_card 28 card (2 * d))
unfolding inputs
inputs_on_card x card d c l e = (omega arith, omega arith)

-- ---- readings that follow

pub numbers_from_at_lem : (k n i : ℕ) → i < n → get_or (numbers_from k n) i 0 ≡ k + i
unfolding numbers_from
numbers_from_at_lem k zero i h = absurd (omega arith)
numbers_from_at_lem k (suc n) zero h = omega arith
numbers_from_at_lem k (suc n) (suc i) h = numbers_from_at_lem (suc k) n i (omega arith) ∙ omega arith

pub numbers_from_length_lem : (k n : ℕ) → length (numbers_from k n) ≡ n
unfolding numbers_from
numbers_from_length_lem k zero = refl
numbers_from_length_lem k (suc n) = ap suc (numbers_from_length_lem (suc k) n)

-- ---- a measurement's value is finite

pub scaled_finite : (x : Float) (s : Scale) → finite (scaled x s) ≡ true
unfolding scaled finite
scaled_finite Float.nan s = refl
scaled_finite (Float.inf b) s = refl
scaled_finite (Float.fin b m e) s = stored_finite _

-- ---- entries

row_small : (t : Table) → row t ≤ 2
row_small Table.One = omega arith
row_small Table.Two = omega arith
row_small Table.Three = omega arith

module _ (p : Program) (t : Table) (slots : length p.slots ≡ 297) where
  part : List Slot
  part = take (min (claimed p t) 99) (drop (99 * row t) p.slots)

  pub entries_length : length (entries p t) ≡ min (claimed p t) 99
  unfolding entries part
  entries_length =
      length-map part (λ s. s.instruction)
      ∙ length-take (min (claimed p t) 99) (drop (99 * row t) p.slots)
      ∙ omega (arith, length-drop (99 * row t) p.slots, row_small t)

  -- entry e of a table lies in its slot
  pub entry_in_slot : (e : ℕ) → 1 ≤ e → e ≤ length (entries p t) → entry_at p t e ≡ (get_or p.slots (slot t e) (record { instruction = Instruction.End })).instruction
  unfolding entries part slot
  entry_in_slot e l h =
      get_or-map (λ (s : Slot). s.instruction) part (e - 1) (record { instruction = Instruction.End })
      ∙ ap (λ (s : Slot). s.instruction)
      (get_or-take (min (claimed p t) 99) (drop (99 * row t) p.slots) (e - 1) (record { instruction = Instruction.End }) (omega (arith, entries_length))
      ∙ get_or-drop (99 * row t) p.slots (e - 1) (record { instruction = Instruction.End })
      ∙ ap (λ n. get_or p.slots n (record { instruction = Instruction.End })) (let g : 99 * row t + (e - 1) ≡ 99 * row t + e - 1 = omega arith in g))

pub row_at : (t : ℕ) → t < 3 → row (table_at t) ≡ t
row_at zero h = refl
row_at (suc zero) h = refl
row_at (suc (suc zero)) h = refl
row_at (suc (suc (suc t))) h = absurd (omega arith)

in_slot_lem : (p : Program) (t : Table) (e : ℕ) → e < min (claimed p t) 99
    → get_or (entries p t) e Instruction.End ≡ (get_or p.slots (99 * row t + e) (record { instruction = Instruction.End })).instruction
unfolding entries
in_slot_lem p t e h =
    get_or-map (λ (s : Slot). s.instruction) (take (min (claimed p t) 99) (drop (99 * row t) p.slots)) e (record { instruction = Instruction.End })
    ∙ ap (λ (s : Slot). s.instruction)
    (get_or-take (min (claimed p t) 99) (drop (99 * row t) p.slots) e (record { instruction = Instruction.End }) h
    ∙ get_or-drop (99 * row t) p.slots e (record { instruction = Instruction.End }))

-- entry e, from 0, of the table of row t lies in its slot
pub entry_read : (p : Program) (t : ℕ) → t < 3 → (e : ℕ) → e < min (get_or p.lengths t 0) 99
    → (get_or p.slots (99 * t + e) (record { instruction = Instruction.End })).instruction ≡ get_or (entries p (table_at t)) e Instruction.End
entry_read p t in_tables e in_table =
    ap (λ n. (get_or p.slots (99 * n + e) (record { instruction = Instruction.End })).instruction) (sym (row_at t in_tables))
    ∙ sym (in_slot_lem p (table_at t) e (omega (arith, ap (λ n. get_or p.lengths n 0) (row_at t in_tables))))

-- ---- sums

pub all_sums_append_lem : (xs ys : List Instruction) → all_sums (xs ++ ys) ≡ all_sums xs + all_sums ys
unfolding all_sums
all_sums_append_lem [] ys = omega arith
all_sums_append_lem (i ∷ xs) ys = ap (λ n. sums i + n) (all_sums_append_lem xs ys) ∙ omega arith

-- an entry's sums are followed by the next entry's
pub first_sum_next_lem : (p : Program) (t : Table) (e : ℕ) → 1 ≤ e → e ≤ length (entries p t) → first_sum p t (e + 1) ≡ first_sum p t e + sums (entry_at p t e)
unfolding first_sum all_sums
first_sum_next_lem p t e l h =
    ap (λ n. sums_before p t + all_sums (take n (entries p t))) (let g : e + 1 - 1 ≡ suc (e - 1) = omega arith in g)
    ∙ ap (λ l. sums_before p t + all_sums l) (take-suc (entries p t) (e - 1) Instruction.End (omega arith))
    ∙ ap (λ n. sums_before p t + n) (all_sums_append_lem (take (e - 1) (entries p t)) (entry_at p t e ∷ []))
    ∙ omega arith
