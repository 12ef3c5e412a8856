-- Document 01's marked cases, proved together: each side computes. Assumes nothing.
use Rattle.std.specs.Prelude.{◌≡◌, refl, true, false, List, [], ◌∷◌, ◌++◌, ℕ, ◌-◌, length, replicate, pos, negsuc, Float}
use Rattle.std.specs.Float.{fin}
use Rattle.std.specs.Float.Ieee.Positive.{num, den}
use Rattle.base_program.specs.declared.Instruction.{Instruction}
use Rattle.base_program.specs.declared.Location.{Location}
use Rattle.base_program.specs.declared.Program.{Program}
use Rattle.base_program.specs.declared.Slot.{Slot}
use Rattle.base_program.specs.declared.Table.TheVariants.{One}
use Rattle.base_program.specs.Flow.{command_flow, flow, call_of, opens}
use Rattle.base_program.specs.Reach.{locations, sums, numbers_from, readings}
use Rattle.base_program.specs.Entries.{entries, all_sums, sums_before, first_sum}
use Rattle.spec_check.specs.declared.Verdict.{Verdict}
use Rattle.spec_check.specs.Ranges.{command_in_range, is_unconditional, in_range, is_interval, interval}
use Rattle.spec_check.specs.Blocks.{through, blocks_after, has_loop, count_blocks, kind, label, label_before}
use Rattle.spec_check.specs.Calls.{passes_in_force, any_outside, any_beyond, behind, up_to_end, body, any_call, chain}
use Rattle.spec_check.specs.Counts.{count_entry, counts, call_count, stated_count}
use Rattle.spec_check.specs.Check.{walk_ranges, block_fault, walk_blocks, reach_fault, walk_reach, walk_chains, walk_sums, walk_counts, first_of, check}
use Rattle.storage_word.specs.declared.Decimal.{Decimal}
use Rattle.storage_word.specs.Word.{digits_at, places_within, digits_within, negative, value_word, start_word, decimal_of}

-- the listed value of a number: its sign, places and digits
abbrev listed : Float → Decimal
listed x = decimal_of (value_word x)

-- ---- small programs: Table 1 has these entries, Tables 2 and 3 none

abbrev slots : List Instruction → List Slot
slots [] = []
slots (i ∷ r) = record { instruction = i } ∷ slots r

abbrev program : ℕ → ℕ → List Instruction → Program
program locations second l =
    record {
      locations = locations;
      sums = 0;
      intervals = 0 ∷ second ∷ [];
      lengths = length l ∷ 0 ∷ 0 ∷ [];
      slots = slots l ++ replicate (297 - length l) (record { instruction = Instruction.End });
    }

-- `(32 n)` and `(32 n--)`
abbrev increment : ℕ → Instruction
increment n = Instruction.Increment (record { number = n; indexed = false })

abbrev indexed : ℕ → Instruction
indexed n = Instruction.Increment (record { number = n; indexed = true })

-- `(87 0 count)`, the body, `(95)`
abbrev loop : ℕ → List Instruction → List Instruction
loop n l = Instruction.Loop 0 n ∷ (l ++ (Instruction.End ∷ []))

-- '● 2.5 is 27,076. ● -0.0625 is 57,407. ● 7 is 7.00. ● 70 is 70.0. ● 6,999.5 is 6,999. ● id 102 is 64,614. ● loop of 3 over one entry counts 7.
-- ● a loop of nine `(32 1)` with count 6,000 counts 60,001, refused 22; with eight it counts 54,001 and passes. ● `(87 0 3)` `(32 2--)` needs
-- I = 4. ● V = 8 in Table 2 passes, 4 doesn't.'
pub record Marked : Type 0 where
  pub word_of_2_5 : value_word (fin false 5 (negsuc 0)) ≡ 27076
  pub word_of_minus_0_0625 : value_word (fin true 1 (negsuc 3)) ≡ 57407
  pub listed_7 : listed (fin false 7 (pos 0)) ≡ record { negative = false; places = 2; digits = 700 }
  pub listed_70 : listed (fin false 35 (pos 1)) ≡ record { negative = false; places = 1; digits = 700 }
  pub listed_6999_5 : listed (fin false 13999 (negsuc 0)) ≡ record { negative = false; places = 0; digits = 6999 }
  pub start_of_102 : start_word 102 ≡ 64614
  pub loop_of_3 : check (program 1 0 (loop 3 (increment 1 ∷ []))) ≡ Verdict.Pass 7 0
  pub nine_count : stated_count (program 1 0 (loop 6000 (replicate 9 (increment 1)))) One ≡ 60001
  pub nine_refused : check (program 1 0 (loop 6000 (replicate 9 (increment 1)))) ≡ Verdict.Fault 22 1 0
  pub eight_pass : check (program 1 0 (loop 6000 (replicate 8 (increment 1)))) ≡ Verdict.Pass 54001 0
  pub four_locations : check (program 4 0 (loop 3 (indexed 2 ∷ []))) ≡ Verdict.Pass 7 0
  pub three_refused : check (program 3 0 (loop 3 (indexed 2 ∷ []))) ≡ Verdict.Fault 20 1 2
  pub interval_8 : check (program 1 8 []) ≡ Verdict.Pass 0 0
  pub interval_4 : check (program 1 4 []) ≡ Verdict.Fault 5 2 0

pub marked : Marked
unfolding num den digits_at places_within digits_within negative value_word start_word decimal_of command_flow flow call_of opens locations sums numbers_from readings entries all_sums sums_before first_sum command_in_range is_unconditional in_range is_interval interval through blocks_after has_loop count_blocks kind label label_before passes_in_force any_outside any_beyond behind up_to_end body any_call chain count_entry counts call_count walk_ranges block_fault walk_blocks reach_fault walk_reach walk_chains walk_sums walk_counts first_of check
marked =
    record {
      word_of_2_5 = refl;
      word_of_minus_0_0625 = refl;
      listed_7 = refl;
      listed_70 = refl;
      listed_6999_5 = refl;
      start_of_102 = refl;
      loop_of_3 = refl;
      nine_count = refl;
      nine_refused = refl;
      eight_pass = refl;
      four_locations = refl;
      three_refused = refl;
      interval_8 = refl;
      interval_4 = refl;
    }
