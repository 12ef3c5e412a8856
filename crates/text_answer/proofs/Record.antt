-- The record of a text without fault passes as a record, with the same counts: what the text's lines were judged by is what faults 2, 5
-- and 6 judge the record by, so the record's first walk finds nothing. Assumes nothing.
use Rattle.std.specs.Prelude.{◌≡◌, ℕ, suc, ◌+◌, ◌-◌, ◌<◌, Bool, true, false, cond, get_or, eqb, Float, Some}
use Rattle.std.proofs.Math.Path.{refl, ap}
use Rattle.std.proofs.Common.{sym, ◌∙◌, subst, arith, le-ltb}
use Rattle.std.proofs.Math.Bool.{not}
use mathlib.Core.List.{List, [], ◌∷◌, ◌++◌}
use Rattle.std.proofs.Math.ListN.{length}
use Rattle.base_program.specs.declared.Command.{Command}
use Rattle.base_program.specs.declared.Finding.{Finding}
use Rattle.base_program.specs.declared.Instruction.{Instruction}
use Rattle.base_program.specs.declared.Program.{Program}
use Rattle.base_program.specs.declared.Table.{Table}
use Rattle.base_program.specs.declared.Table.TheVariants.{One, Two, Three}
use Rattle.base_program.specs.Ranges.{location_counts, sum_counts, reps_range, range_codes, single_channels, differential_channels, passes, minutes_into, minute_intervals, flags, ports}
use Rattle.base_program.specs.RangeLaws.{inside}
use Rattle.base_program.specs.Channel.{on_card, single_numbers, differential_numbers, single_on, differential_on}
use Rattle.base_program.specs.Entries.{row, slot, claimed, entries, entry_at}
use Rattle.base_program.specs.Laws.{entry_in_slot}
use Rattle.spec_check.specs.declared.Verdict.{Verdict}
use Rattle.spec_check.specs.Ranges.{command_in_range, is_unconditional, in_range, is_interval, interval, fault2, fault2header, fault5, fault6}
use Rattle.spec_check.specs.Counts.{stated_count}
use Rattle.spec_check.specs.Check.{JudgedPlace, judged, or, number, entry_places, table_ranges, walk_ranges, first_of, verdict, check}
use Rattle.proof_check.specs.Walk.{or_else, first_append, nowhere, entry_place, entry_places_length}
use Rattle.record_layout.specs.Layout.{record_of, numbers_of, values_of}
use Rattle.text_parameters.specs.Parameter.{command_keyed}
use Rattle.text_lines.specs.EntryLaws.{EachEntry, command_sound}
use Rattle.text_opening.specs.Opening.{is_keyed_interval}
use Rattle.text_keyed.specs.Text.{clean, text_of}
use Rattle.text_reader.specs.CleanLaws.{CleanRecord, clean_sound}
use Rattle.text_answer.specs.declared.TextAnswer.{TextAnswer}
use Rattle.text_answer.specs.Check.{record_walks, record_verdict, answered, settled, check_text, WrittenAs}
use Rattle.base_laws.specs.Tests.{both}

-- ---- what was judged sound is in range

is_in_range : (n : ℕ) (c : Command) → command_keyed n ≡ Some c → command_in_range c ≡ true
unfolding command_in_range
is_in_range n =
    command_sound n (λ c. command_in_range c ≡ true)
    (record {
      stop = refl;
      call = λ h. h;
      raise = λ f h. inside flags f h;
      lower = λ f h. inside flags f h;
      then_do = λ h. refl;
      exit_if_true = refl;
      exit_if_false = λ h. refl;
      port_high = λ p h. inside ports p h;
      port_low = λ p h. inside ports p h;
    })

-- 86 takes neither 30 nor 32
unconditional : (n : ℕ) (c : Command) → command_keyed n ≡ Some c → (n ≡ 30 → ⊥) → (n ≡ 32 → ⊥) → is_unconditional c ≡ true
unfolding is_unconditional
unconditional n c e a b =
    command_sound n (λ c. is_unconditional c ≡ true)
    (record {
      stop = refl;
      call = λ h. refl;
      raise = λ f h. refl;
      lower = λ f h. refl;
      then_do = λ h. absurd (a h);
      exit_if_true = refl;
      exit_if_false = λ h. absurd (b h);
      port_high = λ p h. refl;
      port_low = λ p h. refl;
    })
    c
    e

entries_in_range : EachEntry (λ x. in_range x ≡ true)
unfolding in_range single_on differential_on
entries_in_range =
    record {
      single = λ reps range card channel l scale a b c d m o.
          both (inside reps_range reps a)
          (both (inside range_codes range b) (both (inside single_numbers (on_card single_channels.most card channel) (omega (arith, c.0, d.0), omega (arith, c.1, d.1))) (both m o)));
      differential = λ reps range card channel l scale a b c d m o.
          both (inside reps_range reps a)
          (both (inside range_codes range b) (both (inside differential_numbers (on_card differential_channels.most card channel) (omega (arith, c.0, d.0), omega (arith, c.1, d.1))) (both m o)));
      set_fixed = λ f z h. h;
      copy = λ x z. refl;
      increment = λ z. refl;
      add = λ x y z. refl;
      subtract = λ x y z. refl;
      multiply = λ x y z. refl;
      divide = λ x y z. refl;
      add_fixed = λ x f z h. h;
      multiply_fixed = λ x f z h. h;
      sample = λ reps x h. inside reps_range reps h;
      average = λ reps x h. inside reps_range reps h;
      total = λ reps x h. inside reps_range reps h;
      maximum = λ reps x h. inside reps_range reps h;
      minimum = λ reps x h. inside reps_range reps h;
      store_time = λ code. refl;
      subroutine = λ k h. h;
      command_only = λ n c e a b. both (is_in_range n c e) (unconditional n c e a b);
      loop = λ count h. inside passes count h;
      test_locations = λ x r y n c e. is_in_range n c e;
      test_fixed = λ x r f n c h e. both h (is_in_range n c e);
      test_flag = λ f high n c h e. both (inside flags f h) (is_in_range n c e);
      test_time = λ into interval n c a b e. both (inside minutes_into into a) (both (inside minute_intervals interval b) (is_in_range n c e));
      else_entry = refl;
      end_entry = refl;
    }

-- ---- a walk whose places have no fault

all_clean : (l : List JudgedPlace) → ((k : ℕ) → k < length l → (get_or l k nowhere).fault ≡ 0) → first_of l ≡ Finding.Clean
unfolding first_of
all_clean [] h = refl
all_clean (j ∷ l) h = ap (λ n. cond (eqb n 0) (first_of l) (Finding.Fault n j.table j.entry)) (h 0 (omega arith)) ∙ all_clean l (λ k m. h (suc k) (omega arith))

joined_clean : (l r : List JudgedPlace) → first_of l ≡ Finding.Clean → first_of r ≡ Finding.Clean → first_of (l ++ r) ≡ Finding.Clean
joined_clean l r a b = first_append l r ∙ ap (λ x. or_else x (first_of r)) a ∙ b

one_clean : (b : Bool) (n t e : ℕ) (l : List JudgedPlace) → b ≡ false → first_of l ≡ Finding.Clean → first_of (judged (or b n 0) t e ∷ l) ≡ Finding.Clean
unfolding first_of
one_clean b n t e l h c = ap (λ x. cond (eqb (or x n 0) 0) (first_of l) (Finding.Fault (or x n 0) t e)) h ∙ c

module _ (p : Program) (sound : CleanRecord (λ x. in_range x ≡ true) p) where
  entry_sound : (t : Table) (e : ℕ) → e < length (entries p t) → fault2 p t (1 + e) ≡ false
  entry_sound t e m =
      ap not
      (ap in_range (entry_in_slot p t sound.all (1 + e) (omega arith) (omega arith))
      ∙ sound.slots (slot t (1 + e)))

  few : (t : Table) → fault6 p t ≡ false
  few t = le-ltb 99 (claimed p t) (sound.lengths (row t))

  timed : (t : Table) → fault5 p t ≡ false
  unfolding is_interval interval is_keyed_interval
  timed One = ap not (sound.intervals 0 (omega arith))
  timed Two = ap not (sound.intervals 1 (omega arith))
  timed Three = refl

  table_clean : (t : Table) → first_of (table_ranges p t) ≡ Finding.Clean
  unfolding first_of
  table_clean t =
      one_clean (fault5 p t) 5 (number t) 0 (entry_places (λ e. or (fault2 p t e) 2 0) p t ++ (judged (or (fault6 p t) 6 0) (number t) 100 ∷ [])) (timed t)
      (joined_clean (entry_places (λ e. or (fault2 p t e) 2 0) p t) (judged (or (fault6 p t) 6 0) (number t) 100 ∷ [])
      (all_clean (entry_places (λ e. or (fault2 p t e) 2 0) p t) each)
      (one_clean (fault6 p t) 6 (number t) 100 [] (few t) refl))
    where
      each : (k : ℕ) → k < length (entry_places (λ e. or (fault2 p t e) 2 0) p t) → (get_or (entry_places (λ e. or (fault2 p t e) 2 0) p t) k nowhere).fault ≡ 0
      each k m =
          ap (λ j. j.fault) (entry_place (λ e. or (fault2 p t e) 2 0) p t k (omega (arith, entry_places_length (λ e. or (fault2 p t e) 2 0) p t)))
          ∙ ap (λ b. or b 2 0) (entry_sound t k (omega (arith, entry_places_length (λ e. or (fault2 p t e) 2 0) p t)))

  pub ranges_clean : first_of (walk_ranges p) ≡ Finding.Clean
  unfolding walk_ranges
  ranges_clean =
      one_clean (fault2header p) 2 0 0 (table_ranges p One ++ (table_ranges p Two ++ table_ranges p Three)) (ap not (both (inside location_counts p.locations sound.locations) (inside sum_counts p.sums sound.sums)))
      (joined_clean (table_ranges p One) (table_ranges p Two ++ table_ranges p Three) (table_clean One)
      (joined_clean (table_ranges p Two) (table_ranges p Three) (table_clean Two) (table_clean Three)))

-- the record of a text without fault is judged alike as a record
pub same_verdict : (s : List ℕ) (p : Program) → text_of s ≡ clean p → check p ≡ record_verdict p
unfolding check record_verdict
same_verdict s p h =
    ap (λ f. verdict f (stated_count p One) (stated_count p Two))
    (first_append (walk_ranges p) (record_walks p)
    ∙ ap (λ x. or_else x (first_of (record_walks p))) (ranges_clean p (clean_sound (λ x. in_range x ≡ true) entries_in_range s p h)))

-- a text without a text fault is answered as its record is judged
pub text_judged : (s : List ℕ) (p : Program) → text_of s ≡ clean p → check_text s ≡ answered (check p) p
unfolding check_text clean
text_judged s p h = ap (λ k. settled k.finding k.program) h ∙ ap (λ v. answered v p) (sym (same_verdict s p h))

-- what was written of one answer is what is written of another that equals it
pub written_as : (x y : TextAnswer) → x ≡ y → (ns : List ℕ) (vs : List Float) → ns ≡ numbers_of x.program → vs ≡ values_of x.program
    → ((a b : ℕ) → x.verdict ≡ Verdict.Pass a b → check (record_of ns vs) ≡ Verdict.Pass a b) → WrittenAs y x.verdict ns vs
written_as x y h ns vs n v p =
    record {
      verdict = ap (λ (z : TextAnswer). z.verdict) h;
      numbers = n ∙ ap (λ (z : TextAnswer). numbers_of z.program) h;
      values = v ∙ ap (λ (z : TextAnswer). values_of z.program) h;
      passes = p;
    }

-- a fault is no pass
pub no_pass : {A : Type 0} {n t e a b : ℕ} → Verdict.Fault n t e ≡ Verdict.Pass a b → A
no_pass h = absurd (let z : ◌≡◌ {A = ℕ} 0 1 = cc in omega arith)

pub as_written : (x y : TextAnswer) → x ≡ y → (r : Verdict) (ns : List ℕ) (vs : List Float) → WrittenAs x r ns vs → WrittenAs y r ns vs
as_written x y h r ns vs w = subst (λ (z : TextAnswer). WrittenAs z r ns vs) h w

-- The record that a passed text gives passes as a record, with the same counts.
pub passes_again : (s : List ℕ) (a b : ℕ) → (check_text s).verdict ≡ Verdict.Pass a b → check (check_text s).program ≡ Verdict.Pass a b
unfolding check_text clean
passes_again s a b h = by (text_of s).finding refl h
  where
    by : (f : Finding) → (text_of s).finding ≡ f → (settled f (text_of s).program).verdict ≡ Verdict.Pass a b → check (settled f (text_of s).program).program ≡ Verdict.Pass a b
    by Finding.Clean e g = on (record_verdict (text_of s).program) refl g
      where
        on : (v : Verdict) → record_verdict (text_of s).program ≡ v → (answered v (text_of s).program).verdict ≡ Verdict.Pass a b → check (answered v (text_of s).program).program ≡ Verdict.Pass a b
        on (Verdict.Pass c d) q k = same_verdict s (text_of s).program (ap (λ x. record { finding = x; program = (text_of s).program }) e) ∙ q ∙ k
        on (Verdict.Fault n t y) q k = absurd (let z : ◌≡◌ {A = ℕ} 0 1 = cc in omega arith)
    by (Finding.Fault n t y) e g = absurd (let z : ◌≡◌ {A = ℕ} 0 1 = cc in omega arith)
