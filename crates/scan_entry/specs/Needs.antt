-- What each function asks that an entry is handed to: the locations, readings and sums that the entry reaches are within those lent. Assumes nothing.
use Rattle.std.specs.Prelude.{◌≡◌, refl, Bool, true, false, ◌&&◌, List, [], ◌∷◌, ◌++◌, length, leb, Float}
use Rattle.std.proofs.Common.{sym, ap, ◌∙◌, subst, arith}
use Prim.Native.Nat.{ℕ, zero, suc, ◌+◌, ◌-◌, ◌*◌, ◌≤◌, ◌<◌}
use borrow.Author.Tests.{leb-true}
use Rattle.base_float.specs.Finite.{finite}
use Rattle.base_program.specs.declared.Command.{Command}
use Rattle.base_program.specs.declared.Instruction.{Instruction}
use Rattle.base_program.specs.declared.Instruction.TheVariants.{MeasureSingle, MeasureDifferential, Sample, Subroutine, IfFlag, IfTime}
use Rattle.base_program.specs.declared.SingleEnded.{SingleEnded}
use Rattle.base_program.specs.declared.Differential.{Differential}
use Rattle.base_program.specs.declared.Location.{Location}
use Rattle.base_program.specs.declared.Scale.{Scale}
use Rattle.base_program.specs.Entries.{first_sum}
use Rattle.base_program.specs.Reach.{numbers_from, locations, readings, sums, moved}
use Rattle.spec_check.specs.Ranges.{in_range, is_reps, command_in_range}
use Rattle.base_program.specs.Codes.{between}
use Rattle.spec_machine.specs.Limits.{spanned, Each, InReach}
use Rattle.base_laws.specs.Tests.{and_both}
use Rattle.spec_buffers.specs.Held.{Held, out_of}
use Rattle.spec_buffers.specs.RefineEntry as Entry
use Rattle.scan_locations.specs.Lent.{Inside, Two, Three, Measured}
use Rattle.scan_output.specs.Lent as Out
use Rattle.scan_output.specs.Lent.{Room, LocationsReached}
use Rattle.scan_signals.specs.Lent.{Commanded}
use Rattle.scan_statistics.specs.Lent as Statistics
use Rattle.scan_entry.specs.Asks.{EntryNumbers, Asked}

-- ---- following numbers

-- n numbers from a on are all at most m, so the last one is
last_of_lem : (P : ℕ → Type 0) (m : ℕ) → ((k : ℕ) → P k → k ≤ m) → (a n : ℕ) → 1 ≤ n → Each P (numbers_from a n ++ []) → a + n ≤ m + 1
unfolding numbers_from
last_of_lem P m at_most a zero some each = absurd (omega arith)
last_of_lem P m at_most a (suc zero) some each = omega (arith, at_most a each.0)
last_of_lem P m at_most a (suc (suc n)) some each = omega (arith, last_of_lem P m at_most (suc a) (suc n) (omega arith) each.1)

append_none : (P : ℕ → Type 0) (l : List ℕ) → Each P l → Each P (l ++ [])
append_none P [] e = tt
append_none P (a ∷ l) e = (e.0, append_none P l e.1)

first_of : (P : ℕ → Type 0) (a n : ℕ) → 1 ≤ n → Each P (numbers_from a n ++ []) → P a
unfolding numbers_from
first_of P a zero some each = absurd (omega arith)
first_of P a (suc n) some each = each.0

reps_in : (n : ℕ) → is_reps n ≡ true → 1 ≤ n
reps_in n h = leb-true 1 n (and_both (leb 1 n) (leb n 99) h).0

module _ {k : EntryNumbers} {i : Instruction} {given : List Float} {h : Held} {store : List ℕ} (a : Asked k i given h store) where
  -- the same of what the entry was found to be
  pub reach_of_lem : (j : Instruction) → i ≡ j → InReach a.program a.table a.number k.shift j
  reach_of_lem j told = subst (λ z. InReach a.program a.table a.number k.shift z) told a.ready.reach

  pub range_of : (j : Instruction) → i ≡ j → in_range j ≡ true
  range_of j told = ap in_range (sym told) ∙ a.ready.range

  -- location z is one of the program's
  abbrev Lent : ℕ → Type 0
  Lent z = (1 ≤ z) × (z ≤ a.program.locations)

  inside : (m : ℕ) → Lent m → Inside m (length h.locations)
  inside m w = (w.0, omega (arith, w.1, a.ready.fits.locations))

  -- one, two and three locations, of an entry that has just these
  pub one_asks : (j : Instruction) → i ≡ j → {m : ℕ} → (Each Lent (spanned k.shift (locations j)) → Lent m) → Inside m (length h.locations)
  one_asks j told {m} pick = inside m (pick (reach_of_lem j told).locations)

  pub two_asks : (j : Instruction) → i ≡ j → {m₁ m₂ : ℕ} → (Each Lent (spanned k.shift (locations j)) → Lent m₁ × Lent m₂)
      → Two m₁ m₂ (length h.locations)
  two_asks j told {m₁} {m₂} pick =
      let w = pick (reach_of_lem j told).locations in record { first = inside m₁ w.0; second = inside m₂ w.1 }

  pub three_asks : (j : Instruction) → i ≡ j → {m₁ m₂ m₃ : ℕ} → (Each Lent (spanned k.shift (locations j)) → Lent m₁ × Lent m₂ × Lent m₃)
      → Three m₁ m₂ m₃ (length h.locations)
  three_asks j told {m₁} {m₂} {m₃} pick =
      let w = pick (reach_of_lem j told).locations in
      record { first = inside m₁ w.0; second = inside m₂ w.1; third = inside m₃ w.2 }

  -- ---- following locations

  reached : (n m at : ℕ) → 1 ≤ n → at ≡ m → Each Lent (numbers_from m n ++ []) → LocationsReached h.locations n at
  reached n m at some e all =
      record {
        first = subst (λ z. 1 ≤ z) (sym e) (first_of Lent m n some all).0;
        last = omega (arith, last_of_lem Lent a.program.locations (λ z w. w.1) m n some all, a.ready.fits.locations);
      }

  -- 1
  pub single_asks : (n range : ℕ) (c : SingleEnded) (l : Location) (s : Scale) (at : ℕ) → i ≡ MeasureSingle n range c l s → at ≡ moved k.shift l
      → Measured c.0 196 n at (length given) (length h.locations)
  unfolding in_range spanned locations readings
  single_asks n range c l s at told e =
      let j : Instruction = MeasureSingle n range c l s in
      let is_in_range = and_both (is_reps n) (between 1 18 range && (between 1 196 c.0 && (finite s.multiplier && finite s.offset))) (range_of j told) in
      let some : 1 ≤ n = reps_in n is_in_range.0 in
      let w = reach_of_lem j told in
      let found = reached n (moved k.shift l) at some e w.locations in
      let P : ℕ → Type 0 = λ z. (1 ≤ z) × (z ≤ 196) in
      let channels = append_none P (numbers_from c.0 n) w.readings in
      record {
        first_channel = (first_of P c.0 n some channels).0;
        last_channel = last_of_lem P 196 (λ z y. y.1) c.0 n some channels;
        first_location = found.first;
        last_location = found.last;
        readings = a.all;
      }

  -- 2
  pub differential_asks : (n range : ℕ) (c : Differential) (l : Location) (s : Scale) (at : ℕ) → i ≡ MeasureDifferential n range c l s → at ≡ moved k.shift l
      → Measured c.0 98 n at (length given) (length h.locations)
  unfolding in_range spanned locations readings
  differential_asks n range c l s at told e =
      let j : Instruction = MeasureDifferential n range c l s in
      let is_in_range = and_both (is_reps n) (between 1 18 range && (between 1 98 c.0 && (finite s.multiplier && finite s.offset))) (range_of j told) in
      let some : 1 ≤ n = reps_in n is_in_range.0 in
      let w = reach_of_lem j told in
      let found = reached n (moved k.shift l) at some e w.locations in
      let P : ℕ → Type 0 = λ z. (1 ≤ z) × (z ≤ 196) in
      let channels = append_none P (numbers_from (2 * c.0 - 1) (2 * n)) w.readings in
      let top : 2 * c.0 - 1 + 2 * n ≤ 196 + 1 = last_of_lem P 196 (λ z y. y.1) (2 * c.0 - 1) (2 * n) (omega arith) channels in
      let bottom : 1 ≤ 2 * c.0 - 1 = (first_of P (2 * c.0 - 1) (2 * n) (omega arith) channels).0 in
      record {
        first_channel = omega (arith, bottom);
        last_channel = omega (arith, top, bottom);
        first_location = found.first;
        last_location = found.last;
        readings = a.all;
      }

-- ---- output

module _ {k : EntryNumbers} {i : Instruction} {given l u : List Float} {c : List ℕ} {f q : List Bool} {ring store : List ℕ}
    (a : Asked k i given (record { locations = l; sums = u; counts = c; flags = f; ports = q; out = out_of ring store }) store) where
  pub room : Room ring store
  room = record { four = a.four; ready = record { ring = a.ready.fits.ring; array = a.array } }

  -- 70
  pub sample_asks : (n : ℕ) (x : Location) (at : ℕ) → i ≡ Sample n x → at ≡ moved k.shift x → Out.Sampled l n at ring store
  unfolding in_range spanned locations
  sample_asks n x at told e =
      record {
        locations = reached a n (moved k.shift x) at (reps_in n (range_of a (Sample n x) told)) e (reach_of_lem a (Sample n x) told).locations;
        room = room;
      }

  -- 71 to 74
  pub statistic_asks : (j : Instruction) → i ≡ j → (n : ℕ) (x : Location) (at : ℕ) → in_range j ≡ is_reps n
      → (Each (Lent a) (spanned k.shift (locations j)) → Each (Lent a) (numbers_from (moved k.shift x) n ++ [])) → sums j ≡ n → at ≡ moved k.shift x
      → Statistics.Entry n k.first k.place at l u c f ring store
  statistic_asks j told n x at range_is span_is sums_are e =
      let some : 1 ≤ n = reps_in n (sym range_is ∙ range_of a j told) in
      let w = reach_of_lem a j told in
      let M : ℕ = a.program.sums in
      let P : ℕ → Type 0 = λ z. z < M in
      let taken : Each P (numbers_from k.first n) =
      subst (λ z. Each P (numbers_from z n)) a.first_is (subst (λ z. Each P (numbers_from (first_sum a.program a.table a.number) z)) sums_are w.sums) in
      let all = append_none P (numbers_from k.first n) taken in
      let in_first : k.first < M = first_of P k.first n some all in
      record {
        taking =
            record {
              sampling =
                  record {
                    locations = reached a n (moved k.shift x) at some e (span_is w.locations);
                    sums = omega (arith, last_of_lem P (M - 1) (λ z y. let g : z ≤ M - 1 = omega (arith, y) in g) k.first n some all, a.ready.fits.sums, in_first);
                  };
              count =
                  record {
                    all = a.ready.fits.counts;
                    inside = subst (λ z. z < 297) a.place_is a.ready.slot_in;
                    few = a.few k.place;
                  };
              flags = a.ready.fits.flags;
            };
        room = room;
      }

  -- a command in range
  pub command_asks : (d : Command) → command_in_range d ≡ true → Commanded d f q store
  command_asks d r = record { range = r; flags = a.ready.fits.flags; ports = a.ready.fits.ports; four = a.four }

-- ---- tests

module _ {k : EntryNumbers} {i : Instruction} {given : List Float} {h : Held} {store : List ℕ} (a : Asked k i given h store) where
  -- 91 tests one of the ten flags
  pub flag_in : (f : ℕ) (high : Bool) (c : Command) → i ≡ IfFlag f high c → f < length h.flags
  unfolding in_range
  flag_in f high c told = omega (arith, leb-true f 9 (and_both (leb f 9) (command_in_range c) (range_of a (IfFlag f high c) told)).0, a.ready.fits.flags)

  -- 92 has an interval
  pub interval_in : (into interval : ℕ) (c : Command) → i ≡ IfTime into interval c → 0 < interval
  unfolding in_range
  interval_in into interval c told =
      let z = (and_both (between 1 1440 interval) (command_in_range c)
      (and_both (leb into 1439) (between 1 1440 interval && command_in_range c) (range_of a (IfTime into interval c) told)).1).0 in
      leb-true 1 interval (and_both (leb 1 interval) (leb interval 1440) z).0
