-- The steps of the walk over a record that lies in lent buffers: its parts as they lie there are those of the record. Assumes nothing.
use mathlib.Core.Path.{◌≡◌, sym, ap, ◌∙◌}
use Prim.Native.Nat.{ℕ, ◌+◌, ◌*◌, ◌≤◌, ◌<◌, min}
use native.Mathlib.Omega.{arith}
use mathlib.Core.Bool.{Bool, true, false, cond, ◌&&◌}
use mathlib.Core.List.{List, [], ◌∷◌}
use lib.ListN.{length, get_or, set}
use lib.Dec.{leb}
use lib.Ieee.{Float}
use borrow.Author.Tests.{le-ltb}
use Rattle.base_program.specs.declared.Finding.{Finding}
use Rattle.base_program.specs.declared.Program.{Program}
use Rattle.spec_check.specs.Ranges.{is_interval}
use Rattle.base_program.specs.Codes.{between}
use Rattle.base_program.specs.Entries.{table_at}
use Rattle.check_reach.specs.Needs.{entry_need}
use Rattle.check_facts.specs.declared.Facts.{Facts}
use Rattle.check_facts.specs.Told.{FactsTold}
use Rattle.record_layout.specs.Layout.{length_of, interval_of, record_of}
use Rattle.record_fields.specs.Numbers.{lies}
use Rattle.record_fields.specs.Entries.{locations_lie, length_lies, slots_full, entry_lies}
use Rattle.check_ranges.specs.Walked.{RangesWalked, interval_at}
use Rattle.check_ranges.proofs.Steps.{AtTable, AtEntry, walk_starts, fault_in_header, table_starts, fault_in_interval, entry_passed, fault_in_entry, table_passed, fault_in_length, walk_ends}

-- Table 3 has no V
pub no_interval : (l : List ℕ) (t : ℕ) → (t ≡ 0 → ⊥) → (t ≡ 1 → ⊥) → 0 ≡ interval_at l t
no_interval l t a b = sym (ap (λ x. cond x (get_or l t 0) 0) (le-ltb t 2 (omega (arith, a, b))))

module _ (ns : List ℕ) (vs : List Float) (codes sums needs : List ℕ) where
  abbrev p : Program
  p = record_of ns vs

  abbrev intervals : List ℕ
  intervals = interval_of ns 2 ∷ interval_of ns 4 ∷ []

  module _ (c : length codes ≡ 297) (s : length sums ≡ 297) (n : length needs ≡ 297) (b : Bool) (is : b ≡ between 1 2000 (get_or ns 0 0) && leb (get_or ns 1 0) 2000) where
    pub lent_starts : b ≡ true → AtTable p codes sums needs 0
    unfolding record_of
    lent_starts h = walk_starts p codes sums needs c s n (sym is ∙ h)

    pub lent_header : b ≡ false → RangesWalked p codes sums needs (Finding.Fault 2 0 0)
    unfolding record_of
    lent_header h = fault_in_header p codes sums needs c s n (sym is ∙ h)

  module _ (t : ℕ) (in_tables : t < 3) where
    module _ (b : Bool) (v : ℕ) (is : b ≡ is_interval (table_at t) v) (read : v ≡ interval_at intervals t) (at : AtTable p codes sums needs t) where
      pub lent_table : b ≡ true → AtEntry p codes sums needs t 0
      unfolding record_of
      lent_table h = table_starts p codes sums needs (slots_full ns vs) t in_tables at (sym (is ∙ ap (is_interval (table_at t)) read) ∙ h)

      pub lent_interval : b ≡ false → RangesWalked p codes sums needs (Finding.Fault 5 (t + 1) 0)
      unfolding record_of
      lent_interval h = fault_in_interval p codes sums needs (slots_full ns vs) t in_tables at (sym (is ∙ ap (is_interval (table_at t)) read) ∙ h)

    module _ (claimed n : ℕ) (read : claimed ≡ length_of ns t) (used : n ≡ min claimed 99) where
      module _ (e : ℕ) (in_table : e < n) (f : Facts) (told : FactsTold (get_or ns 0 0) (lies ns vs (99 * t + e)) f) (at : AtEntry p codes sums needs t e) where
        within : e < min (length_of ns t) 99
        within = omega (arith, read, used, in_table)

        inside : e < min (get_or p.lengths t 0) 99
        inside = omega (arith, within, length_lies ns vs t in_tables)

        pub lent_entry : f.fits ≡ true
            → AtEntry p (set codes (99 * t + e) f.code) (set sums (99 * t + e) f.taken) (set needs (99 * t + e) f.need) t (e + 1)
        lent_entry h =
            entry_passed p codes sums needs (slots_full ns vs) t in_tables e inside (lies ns vs (99 * t + e)) (entry_lies ns vs t e in_tables within)
            f.code f.taken f.need at (sym told.fits ∙ h) told.kind told.sums_are
            (told.need_is ∙ ap (λ most. entry_need most (lies ns vs (99 * t + e))) (sym (locations_lie ns vs)))

        pub lent_fault : f.fits ≡ false → RangesWalked p codes sums needs (Finding.Fault 2 (t + 1) (e + 1))
        lent_fault h =
            fault_in_entry p codes sums needs (slots_full ns vs) t in_tables e inside (lies ns vs (99 * t + e)) (entry_lies ns vs t e in_tables within) at
            (sym told.fits ∙ h)

      module _ (at : AtEntry p codes sums needs t n) where
        all : n ≡ min (get_or p.lengths t 0) 99
        all = used ∙ ap (λ k. min k 99) (read ∙ sym (length_lies ns vs t in_tables))

        pub lent_on : claimed ≤ 99 → AtTable p codes sums needs (t + 1)
        lent_on h = table_passed p codes sums needs (slots_full ns vs) t in_tables n all at (omega (arith, read, h, length_lies ns vs t in_tables))

        pub lent_length : 99 < claimed → RangesWalked p codes sums needs (Finding.Fault 6 (t + 1) 100)
        lent_length h = fault_in_length p codes sums needs (slots_full ns vs) t in_tables n all at (omega (arith, read, h, length_lies ns vs t in_tables))

  pub lent_ends : AtTable p codes sums needs 3 → RangesWalked p codes sums needs Finding.Clean
  lent_ends at = walk_ends p codes sums needs (slots_full ns vs) at
