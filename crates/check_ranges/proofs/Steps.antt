-- The walk as steps from one state to the next: before a table, and before an entry of a table. A fault ends it. Assumes nothing.
use mathlib.Core.Path.{◌≡◌, sym, ap, ◌∙◌}
use Prim.Native.Nat.{ℕ, ◌+◌, ◌*◌, ◌≤◌, ◌<◌, min}
use native.Mathlib.Omega.{arith}
use mathlib.Core.Bool.{true, false, ◌&&◌}
use mathlib.Core.List.{List}
use lib.ListN.{length, get_or, set, length-set}
use lib.Dec.{leb}
use Rattle.base_program.specs.declared.Finding.{Finding}
use Rattle.base_program.specs.declared.Instruction.{Instruction}
use Rattle.base_program.specs.declared.Program.{Program}
use Rattle.base_program.specs.Flow.{flow}
use Rattle.base_program.specs.Reach as reach
use Rattle.base_program.specs.Entries.{entries, table_at}
use Rattle.spec_check.specs.Ranges.{in_range, is_interval}
use Rattle.base_program.specs.Codes.{between}
use Rattle.record_codes.specs.Loaded.{decode}
use Rattle.check_reach.specs.Needs.{entry_need}
use Rattle.base_program.specs.Laws.{entry_read}
use Rattle.check_ranges.specs.Walked.{RangesWalked, interval_at}
use Rattle.check_ranges.proofs.Places.{Whole, From, Within, claimed_at, header_clean, header_faulty, interval_clean, interval_faulty, entry_clean, entry_faulty, table_clean, table_faulty, tables_passed}
use Rattle.check_ranges.proofs.Lent.{Below, Short, entries_at, lent_more, lent_on, short_on, lent_all_lem, lengths_all}

-- what is lent below the slot `at`, and the slices' lengths
pub record Lent (p : Program) (codes sums needs : List ℕ) (at : ℕ) : Type 0 where
  pub flows : Below decode flow p at codes
  pub totals : Below (λ n. n) reach.sums p at sums
  pub needed : Below (λ n. n) (entry_need p.locations) p at needs
  pub codes_kept : length codes ≡ 297
  pub sums_kept : length sums ≡ 297
  pub needs_kept : length needs ≡ 297

-- before the table of row t
pub record AtTable (p : Program) (codes sums needs : List ℕ) (t : ℕ) : Type 0 where
  pub left : From p t ≡ Whole p
  pub lent : Lent p codes sums needs (99 * t)
  pub short : Short p t

-- before entry e, from 0, of the table of row t
pub record AtEntry (p : Program) (codes sums needs : List ℕ) (t e : ℕ) : Type 0 where
  pub left : Within p t (e + 1) ≡ Whole p
  pub lent : Lent p codes sums needs (99 * t + e)
  pub short : Short p t

module _ (p : Program) (codes sums needs : List ℕ) where
  faulty : (n t e at : ℕ) → Lent p codes sums needs at → Finding.Fault n t e ≡ Whole p → RangesWalked p codes sums needs (Finding.Fault n t e)
  faulty n t e at k w = record {
    finding = w;
    flows_are = λ q. absurd (let z : ◌≡◌ {A = ℕ} 0 1 = cc in omega arith);
    sums_are = λ q. absurd (let z : ◌≡◌ {A = ℕ} 0 1 = cc in omega arith);
    needs_are = λ q. absurd (let z : ◌≡◌ {A = ℕ} 0 1 = cc in omega arith);
    lengths_are = λ q. absurd (let z : ◌≡◌ {A = ℕ} 0 1 = cc in omega arith);
    codes_kept = k.codes_kept;
    sums_kept = k.sums_kept;
    needs_kept = k.needs_kept;
  }

  module _ (c : length codes ≡ 297) (s : length sums ≡ 297) (f : length needs ≡ 297) where
    nothing_lent : Lent p codes sums needs 0
    nothing_lent = record {
      flows = λ u k h b. absurd (omega arith);
      totals = λ u k h b. absurd (omega arith);
      needed = λ u k h b. absurd (omega arith);
      codes_kept = c;
      sums_kept = s;
      needs_kept = f;
    }

    pub walk_starts : between 1 2000 p.locations && leb p.sums 2000 ≡ true → AtTable p codes sums needs 0
    walk_starts h = record { left = header_clean p h; lent = nothing_lent; short = λ u b. absurd (omega arith) }

    pub fault_in_header : between 1 2000 p.locations && leb p.sums 2000 ≡ false → RangesWalked p codes sums needs (Finding.Fault 2 0 0)
    fault_in_header h = faulty 2 0 0 0 nothing_lent (header_faulty p h)

  module _ (slots : length p.slots ≡ 297) (t : ℕ) (in_tables : t < 3) where
    pub table_starts : AtTable p codes sums needs t → is_interval (table_at t) (interval_at p.intervals t) ≡ true → AtEntry p codes sums needs t 0
    table_starts a h = record { left = interval_clean p t in_tables a.left h; lent = rw (let z : 99 * t + 0 ≡ 99 * t = omega arith in z) a.lent; short = a.short }

    pub fault_in_interval : AtTable p codes sums needs t → is_interval (table_at t) (interval_at p.intervals t) ≡ false → RangesWalked p codes sums needs (Finding.Fault 5 (t + 1) 0)
    fault_in_interval a h = faulty 5 (t + 1) 0 (99 * t) a.lent (interval_faulty p t in_tables a.left h)

    module _ (e : ℕ) (in_table : e < min (get_or p.lengths t 0) 99) (i : Instruction) (read : (get_or p.slots (99 * t + e) (record { instruction = Instruction.End })).instruction ≡ i) where
      within : e < length (entries p (table_at t))
      within = omega (arith, entries_at p slots t in_tables)

      entry : i ≡ get_or (entries p (table_at t)) e Instruction.End
      entry = sym read ∙ entry_read p t in_tables e in_table

      pub entry_passed : (code total need : ℕ) → AtEntry p codes sums needs t e → in_range i ≡ true → decode code ≡ flow i → total ≡ reach.sums i
          → need ≡ entry_need p.locations i
          → AtEntry p (set codes (99 * t + e) code) (set sums (99 * t + e) total) (set needs (99 * t + e) need) t (e + 1)
      entry_passed code total need a h f s n = record {
        left = entry_clean p t in_tables e within a.left (ap in_range (sym entry) ∙ h);
        lent = record {
          flows = lent_more p slots t in_tables decode flow codes e code within a.lent.codes_kept a.lent.flows (f ∙ ap flow entry);
          totals = lent_more p slots t in_tables (λ n. n) reach.sums sums e total within a.lent.sums_kept a.lent.totals (s ∙ ap reach.sums entry);
          needed = lent_more p slots t in_tables (λ n. n) (entry_need p.locations) needs e need within a.lent.needs_kept a.lent.needed (n ∙ ap (entry_need p.locations) entry);
          codes_kept = length-set codes (99 * t + e) code ∙ a.lent.codes_kept;
          sums_kept = length-set sums (99 * t + e) total ∙ a.lent.sums_kept;
          needs_kept = length-set needs (99 * t + e) need ∙ a.lent.needs_kept;
        };
        short = a.short;
      }

      pub fault_in_entry : AtEntry p codes sums needs t e → in_range i ≡ false → RangesWalked p codes sums needs (Finding.Fault 2 (t + 1) (e + 1))
      fault_in_entry a h = faulty 2 (t + 1) (e + 1) (99 * t + e) a.lent (entry_faulty p t in_tables e within a.left (ap in_range (sym entry) ∙ h))

    module _ (n : ℕ) (all : n ≡ min (get_or p.lengths t 0) 99) where
      whole : n ≡ length (entries p (table_at t))
      whole = all ∙ sym (entries_at p slots t in_tables)

      pub table_passed : AtEntry p codes sums needs t n → get_or p.lengths t 0 ≤ 99 → AtTable p codes sums needs (t + 1)
      table_passed a h = record {
        left = table_clean p t in_tables n whole a.left (omega (arith, claimed_at p t in_tables));
        lent = record {
          flows = lent_on p slots t in_tables decode flow codes n whole a.lent.flows;
          totals = lent_on p slots t in_tables (λ n. n) reach.sums sums n whole a.lent.totals;
          needed = lent_on p slots t in_tables (λ n. n) (entry_need p.locations) needs n whole a.lent.needed;
          codes_kept = a.lent.codes_kept;
          sums_kept = a.lent.sums_kept;
          needs_kept = a.lent.needs_kept;
        };
        short = short_on p slots t in_tables h a.short;
      }

      pub fault_in_length : AtEntry p codes sums needs t n → 99 < get_or p.lengths t 0 → RangesWalked p codes sums needs (Finding.Fault 6 (t + 1) 100)
      fault_in_length a h = faulty 6 (t + 1) 100 (99 * t + n) a.lent (table_faulty p t in_tables n whole a.left (omega (arith, claimed_at p t in_tables)))

  pub walk_ends : length p.slots ≡ 297 → AtTable p codes sums needs 3 → RangesWalked p codes sums needs Finding.Clean
  walk_ends slots a = record {
    finding = sym (tables_passed p 3 (omega arith)) ∙ a.left;
    flows_are = λ q. lent_all_lem p slots decode flow codes a.lent.flows;
    sums_are = λ q. lent_all_lem p slots (λ n. n) reach.sums sums a.lent.totals;
    needs_are = λ q. lent_all_lem p slots (λ n. n) (entry_need p.locations) needs a.lent.needed;
    lengths_are = λ q. lengths_all p slots a.short;
    codes_kept = a.lent.codes_kept;
    sums_kept = a.lent.sums_kept;
    needs_kept = a.lent.needs_kept;
  }
