-- The lines read so far and those that are left, at each turn of the loops over tables and entries: what is left, read on from the record so far,
-- is what all the lines say. Assumes nothing.
use Rattle.std.specs.Prelude.{Ok, Err}
use Prim.Native.Nat.{ℕ, ◌+◌, ◌-◌, ◌*◌, ◌≤◌, ◌<◌}
use native.Mathlib.Omega.{arith}
use mathlib.Core.Path.{◌≡◌, sym, ap, ◌∙◌}
use mathlib.Core.Bool.{Bool, true, false, cond}
use mathlib.Core.List.{List, ◌∷◌}
use lib.ListN.{length, take, drop, set, length-set}
use borrow.Author.Tests.{eq-eqb, ne_eqb, lt-ltb, le-ltb}
use Rattle.base_laws.specs.Tests.{yes, no}
use Rattle.base_program.specs.declared.Instruction.{Instruction}
use Rattle.base_program.specs.declared.Program.{Program}
use Rattle.base_program.specs.Entries.{empty}
use Rattle.text_keyed.specs.declared.Keyed.{Keyed}
use Rattle.text_opening.specs.Opening.{table_line, closes}
use Rattle.text_lines.specs.Line.{entry_of, limited}
use Rattle.text_keyed.specs.Text.{bad, clean, lines_of, bytes_behind, ended, tables_read}
use Rattle.text_items.specs.Cut.{ByteFound}
use Rattle.text_lines.specs.LineLaws.{limited_few}
use Rattle.text_keyed.proofs.Lines.{line_cut, behind_cut, line_last}
use Rattle.text_keyed.proofs.Running.{header_read, intervals_with, with_interval, with_entry, with_length, lines, behind, head_bad, head_good, table_closed, entry_bad, entry_good, tables_run}

-- what the lines from `from` on say
abbrev pub goal : List ℕ → ℕ → ℕ → ℕ → Keyed
goal s from i m = tables_read i m (lines_of (drop from s)) (bytes_behind (drop from s))

-- the arrays' lengths, and a place in the text
pub record Arrays (s : List ℕ) (p : Program) (at : ℕ) : Type 0 where
  pub within : at ≤ length s
  pub two : length p.intervals ≡ 2
  pub three : length p.lengths ≡ 3
  pub all : length p.slots ≡ 297

-- behind t tables
pub record AtTable (s : List ℕ) (from i m : ℕ) (p : Program) (t at : ℕ) : Type 0 where
  pub last : t ≤ 3
  pub arrays : Arrays s p at
  pub same : behind t p (lines_of (drop at s)) (bytes_behind (drop at s)) ≡ goal s from i m

-- at entry n of the table of row t, 0 being its first line
pub record AtEntry (s : List ℕ) (from i m : ℕ) (p : Program) (t n at : ℕ) : Type 0 where
  pub last : t < 3
  pub few : n ≤ 100
  pub arrays : Arrays s p at
  pub same : lines t n p (lines_of (drop at s)) (bytes_behind (drop at s)) ≡ goal s from i m

abbrev sized : Program → ℕ → ℕ → Program
sized p i m = record { locations = i; sums = m; intervals = p.intervals; lengths = p.lengths; slots = p.slots }

pub tables_start : (s : List ℕ) (from i m : ℕ) (p : Program) → p ≡ empty → from ≤ length s → AtTable s from i m (sized p i m) 0 from
unfolding header_read empty
tables_start s from i m p e h =
    record {
      last = omega arith;
      arrays = record { within = h; two = ap (λ (x : Program). length x.intervals) e; three = ap (λ (x : Program). length x.lengths) e; all = ap (λ (x : Program). length x.slots) e };
      same =
          ap (λ (x : Program). behind 0 (sized x i m) (lines_of (drop from s)) (bytes_behind (drop from s))) e
          ∙ tables_run i m (lines_of (drop from s)) (bytes_behind (drop from s));
    }

-- ---- a table's first line, and the text's end

module _ (s : List ℕ) (from i m : ℕ) (p : Program) (t at : ℕ) (g : AtTable s from i m p t at) where
  pub table_first : t < 3 → AtEntry s from i m p t 0 at
  table_first h = record { last = h; few = omega arith; arrays = g.arrays; same = sym (no _ _ (ne_eqb t 3 (omega arith))) ∙ g.same }

  pub tables_end : 3 ≤ t → ended p (lines_of (drop at s)) (bytes_behind (drop at s)) ≡ goal s from i m
  tables_end h = sym (yes _ _ (eq-eqb t 3 (omega (arith, g.last)))) ∙ g.same

-- the interval is kept of Tables 1 and 2
pub interval_set : (t v : ℕ) (p : Program) → t < 2 → with_interval t v p ≡ record { locations = p.locations; sums = p.sums; intervals = set p.intervals t v; lengths = p.lengths; slots = p.slots }
unfolding intervals_with
interval_set t v p h = ap (λ b. record { locations = p.locations; sums = p.sums; intervals = cond b (set p.intervals t v) p.intervals; lengths = p.lengths; slots = p.slots }) (lt-ltb t 2 h)

pub interval_kept : (t v : ℕ) (p : Program) → 2 ≤ t → with_interval t v p ≡ p
unfolding intervals_with
interval_kept t v p h = ap (λ b. record { locations = p.locations; sums = p.sums; intervals = cond b (set p.intervals t v) p.intervals; lengths = p.lengths; slots = p.slots }) (le-ltb t 2 h)

intervals_two : (t v : ℕ) (l : List ℕ) → length l ≡ 2 → length (intervals_with t v l) ≡ 2
unfolding intervals_with
intervals_two t v l h = go (lib.Dec.ltb t 2)
  where
    go : (b : Bool) → length (cond b (set l t v) l) ≡ 2
    go true = length-set l t v ∙ h
    go false = h

-- ---- one line

module _ (s : List ℕ) (from i m : ℕ) (p : Program) (t n at e : ℕ) (g : AtEntry s from i m p t n at) (f : ByteFound 10 s at e) where
  abbrev line : List ℕ
  line = take (e - at) (drop at s)

  pub short : e ≡ length s → bad 1 (t + 1) n ≡ goal s from i m
  unfolding lines
  short h = sym (ap (λ ls. lines t n p ls (bytes_behind (drop at s))) (line_last s at e f h)) ∙ g.same

  module _ (apart : e ≡ length s → ⊥) where
    before : e < length s
    before = omega (arith, f.within, apart)

    abbrev rest : List (List ℕ)
    rest = lines_of (drop (e + 1) s)

    abbrev tail : List ℕ
    tail = bytes_behind (drop (e + 1) s)

    here : lines t n p (line ∷ rest) tail ≡ goal s from i m
    here = sym (ap (λ ls. lines t n p ls (bytes_behind (drop at s))) (line_cut s at e f before) ∙ ap (lines t n p (line ∷ rest)) (behind_cut s at e f before)) ∙ g.same

    moved : (q : Program) → length q.intervals ≡ 2 → length q.lengths ≡ 3 → length q.slots ≡ 297 → Arrays s q (e + 1)
    moved q a b c = record { within = omega (arith, before); two = a; three = b; all = c }

    pub bad_head : (k : ℕ) → n ≡ 0 → table_line (t + 1) line ≡ Err k → bad k (t + 1) 0 ≡ goal s from i m
    bad_head k z x = sym (ap (λ j. lines t j p (line ∷ rest) tail) z ∙ head_bad t n p line rest tail k x) ∙ here

    pub next_head : (v : ℕ) → n ≡ 0 → table_line (t + 1) line ≡ Ok v → AtEntry s from i m (with_interval t v p) t 1 (e + 1)
    next_head v z x =
        record {
          last = g.last;
          few = omega arith;
          arrays = moved (with_interval t v p) (intervals_two t v p.intervals g.arrays.two) g.arrays.three g.arrays.all;
          same = sym (ap (λ j. lines t j p (line ∷ rest) tail) z ∙ head_good t n p line rest tail v x) ∙ here;
        }

    pub next_table : 1 ≤ n → closes line ≡ true → AtTable s from i m (with_length t (n - 1) p) (t + 1) (e + 1)
    next_table z x =
        record {
          last = omega (arith, g.last);
          arrays = moved (with_length t (n - 1) p) g.arrays.two (length-set p.lengths t (n - 1) ∙ g.arrays.three) g.arrays.all;
          same = sym (table_closed t n p line rest tail z x) ∙ here;
        }

    pub bad_entry : (k : ℕ) → 1 ≤ n → closes line ≡ false → limited n (entry_of line) ≡ Err k → bad k (t + 1) n ≡ goal s from i m
    bad_entry k z x j = sym (entry_bad t n p line rest tail k z x j) ∙ here

    pub next_entry : (x : Instruction) → 1 ≤ n → closes line ≡ false → limited n (entry_of line) ≡ Ok x → AtEntry s from i m (with_entry t n x p) t (n + 1) (e + 1)
    next_entry x z y j =
        record {
          last = g.last;
          few = omega (arith, g.few, limited_few n (entry_of line) x j);
          arrays = moved (with_entry t n x p) g.arrays.two g.arrays.three (length-set p.slots (99 * t + n - 1) (record { instruction = x }) ∙ g.arrays.all);
          same = sym (entry_good t n p line rest tail x z y j) ∙ here;
        }

pub some_entry : (n : ℕ) → 1 ≤ n + 1
some_entry n = omega arith

-- what the test of the text's end says
pub has_ended : (r : Bool) (p : Program) (k : Keyed) → r ≡ true → cond r (clean p) (bad 1 0 0) ≡ k → clean p ≡ k
has_ended r p k h g = ap (λ b. cond b (clean p) (bad 1 0 0)) (sym h) ∙ g

pub not_ended : (r : Bool) (p : Program) (k : Keyed) → r ≡ false → cond r (clean p) (bad 1 0 0) ≡ k → bad 1 0 0 ≡ k
not_ended r p k h g = ap (λ b. cond b (clean p) (bad 1 0 0)) (sym h) ∙ g
