-- What is lent: numbers by slot, each read as something of the entry in that slot. It grows slot by slot. Assumes nothing.
use mathlib.Core.Path.{◌≡◌, refl, sym, ap, ◌∙◌}
use mathlib.Core.Logic.{⊎_elim}
use Prim.Native.Nat.{ℕ, ◌+◌, ◌*◌, ◌≤◌, ◌<◌, min}
use native.Mathlib.Omega.{arith}
use native.Mathlib.Nat.{eq-or-lt_of_le}
use mathlib.Core.List.{List}
use lib.ListN.{length, get_or, set}
use lib.Seq.{get_or-set_same, get_or-set_other}
use Rattle.base_program.specs.declared.Instruction.{Instruction}
use Rattle.base_program.specs.declared.Program.{Program}
use Rattle.base_program.specs.declared.Table.{Table}
use Rattle.base_program.specs.Entries.{row, claimed, entries, table_at}
use Rattle.base_program.specs.Laws.{entries_length}
use Rattle.check_ranges.proofs.Places.{claimed_at}

at_row : (u : Table) → table_at (row u) ≡ u
at_row Table.One = refl
at_row Table.Two = refl
at_row Table.Three = refl

row_small : (u : Table) → row u ≤ 2
row_small Table.One = omega arith
row_small Table.Two = omega arith
row_small Table.Three = omega arith

-- the slots in use below `at` hold numbers that g reads as f of their entries
abbrev pub Below : {A : Type 0} → (ℕ → A) → (Instruction → A) → Program → ℕ → List ℕ → Type 0
Below g f p at l = (u : Table) (k : ℕ) → k < length (entries p u) → 99 * row u + k < at → g (get_or l (99 * row u + k) 0) ≡ f (get_or (entries p u) k Instruction.End)

-- the tables before row t claim no entry 100
abbrev pub Short : Program → ℕ → Type 0
Short p t = (u : Table) → row u < t → claimed p u ≤ 99

module _ (p : Program) (slots : length p.slots ≡ 297) where
  entries_most : (u : Table) → length (entries p u) ≤ 99
  entries_most u = omega (arith, entries_length p u slots)

  module _ (t : ℕ) (in_tables : t < 3) where
    pub entries_at : length (entries p (table_at t)) ≡ min (get_or p.lengths t 0) 99
    entries_at = entries_length p (table_at t) slots ∙ ap (λ n. min n 99) (claimed_at p t in_tables)

    module _ {A : Type 0} (g : ℕ → A) (f : Instruction → A) (l : List ℕ) where
      pub lent_more : (e v : ℕ) → e < length (entries p (table_at t)) → length l ≡ 297 → Below g f p (99 * t + e) l
          → g v ≡ f (get_or (entries p (table_at t)) e Instruction.End) → Below g f p (99 * t + (e + 1)) (set l (99 * t + e) v)
      lent_more e v h len old is u k j b =
          ⊎_elim here (λ less. ap g (get_or-set_other l (99 * t + e) (99 * row u + k) v 0 (λ z. omega arith)) ∙ old u k j less)
          (eq-or-lt_of_le (let s : 99 * row u + k ≤ 99 * t + e = omega arith in s))
        where
          here : 99 * row u + k ≡ 99 * t + e → g (get_or (set l (99 * t + e) v) (99 * row u + k) 0) ≡ f (get_or (entries p u) k Instruction.End)
          here q =
              ap (λ s. g (get_or (set l (99 * t + e) v) s 0)) q
              ∙ ap g (get_or-set_same l (99 * t + e) v 0 (omega (arith, entries_most (table_at t))))
              ∙ is
              ∙ ap (λ u. f (get_or (entries p u) e Instruction.End)) (ap table_at (let z : t ≡ row u = omega (arith, entries_most u, entries_most (table_at t)) in z) ∙ at_row u)
              ∙ ap (λ k. f (get_or (entries p u) k Instruction.End)) (let z : e ≡ k = omega (arith, entries_most u, entries_most (table_at t)) in z)

      -- behind a table's last entry the next table begins
      pub lent_on : (n : ℕ) → n ≡ length (entries p (table_at t)) → Below g f p (99 * t + n) l → Below g f p (99 * (t + 1)) l
      lent_on n h old u k j b =
          old u k j
          (⊎_elim
          (λ q. omega (arith, ap (λ u. length (entries p u)) (sym (ap table_at q) ∙ at_row u)))
          (λ less. omega (arith, entries_most u))
          (eq-or-lt_of_le (let s : row u ≤ t = omega arith in s)))

    pub short_on : get_or p.lengths t 0 ≤ 99 → Short p t → Short p (t + 1)
    short_on h old u b =
        ⊎_elim (λ q. omega (arith, ap (λ n. get_or p.lengths n 0) q)) (old u) (eq-or-lt_of_le (let s : row u ≤ t = omega arith in s))

  pub lent_all_lem : {A : Type 0} (g : ℕ → A) (f : Instruction → A) (l : List ℕ) → Below g f p 297 l → (u : Table) (k : ℕ) → k < length (entries p u)
      → g (get_or l (99 * row u + k) 0) ≡ f (get_or (entries p u) k Instruction.End)
  lent_all_lem g f l old u k j = old u k j (omega (arith, entries_most u, row_small u))

  pub lengths_all : Short p 3 → (u : Table) → (length (entries p u) ≡ get_or p.lengths (row u) 0) × (claimed p u ≤ 99)
  lengths_all old u = let s : claimed p u ≤ 99 = old u (omega (arith, row_small u)) in (omega (arith, entries_length p u slots), s)
