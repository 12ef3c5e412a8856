-- The places are filled from the last one up: those from k on are told, and those before it are 0. An entry in front is told by the rule, since
-- the ways from its block's End on are those of the blocks further out (`chained`). Assumes nothing.
use mathlib.Core.Path.{◌≡◌, refl, sym, ap, ◌∙◌, subst}
use Prim.Native.Nat.{ℕ, ◌+◌, ◌*◌, ◌≤◌, ◌<◌}
use native.Mathlib.Omega.{arith}
use native.Mathlib.Numerals.{add-one}
use mathlib.Core.Bool.{Bool, true, false, cond}
use mathlib.Core.List.{List, [], ◌∷◌}
use lib.ListN.{length, get_or, set, drop, drop_of_length-le, length-set}
use lib.Seq.{drop-cons, get_or-set_same, get_or-set_other}
use lib.Dec.{ltb, eqb}
use borrow.Author.Tests.{ltb-true, ltb-false, eqb-true, eqb-false, ne_eqb}
use Rattle.base_program.specs.declared.Flow.{Flow}
use Rattle.base_program.specs.declared.Instruction.{Instruction}
use Rattle.base_program.specs.declared.Program.{Program}
use Rattle.base_program.specs.declared.Table.{Table}
use Rattle.base_program.specs.Flow.{flow}
use Rattle.base_program.specs.Entries.{row, entries, table_at}
use Rattle.record_codes.specs.Loaded.{decode}
use Rattle.base_program.specs.Laws.{row_at}
use Rattle.spec_machine.specs.Ends.{Way, inner, way_of, ways}
use Rattle.scan_targets.specs.Told.{place_number, end_at, else_at, ways_from, TargetsTold, Kinds}
use Rattle.scan_targets.specs.Fill.{end_way, else_way}
use Rattle.scan_targets.specs.Laws.{row_small, at_row, Chained, chained, entries_most}

-- f is `end_at` or `elseAt`
pub record Filled (f : List Way → ℕ) (p : Program) (l : List ℕ) (k : ℕ) : Type 0 where
  pub told : (t : Table) (e : ℕ) → e ≤ 127 → k ≤ place_number t e → get_or l (place_number t e) 0 ≡ f (ways_from p t e)
  pub none_yet : (j : ℕ) → j < k → get_or l j 0 ≡ 0

pub filled_none : (f : List Way → ℕ) (p : Program) (l : List ℕ) → ((j : ℕ) → get_or l j 0 ≡ 0) → Filled f p l 384
filled_none f p l z = record { told = λ t e h k. absurd (omega (arith, row_small t)); none_yet = λ j h. z j }

pub filled_all : (p : Program) (E L : List ℕ) → Filled end_at p E 0 → Filled else_at p L 0 → TargetsTold p E L
filled_all p E L a b = record { end_told = λ t e h. a.told t e h (omega arith); else_told = λ t e h. b.told t e h (omega arith) }

module _ (f : List Way → ℕ) (nothing : f [] ≡ 0) (p : Program) (l : List ℕ) (t : ℕ) (in_tables : t < 3) where
  -- no block is open behind a table's last entry
  pub filled_end : (n : ℕ) → length (entries p (table_at t)) ≤ n → n ≤ 99 → Filled f p l (128 * (t + 1)) → Filled f p l (128 * t + n)
  unfolding ways
  filled_end n few small a = record { told = told; none_yet = λ j h. a.none_yet j (omega arith) }
    where
      told : (u : Table) (e : ℕ) → e ≤ 127 → 128 * t + n ≤ place_number u e → get_or l (place_number u e) 0 ≡ f (ways_from p u e)
      told u e h k = on (ltb (place_number u e) (128 * (t + 1))) refl
        where
          on : (b : Bool) → ltb (place_number u e) (128 * (t + 1)) ≡ b → get_or l (place_number u e) 0 ≡ f (ways_from p u e)
          on true z =
              let lt : place_number u e < 128 * (t + 1) = ltb-true (place_number u e) (128 * (t + 1)) z in
              let same : t ≡ row u = omega arith in
              let here : length (entries p u) ≤ e = omega (arith, ap (λ s. length (entries p s)) (ap table_at same ∙ at_row u)) in
              a.none_yet (place_number u e) lt ∙ sym (ap (λ s. f (ways e s)) (drop_of_length-le (entries p u) {i = e} here) ∙ nothing)
          on false z = a.told u e h (ltb-false (place_number u e) (128 * (t + 1)) z)

  -- one more place, in front
  pub filled_place : (e v : ℕ) → e ≤ 99 → length l ≡ 384 → v ≡ f (ways_from p (table_at t) e) → Filled f p l (128 * t + (e + 1)) → Filled f p (set l (128 * t + e) v) (128 * t + e)
  filled_place e v small size is a = record { told = told; none_yet = λ j h. get_or-set_other l (128 * t + e) j v 0 (λ z. omega arith) ∙ a.none_yet j (omega arith) }
    where
      told : (u : Table) (g : ℕ) → g ≤ 127 → 128 * t + e ≤ place_number u g → get_or (set l (128 * t + e) v) (place_number u g) 0 ≡ f (ways_from p u g)
      told u g h k = on (eqb (place_number u g) (128 * t + e)) refl
        where
          on : (b : Bool) → eqb (place_number u g) (128 * t + e) ≡ b → get_or (set l (128 * t + e) v) (place_number u g) 0 ≡ f (ways_from p u g)
          on true z =
              let q : place_number u g ≡ 128 * t + e = eqb-true (place_number u g) (128 * t + e) z in
              let same : t ≡ row u = omega (arith, row_small u) in
              let place : e ≡ g = omega (arith, row_small u) in
              ap (λ n. get_or (set l (128 * t + e) v) n 0) q
              ∙ get_or-set_same l (128 * t + e) v 0 (omega arith)
              ∙ is
              ∙ ap (λ s. f (ways_from p s e)) (ap table_at same ∙ at_row u)
              ∙ ap (λ n. f (ways_from p u n)) place
          on false z =
              let ne : place_number u g ≡ 128 * t + e → ⊥ = eqb-false (place_number u g) (128 * t + e) z in
              get_or-set_other l (128 * t + e) (place_number u g) v 0 ne ∙ a.told u g h (omega arith)

  -- behind the End of the innermost block, or at place 0 where there is no block
  outer_told : (e : ℕ) (ws : List Way) → length (entries p (table_at t)) ≤ 99 → Chained (entries p (table_at t)) e ws → Filled f p l (128 * t + e) → 0 < e
      → get_or l (128 * t + end_at ws) 0 ≡ f (inner ws)
  outer_told e [] few c a pos = a.none_yet (128 * t + 0) (omega arith) ∙ sym nothing
  outer_told e (w ∷ ws) few c a pos =
      ap (λ (n : ℕ). get_or l (128 * n + w.behind_end) 0) (sym (row_at t in_tables))
      ∙ a.told (table_at t) w.behind_end (omega (arith, c.1)) (omega (arith, c.0, row_at t in_tables))
      ∙ ap f (sym c.3)

-- ---- an entry's rule is `way_of`

module _ (tab : List Instruction) (e q : ℕ) where
  end_rule : (x : Flow) (ws : List Way) → end_way x q (end_at ws) (end_at (inner ws)) ≡ end_at (way_of x q ws)
  unfolding way_of
  end_rule Flow.Next ws = refl
  end_rule Flow.Else [] = refl
  end_rule Flow.Else (w ∷ ws) = refl
  end_rule Flow.End ws = refl
  end_rule Flow.Then ws = refl
  end_rule Flow.Stop ws = refl
  end_rule (Flow.Loop n) ws = refl
  end_rule (Flow.Subroutine k) ws = refl
  end_rule (Flow.Call k) ws = refl
  end_rule (Flow.Exit b) ws = refl

  else_rule : (x : Flow) (ws : List Way) → Chained tab e ws → else_way x q (end_at ws) (else_at ws) (else_at (inner ws)) ≡ else_at (way_of x q ws)
  unfolding way_of
  else_rule Flow.Next ws c = refl
  else_rule Flow.Else [] c = refl
  else_rule Flow.Else (w ∷ ws) c = ap (λ b. cond b 0 q) (ne_eqb w.behind_end 0 (λ z. omega (arith, c.0)))
  else_rule Flow.End ws c = refl
  else_rule Flow.Then ws c = refl
  else_rule Flow.Stop ws c = refl
  else_rule (Flow.Loop n) ws c = refl
  else_rule (Flow.Subroutine k) ws c = refl
  else_rule (Flow.Call k) ws c = refl
  else_rule (Flow.Exit b) ws c = refl

-- ---- one turn of the loop over the entries

module _ (p : Program) (E L : List ℕ) (t : ℕ) (in_tables : t < 3) (e : ℕ) (in_table : e < length (entries p (table_at t)))
    (a : Filled end_at p E (128 * t + (e + 1))) (b : Filled else_at p L (128 * t + (e + 1))) where
  abbrev tab : List Instruction
  tab = entries p (table_at t)

  abbrev behind : List Way
  behind = ways (e + 1) (drop (e + 1) tab)

  abbrev kind : Flow
  kind = flow (get_or tab e Instruction.End)

  few : length tab ≤ 99
  few = entries_most p (table_at t)

  ways_here : ways e (drop e tab) ≡ way_of kind (e + 1) behind
  unfolding ways
  ways_here = ap (ways e) (drop-cons tab e Instruction.End in_table) ∙ ap (λ n. way_of kind n (ways n (drop n tab))) (sym (add-one e))

  chain : Chained tab (e + 1) behind
  chain = chained tab (drop (e + 1) tab) (e + 1) refl

  abbrev end : ℕ
  end = get_or E (128 * t + (e + 1)) 0

  end_behind : end ≡ end_at behind
  end_behind =
      ap (λ (n : ℕ). get_or E (128 * n + (e + 1)) 0) (sym (row_at t in_tables))
      ∙ a.told (table_at t) (e + 1) (omega (arith, few)) (omega (arith, row_at t in_tables))

  else_behind : get_or L (128 * t + (e + 1)) 0 ≡ else_at behind
  else_behind =
      ap (λ (n : ℕ). get_or L (128 * n + (e + 1)) 0) (sym (row_at t in_tables))
      ∙ b.told (table_at t) (e + 1) (omega (arith, few)) (omega (arith, row_at t in_tables))

  pub end_told : end_way kind (e + 1) end (get_or E (128 * t + end) 0) ≡ end_at (ways_from p (table_at t) e)
  end_told =
      ap (λ n. end_way kind (e + 1) n (get_or E (128 * t + n) 0)) end_behind
      ∙ ap (end_way kind (e + 1) (end_at behind)) (outer_told end_at refl p E t in_tables (e + 1) behind few chain a (omega arith))
      ∙ end_rule tab e (e + 1) kind behind
      ∙ sym (ap end_at ways_here)

  pub else_told : else_way kind (e + 1) end (get_or L (128 * t + (e + 1)) 0) (get_or L (128 * t + end) 0) ≡ else_at (ways_from p (table_at t) e)
  else_told =
      ap (λ n. else_way kind (e + 1) n (get_or L (128 * t + (e + 1)) 0) (get_or L (128 * t + n) 0)) end_behind
      ∙ ap (λ n. else_way kind (e + 1) (end_at behind) n (get_or L (128 * t + end_at behind) 0)) else_behind
      ∙ ap (else_way kind (e + 1) (end_at behind) (else_at behind)) (outer_told else_at refl p L t in_tables (e + 1) behind few chain b (omega arith))
      ∙ else_rule tab (e + 1) (e + 1) kind behind chain
      ∙ sym (ap else_at ways_here)

-- ---- both lists, for every program with these kinds

pub record Both (p : Program) (E L : List ℕ) (k : ℕ) : Type 0 where
  pub ends : Filled end_at p E k
  pub elses : Filled else_at p L k

pub record AtWays (codes lengths E L : List ℕ) (k : ℕ) : Type 0 where
  pub ends_size : length E ≡ 384
  pub elses_size : length L ≡ 384
  pub small : (j : ℕ) → get_or E j 0 ≤ 99
  pub ends_none : (j : ℕ) → j < k → get_or E j 0 ≡ 0
  pub elses_none : (j : ℕ) → j < k → get_or L j 0 ≡ 0
  pub both : (p : Program) → Kinds p codes lengths → Both p E L k

end_way_small : (x : Flow) (q end outer : ℕ) → q ≤ 99 → end ≤ 99 → outer ≤ 99 → end_way x q end outer ≤ 99
end_way_small Flow.Next q end outer a b c = b
end_way_small Flow.Else q end outer a b c = b
end_way_small Flow.End q end outer a b c = a
end_way_small Flow.Then q end outer a b c = c
end_way_small Flow.Stop q end outer a b c = b
end_way_small (Flow.Loop n) q end outer a b c = c
end_way_small (Flow.Subroutine k) q end outer a b c = c
end_way_small (Flow.Call k) q end outer a b c = b
end_way_small (Flow.Exit k) q end outer a b c = b

small_set : (l : List ℕ) (i v : ℕ) → i < length l → ((j : ℕ) → get_or l j 0 ≤ 99) → v ≤ 99 → (j : ℕ) → get_or (set l i v) j 0 ≤ 99
small_set l i v inside small low j = by (eqb j i) refl
  where
    by : (b : Bool) → eqb j i ≡ b → get_or (set l i v) j 0 ≤ 99
    by true z = let q : get_or (set l i v) j 0 ≡ v = ap (λ n. get_or (set l i v) n 0) (eqb-true j i z) ∙ get_or-set_same l i v 0 inside in omega arith
    by false z = let q : get_or (set l i v) j 0 ≡ get_or l j 0 = get_or-set_other l i j v 0 (eqb-false j i z) in omega (arith, small j)

module _ (codes lengths E L : List ℕ) where
  pub ways_none : length E ≡ 384 → length L ≡ 384 → ((j : ℕ) → get_or E j 0 ≡ 0) → ((j : ℕ) → get_or L j 0 ≡ 0) → AtWays codes lengths E L 384
  ways_none long_e long_l zero_e zero_l =
      record {
        ends_size = long_e;
        elses_size = long_l;
        small = λ j. omega (arith, zero_e j);
        ends_none = λ j h. zero_e j;
        elses_none = λ j h. zero_l j;
        both = λ p k. record { ends = filled_none end_at p E zero_e; elses = filled_none else_at p L zero_l };
      }

  pub ways_done : (k : ℕ) → k ≡ 0 → AtWays codes lengths E L k → (p : Program) → Kinds p codes lengths → TargetsTold p E L
  ways_done k z w p kinds =
      let b : Both p E L 0 = subst (Both p E L) z (w.both p kinds) in filled_all p E L b.ends b.elses

  module _ (t : ℕ) (in_tables : t < 3) where
    length_at : (p : Program) → Kinds p codes lengths → length (entries p (table_at t)) ≡ get_or lengths t 0
    length_at p kinds = kinds.lengths_are (table_at t) ∙ ap (λ n. get_or lengths n 0) (row_at t in_tables)

    pub ways_end : (n : ℕ) → n ≡ get_or lengths t 0 → n ≤ 99 → AtWays codes lengths E L (128 * (t + 1)) → AtWays codes lengths E L (128 * t + n)
    ways_end n h small w =
        record {
          ends_size = w.ends_size;
          elses_size = w.elses_size;
          small = w.small;
          ends_none = λ j h. w.ends_none j (omega arith);
          elses_none = λ j h. w.elses_none j (omega arith);
          both = λ p kinds. record {
            ends = filled_end end_at refl p E t in_tables n (omega (arith, length_at p kinds)) small (w.both p kinds).ends;
            elses = filled_end else_at refl p L t in_tables n (omega (arith, length_at p kinds)) small (w.both p kinds).elses;
          };
        }

    -- the place behind a table's last entry is 0 in both
    pub ways_zero : (n : ℕ) → n ≤ 99 → AtWays codes lengths E L (128 * (t + 1)) → (0 ≡ get_or E (128 * t + n) 0) × (0 ≡ get_or L (128 * t + n) 0)
    ways_zero n small w = (sym (w.ends_none (128 * t + n) (omega arith)), sym (w.elses_none (128 * t + n) (omega arith)))

    module _ (m e : ℕ) (up : m ≡ e + 1) (in_table : m ≤ get_or lengths t 0) (low : m ≤ 99) (w : AtWays codes lengths E L (128 * t + m)) where
      -- end and other are what is known behind the entry, v and u in front of it
      pub ways_more : (x : Flow) → x ≡ decode (get_or codes (99 * t + e) 0) → (end other o v u : ℕ)
          → end ≡ get_or E (128 * t + m) 0 → other ≡ get_or L (128 * t + m) 0 → o ≡ end
          → v ≡ end_way x m end (get_or E (128 * t + o) 0) → u ≡ else_way x m end other (get_or L (128 * t + o) 0)
          → AtWays codes lengths (set E (128 * t + e) v) (set L (128 * t + e) u) (128 * t + e)
      ways_more x is end other o v u he hl ho hv hu =
          record {
            ends_size = simp length-set w.ends_size;
            elses_size = simp length-set w.elses_size;
            small =
                small_set E (128 * t + e) v (omega (arith, w.ends_size)) w.small
                (let z : end_way x m end (get_or E (128 * t + o) 0) ≤ 99 = end_way_small x m _ _ low (omega (arith, w.small (128 * t + m))) (w.small (128 * t + o)) in omega arith);
            ends_none = λ j h. get_or-set_other E (128 * t + e) j v 0 (λ z. omega arith) ∙ w.ends_none j (omega arith);
            elses_none = λ j h. get_or-set_other L (128 * t + e) j u 0 (λ z. omega arith) ∙ w.elses_none j (omega arith);
            both = both;
          }
        where
          both : (p : Program) → Kinds p codes lengths → Both p (set E (128 * t + e) v) (set L (128 * t + e) u) (128 * t + e)
          both p kinds =
              record {
                ends = filled_place end_at refl p E t in_tables e v (omega arith) w.ends_size end_is before.ends;
                elses = filled_place else_at refl p L t in_tables e u (omega arith) w.elses_size else_is before.elses;
              }
            where
              before : Both p E L (128 * t + (e + 1))
              before = subst (λ (z : ℕ). Both p E L (128 * t + z)) up (w.both p kinds)

              inside : e < length (entries p (table_at t))
              inside = omega (arith, length_at p kinds)

              here : Flow
              here = flow (get_or (entries p (table_at t)) e Instruction.End)

              kind_is : x ≡ here
              kind_is =
                  is
                  ∙ ap (λ (n : ℕ). decode (get_or codes (99 * n + e) 0)) (sym (row_at t in_tables))
                  ∙ kinds.flows_are (table_at t) e inside

              behind : end ≡ get_or E (128 * t + (e + 1)) 0
              behind = he ∙ ap (λ (z : ℕ). get_or E (128 * t + z) 0) up

              other_behind : other ≡ get_or L (128 * t + (e + 1)) 0
              other_behind = hl ∙ ap (λ (z : ℕ). get_or L (128 * t + z) 0) up

              end_is : v ≡ end_at (ways_from p (table_at t) e)
              end_is =
                  hv
                  ∙ ap (λ y. end_way y m end (get_or E (128 * t + o) 0)) kind_is
                  ∙ ap (λ (z : ℕ). end_way here z end (get_or E (128 * t + o) 0)) up
                  ∙ ap (λ (z : ℕ). end_way here (e + 1) end (get_or E (128 * t + z) 0)) ho
                  ∙ ap (λ (z : ℕ). end_way here (e + 1) z (get_or E (128 * t + z) 0)) behind
                  ∙ end_told p E L t in_tables e inside before.ends before.elses

              else_is : u ≡ else_at (ways_from p (table_at t) e)
              else_is =
                  hu
                  ∙ ap (λ y. else_way y m end other (get_or L (128 * t + o) 0)) kind_is
                  ∙ ap (λ (z : ℕ). else_way here z end other (get_or L (128 * t + o) 0)) up
                  ∙ ap (λ (z : ℕ). else_way here (e + 1) end other (get_or L (128 * t + z) 0)) ho
                  ∙ ap (λ (z : ℕ). else_way here (e + 1) end z (get_or L (128 * t + end) 0)) other_behind
                  ∙ ap (λ (z : ℕ). else_way here (e + 1) z (get_or L (128 * t + (e + 1)) 0) (get_or L (128 * t + z) 0)) behind
                  ∙ else_told p E L t in_tables e inside before.ends before.elses
