-- The ways of a place: each End lies behind the place and in the table, and the ways from an End on are those of the blocks further out.
-- By recursion on the entries from the table's end. Assumes nothing.
use Rattle.std.specs.Prelude.{◌≡◌, refl, ℕ, suc, ◌+◌, ◌*◌, ◌/◌, ◌%◌, ◌≤◌, ◌<◌, min, Bool, true, false, cond, length, get_or, take, drop, ltb}
use Rattle.std.proofs.Common.{sym, ◌∙◌, add-one, length-drop, length-take, ltb-true, ltb-false}
use Rattle.std.proofs.Math.Path.{ap}
use native.Mathlib.Omega.{arith}
use mathlib.Core.List.{List, [], ◌∷◌}
use Rattle.std.proofs.Math.Option.{Option, none, some}
use Rattle.std.proofs.lemmas.List.{length-map}
use Rattle.std.proofs.Math.ListN.{get_or-eq_default}
use Rattle.base_program.specs.declared.Flow.{Flow}
use Rattle.base_program.specs.declared.Instruction.{Instruction}
use Rattle.base_program.specs.declared.Program.{Program}
use Rattle.base_program.specs.declared.Table.{Table}
use Rattle.base_program.specs.declared.Table.TheVariants.{One, Two, Three}
use Rattle.base_program.specs.Flow.{flow}
use Rattle.base_program.specs.Entries.{row, claimed, entries, table_at}
use Rattle.spec_check.specs.Blocks.{label, same}
use Rattle.record_codes.specs.Loaded.{SubsAre}
use Rattle.proof_check.specs.Labels.{label_place}
use Rattle.base_program.specs.Laws.{row_at}
use Rattle.spec_machine.specs.Ends.{Way, inner, divided, way_of, ways, behind_label}
use Rattle.base_laws.specs.Lists.{drop_next}
use Rattle.scan_targets.specs.Told.{place_number, or_zero, end_at, else_at, ways_from, TargetsTold, Subs}

pub row_small : (t : Table) → row t ≤ 2
row_small One = omega arith
row_small Two = omega arith
row_small Three = omega arith

pub at_row : (t : Table) → table_at (row t) ≡ t
at_row One = refl
at_row Two = refl
at_row Three = refl

-- a place behind one of n entries
abbrev pub Behind : ℕ → Option ℕ → Type 0
Behind n none = Unit {0}
Behind n (some q) = (0 < q) × (q ≤ n)

-- of the place behind e entries of tab
abbrev pub Chained : List Instruction → ℕ → List Way → Type 0
Chained tab e [] = Unit {0}
Chained tab e (w ∷ ws) =
    (e < w.behind_end)
    × (w.behind_end ≤ length tab)
    × Behind (length tab) w.behind_else
    × (ws ≡ ways w.behind_end (drop w.behind_end tab))
    × Chained tab e ws

module _ (tab : List Instruction) where
  nearer : (e : ℕ) (ws : List Way) → Chained tab (suc e) ws → Chained tab e ws
  nearer e [] h = tt
  nearer e (w ∷ ws) h = (omega (arith, h.0), h.1, h.2, h.3, nearer e ws h.4)

  chain_inner : (e : ℕ) (ws : List Way) → Chained tab e ws → Chained tab e (inner ws)
  chain_inner e [] h = tt
  chain_inner e (w ∷ ws) h = h.4

  chain_else : (e q : ℕ) (ws : List Way) → (0 < q) × (q ≤ length tab) → Chained tab e ws → Chained tab e (divided q ws)
  chain_else e q [] l h = tt
  chain_else e q (w ∷ ws) l h = (h.0, h.1, l, h.3, h.4)

  -- one entry in front of the place e + 1
  chain_one : (x : Flow) (e : ℕ) (r : List Instruction) → suc e ≤ length tab → drop (suc e) tab ≡ r → Chained tab e (ways (suc e) r)
      → Chained tab e (way_of x (suc e) (ways (suc e) r))
  unfolding way_of
  chain_one Flow.Next e r l h c = c
  chain_one Flow.Else e r l h c = chain_else e (suc e) (ways (suc e) r) (omega arith, l) c
  chain_one Flow.End e r l h c = (omega arith, l, tt, ap (ways (suc e)) (sym h), c)
  chain_one Flow.Then e r l h c = chain_inner e (ways (suc e) r) c
  chain_one Flow.Stop e r l h c = c
  chain_one (Flow.Loop n) e r l h c = chain_inner e (ways (suc e) r) c
  chain_one (Flow.Subroutine k) e r l h c = chain_inner e (ways (suc e) r) c
  chain_one (Flow.Call k) e r l h c = c
  chain_one (Flow.Exit b) e r l h c = c

  within : {i : Instruction} {r : List Instruction} (e : ℕ) → drop e tab ≡ i ∷ r → suc e ≤ length tab
  within e h = omega (arith, length-drop e tab, ap length h)

  pub chained : (l : List Instruction) (e : ℕ) → drop e tab ≡ l → Chained tab e (ways e l)
  unfolding ways
  chained [] e h = tt
  chained (i ∷ r) e h =
      let nx = drop_next e tab h in
      chain_one (flow i) e r (within e h) nx (nearer e (ways (suc e) r) (chained r (suc e) nx))

-- a subroutine begins behind an entry
pub label_behind : (k e q : ℕ) (l : List Instruction) → behind_label k e l ≡ some q → (0 < q) × (q ≤ e + length l)
unfolding behind_label
label_behind k e q [] h = absurd (let z : ◌≡◌ {A = ℕ} 0 1 = cc in omega arith)
label_behind k e q (i ∷ r) h = by (same (some k) (label (flow i))) (label_behind k (suc e) q r) h
  where
    by : (b : Bool) → (behind_label k (suc e) r ≡ some q → (0 < q) × (q ≤ suc e + length r))
        → cond b (some (suc e)) (behind_label k (suc e) r) ≡ some q
        → (0 < q) × (q ≤ e + suc (length r))
    by true f g = let y : suc e ≡ q = cc in (omega arith, omega arith)
    by false f g = let y = f g in (omega (arith, y.0), omega (arith, y.1))

-- ---- what is told is a place of its table

pub entries_most : (p : Program) (t : Table) → length (entries p t) ≤ 99
unfolding entries
entries_most p t =
    let part = drop (99 * row t) p.slots in
    omega (arith, length-map (take (min (claimed p t) 99) part) (λ s. s.instruction), length-take (min (claimed p t) 99) part)

end_most : (tab : List Instruction) (e : ℕ) (ws : List Way) → length tab ≤ 99 → Chained tab e ws → end_at ws ≤ 99
end_most tab e [] few c = omega arith
end_most tab e (w ∷ ws) few c = omega (arith, c.1)

else_most : (tab : List Instruction) (e : ℕ) (ws : List Way) → length tab ≤ 99 → Chained tab e ws → else_at ws ≤ 99
else_most tab e [] few c = omega arith
else_most tab e (w ∷ ws) few c = by w.behind_else c.2
  where
    by : (o : Option ℕ) → Behind (length tab) o → or_zero o ≤ 99
    by none h = omega arith
    by (some q) h = omega (arith, h.1)

-- of a list of 384 places
places_most : (f : List Way → ℕ) (p : Program) (l : List ℕ) → length l ≡ 384 → ((t : Table) (e : ℕ) → e ≤ 127 → get_or l (place_number t e) 0 ≡ f (ways_from p t e))
    → ((t : Table) (e : ℕ) → f (ways_from p t e) ≤ 99) → (k : ℕ) → get_or l k 0 ≤ 99
places_most f p l size told small k = by (ltb k 384) refl
  where
    by : (b : Bool) → ltb k 384 ≡ b → get_or l k 0 ≤ 99
    by true z =
        let lt : k < 384 = ltb-true k 384 z in
        let t : Table = table_at (k / 128) in
        let at : place_number t (k % 128) ≡ k = omega (arith, row_at (k / 128) (omega arith)) in
        rw (ap (λ n. get_or l n 0) (sym at) ∙ told t (k % 128) (omega arith)) (small t (k % 128))
    by false z =
        let ge : 384 ≤ k = ltb-false k 384 z in rw (get_or-eq_default l 0 (let g : length l ≤ k = omega arith in g)) (omega arith)

module _ (p : Program) where
  pub chain_at : (t : Table) (e : ℕ) → Chained (entries p t) e (ways_from p t e)
  chain_at t e = chained (entries p t) (drop e (entries p t)) e refl

  pub ends_most : (ends elses : List ℕ) → length ends ≡ 384 → TargetsTold p ends elses → (k : ℕ) → get_or ends k 0 ≤ 99
  ends_most ends elses size told =
      places_most end_at p ends size told.end_told (λ t e. end_most (entries p t) e (ways_from p t e) (entries_most p t) (chain_at t e))

  pub elses_most : (ends elses : List ℕ) → length elses ≡ 384 → TargetsTold p ends elses → (k : ℕ) → get_or elses k 0 ≤ 99
  elses_most ends elses size told =
      places_most else_at p elses size told.else_told (λ t e. else_most (entries p t) e (ways_from p t e) (entries_most p t) (chain_at t e))

  pub subs_most : (subs : List ℕ) → length subs ≡ 256 → Subs p subs → (k : ℕ) → get_or subs k 0 ≤ 99
  subs_most subs size told k = by (ltb k 256) refl
    where
      small : (o : Option ℕ) → behind_label k 0 (entries p Three) ≡ o → or_zero o ≤ 99
      small none h = omega arith
      small (some q) h = omega (arith, (label_behind k 0 q (entries p Three) h).1, entries_most p Three)

      by : (b : Bool) → ltb k 256 ≡ b → get_or subs k 0 ≤ 99
      by true z = rw (told.sub_told k (ltb-true k 256 z)) (small (behind_label k 0 (entries p Three)) refl)
      by false z =
          let ge : 256 ≤ k = ltb-false k 256 z in rw (get_or-eq_default subs 0 (let g : length subs ≤ k = omega arith in g)) (omega arith)

-- ---- the entry at which a subroutine begins, counted from 1, is the place behind its 85

place_behind : (k e : ℕ) (l : List Instruction) → label_place k (suc e) l ≡ or_zero (behind_label k e l)
unfolding label_place behind_label
place_behind k e [] = refl
place_behind k e (i ∷ r) = by (same (some k) (label (flow i))) (ap (λ n. label_place k n r) (add-one (suc e)) ∙ place_behind k (suc e) r)
  where
    by : (b : Bool) → label_place k (suc e + 1) r ≡ or_zero (behind_label k (suc e) r)
        → cond b (suc e) (label_place k (suc e + 1) r) ≡ or_zero (cond b (some (suc e)) (behind_label k (suc e) r))
    by true h = refl
    by false h = h

pub subs_told : (p : Program) (subs : List ℕ) → SubsAre p subs → Subs p subs
subs_told p subs are = record { sub_told = λ k m. are k m ∙ place_behind k 0 (entries p Three) }
