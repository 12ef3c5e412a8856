-- Entries that run well where blocks are open (`Well`), and what that says of the places behind an Else and an End (`match`): by recursion on
-- the entries from the table's end, so that it is known at every place that a jump goes to. Assumes nothing.
use Rattle.std.specs.Prelude.{◌≡◌, ℕ, zero, suc, ◌≤◌, ◌<◌, true, false, length, drop}
use Rattle.std.proofs.Math.Path.{ap}
use Rattle.std.proofs.Common.{arith, le_trans}
use Rattle.std.proofs.Math.Option.{Option, none, some}
use mathlib.Core.List.{List, [], ◌∷◌}
use Rattle.base_program.specs.declared.Flow.{Flow}
use Rattle.base_program.specs.declared.Instruction.{Instruction}
use Rattle.base_program.specs.declared.Program.{Program}
use Rattle.base_program.specs.declared.Table.TheVariants.{Three}
use Rattle.base_program.specs.Flow.{flow}
use Rattle.base_program.specs.Entries.{entries}
use Rattle.base_program.specs.Reach.{locations, readings}
use Rattle.spec_check.specs.Ranges.{in_range}
use Rattle.spec_check.specs.Calls.{any_outside, any_beyond}
use Rattle.spec_check.specs.Counts.{top, rest, count_entry, counts}
use Rattle.spec_machine.specs.Ends.{Way, inner, divided, way_of, ways, behind_label}
use Rattle.base_laws.specs.Lists.{drop_next}

-- an open block: a Then Do in either half, or a loop with its count
pub data Shape : Type 0 where
  half : Shape
  turns : ℕ → Shape

abbrev pub HasLoop : List Shape → Type 0
HasLoop [] = ⊥
HasLoop (half ∷ s) = HasLoop s
HasLoop (turns n ∷ s) = Unit {0}

-- the count of the innermost loop, 1 with none
abbrev pub rounds : List Shape → ℕ
rounds [] = 1
rounds (half ∷ s) = rounds s
rounds (turns n ∷ s) = n

-- a table scanned, or a subroutine
pub data Scope : Type 0 where
  in_table in_sub : Scope

-- An entry of this kind where blocks s are open; `K s` says that what follows runs well where s are open.
abbrev pub WellFlow : (ℕ → Type 0) → Scope → Flow → List Shape → (List Shape → Type 0) → Type 0
WellFlow C w Flow.Next s K = K s
WellFlow C w Flow.Else [] K = ⊥
WellFlow C w Flow.Else (half ∷ s) K = K (half ∷ s)
WellFlow C w Flow.Else (turns n ∷ s) K = ⊥
WellFlow C in_table Flow.End [] K = ⊥
WellFlow C in_sub Flow.End [] K = Unit {0}
WellFlow C w Flow.End (b ∷ s) K = K s
WellFlow C w Flow.Then s K = (length s < 11) × K (half ∷ s)
WellFlow C w Flow.Stop s K = K s
WellFlow C w (Flow.Loop n) s K = (0 < n) × (length s < 11) × K (turns n ∷ s)
WellFlow C w (Flow.Subroutine k) s K = ⊥
WellFlow C w (Flow.Call k) s K = C k × K s
WellFlow C w (Flow.Exit b) s K = HasLoop s × K s

-- its numbers are in range, and so is what it reaches with indexed locations on pass n
pub record EntryFits (p : Program) (n : ℕ) (i : Instruction) : Type 0 where
  pub is_in_range : in_range i ≡ true
  pub locations_in : any_outside p.locations n (locations i) ≡ false
  pub readings_in : any_beyond 196 (readings i) ≡ false

-- These entries run well where blocks s are open before them and each call is of a C.
abbrev pub WellWith : Program → (ℕ → Type 0) → Scope → List Shape → List Instruction → Type 0
WellWith p C in_table [] [] = Unit {0}
WellWith p C in_sub [] [] = ⊥
WellWith p C w (b ∷ s) [] = ⊥
WellWith p C w s (i ∷ r) = EntryFits p (rounds s) i × WellFlow C w (flow i) s (λ z. WellWith p C w z r)

-- Subroutine k is there, runs well, and starts no chain of more than n.
abbrev pub Callable : Program → ℕ → ℕ → Type 0
Callable p zero k = ⊥
Callable p (suc n) k =
    (q : ℕ) × (behind_label k 0 (entries p Three) ≡ some q) × WellWith p (λ j. Callable p n j) in_sub [] (drop q (entries p Three))

module _ (p : Program) (C : ℕ → Type 0) (f : ℕ → ℕ) (w : Scope) (tab : List Instruction) where
  abbrev pub ElseWell : Option ℕ → Shape → List Shape → List ℕ → Type 0
  ElseWell none b s cs = Unit {0}
  ElseWell (some q) b s cs = WellWith p C w (b ∷ s) (drop q tab) × (rest (counts f (drop q tab)) ≡ rest cs) × (top (counts f (drop q tab)) ≤ top cs)

  -- Each open block has its End, and behind its End and its Else the entries run well and are counted by what is left.
  abbrev pub Match : List Shape → List Way → List ℕ → Type 0
  Match [] ws cs = Unit {0}
  Match (b ∷ s) [] cs = ⊥
  Match (b ∷ s) (x ∷ ws) cs =
      WellWith p C w s (drop x.behind_end tab) × (counts f (drop x.behind_end tab) ≡ rest cs) × ElseWell x.behind_else b s cs × Match s ws (rest cs)

  else_up : (o : Option ℕ) (b : Shape) (s : List Shape) (cs : List ℕ) (d : ℕ) → top cs ≤ d → ElseWell o b s cs → ElseWell o b s (d ∷ rest cs)
  else_up none b s cs d h m = tt
  else_up (some q) b s cs d h m = (m.0, m.1, le_trans m.2 h)

  up : (s : List Shape) (ws : List Way) (cs : List ℕ) (d : ℕ) → top cs ≤ d → Match s ws cs → Match s ws (d ∷ rest cs)
  up [] ws cs d h m = tt
  up (b ∷ s) [] cs d h m = m
  up (b ∷ s) (x ∷ ws) cs d h m = (m.0, m.1, else_up x.behind_else b s cs d h m.2, m.3)

  pop : (b : Shape) (s : List Shape) (ws : List Way) (cs : List ℕ) (d : ℕ) → top (rest cs) ≤ d → Match (b ∷ s) ws cs → Match s (inner ws) (d ∷ rest (rest cs))
  pop b s [] cs d h m = absurd m
  pop b s (x ∷ ws) cs d h m = up s ws (rest cs) d h m.3

  divide : (b : Shape) (s : List Shape) (ws : List Way) (q : ℕ) (r : List Instruction) (d : ℕ) → drop q tab ≡ r → WellWith p C w (b ∷ s) r
      → top (counts f r) ≤ d → Match (b ∷ s) ws (counts f r) → Match (b ∷ s) (divided q ws) (d ∷ rest (counts f r))
  divide b s [] q r d e ok h m = m
  divide b s (x ∷ ws) q r d e ok h m = (m.0, m.1, (rw e ok, ap (λ l. rest (counts f l)) e, rw e h), m.3)

  -- one entry; q is the place behind it, where the entries are r
  match_one : (x : Flow) (q : ℕ) (s : List Shape) (r : List Instruction) (ws : List Way) → drop q tab ≡ r → WellFlow C w x s (λ z. WellWith p C w z r)
      → ((z : List Shape) → WellWith p C w z r → Match z ws (counts f r)) → Match s (way_of x q ws) (count_entry f x (counts f r))
  unfolding way_of count_entry
  match_one Flow.Next q s r ws h ok go = up s ws (counts f r) _ (omega arith) (go s ok)
  match_one Flow.Else q [] r ws h ok go = tt
  match_one Flow.Else q (half ∷ s) r ws h ok go = divide half s ws q r _ h ok (omega arith) (go (half ∷ s) ok)
  match_one Flow.Else q (turns n ∷ s) r ws h ok go = absurd ok
  match_one Flow.End q [] r ws h ok go = tt
  match_one Flow.End q (b ∷ s) r ws h ok go = (rw h ok, ap (counts f) h, tt, go s ok)
  match_one Flow.Then q s r ws h ok go = pop half s ws (counts f r) _ (omega arith) (go (half ∷ s) ok.1)
  match_one Flow.Stop q s r ws h ok go = up s ws (counts f r) _ (omega arith) (go s ok)
  match_one (Flow.Loop n) q s r ws h ok go = pop (turns n) s ws (counts f r) _ (omega arith) (go (turns n ∷ s) ok.2)
  match_one (Flow.Subroutine k) q s r ws h ok go = absurd ok
  match_one (Flow.Call k) q s r ws h ok go = up s ws (counts f r) _ (omega arith) (go s ok.1)
  match_one (Flow.Exit b) q s r ws h ok go = up s ws (counts f r) _ (omega arith) (go s ok.1)

  pub match : (l : List Instruction) (e : ℕ) (s : List Shape) → drop e tab ≡ l → WellWith p C w s l → Match s (ways e l) (counts f l)
  unfolding ways counts
  match [] e [] h ok = tt
  match [] e (b ∷ s) h ok = ok
  match (i ∷ r) e s h ok =
      let nx = drop_next e tab h in
      match_one (flow i) (suc e) s r (ways (suc e) r) nx ok.1 (λ z o. match r (suc e) z nx o)
