-- What a configuration has to go: the stated count of the entries from here on, with the passes left of each open loop and with what the callers
-- have to go. `Runs c b`: the configuration runs well and has at most b to go. Assumes nothing.
use Rattle.std.specs.Prelude.{◌≡◌, ℕ, suc, ◌+◌, ◌*◌, ◌-◌, ◌≤◌, ◌<◌, length, drop}
use Rattle.std.proofs.Math.Path.{refl}
use Rattle.std.proofs.Common.{ap, le_refl}
use native.Mathlib.Omega.{arith}
use mathlib.Core.List.{List, [], ◌∷◌}
use Rattle.base_program.specs.declared.Instruction.{Instruction}
use Rattle.base_program.specs.declared.Program.{Program}
use Rattle.base_program.specs.declared.Table.{Table}
use Rattle.base_program.specs.Entries.{entries}
use Rattle.spec_check.specs.Counts.{top, rest, counts, call_count}
use Rattle.spec_machine.specs.Ends.{Way}
use Rattle.spec_machine.specs.Machine.{Open, then_do, loop, Place, Config, Next, next, done, stuck, at, shift, leave}
use Rattle.spec_machine.specs.Memory.{Memory}
use Rattle.proof_safety.specs.Shape.{Shape, half, turns, HasLoop, rounds, Scope, in_table, in_sub, WellWith, Callable, Match}

abbrev pub shape : Open → Shape
shape then_do = half
shape (loop a n j) = turns n

abbrev pub shapes : List Open → List Shape
shapes [] = []
shapes (b ∷ bs) = shape b ∷ shapes bs

pub length_shapes : (bs : List Open) → length (shapes bs) ≡ length bs
length_shapes [] = refl
length_shapes (b ∷ bs) = ap suc (length_shapes bs)

module _ (p : Program) where
  -- in a table or subroutine of table t from which chains of at most n can be called
  module _ (n : ℕ) (w : Scope) (t : Table) where
    abbrev pub Well : List Shape → List Instruction → Type 0
    Well = WellWith p (Callable p n) w

    abbrev pub cnt : List Instruction → List ℕ
    cnt = counts (call_count p n)

    abbrev pub from : ℕ → List Instruction
    from q = drop q (entries p t)

    abbrev pub Matched : List Shape → List Way → List ℕ → Type 0
    Matched = Match p (Callable p n) (call_count p n) w (entries p t)

    -- what is left to count, where the entries from here on are counted by cs
    abbrev pub togo : List Open → List ℕ → ℕ
    togo [] cs = top cs
    togo (then_do ∷ bs) cs = top cs + togo bs (rest cs)
    togo (loop a k j ∷ bs) cs = top cs + ((k - j) * top (cnt (from a)) + togo bs (rest cs))

    -- Each open loop is on a pass of its own, and goes back to entries that run well and end where these do.
    abbrev pub Back : List Open → List ℕ → Type 0
    Back [] cs = Unit {0}
    Back (then_do ∷ bs) cs = Back bs (rest cs)
    Back (loop a k j ∷ bs) cs =
        (0 < j) × (j ≤ k) × Well (turns k ∷ shapes bs) (from a) × (rest (cnt (from a)) ≡ rest cs) × Back bs (rest cs)

    pub togo_top : (bs : List Open) (x : ℕ) (cs : List ℕ) → togo bs (x ∷ rest cs) + top cs ≡ x + togo bs cs
    togo_top [] x cs = refl
    togo_top (then_do ∷ bs) x cs = omega arith
    togo_top (loop a k j ∷ bs) x cs =
        let y : ℕ = (k - j) * top (cnt (from a)) + togo bs (rest cs) in move x y (top cs)
      where
        move : (x y c : ℕ) → x + y + c ≡ x + (c + y)
        move x y c = omega arith

    pub back_top : (bs : List Open) (x : ℕ) (cs : List ℕ) → Back bs (x ∷ rest cs) → Back bs cs
    back_top [] x cs h = tt
    back_top (then_do ∷ bs) x cs h = h
    back_top (loop a k j ∷ bs) x cs h = h

    -- an indexed location is moved up by less than the innermost loop's count
    pub shift_rounds : (bs : List Open) (cs : List ℕ) → Back bs cs → shift bs ≤ rounds (shapes bs) - 1
    unfolding shift
    shift_rounds [] cs h = omega arith
    shift_rounds (then_do ∷ bs) cs h = shift_rounds bs (rest cs) h
    shift_rounds (loop a k j ∷ bs) cs h = let g : j - 1 ≤ k - 1 = omega arith in g

    -- the place behind q entries, with the blocks bs open, runs well and has at most b to go
    pub record Stands (q : ℕ) (bs : List Open) (b : ℕ) : Type 0 where
      pub ok : Well (shapes bs) (from q)
      pub back : Back bs (cnt (from q))
      pub few : length bs ≤ 11
      pub less : togo bs (cnt (from q)) ≤ b

    pub stands_at : (q : ℕ) (bs : List Open) (l : List Instruction) → from q ≡ l → Well (shapes bs) l → Back bs (cnt l) → length bs ≤ 11
        → Stands q bs (togo bs (cnt l))
    stands_at q bs l h ok bk few = record { ok = rw h ok; back = rw h bk; few = few; less = rw h (le_refl _) }

    pub stands_behind : (q : ℕ) (bs : List Open) (cs : List ℕ) → cnt (from q) ≡ cs → Well (shapes bs) (from q) → Back bs cs → length bs ≤ 11
        → Stands q bs (togo bs cs)
    stands_behind q bs cs h ok bk few = record { ok = ok; back = rw h bk; few = few; less = rw h (le_refl _) }

    -- where an exit goes
    abbrev pub Left : Next → List Place → Memory → ℕ → Type 0
    Left x cs m b = (q : ℕ) × (bs : List Open) × (a : ℕ) × (x ≡ next (at t q bs cs m)) × Stands q bs a × (a ≤ b)

    pub leaves : (bs : List Open) (ws : List Way) (cs : List ℕ) (fs : List Place) (m : Memory) (b : ℕ) → HasLoop (shapes bs) → Matched (shapes bs) ws cs
        → Back bs cs → length bs ≤ 11 → togo bs cs ≤ b → Left (leave bs ws t fs m) fs m b
    unfolding leave
    leaves [] ws cs fs m b hl mt bk few less = absurd hl
    leaves (then_do ∷ bs) [] cs fs m b hl mt bk few less = absurd mt
    leaves (loop a k j ∷ bs) [] cs fs m b hl mt bk few less = absurd mt
    leaves (then_do ∷ bs) (x ∷ ws) cs fs m b hl mt bk few less = leaves bs ws (rest cs) fs m b hl mt.3 bk (omega arith) (omega arith)
    leaves (loop a k j ∷ bs) (x ∷ ws) cs fs m b hl mt bk few less =
        (x.behind_end, bs, togo bs (rest cs), refl, stands_behind x.behind_end bs (rest cs) mt.1 mt.0 bk.4 (omega arith), omega arith)

  -- The callers of a place from which chains of at most n can be called: they have at most b to go.
  abbrev pub Callers : ℕ → Scope → List Place → ℕ → Type 0
  Callers n in_table [] b = n ≡ 7
  Callers n in_table (g ∷ gs) b = ⊥
  Callers n in_sub [] b = ⊥
  Callers n in_sub (g ∷ gs) b =
      (w : Scope) × (a : ℕ) × (d : ℕ) × (a + d ≤ b) × Stands (suc n) w g.table g.before g.blocks a × Callers (suc n) w gs d

  -- The configuration runs well and has at most b to go.
  pub record RunsWell (c : Config) (b : ℕ) : Type 0 where
    pub level : ℕ
    pub scope : Scope
    pub mine : ℕ
    pub theirs : ℕ
    pub sum : mine + theirs ≤ b
    pub stands : Stands level scope c.place.table c.place.before c.place.blocks mine
    pub callers : Callers level scope c.callers theirs

  -- a step that ends the scan, or leads to a configuration that runs well and has less to go
  abbrev pub Advances : Next → ℕ → Type 0
  Advances done b = Unit {0}
  Advances stuck b = ⊥
  Advances (next c) b = (d : ℕ) × (d < b) × RunsWell c d
