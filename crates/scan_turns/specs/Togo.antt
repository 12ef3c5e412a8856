-- What a configuration has to go, as a number: the loop's measure. A configuration that runs well has at least this to go, and runs well with just
-- this, since a caller's level and scope are told by how many callers it has. Assumes nothing.
use Rattle.std.specs.Prelude.{◌≡◌, refl, ℕ, suc, ◌+◌, ◌-◌, ◌≤◌, List, [], ◌∷◌, length}
use Rattle.std.proofs.Common.{subst, arith, le_refl}
use Rattle.base_program.specs.declared.Program.{Program}
use Rattle.base_program.specs.declared.Table.{Table}
use Rattle.spec_machine.specs.Machine.{Open, Place, Config}
use Rattle.proof_safety.specs.Shape.{Scope, in_table, in_sub}
use Rattle.proof_safety.specs.Potential.{cnt, from, togo, Stands, Callers, RunsWell}

abbrev scope_of : List Place → Scope
scope_of [] = in_table
scope_of (g ∷ gs) = in_sub

module _ (p : Program) where
  -- of a place at level n with these callers
  abbrev need : ℕ → List Place → Table → ℕ → List Open → ℕ
  need n cs t q bs = togo p n (scope_of cs) t bs (cnt p n (scope_of cs) t (from p n (scope_of cs) t q))

  -- of the callers of a place at level n
  abbrev owed : ℕ → List Place → ℕ
  owed n [] = 0
  owed n (g ∷ gs) = need (suc n) gs g.table g.before g.blocks + owed (suc n) gs

  abbrev pub to_go : Config → ℕ
  to_go c = need (7 - length c.callers) c.callers c.place.table c.place.before c.place.blocks + owed (7 - length c.callers) c.callers

  scope_is : (n : ℕ) (w : Scope) (cs : List Place) (b : ℕ) → Callers p n w cs b → w ≡ scope_of cs
  scope_is n in_table [] b h = refl
  scope_is n in_table (g ∷ gs) b h = absurd h
  scope_is n in_sub [] b h = absurd h
  scope_is n in_sub (g ∷ gs) b h = refl

  level_is : (n : ℕ) (w : Scope) (cs : List Place) (b : ℕ) → Callers p n w cs b → n + length cs ≡ 7
  level_is n in_table [] b h = omega arith
  level_is n in_table (g ∷ gs) b h = absurd h
  level_is n in_sub [] b h = absurd h
  level_is n in_sub (g ∷ gs) b h = omega (arith, level_is (suc n) h.0 gs h.2 h.5)

  exact : (n : ℕ) (w : Scope) (t : Table) (q : ℕ) (bs : List Open) (a : ℕ) → Stands p n w t q bs a → Stands p n w t q bs (togo p n w t bs (cnt p n w t (from p n w t q)))
  exact n w t q bs a s = record { ok = s.ok; back = s.back; few = s.few; less = le_refl _ }

  callers_exact : (n : ℕ) (w : Scope) (cs : List Place) (b : ℕ) → Callers p n w cs b → (owed n cs ≤ b) × Callers p n w cs (owed n cs)
  callers_exact n in_table [] b h = (omega arith, h)
  callers_exact n in_table (g ∷ gs) b h = absurd h
  callers_exact n in_sub [] b h = absurd h
  callers_exact n in_sub (g ∷ gs) b h =
      let w : Scope = scope_of gs in
      let e : h.0 ≡ w = scope_is (suc n) h.0 gs h.2 h.5 in
      let stands : Stands p (suc n) w g.table g.before g.blocks h.1 =
      subst (λ z. Stands p (suc n) z g.table g.before g.blocks h.1) e h.4 in
      let others = callers_exact (suc n) w gs h.2 (subst (λ z. Callers p (suc n) z gs h.2) e h.5) in
      let mine : ℕ = need (suc n) gs g.table g.before g.blocks in (
        omega (arith, h.3, stands.less, others.0),
        (w, mine, owed (suc n) gs, le_refl _, exact (suc n) w g.table g.before g.blocks h.1 stands, others.1),
      )

  pub runs_exact : (c : Config) (b : ℕ) → RunsWell p c b → (to_go c ≤ b) × RunsWell p c (to_go c)
  runs_exact c b r =
      let cs : List Place = c.callers in
      let w : Scope = scope_of cs in
      let n : ℕ = 7 - length cs in
      let scope_e : r.scope ≡ w = scope_is r.level r.scope cs r.theirs r.callers in
      let level_e : r.level ≡ n = omega (arith, level_is r.level r.scope cs r.theirs r.callers) in
      let stands₁ : Stands p r.level w c.place.table c.place.before c.place.blocks r.mine =
      subst (λ z. Stands p r.level z c.place.table c.place.before c.place.blocks r.mine) scope_e r.stands in
      let stands : Stands p n w c.place.table c.place.before c.place.blocks r.mine =
      subst (λ z. Stands p z w c.place.table c.place.before c.place.blocks r.mine) level_e stands₁ in
      let callers₁ : Callers p r.level w cs r.theirs = subst (λ z. Callers p r.level z cs r.theirs) scope_e r.callers in
      let callers : Callers p n w cs r.theirs = subst (λ z. Callers p z w cs r.theirs) level_e callers₁ in
      let others = callers_exact n w cs r.theirs callers in (
        omega (arith, r.sum, stands.less, others.0),
        record {
          level = n;
          scope = w;
          mine = need n cs c.place.table c.place.before c.place.blocks;
          theirs = owed n cs;
          sum = le_refl _;
          stands = exact n w c.place.table c.place.before c.place.blocks r.mine stands;
          callers = others.1;
        },
      )
