-- The heights and the chains of calls: a round makes the heights right for one call more, and right for all where it changes none.
-- Assumes nothing.
use Rattle.std.specs.Prelude.{◌≡◌, Bool, ◌||◌, List, [], ◌∷◌, length, get_or, set, eqb}
use Rattle.std.proofs.Math.Path.{refl}
use Rattle.std.proofs.Common.{sym, ap, ◌∙◌, subst, arith, get_or-set_same, get_or-set_other}
use Prim.Native.Nat.{ℕ, zero, suc, ◌+◌, ◌≤◌, ◌<◌}
use Rattle.std.proofs.Math.Bool.{true, false}
use Rattle.std.proofs.Math.Option.{Option, none, some}
use Rattle.std.proofs.Math.Dec.{leb}
use borrow.Author.Tests.{le-leb, leb-true, leb-false, eqb-true, eqb-false}
use Rattle.base_program.specs.declared.Instruction.{Instruction}
use Rattle.base_program.specs.declared.Program.{Program}
use Rattle.base_program.specs.declared.Table.TheVariants.{Three}
use Rattle.base_program.specs.Flow.{flow, call_of}
use Rattle.base_program.specs.Entries.{entries}
use Rattle.spec_check.specs.Calls.{body, any_call, chain}
use Rattle.proof_check.specs.Labels.{label_place}
use Rattle.check_chains.specs.Chains.{HeightsAre, HeightOf, Raised, call_holds, any_next}

-- ---- calls

or_right : (b : Bool) {x : Bool} → x ≡ true → b || x ≡ true
or_right true h = refl
or_right false h = h

pub any_mono : (f g : ℕ → Bool) → ((j : ℕ) → f j ≡ true → g j ≡ true) → (l : List Instruction) → any_call f l ≡ true → any_call g l ≡ true
unfolding any_call
any_mono f g h [] e = e
any_mono f g h (i ∷ r) e = any_next g i r ∙ by (call_of (flow i)) (any_mono f g h r) (sym (any_next f i r) ∙ e)
  where
    called : (j : ℕ) (b : Bool) → f j ≡ b → (any_call f r ≡ true → any_call g r ≡ true) → b || any_call f r ≡ true → g j || any_call g r ≡ true
    called j true q later s = ap (λ t. t || any_call g r) (h j q)
    called j false q later s = or_right (g j) (later s)

    by : (o : Option ℕ) → (any_call f r ≡ true → any_call g r ≡ true) → call_holds f o || any_call f r ≡ true → call_holds g o || any_call g r ≡ true
    by none later s = later s
    by (some j) later s = called j (f j) refl later s

apart : {b : Bool} → b ≡ true → b ≡ false → ⊥
apart h g = let z : ◌≡◌ {A = Bool} true false = sym h ∙ g in let y : ◌≡◌ {A = ℕ} 0 1 = cc in omega arith

neither : (a b : Bool) → (a ≡ true → b ≡ true) → b ≡ false → a ≡ b
neither true b h e = absurd (apart (h refl) e)
neither false b h e = sym e

-- ---- the heights

pub no_heights : (p : Program) (l : List ℕ) → ((k : ℕ) → get_or l k 0 ≡ 0) → HeightsAre p 0 l
unfolding chain
no_heights p l z = record {
  right = λ k h s m. le-leb s (get_or l k 0) (omega arith) ∙ ap (λ n. chain p n k) (let g : 0 ≡ s = omega arith in g);
  sound = λ k s m e. ap (λ n. chain p n k) (let g : s ≡ 0 = omega (arith, z k, leb-true s (get_or l k 0) e) in g);
  low = λ k h. omega (arith, z k);
}

-- a height that is taken from heights right up to m calls
module _ (p : Program) (m : ℕ) (l : List ℕ) (small : m < 7) (h : HeightsAre p m l) (k v : ℕ) (taken : HeightOf p l k v) where
  taken_right : (s : ℕ) → s ≤ suc m → leb s v ≡ chain p s k
  unfolding chain
  taken_right zero w = le-leb 0 v (omega arith)
  taken_right (suc s) w = taken.told (chain p s) s (omega arith) (λ j b. h.right j b s (omega arith))

  taken_sound : (s : ℕ) → s ≤ 7 → leb s v ≡ true → chain p s k ≡ true
  unfolding chain
  taken_sound zero w e = refl
  taken_sound (suc s) w e =
      any_mono (λ j. leb s (get_or l j 0)) (chain p s) (λ j q. h.sound j s (omega arith) q) (body p k)
      (sym (taken.told (λ j. leb s (get_or l j 0)) s (omega arith) (λ j b. refl)) ∙ e)

-- ---- a round, from the last entry of Table 3 down to entry e

-- the entry of Table 3 at which a subroutine begins, from 1; 0 for none
abbrev pub begins : Program → ℕ → ℕ
begins p j = label_place j 1 (entries p Three)

-- the subroutines that begin behind entry e are done
pub record Raising (p : Program) (m : ℕ) (l : List ℕ) (e : ℕ) (raised : Bool) : Type 0 where
  pub heights_are : HeightsAre p m l
  pub more : (j : ℕ) → e < begins p j → leb (suc m) (get_or l j 0) ≡ chain p (suc m) j
  pub settled : raised ≡ false → (j : ℕ) → e < begins p j → HeightOf p l j (get_or l j 0)

pub round_starts : (p : Program) (m : ℕ) (l : List ℕ) (n : ℕ) → ((j : ℕ) → begins p j ≤ n) → HeightsAre p m l → Raising p m l n false
round_starts p m l n within h = record {
  heights_are = h;
  more = λ j a. absurd (omega (arith, within j));
  settled = λ q j a. absurd (omega (arith, within j));
}

-- a subroutine that begins nowhere has no body
module _ (p : Program) (m : ℕ) (l : List ℕ) (raised : Bool) (nowhere : (j : ℕ) → begins p j ≡ 0 → body p j ≡ []) (small : m < 7)
    (h : Raising p m l 0 raised) where
  next_there : (j s : ℕ) → s < 7 → (0 < begins p j → leb (suc s) (get_or l j 0) ≡ chain p (suc s) j) → leb (suc s) (get_or l j 0) ≡ chain p (suc s) j
  unfolding chain any_call
  next_there j s w later = by (leb (begins p j) 0) refl
    where
      by : (t : Bool) → leb (begins p j) 0 ≡ t → leb (suc s) (get_or l j 0) ≡ chain p (suc s) j
      by true q =
          let z : begins p j ≤ 0 = leb-true (begins p j) 0 q in
          neither (leb (suc s) (get_or l j 0)) (chain p (suc s) j) (h.heights_are.sound j (suc s) (omega arith))
          (ap (any_call (chain p s)) (nowhere j (omega arith)))
      by false q = later (leb-false (begins p j) 0 q)

  right_next : (j : ℕ) → j < 256 → (s : ℕ) → s ≤ suc m → leb s (get_or l j 0) ≡ chain p s j
  right_next j b s w = by (leb s m) refl
    where
      by : (t : Bool) → leb s m ≡ t → leb s (get_or l j 0) ≡ chain p s j
      by true q = h.heights_are.right j b s (leb-true s m q)
      by false q =
          let e : s ≡ suc m = omega (arith, leb-false s m q) in
          subst (λ i. leb i (get_or l j 0) ≡ chain p i j) (sym e) (next_there j m small (h.more j))

  right_all : (s : ℕ) → raised ≡ false → s ≤ 7 → (j : ℕ) → j < 256 → leb s (get_or l j 0) ≡ chain p s j
  unfolding chain
  right_all zero q w j b = le-leb 0 (get_or l j 0) (omega arith)
  right_all (suc s) q w j b =
      next_there j s (omega arith) (λ a. (h.settled q j a).told (chain p s) s (omega arith) (right_all s q (omega arith)))

  pub round_ends : Raised p m l raised
  round_ends = record {
    heights_are = record { right = right_next; sound = h.heights_are.sound; low = h.heights_are.low };
    stopped = λ q. record { right = λ j b s w. right_all s q w j b; sound = h.heights_are.sound; low = h.heights_are.low };
  }

-- what holds of each height once one is set
set_at : (l : List ℕ) (k v : ℕ) (P : ℕ → ℕ → Type 0) (j : ℕ) → k < length l → P k v → ((j ≡ k → ⊥) → P j (get_or l j 0)) → P j (get_or (set l k v) j 0)
set_at l k v P j inside here other = by (eqb j k) refl
  where
    by : (t : Bool) → eqb j k ≡ t → P j (get_or (set l k v) j 0)
    by true q =
        subst (λ i. P i (get_or (set l k v) i 0)) (sym (eqb-true j k q)) (subst (P k) (sym (get_or-set_same l k v 0 inside)) here)
    by false q = subst (P j) (sym (get_or-set_other l k j v 0 (eqb-false j k q))) (other (eqb-false j k q))

module _ (p : Program) (m : ℕ) (l : List ℕ) (e : ℕ) (raised : Bool) (h : Raising p m l (e + 1) raised) where
  -- no subroutine begins at entry e
  pub none_begins : ((j : ℕ) → begins p j ≡ e + 1 → ⊥) → Raising p m l e raised
  none_begins never = record {
    heights_are = h.heights_are;
    more = λ j a. h.more j (later j a);
    settled = λ q j a. h.settled q j (later j a);
  }
    where
      later : (j : ℕ) → e < begins p j → e + 1 < begins p j
      later j a = by (eqb (begins p j) (e + 1)) refl
        where
          by : (t : Bool) → eqb (begins p j) (e + 1) ≡ t → e + 1 < begins p j
          by true q = absurd (never j (eqb-true (begins p j) (e + 1) q))
          by false q = let z = eqb-false (begins p j) (e + 1) q in omega arith

  -- subroutine k begins there, and v is its height by the heights as they stand
  module _ (small : m < 7) (k : ℕ) (alone : (j : ℕ) → begins p j ≡ e + 1 → j ≡ k) (v : ℕ) (taken : HeightOf p l k v) where
    later : (j : ℕ) → e < begins p j → (j ≡ k → ⊥) → e + 1 < begins p j
    later j a ne = by (eqb (begins p j) (e + 1)) refl
      where
        by : (t : Bool) → eqb (begins p j) (e + 1) ≡ t → e + 1 < begins p j
        by true q = absurd (ne (alone j (eqb-true (begins p j) (e + 1) q)))
        by false q = let z = eqb-false (begins p j) (e + 1) q in omega arith

    right_here : (s : ℕ) → s ≤ suc m → leb s v ≡ chain p s k
    right_here = taken_right p m l small h.heights_are k v taken

    pub not_raised : get_or l k 0 ≡ v → Raising p m l e raised
    not_raised same = record {
      heights_are = h.heights_are;
      more = λ j a. one (λ i. leb (suc m) (get_or l i 0) ≡ chain p (suc m) i) j (ap (leb (suc m)) same ∙ right_here (suc m) (omega arith)) (λ ne. h.more j (later j a ne));
      settled = λ q j a. one (λ i. HeightOf p l i (get_or l i 0)) j (subst (HeightOf p l k) (sym same) taken) (λ ne. h.settled q j (later j a ne));
    }
      where
        one : (P : ℕ → Type 0) (j : ℕ) → P k → ((j ≡ k → ⊥) → P j) → P j
        one P j here other = by (eqb j k) refl
          where
            by : (t : Bool) → eqb j k ≡ t → P j
            by true q = subst P (sym (eqb-true j k q)) here
            by false q = other (eqb-false j k q)

    pub raised_one : k < length l → Raising p m (set l k v) e true
    raised_one inside = record {
      heights_are = record {
        right = λ j b s w. set_at l k v (λ i x. leb s x ≡ chain p s i) j inside (right_here s (omega arith)) (λ ne. h.heights_are.right j b s w);
        sound = λ j s w. set_at l k v (λ i x. leb s x ≡ true → chain p s i ≡ true) j inside (taken_sound p m l small h.heights_are k v taken s w) (λ ne. h.heights_are.sound j s w);
        low = λ j b. set_at l k v (λ i x. x ≤ 7) j inside taken.low (λ ne. h.heights_are.low j b);
      };
      more = λ j a. set_at l k v (λ i x. leb (suc m) x ≡ chain p (suc m) i) j inside (right_here (suc m) (omega arith)) (λ ne. h.more j (later j a ne));
      settled = λ q. absurd (apart refl q);
    }
