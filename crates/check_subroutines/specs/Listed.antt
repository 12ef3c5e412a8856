-- The places of the 85s and calls of Table 3 as a list, which the later walks go over. Assumes nothing.
use Rattle.std.specs.Prelude.{◌≡◌, refl, ℕ, zero, suc, ◌+◌, ◌-◌, ◌≤◌, ◌<◌, Bool, ◌⊎◌, List, length, set}
use Rattle.std.proofs.Common.{sym, ◌∙◌, arith, add-one, inl, inr}
use Rattle.std.proofs.Math.Path.{subst, ap}
use Rattle.std.proofs.Math.Bool.{true, false}
use Rattle.std.proofs.Math.Option.{none}
use Rattle.std.proofs.Math.ListN.{get_or, length-set, take, drop}
use Rattle.std.proofs.lemmas.List.{get_or-take}
use Rattle.std.proofs.lemmas.Grind.{get_or_after_one}
use Rattle.std.proofs.Math.Seq.{get_or-set_same, get_or-set_other}
use Rattle.std.proofs.Math.Dec.{eqb}
use borrow.Author.Tests.{eqb-true, eqb-false}
use Rattle.base_program.specs.Flow.{call_of}
use Rattle.spec_check.specs.Blocks.{label}
use Rattle.record_codes.specs.Loaded.{decode}

-- a code that is neither an 85's nor a call's
abbrev pub Uncalling : ℕ → Type 0
Uncalling c = (label (decode c) ≡ none) × (call_of (decode c) ≡ none)

-- The list's head is the length of Table 3. Behind it stand m places, from 0 and falling; the entries from e on that are not among them are no
-- 85 and no call.
pub record ListedFrom (codes list : List ℕ) (m e : ℕ) : Type 0 where
  pub room : length list ≡ 100
  pub top : get_or list 0 0 ≤ 99
  pub few : m + e ≤ get_or list 0 0
  pub here : e ≤ get_or list m 0
  pub falls : (i : ℕ) → i < m → get_or list (i + 1) 0 < get_or list i 0
  pub gaps : (i x : ℕ) → i < m → get_or list (i + 1) 0 < x → x < get_or list i 0 → Uncalling (get_or codes (198 + x) 0)
  pub rest : (x : ℕ) → e ≤ x → x < get_or list m 0 → Uncalling (get_or codes (198 + x) 0)

-- all of Table 3
abbrev pub ListedCalls : List ℕ → List ℕ → ℕ → Type 0
ListedCalls codes list m = ListedFrom codes list m 0

-- one place more, or the entry is no 85 and no call
abbrev pub Counted : ℕ → ℕ → ℕ → Type 0
Counted c m r = (r ≡ m + 1) ⊎ ((r ≡ m) × Uncalling c)

-- ---- filled from the end

pub listed_start : (codes list : List ℕ) (n : ℕ) → length list ≡ 100 → n ≤ 99 → ListedFrom codes (set list 0 n) 0 n
listed_start codes list n size few =
    let head : get_or (set list 0 n) 0 0 ≡ n = get_or-set_same list 0 n 0 (omega arith) in
    record {
      room = length-set list 0 n ∙ size;
      top = omega arith;
      few = omega arith;
      here = omega arith;
      falls = λ i h. absurd (omega arith);
      gaps = λ i x h. absurd (omega arith);
      rest = λ x a b. absurd (omega arith);
    }

module _ (codes list : List ℕ) (m e : ℕ) (l : ListedFrom codes list m (e + 1)) where
  written : List ℕ
  written = set list (m + 1) e

  same : (i : ℕ) → i ≤ m → get_or written i 0 ≡ get_or list i 0
  unfolding written
  same i h = get_or-set_other list (m + 1) i e 0 (λ z. omega arith)

  new : get_or written (m + 1) 0 ≡ e
  unfolding written
  new = get_or-set_same list (m + 1) e 0 (omega (arith, l.room, l.few, l.top))

  sized : length written ≡ 100
  unfolding written
  sized = length-set list (m + 1) e ∙ l.room

  old_falls : (i : ℕ) → i < m → get_or written (i + 1) 0 < get_or written i 0
  old_falls i h = let a = same i (omega arith) in let b = same (i + 1) (omega arith) in omega (arith, a, b, l.falls i h)

  old_gaps : (i x : ℕ) → i < m → get_or written (i + 1) 0 < x → x < get_or written i 0 → Uncalling (get_or codes (198 + x) 0)
  old_gaps i x h u v = l.gaps i x h (omega (arith, same (i + 1) (omega arith), u)) (omega (arith, same i (omega arith), v))

  pub listed_turn : (r : ℕ) → Counted (get_or codes (198 + e) 0) m r → ListedFrom codes (set list (m + 1) e) r e
  unfolding written
  listed_turn r (inl q) = subst (λ k. ListedFrom codes written k e) (sym q) (record {
    room = sized;
    top = omega (arith, same 0 (omega arith), l.top);
    few = omega (arith, same 0 (omega arith), l.few);
    here = omega (arith, new);
    falls = λ i h. falls_at i h (eqb i m) refl;
    gaps = λ i x h u v. gaps_at i x h u v (eqb i m) refl;
    rest = λ x a b. absurd (omega (arith, new));
  })
    where
      falls_at : (i : ℕ) → i < m + 1 → (b : Bool) → eqb i m ≡ b → get_or written (i + 1) 0 < get_or written i 0
      falls_at i h true z =
          subst (λ k. get_or written (k + 1) 0 < get_or written k 0) (sym (eqb-true i m z)) (let a = same m (omega arith) in omega (arith, a, new, l.here))
      falls_at i h false z = old_falls i (let y = eqb-false i m z in omega arith)

      gaps_at : (i x : ℕ) → i < m + 1 → get_or written (i + 1) 0 < x → x < get_or written i 0 → (b : Bool) → eqb i m ≡ b → Uncalling (get_or codes (198 + x) 0)
      gaps_at i x h u v true z =
          let w : get_or written (m + 1) 0 < x = subst (λ k. get_or written (k + 1) 0 < x) (eqb-true i m z) u in
          let y : x < get_or written m 0 = subst (λ k. x < get_or written k 0) (eqb-true i m z) v in
          l.rest x (omega (arith, new, w)) (omega (arith, same m (omega arith), y))
      gaps_at i x h u v false z = old_gaps i x (let y = eqb-false i m z in omega arith) u v
  listed_turn r (inr q) = subst (λ k. ListedFrom codes written k e) (sym q.0) (record {
    room = sized;
    top = omega (arith, same 0 (omega arith), l.top);
    few = omega (arith, same 0 (omega arith), l.few);
    here = omega (arith, same m (omega arith), l.here);
    falls = old_falls;
    gaps = old_gaps;
    rest = λ x a b. rest_at x a (omega (arith, same m (omega arith), b)) (eqb x e) refl;
  })
    where
      rest_at : (x : ℕ) → e ≤ x → x < get_or list m 0 → (b : Bool) → eqb x e ≡ b → Uncalling (get_or codes (198 + x) 0)
      rest_at x a b true z = subst (λ k. Uncalling (get_or codes (198 + k) 0)) (sym (eqb-true x e z)) q.1
      rest_at x a b false z = l.rest x (let y = eqb-false x e z in omega arith) b

pub head_kept : (list : List ℕ) (m e : ℕ) → get_or (set list (m + 1) e) 0 0 ≡ get_or list 0 0
head_kept list m e = get_or-set_other list (m + 1) 0 e 0 (λ z. omega arith)

-- ---- gone over

-- the places behind the head, as a slice
pub listed_at : (list : List ℕ) (m i : ℕ) → i < m → get_or (take (m + 1 - 1) (drop 1 list)) i 0 ≡ get_or list (i + 1) 0
listed_at list m i h =
    get_or-take (m + 1 - 1) (drop 1 list) i 0 (omega arith) ∙ get_or_after_one list i 0 ∙ ap (λ k. get_or list k 0) (let g : 1 + i ≡ i + 1 = omega arith in g)

-- what holds before an entry holds before an earlier one, where each between them hands it on
down : (P : ℕ → Type 0) (d a : ℕ) → ((x : ℕ) → a ≤ x → x < a + d → P (x + 1) → P x) → P (a + d) → P a
down P zero a f h = subst P (let g : a + 0 ≡ a = omega arith in g) h
down P (suc d) a f h =
    f a (omega arith) (omega arith)
    (down P d (a + 1) (λ x u v. f x (omega arith) (omega arith)) (subst P (let g : a + suc d ≡ a + 1 + d = omega arith in g) h))

module _ (codes list : List ℕ) (m : ℕ) (l : ListedCalls codes list m) where
  -- no place is behind the last entry
  pub in_list : (i : ℕ) → i ≤ m → get_or list i 0 ≤ get_or list 0 0
  in_list zero h = omega arith
  in_list (suc i) h = let a : get_or list i 0 ≤ get_or list 0 0 = in_list i (omega arith) in subst (λ k. get_or list k 0 ≤ get_or list 0 0) (add-one i) (omega (arith, a, l.falls i (omega arith)))

  pub below : (i : ℕ) → 0 < i → i ≤ m → get_or list i 0 < get_or list 0 0
  below zero h k = absurd (omega arith)
  below (suc i) h k =
      let a : get_or list i 0 ≤ get_or list 0 0 = in_list i (omega arith) in
      subst (λ j. get_or list j 0 < get_or list 0 0) (add-one i) (omega (arith, a, l.falls i (omega arith)))

  module _ (P : ℕ → Type 0) (on : (x : ℕ) → x < get_or list 0 0 → Uncalling (get_or codes (198 + x) 0) → P (x + 1) → P x) where
    -- to the next place on the list
    pub to_next : (i : ℕ) → i < m → P (get_or list i 0) → P (get_or list (i + 1) 0 + 1)
    to_next i h a =
        let lower : get_or list (i + 1) 0 < get_or list i 0 = l.falls i h in
        let high : get_or list i 0 ≤ get_or list 0 0 = in_list i (omega arith) in
        down P (get_or list i 0 - (get_or list (i + 1) 0 + 1)) (get_or list (i + 1) 0 + 1)
        (λ x u v. on x (omega arith) (l.gaps i x h (omega arith) (omega arith)))
        (subst P (let g : get_or list i 0 ≡ get_or list (i + 1) 0 + 1 + (get_or list i 0 - (get_or list (i + 1) 0 + 1)) = omega arith in g) a)

    -- behind the last one to the beginning
    pub to_start : P (get_or list m 0) → P 0
    to_start a =
        let high : get_or list m 0 ≤ get_or list 0 0 = in_list m (omega arith) in
        down P (get_or list m 0) 0 (λ x u v. on x (omega arith) (l.rest x (omega arith) (omega arith)))
        (subst P (let g : get_or list m 0 ≡ 0 + get_or list m 0 = omega arith in g) a)
