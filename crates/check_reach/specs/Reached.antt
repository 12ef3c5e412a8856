-- The two numbers that tell how far an entry reaches, put together from its locations, and what they judge. Assumes nothing.
use Rattle.std.specs.Prelude.{◌≡◌, ℕ, ◌+◌, ◌-◌, ◌≤◌, ◌<◌, max, Bool, true, false, cond, ◌&&◌, List, [], ◌∷◌, ltb}
use Rattle.std.proofs.Common.{sym, ap, ◌∙◌, arith, eq-eqb, ne_eqb, lt-ltb, le-ltb}
use Rattle.base_program.specs.declared.Instruction.{Instruction}
use Rattle.base_program.specs.Reach.{LocationSpan}
use Rattle.spec_check.specs.Check.{or}
use Rattle.check_reach.specs.declared.Reach.{Reach}
use Rattle.check_reach.specs.Needs.{need_of, fixed_needs, moved_needs, fixed_reach, moved_reach, beyond_moved, need_in}

abbrev pub reach : ℕ → ℕ → Reach
reach fixed moved = record { fixed = fixed; moved = moved }

abbrev pub reach_of : List LocationSpan → Reach
reach_of l = reach (fixed_needs l) (moved_needs l)

abbrev pub entry_reach : Instruction → Reach
entry_reach i = reach (fixed_reach i) (moved_reach i)

abbrev pub both : Reach → Reach → Reach
both a b = reach (max a.fixed b.fixed) (max a.moved b.moved)

-- with readings behind the last card or not
abbrev pub beside : Reach → Bool → Reach
beside a past = reach (max a.fixed (cond past 65536 0)) a.moved

-- ---- one location

pub need_zero : (s : LocationSpan) → s.location.number ≡ 0 → 65536 ≡ need_of s
need_zero s h = sym (ap (λ b. cond b 65536 (s.location.number + (s.reps - 1))) (eq-eqb s.location.number 0 h))

pub need_some : (s : LocationSpan) → (s.location.number ≡ 0 → ⊥) → s.location.number + (s.reps - 1) ≡ need_of s
need_some s h = sym (ap (λ b. cond b 65536 (s.location.number + (s.reps - 1))) (ne_eqb s.location.number 0 h))

max_none : (k : ℕ) → max k 0 ≡ k
max_none k = omega arith

pub one_moved : (s : LocationSpan) (k : ℕ) → s.location.indexed ≡ true → k ≡ need_of s → reach 0 k ≡ reach_of (s ∷ [])
unfolding fixed_needs moved_needs
one_moved s k h e =
    ap (reach 0) (e ∙ sym (max_none (need_of s)))
    ∙ sym (ap (λ b. reach (max (cond b 0 (need_of s)) 0) (max (cond b (need_of s) 0) 0)) h)

pub one_fixed : (s : LocationSpan) (k : ℕ) → s.location.indexed ≡ false → k ≡ need_of s → reach k 0 ≡ reach_of (s ∷ [])
unfolding fixed_needs moved_needs
one_fixed s k h e =
    ap (λ n. reach n 0) (e ∙ sym (max_none (need_of s)))
    ∙ sym (ap (λ b. reach (max (cond b 0 (need_of s)) 0) (max (cond b (need_of s) 0) 0)) h)

-- ---- more locations

pub one_more_lem : (s : LocationSpan) (r : List LocationSpan) (a b : Reach) → a ≡ reach_of (s ∷ []) → b ≡ reach_of r → both a b ≡ reach_of (s ∷ r)
unfolding fixed_needs moved_needs
one_more_lem s r a b h g =
    ap (λ x. both x b) h
    ∙ ap (both (reach_of (s ∷ []))) g
    ∙ ap (λ n. reach (max n (fixed_needs r)) (max (moved_needs (s ∷ [])) (moved_needs r))) (max_none (cond s.location.indexed 0 (need_of s)))
    ∙ ap (λ n. reach (fixed_needs (s ∷ r)) (max n (moved_needs r))) (max_none (cond s.location.indexed (need_of s) 0))

-- no readings
pub no_cards : (l : List LocationSpan) → reach_of l ≡ reach (max (fixed_needs l) 0) (moved_needs l)
no_cards l = ap (λ n. reach n (moved_needs l)) (sym (max_none (fixed_needs l)))

pub not_past : (a : Reach) (past : Bool) → past ≡ false → a ≡ beside a past
not_past a past h = ap (λ n. reach n a.moved) (sym (max_none a.fixed)) ∙ sym (ap (beside a) h)

pub is_past : (a : Reach) (past : Bool) (n : ℕ) → past ≡ true → n ≡ max a.fixed 65536 → reach n a.moved ≡ beside a past
is_past a past n h e = ap (λ k. reach k a.moved) e ∙ sym (ap (beside a) h)

-- ---- the fault

module _ (most n k : ℕ) where
  pub moved_none : k ≡ 0 → false ≡ beyond_moved most n k
  moved_none e = sym (ap (λ b. b && ltb most (k + (n - 1))) (le-ltb 0 k (omega arith)))

  pub moved_last : (k ≡ 0 → ⊥) → ltb most (k + (n - 1)) ≡ beyond_moved most n k
  moved_last e = sym (ap (λ b. b && ltb most (k + (n - 1))) (lt-ltb 0 k (omega arith)))

pub need_beyond : (most fixed k : ℕ) → most < fixed → 65536 ≡ need_in most fixed k
need_beyond most fixed k h = sym (ap (λ b. cond b 65536 k) (lt-ltb most fixed h))

pub need_within : (most fixed k : ℕ) → fixed ≤ most → k ≡ need_in most fixed k
need_within most fixed k h = sym (ap (λ b. cond b 65536 k) (le-ltb most fixed h))

module _ (u b : Bool) where
  pub judged_18 : u ≡ true → 18 ≡ or u 18 (or b 20 0)
  judged_18 h = sym (ap (λ t. or t 18 (or b 20 0)) h)

  pub judged_20 : u ≡ false → b ≡ true → 20 ≡ or u 18 (or b 20 0)
  judged_20 h g = sym (ap (λ t. or t 18 (or b 20 0)) h ∙ ap (λ t. or t 20 0) g)

  pub judged_none : u ≡ false → b ≡ false → 0 ≡ or u 18 (or b 20 0)
  judged_none h g = sym (ap (λ t. or t 18 (or b 20 0)) h ∙ ap (λ t. or t 20 0) g)
