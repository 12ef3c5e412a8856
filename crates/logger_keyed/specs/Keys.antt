-- The refusals of the two keyings, one test after the other: by the definitions. Assumes nothing.
use Rattle.std.specs.Prelude.{◌≡◌, refl, ℕ, zero, suc, List, ◌≤◌, ◌<◌, Bool, true, false, not, ◌&&◌, ◌⊎◌, eqb, leb, Float}
use Rattle.std.proofs.Common.{sym, ap, ◌∙◌, inl, inr, leb-true, eq-eqb, ne_eqb, le-leb}
use Rattle.std.proofs.lemmas.Bool.{lt-leb}
use Rattle.base_float.specs.Finite.{finite}
use Rattle.base_program.specs.declared.Program.{Program}
use Rattle.spec_check.specs.declared.Verdict.{Verdict}
use Rattle.base_program.specs.Codes.{between}
use Rattle.spec_check.specs.Check.{check, or}
use Rattle.spec_calls.specs.Refusals.{is_pass, key_refusal, flag_refusal}
use Rattle.spec_calls.specs.Answers.{keyed}
use Rattle.scan_refusals.specs.Tests.{refused, not_refused}
use Rattle.base_laws.specs.Tests.{and_no, and_yes, and_both}

pub pass_is : (w : Verdict) (first second : ℕ) → w ≡ Verdict.Pass first second → is_pass w ≡ true
unfolding is_pass
pass_is w first second e = ap is_pass e

pub fault_is : (w : Verdict) (number table entry : ℕ) → w ≡ Verdict.Fault number table entry → is_pass w ≡ false
unfolding is_pass
fault_is w number table entry e = ap is_pass e

pub between_low : (least most n : ℕ) → n < least → between least most n ≡ false
between_low least most n h = sym (and_no (leb least n) (leb n most) (lt-leb least n h))

pub between_high : (least most n : ℕ) → least ≤ n → most < n → between least most n ≡ false
between_high least most n l h = sym (and_yes (leb least n) (leb n most) false (le-leb least n l) (sym (lt-leb n most h)))

pub between_out : (least most n : ℕ) → (n < least) ⊎ ((least ≤ n) × (most < n)) → between least most n ≡ false
between_out least most n (inl h) = between_low least most n h
between_out least most n (inr h) = between_high least most n h.0 h.1

pub between_in : (least most n : ℕ) → least ≤ n → n ≤ most → between least most n ≡ true
between_in least most n l h = sym (and_yes (leb least n) (leb n most) true (le-leb least n l) (sym (le-leb n most h)))

-- The record passes or not; I is i, and n locations are lent; location k is keyed.
unfoldable pub key_behind : Bool → ℕ → ℕ → ℕ → Float → ℕ
key_behind passes i n k v = or (not passes) 30 (or (not (eqb n i)) 31 (or (not (between 1 i k && finite v)) 34 0))

module _ (passes : Bool) (i n k : ℕ) (v : Float) where
  abbrev pub asked : Bool
  asked = between 1 i k && finite v

  pub key_30 : passes ≡ false → 30 ≡ key_behind passes i n k v
  unfolding key_behind
  key_30 h = refused passes 30 _ h

  module _ (passed : passes ≡ true) where
    pub key_31 : (n ≡ i → ⊥) → 31 ≡ key_behind passes i n k v
    unfolding key_behind
    key_31 h = not_refused passes 30 _ 31 passed (refused (eqb n i) 31 _ (ne_eqb n i h))

    module _ (all : n ≡ i) where
      pub key_34 : asked ≡ false → 34 ≡ key_behind passes i n k v
      unfolding key_behind
      key_34 h = not_refused passes 30 _ 34 passed (not_refused (eqb n i) 31 _ 34 (eq-eqb n i all) (refused asked 34 0 h))

      pub key_0 : asked ≡ true → 0 ≡ key_behind passes i n k v
      unfolding key_behind
      key_0 h = not_refused passes 30 _ 0 passed (not_refused (eqb n i) 31 _ 0 (eq-eqb n i all) (not_refused asked 34 0 0 h refl))

  pub asked_in : asked ≡ true → (1 ≤ k) × (k ≤ i)
  asked_in h =
      let b = and_both (leb 1 k) (leb k i) (and_both (between 1 i k) (finite v) h).0 in
      (leb-true 1 k b.0, leb-true k i b.1)

pub key_told : (p : Program) (w : Verdict) (i n k : ℕ) (v : Float) → w ≡ check p → i ≡ p.locations → key_behind (is_pass w) i n k v ≡ key_refusal p n k v
unfolding key_behind key_refusal
key_told p w i n k v c e = ap (λ (y : Verdict). key_behind (is_pass y) i n k v) c ∙ ap (λ j. key_behind (is_pass (check p)) j n k v) e

-- flag f is keyed
unfoldable pub flag_behind : Bool → ℕ → ℕ
flag_behind passes f = or (not passes) 30 (or (not (between 1 8 f)) 34 0)

module _ (passes : Bool) (f : ℕ) where
  pub flag_30 : passes ≡ false → 30 ≡ flag_behind passes f
  unfolding flag_behind
  flag_30 h = refused passes 30 _ h

  pub flag_34 : passes ≡ true → between 1 8 f ≡ false → 34 ≡ flag_behind passes f
  unfolding flag_behind
  flag_34 passed h = not_refused passes 30 _ 34 passed (refused (between 1 8 f) 34 0 h)

  pub flag_0 : passes ≡ true → between 1 8 f ≡ true → 0 ≡ flag_behind passes f
  unfolding flag_behind
  flag_0 passed h = not_refused passes 30 _ 0 passed (not_refused (between 1 8 f) 34 0 0 h refl)

pub flag_told : (p : Program) (w : Verdict) (f : ℕ) → w ≡ check p → flag_behind (is_pass w) f ≡ flag_refusal p f
unfolding flag_behind flag_refusal
flag_told p w f c = ap (λ (y : Verdict). flag_behind (is_pass y) f) c

-- a refused keying leaves the locations
pub left_alone : (number k : ℕ) (v : Float) (l : List Float) → (number ≡ 0 → ⊥) → l ≡ keyed number k v l
unfolding keyed
left_alone zero k v l h = absurd (h refl)
left_alone (suc n) k v l h = refl
