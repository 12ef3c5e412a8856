-- The refusals of a ring, test by test, and what no refusal says. Assumes nothing.
use Rattle.std.proofs.Math.Path.{◌≡◌, refl, sym, ap}
use Rattle.std.proofs.Common.{◌∙◌, arith}
use Prim.Native.Nat.{ℕ, ◌≤◌, ◌<◌}
use Rattle.std.specs.Prelude.{Option, Result, Ok, Err, Bool, ◌&&◌, List, length, ltb}
use Rattle.std.proofs.Math.Bool.{true, false, cond}
use Rattle.std.proofs.Math.Dec.{leb}
use borrow.Author.Tests.{lt-ltb, le-ltb, le-leb, lt-leb, ltb-true, leb-true}
use Rattle.base_laws.specs.Tests.{not_second, and_both}
use Rattle.storage_ring.specs.declared.RingState.{RingState}
use Rattle.storage_ring.specs.Ring.{RingSound, by_age, sound_length, sound_state}
use Rattle.storage_listing.specs.declared.Item.{Item}
use Rattle.storage_listing.specs.Listing.{arrays, shown, nth, item_of, ring_refusal, unless_refused, listed}

pub err_ok : {r : ℕ} → ◌≡◌ {A = Result (Unit {0}) ℕ} (Err r) (Ok tt) → ⊥
err_ok {r} e = let z : ◌≡◌ {A = ℕ} 0 1 = cc in omega arith

module _ (n : ℕ) (s : RingState) where
  pub refused_empty : n ≡ 0 → Err 31 ≡ ring_refusal n s
  unfolding ring_refusal
  refused_empty h = sym (ap (λ b. cond (b && leb n 32768) (cond (sound_state n s) (Ok tt) (Err 32)) (Err 31)) (lt-leb 1 n (omega (arith, h))))

  pub refused_long : 32768 < n → Err 31 ≡ ring_refusal n s
  unfolding ring_refusal
  refused_long h =
      sym
      (ap (λ b. cond (leb 1 n && b) (cond (sound_state n s) (Ok tt) (Err 32)) (Err 31)) (lt-leb n 32768 h)
      ∙ ap (λ b. cond b (cond (sound_state n s) (Ok tt) (Err 32)) (Err 31)) (not_second (leb 1 n) refl))

  module _ (least : 1 ≤ n) (most : n ≤ 32768) where
    length_sound : ring_refusal n s ≡ cond (sound_state n s) (Ok tt) (Err 32)
    unfolding ring_refusal
    length_sound =
        ap (λ b. cond (b && leb n 32768) (cond (sound_state n s) (Ok tt) (Err 32)) (Err 31)) (le-leb 1 n least)
        ∙ ap (λ b. cond b (cond (sound_state n s) (Ok tt) (Err 32)) (Err 31)) (le-leb n 32768 most)

    pub refused_position : n ≤ s.position → Err 32 ≡ ring_refusal n s
    refused_position h = sym (length_sound ∙ ap (λ b. cond (b && leb s.filled n) (Ok tt) (Err 32)) (le-ltb s.position n h))

    pub refused_filled : n < s.filled → Err 32 ≡ ring_refusal n s
    refused_filled h =
        sym
        (length_sound
        ∙ ap (λ b. cond (ltb s.position n && b) (Ok tt) (Err 32)) (lt-leb s.filled n h)
        ∙ ap (λ b. cond b (Ok tt) (Err 32)) (not_second (ltb s.position n) refl))

    pub not_refused : s.position < n → s.filled ≤ n → Ok tt ≡ ring_refusal n s
    not_refused p f =
        sym
        (length_sound
        ∙ ap (λ b. cond (b && leb s.filled n) (Ok tt) (Err 32)) (lt-ltb s.position n p)
        ∙ ap (λ b. cond b (Ok tt) (Err 32)) (le-leb s.filled n f))

  -- a ring that is not refused
  pub sound_ring : ring_refusal n s ≡ Ok tt → RingSound n s
  unfolding ring_refusal
  sound_ring h = by (sound_length n) refl h
    where
      by : (b : Bool) → sound_length n ≡ b → ◌≡◌ {A = Result (Unit {0}) ℕ} (cond b (cond (sound_state n s) (Ok tt) (Err 32)) (Err 31)) (Ok tt) → RingSound n s
      by false e q = absurd (err_ok q)
      by true e q = on (sound_state n s) refl q
        where
          on : (t : Bool) → sound_state n s ≡ t → ◌≡◌ {A = Result (Unit {0}) ℕ} (cond t (Ok tt) (Err 32)) (Ok tt) → RingSound n s
          on false g r = absurd (err_ok r)
          on true g r =
              let l = and_both (leb 1 n) (leb n 32768) e in
              let m = and_both (ltb s.position n) (leb s.filled n) g in
              record { least = leb-true 1 n l.0; most = leb-true n 32768 l.1; position = ltb-true s.position n m.0; filled = leb-true s.filled n m.1 }

pub sound_not_refused : (n : ℕ) (s : RingState) → RingSound n s → ring_refusal n s ≡ Ok tt
sound_not_refused n s g = sym (not_refused n s g.least g.most g.position g.filled)

module _ (ring : List ℕ) (s : RingState) (k j : ℕ) where
  abbrev item : Option Item
  item = item_of j (nth k (shown (arrays (by_age ring s))))

  pub list_refused : (r : ℕ) → Err r ≡ ring_refusal (length ring) s → Err r ≡ listed ring s k j
  unfolding listed
  list_refused r e = ap (λ n. unless_refused n item) e

  pub list_answered : ring_refusal (length ring) s ≡ Ok tt → Ok item ≡ listed ring s k j
  unfolding listed
  list_answered h = sym (ap (λ n. unless_refused n item) h)
