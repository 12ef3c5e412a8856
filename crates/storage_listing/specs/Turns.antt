-- What a call with a cursor does, case by case. Assumes nothing.
use Rattle.std.specs.Prelude.{◌≡◌, Bool, true, false, ◌&&◌, Option, Ok, Err, List, ◌∷◌, length, get_or, set, drop}
use Rattle.std.proofs.Math.Path.{sym, ap}
use Rattle.std.proofs.Common.{◌∙◌, arith, add-one, drop_of_length-le, drop-cons, get_or-take, get_or-drop}
use Prim.Native.Nat.{ℕ, suc, ◌+◌, ◌-◌, ◌≤◌, ◌<◌}
use Rattle.std.proofs.Math.Bool.{cond}
use Rattle.std.proofs.lemmas.List.Edits.{sets}
use Rattle.storage_ring.specs.declared.RingState.{RingState}
use Rattle.storage_ring.specs.Ring.{RingSound, by_age}
use Rattle.storage_ring.specs.RingLaws.{word_before_end, word_round}
use Rattle.storage_listing.specs.declared.ArraySpan.{ArraySpan}
use Rattle.storage_listing.specs.declared.Cursor.{Cursor}
use Rattle.storage_listing.specs.declared.NextError.{NextError}
use Rattle.storage_listing.specs.Items.{length_held}
use Rattle.storage_listing.specs.Spans.{spans_from, first, held}
use Rattle.storage_listing.specs.Stepped.{is_current, stands, left, arrived, stepped_on, next_refusal, stepped_unless, stepped}

module _ (ring : List ℕ) (s : RingState) (c : Cursor) (vs : List ℕ) where
  pub stepped_refused : (r : ℕ) → Err r ≡ next_refusal (length ring) s (length vs) → left (Err (NextError.Refused r)) c vs ≡ stepped ring s c vs
  unfolding stepped
  stepped_refused r e = ap (λ n. stepped_unless n (stepped_on (by_age ring s) s c vs) c vs) e

  module _ (taken : next_refusal (length ring) s (length vs) ≡ Ok tt) where
    on : stepped_on (by_age ring s) s c vs ≡ stepped ring s c vs
    unfolding stepped
    on = sym (ap (λ n. stepped_unless n (stepped_on (by_age ring s) s c vs) c vs) taken)

    goes : (b : Bool) → is_current s c && stands (by_age ring s) c.from ≡ b
        → cond b (arrived (by_age ring s) s c vs (first (spans_from (by_age ring s) c.from))) (left (Err NextError.MovedOn) c vs) ≡ stepped ring s c vs
    unfolding stepped_on
    goes b h =
        sym (ap (λ t. cond t (arrived (by_age ring s) s c vs (first (spans_from (by_age ring s) c.from))) (left (Err NextError.MovedOn) c vs)) h) ∙ on

    pub stepped_moved : is_current s c ≡ false → left (Err NextError.MovedOn) c vs ≡ stepped ring s c vs
    stepped_moved h = goes false (ap (λ b. b && stands (by_age ring s) c.from) h)

    pub stepped_astray : is_current s c ≡ true → stands (by_age ring s) c.from ≡ false → left (Err NextError.MovedOn) c vs ≡ stepped ring s c vs
    stepped_astray h g = goes false (ap (λ b. b && stands (by_age ring s) c.from) h ∙ g)

    pub stepped_found : is_current s c ≡ true → stands (by_age ring s) c.from ≡ true → (f : Option ArraySpan) → f ≡ first (spans_from (by_age ring s) c.from)
        → arrived (by_age ring s) s c vs f ≡ stepped ring s c vs
    stepped_found h g f e = ap (arrived (by_age ring s) s c vs) e ∙ goes true (ap (λ b. b && stands (by_age ring s) c.from) h ∙ g)

-- ---- the values, word by word

module _ (ws vs all : List ℕ) (a e k : ℕ) (most : e ≤ length ws) where
  -- the next word is written where it belongs
  pub copy_next : (w : ℕ) → k < e - (a + 1) → w ≡ get_or ws (a + 1 + k) 0 → sets vs k (drop k (held ws a e)) ≡ all
      → sets (set vs k w) (k + 1) (drop (k + 1) (held ws a e)) ≡ all
  copy_next w h is before =
      let at : drop k (held ws a e) ≡ w ∷ drop (suc k) (held ws a e) =
      drop-cons (held ws a e) k 0 (omega (arith, length_held ws a e most, h))
      ∙ ap (λ x. x ∷ drop (suc k) (held ws a e)) (get_or-take (e - (a + 1)) (drop (a + 1) ws) k 0 h ∙ get_or-drop (a + 1) ws k 0 ∙ sym is) in
      ap (λ n. sets (set vs k w) n (drop n (held ws a e))) (add-one k) ∙ sym (ap (sets vs k) at) ∙ before

  pub copy_over : e - (a + 1) ≤ k → sets vs k (drop k (held ws a e)) ≡ all → vs ≡ all
  copy_over h before = sym (ap (sets vs k) (drop_of_length-le (held ws a e) {i = k} (omega (arith, length_held ws a e most, h)))) ∙ before

-- where it lies in the ring
module _ (ring : List ℕ) (s : RingState) (sound : RingSound (length ring) s) (a e k : ℕ) (more : k < e - (a + 1)) (most : e ≤ s.filled) where
  abbrev place : ℕ
  place = s.position + (length ring - s.filled) + (a + 1) + k

  same_place : s.position + (length ring - s.filled) + (a + 1 + k) ≡ place
  same_place = omega arith

  pub word_before : place < length ring → get_or ring place 0 ≡ get_or (by_age ring s) (a + 1 + k) 0
  word_before h =
      ap (λ m. get_or ring m 0) (sym same_place) ∙ word_before_end ring s sound (a + 1 + k) (omega (arith, more, most)) (omega (arith, h))

  pub word_behind : length ring ≤ place → get_or ring (place - length ring) 0 ≡ get_or (by_age ring s) (a + 1 + k) 0
  word_behind h =
      ap (λ m. get_or ring (m - length ring) 0) (sym same_place) ∙ word_round ring s sound (a + 1 + k) (omega (arith, more, most)) (omega (arith, h))
