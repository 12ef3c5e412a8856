-- Writing a word appends it to the words by age and drops the oldest beyond the ring's length: the ring turned so that its oldest word
-- comes first loses that word at the front and gains the new one at the end. Assumes nothing.
use Rattle.std.specs.Prelude.{◌≡◌, refl, List, [], ◌∷◌, ◌++◌, Bool, true, false, ltb, get_or, set}
use Rattle.std.proofs.Math.Path.{sym, ap, subst}
use Rattle.std.proofs.Common.{◌∙◌, mod-eq_of_lt, mod-lt, add-one, append_assoc, append-nil, ltb-true, ltb-false, length-append, length-take, length-drop, drop_of_length-le, drop-cons, drop-drop, drop-set-lt, take-suc-set, get_or-take, get_or-append-add}
use Prim.Native.Nat.{ℕ, suc, ◌+◌, ◌-◌, ◌%◌, ◌≤◌, ◌<◌, min}
use Rattle.std.proofs.Math.Nat.{mod_self}
use native.Mathlib.Omega.{arith}
use Rattle.std.proofs.Math.ListN.{length, take, drop, length-set, get_or-append}
use Rattle.std.proofs.Math.Seq.{drop-append-le, get_or-drop}
use Rattle.std.proofs.lemmas.List.{set_split}
use Rattle.storage_ring.specs.declared.RingState.{RingState}
use Rattle.storage_ring.specs.Ring.{RingSound, by_age, advanced, latest}

-- the ring from place p round to it
turned : List ℕ → ℕ → List ℕ
turned l p = drop p l ++ take p l

length_turned : (l : List ℕ) (p : ℕ) → p ≤ length l → length (turned l p) ≡ length l
unfolding turned
length_turned l p h = simp (length-append, length-drop, length-take) (omega arith)

-- without its oldest word
later : (l : List ℕ) (p : ℕ) → p < length l → drop 1 (turned l p) ≡ drop (suc p) l ++ take p l
unfolding turned
later l p h = ap (λ x. drop 1 (x ++ take p l)) (drop-cons l p 0 h)

-- the new word in front of the place behind it, which is the first place again at the end
stored_inside : (l : List ℕ) (p w : ℕ) → p + 1 < length l → turned (set l p w) ((p + 1) % length l) ≡ drop 1 (turned l p) ++ (w ∷ [])
unfolding turned
stored_inside l p w h =
    ap (λ k. drop k (set l p w) ++ take k (set l p w)) (mod-eq_of_lt h ∙ add-one p)
    ∙ ap (λ x. x ++ take (suc p) (set l p w)) (drop-set-lt (suc p) l p w (omega arith))
    ∙ ap (λ x. drop (suc p) l ++ x) (take-suc-set l p w (omega arith))
    ∙ sym (append_assoc (drop (suc p) l) (take p l) (w ∷ []))
    ∙ ap (λ x. x ++ (w ∷ [])) (sym (later l p (omega arith)))

stored_last : (l : List ℕ) (p w : ℕ) → p + 1 ≡ length l → turned (set l p w) ((p + 1) % length l) ≡ drop 1 (turned l p) ++ (w ∷ [])
unfolding turned
stored_last l p w h =
    ap (λ k. drop k (set l p w) ++ take k (set l p w)) (ap (λ k. k % length l) h ∙ mod_self (length l))
    ∙ append-nil (set l p w)
    ∙ set_split l p w (omega arith)
    ∙ ap (λ x. take p l ++ (w ∷ x)) (drop_of_length-le l {i = suc p} (omega arith))
    ∙ ap (λ x. (x ++ take p l) ++ (w ∷ [])) (sym (drop_of_length-le l {i = suc p} (omega arith)))
    ∙ ap (λ x. x ++ (w ∷ [])) (sym (later l p (omega arith)))

stored : (l : List ℕ) (p w : ℕ) → p < length l → turned (set l p w) ((p + 1) % length l) ≡ drop 1 (turned l p) ++ (w ∷ [])
stored l p w h = by (ltb (p + 1) (length l)) refl
  where
    by : (b : Bool) → ltb (p + 1) (length l) ≡ b → turned (set l p w) ((p + 1) % length l) ≡ drop 1 (turned l p) ++ (w ∷ [])
    by true e = stored_inside l p w (ltb-true (p + 1) (length l) e)
    by false e = stored_last l p w (omega (arith, ltb-false (p + 1) (length l) e))

-- ---- with the filled words only

pub by_age_length_lem : (ring : List ℕ) (s : RingState) → RingSound (length ring) s → length (by_age ring s) ≡ s.filled
unfolding by_age turned
by_age_length_lem ring s sound =
    length-drop (length ring - s.filled) (drop s.position ring ++ take s.position ring)
    ∙ ap (λ k. k - (length ring - s.filled)) (length_turned ring s.position (omega (arith, sound.position)))
    ∙ omega (arith, sound.filled)

module _ (ring : List ℕ) (s : RingState) (w : ℕ) (sound : RingSound (length ring) s) where
  -- the ring turned, with the word written
  after : List ℕ
  after = drop 1 (turned ring s.position) ++ (w ∷ [])

  by_age_after_lem : by_age (set ring s.position w) (advanced (length ring) s) ≡ drop (length ring - min (s.filled + 1) (length ring)) after
  unfolding by_age advanced turned after
  by_age_after_lem =
      ap (λ k. drop (k - min (s.filled + 1) (length ring)) (turned (set ring s.position w) ((s.position + 1) % length ring))) (length-set ring s.position w)
      ∙ ap (λ x. drop (length ring - min (s.filled + 1) (length ring)) x) (stored ring s.position w sound.position)

  length_first : length (drop 1 (turned ring s.position)) ≡ length ring - 1
  length_first =
      length-drop 1 (turned ring s.position)
      ∙ ap (λ k. k - 1) (length_turned ring s.position (omega (arith, sound.position)))

  length_more : length (by_age ring s ++ (w ∷ [])) ≡ s.filled + 1
  length_more = length-append (by_age ring s) (w ∷ []) ∙ ap (λ k. k + 1) (by_age_length_lem ring s sound)

  -- there is room: nothing is dropped
  with_room : s.filled < length ring → drop (length ring - min (s.filled + 1) (length ring)) after ≡ latest (length ring) (by_age ring s ++ (w ∷ []))
  unfolding by_age turned after
  with_room h =
      ap (λ k. drop k after) (let g : length ring - min (s.filled + 1) (length ring) ≡ length ring - (s.filled + 1) = omega arith in g)
      ∙ drop-append-le (length ring - (s.filled + 1)) (drop 1 (turned ring s.position)) (w ∷ []) (omega (arith, length_first))
      ∙ ap (λ x. x ++ (w ∷ [])) (drop-drop (length ring - (s.filled + 1)) 1 (turned ring s.position))
      ∙ ap (λ k. drop k (turned ring s.position) ++ (w ∷ [])) (let g : 1 + (length ring - (s.filled + 1)) ≡ length ring - s.filled = omega arith in g)
      ∙ ap (λ k. drop k (by_age ring s ++ (w ∷ []))) (let g : 0 ≡ length (by_age ring s ++ (w ∷ [])) - length ring = omega (arith, length_more) in g)

  -- the ring is full: the oldest word goes
  when_full : s.filled ≡ length ring → drop (length ring - min (s.filled + 1) (length ring)) after ≡ latest (length ring) (by_age ring s ++ (w ∷ []))
  unfolding by_age turned after
  when_full h =
      ap (λ k. drop k after) (let g : length ring - min (s.filled + 1) (length ring) ≡ 0 = omega arith in g)
      ∙ sym (drop-append-le 1 (turned ring s.position) (w ∷ []) (omega (arith, length_turned ring s.position (omega (arith, sound.position)), sound.position)))
      ∙ ap (λ k. drop 1 (drop k (turned ring s.position) ++ (w ∷ []))) (let g : 0 ≡ length ring - s.filled = omega arith in g)
      ∙ ap (λ k. drop k (by_age ring s ++ (w ∷ []))) (let g : 1 ≡ length (by_age ring s ++ (w ∷ [])) - length ring = omega (arith, length_more) in g)

  -- 'a new word overwrites the oldest': the words by age are then the last ones of those before and the new one
  pub write_appends : by_age (set ring s.position w) (advanced (length ring) s) ≡ latest (length ring) (by_age ring s ++ (w ∷ []))
  write_appends = by_age_after_lem ∙ by (ltb s.filled (length ring)) refl
    where
      by : (b : Bool) → ltb s.filled (length ring) ≡ b → drop (length ring - min (s.filled + 1) (length ring)) after ≡ latest (length ring) (by_age ring s ++ (w ∷ []))
      by true e = with_room (ltb-true s.filled (length ring) e)
      by false e = when_full (omega (arith, ltb-false s.filled (length ring) e, sound.filled))

  -- and the state stays sound
  pub write_sound : RingSound (length (set ring s.position w)) (advanced (length ring) s)
  unfolding advanced
  write_sound =
      record {
        least = omega (arith, length-set ring s.position w, sound.least);
        most = omega (arith, length-set ring s.position w, sound.most);
        position = subst (λ n. (s.position + 1) % length ring < n) (sym (length-set ring s.position w)) (mod-lt (s.position + 1) sound.least);
        filled = omega (arith, length-set ring s.position w);
      }

-- The same from what `write_word` ensures.
pub written_sound : (ring ring' : List ℕ) (s r : RingState) (w : ℕ) → RingSound (length ring) s → r ≡ advanced (length ring) s → ring' ≡ set ring s.position w → (length ring' ≡ length ring) × RingSound (length ring') r
written_sound ring ring' s r w sound r_is ring_is = (
  ap length ring_is ∙ length-set ring s.position w,
  subst (λ l. RingSound (length l) r) (sym ring_is) (subst (λ x. RingSound (length (set ring s.position w)) x) (sym r_is) (write_sound ring s w sound)),
)

-- ---- the word with i older ones

module _ (ring : List ℕ) (s : RingState) (sound : RingSound (length ring) s) (i : ℕ) (inside : i < s.filled) where
  turned_at : get_or (by_age ring s) i 0 ≡ get_or (drop s.position ring ++ take s.position ring) (length ring - s.filled + i) 0
  unfolding by_age
  turned_at = get_or-drop (length ring - s.filled) (drop s.position ring ++ take s.position ring) i 0

  pub word_before_end : s.position + (length ring - s.filled) + i < length ring → get_or ring (s.position + (length ring - s.filled) + i) 0 ≡ get_or (by_age ring s) i 0
  word_before_end h =
      sym
      (turned_at
      ∙ get_or-append (drop s.position ring) (take s.position ring) 0 (length ring - s.filled + i) (omega (arith, length-drop s.position ring))
      ∙ get_or-drop s.position ring (length ring - s.filled + i) 0
      ∙ ap (λ n. get_or ring n 0) (let g : s.position + (length ring - s.filled + i) ≡ s.position + (length ring - s.filled) + i = omega arith in g))

  pub word_round : length ring ≤ s.position + (length ring - s.filled) + i → get_or ring (s.position + (length ring - s.filled) + i - length ring) 0 ≡ get_or (by_age ring s) i 0
  word_round h =
      sym
      (turned_at
      ∙ ap (λ n. get_or (drop s.position ring ++ take s.position ring) n 0)
      (let g : length ring - s.filled + i ≡ length (drop s.position ring) + (s.position + (length ring - s.filled) + i - length ring) = omega (arith, length-drop s.position ring, sound.position) in g)
      ∙ get_or-append-add (drop s.position ring) (take s.position ring) (s.position + (length ring - s.filled) + i - length ring) 0
      ∙ get_or-take s.position ring (s.position + (length ring - s.filled) + i - length ring) 0 (omega (arith, sound.filled, sound.position)))
