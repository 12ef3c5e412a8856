-- The words of an array, part by part where they lie in the ring, and what stands in the values lent once they are copied. Assumes nothing.
use Rattle.std.proofs.Common.{◌≡◌, sym, ap, ◌∙◌, arith, List, ◌++◌, length, take, drop}
use Prim.Native.Nat.{ℕ, ◌+◌, ◌-◌, ◌≤◌, ◌<◌}
use borrow.Rule.Slice.PartMut.{put_mid}
use Rattle.std.proofs.lemmas.List.{length-drop, length-append, take_at, take-take, drop-take, take-append-drop, take-append-le, drop-append-le, drop-drop}
use Rattle.std.proofs.lemmas.List.Edits.{sets, sets-eq}
use Rattle.std.proofs.lemmas.Slice.{take-put_mid, drop-put_mid, drop-append-drop}
use Rattle.std.proofs.Math.Seq.{take-append-add, drop-append-add}
use Rattle.storage_ring.specs.declared.RingState.{RingState}
use Rattle.storage_ring.specs.Ring.{RingSound, by_age}
use Rattle.storage_ring.specs.RingLaws.{by_age_length_lem}
use Rattle.storage_listing.specs.declared.ArraySpan.{ArraySpan}
use Rattle.storage_listing.specs.Items.{length_held}
use Rattle.storage_listing.specs.Spans.{held}

-- ---- a part of the values lent, then the part behind it

pub put_twice : (vs x y : List ℕ) (p q : ℕ) → length x ≡ p → length y ≡ q → p + q ≤ length vs → put_mid p q (x ++ drop p vs) y ≡ (x ++ y) ++ drop (p + q) vs
put_twice vs x y p q h g room =
    let all = put_mid p q (x ++ drop p vs) y in
    let n : length (x ++ drop p vs) ≡ length vs = omega (arith, length-append x (drop p vs), length-drop p vs) in
    sym (take-append-drop (p + q) all)
    ∙ ap (λ l. l ++ drop (p + q) all) (take-put_mid p q (x ++ drop p vs) y (p + q) (omega (arith, g)) (omega (arith, n)) ∙ ap (λ l. l ++ y) (take_at x (drop p vs) p h))
    ∙ ap (λ l. (x ++ y) ++ l) (drop-put_mid p q (x ++ drop p vs) y (p + q) (omega arith) (omega (arith, n)) g ∙ drop-append-drop p vs x (p + q) (omega arith) h)

module _ (ring : List ℕ) (s : RingState) (sound : RingSound (length ring) s) (p : ArraySpan) (least : p.start < p.end) (most : p.end ≤ s.filled) where
  abbrev pub count : ℕ
  count = p.end - (p.start + 1)

  -- the place of the array's first value, before the ring goes round
  abbrev pub at : ℕ
  at = s.position + (length ring - s.filled) + p.start + 1

  -- ---- the values in the ring

  abbrev behind : ℕ
  behind = length ring - s.filled + (p.start + 1)

  turned : held (by_age ring s) p.start p.end ≡ take count (drop behind (drop s.position ring ++ take s.position ring))
  unfolding by_age
  turned = ap (take count) (drop-drop (p.start + 1) (length ring - s.filled) (drop s.position ring ++ take s.position ring))

  pub held_round : length ring ≤ at → take count (drop (at - length ring) ring) ≡ held (by_age ring s) p.start p.end
  held_round h =
      let k = at - length ring in
      let m = s.position - k in
      let b_is : behind ≡ length (drop s.position ring) + k = omega (arith, length-drop s.position ring, sound.position, sound.filled, h) in
      let p_is : s.position ≡ k + m = omega (arith, most, least, sound.filled) in
      sym
      (turned
      ∙ ap (λ n. take count (drop n (drop s.position ring ++ take s.position ring))) b_is
      ∙ ap (take count) (drop-append-add (drop s.position ring) (take s.position ring) k)
      ∙ ap (λ n. take count (drop k (take n ring))) p_is
      ∙ ap (take count) (drop-take k m ring)
      ∙ take-take count m (drop k ring) (omega (arith, most, least, sound.filled, h)))

  before : at < length ring → held (by_age ring s) p.start p.end ≡ take count (drop at ring ++ take s.position ring)
  before h =
      turned
      ∙ ap (take count) (drop-append-le behind (drop s.position ring) (take s.position ring) (omega (arith, length-drop s.position ring, sound.position, h)))
      ∙ ap (λ l. take count (l ++ take s.position ring)) (drop-drop behind s.position ring)
      ∙ ap (λ n. take count (drop n ring ++ take s.position ring)) (let g : s.position + behind ≡ at = omega arith in g)

  pub held_one : at < length ring → at + count ≤ length ring → take count (drop at ring) ≡ held (by_age ring s) p.start p.end
  held_one h g = sym (before h ∙ take-append-le count (drop at ring) (take s.position ring) (omega (arith, length-drop at ring, g)))

  pub held_two : at < length ring → length ring < at + count → drop at ring ++ take (count - (length ring - at)) ring ≡ held (by_age ring s) p.start p.end
  held_two h g =
      let k = count - (length ring - at) in
      let c_is : count ≡ length (drop at ring) + k = omega (arith, length-drop at ring, g, h) in
      sym
      (before h
      ∙ ap (λ n. take n (drop at ring ++ take s.position ring)) c_is
      ∙ take-append-add (drop at ring) (take s.position ring) k
      ∙ ap (λ l. drop at ring ++ l) (take-take k s.position ring (omega (arith, most, least, sound.filled, g, h))))

  -- ---- in front of the values lent

  pub copied : (vs x : List ℕ) → length vs ≡ length ring → x ≡ held (by_age ring s) p.start p.end → x ++ drop count vs ≡ sets vs 0 (held (by_age ring s) p.start p.end)
  copied vs x h e =
      let n = length_held (by_age ring s) p.start p.end (omega (arith, most, by_age_length_lem ring s sound)) in
      sym
      (sets-eq (held (by_age ring s) p.start p.end) vs 0 (omega (arith, n, most, sound.filled, h))
      ∙ ap (λ l. l ++ drop (0 + length (held (by_age ring s) p.start p.end)) vs) (sym e)
      ∙ ap (λ m. x ++ drop m vs) (let g : 0 + length (held (by_age ring s) p.start p.end) ≡ count = omega (arith, n) in g))
