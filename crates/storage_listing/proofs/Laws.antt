-- A call answers the first array of the words from the cursor on, and leaves the cursor behind it; the listing of the words from a word on is the
-- end of the whole listing. Assumes nothing.
use Rattle.std.specs.Prelude.{◌≡◌, Option, Some, None, Result, Ok, Err, Bool, ◌&&◌, ◌||◌, take, drop}
use Rattle.std.proofs.Math.Path.{refl, sym, ap}
use Rattle.std.proofs.Common.{◌∙◌, arith, zero-add, suc-add}
use Prim.Native.Nat.{ℕ, zero, suc, ◌+◌, ◌-◌, ◌≤◌, ◌<◌}
use Rattle.std.proofs.Math.Bool.{true, false, cond}
use mathlib.Core.List.{List, [], ◌∷◌, ◌++◌, map}
use Rattle.std.proofs.lemmas.Option.{none-some, same_Some}
use Rattle.std.proofs.Math.ListN.{length, get_or, get_elem?, replicate}
use Rattle.std.proofs.lemmas.List.Edits.{sets, sets-eq}
use Rattle.std.proofs.Math.Seq.{length-sets, take-append_seam}
use Rattle.std.proofs.Math.Dec.{eqb}
use borrow.Author.Tests.{eq-eqb, eqb-true}
use Rattle.storage_word.specs.Word.{is_start}
use Rattle.storage_ring.specs.declared.RingState.{RingState}
use Rattle.storage_ring.specs.Ring.{RingSound, by_age}
use Rattle.storage_ring.specs.RingLaws.{by_age_length_lem}
use Rattle.storage_listing.specs.declared.ArraySpan.{ArraySpan}
use Rattle.storage_listing.specs.declared.Cursor.{Cursor}
use Rattle.storage_listing.specs.declared.NextError.{NextError}
use Rattle.storage_listing.specs.Listing.{Array, array, up_to_start, all_values, arrays, shown, nth, ring_refusal}
use Rattle.storage_listing.specs.Items.{length_held}
use Rattle.storage_listing.proofs.RefusalLaws.{err_ok, sound_ring, sound_not_refused}
use Rattle.storage_listing.specs.Spans.{span, spans, spans_from, first, held}
use Rattle.storage_listing.proofs.Spots.{array_at, spot, shown_spans, missing_array}
use Rattle.storage_listing.proofs.Standing.{or_true, stands_given, stands_nowhere}
use Rattle.storage_listing.specs.Stepped.{cursor, begin, is_current, stands, Stepped, left, arrived, stepped_on, next_refusal, stepped_unless, stepped}
use Rattle.storage_listing.specs.Turns.{stepped_moved, stepped_astray, stepped_found}
use Rattle.storage_listing.specs.Whole.{told, told_in, tells, listing, IsNext, AnyCursor, AtNoArray, answers, WholeListing}

-- ---- the words from n on

pub listing_from : (ws : List ℕ) (n : ℕ) → (k : ℕ) × (drop k (shown (arrays ws)) ≡ shown (arrays (drop n ws)))
unfolding arrays shown
listing_from ws zero = (0, refl)
listing_from [] (suc n) = (0, refl)
listing_from (w ∷ ws) (suc n) = by (is_start w) (listing_from ws n)
  where
    by : (t : Bool) → (k : ℕ) × (drop k (shown (arrays ws)) ≡ shown (arrays (drop n ws)))
        → (k : ℕ) × (drop k (shown (cond t (array w (up_to_start ws) ∷ arrays ws) (arrays ws))) ≡ shown (arrays (drop n ws)))
    by false z = z
    by true z = on (all_values (up_to_start ws))
      where
        on : (v : Bool) → (k : ℕ) × (drop k (cond v (array w (up_to_start ws) ∷ shown (arrays ws)) (shown (arrays ws))) ≡ shown (arrays (drop n ws)))
        on true = (suc z.0, z.1)
        on false = z

-- the array that is found from word n on, and those behind it
pub record FoundAt (ws : List ℕ) (n : ℕ) (q : ArraySpan) : Type 0 where
  pub shown_on : shown (arrays (drop n ws)) ≡ array_at ws q ∷ shown (arrays (drop q.end ws))
  pub from : n ≤ q.start
  pub least : q.start < q.end
  pub most : q.end ≤ length ws

-- no array begins before the words
first_from : (n : ℕ) (l : List ℕ) (q : ArraySpan) → first (spans n l) ≡ Some q → n ≤ q.start
unfolding spans
first_from n [] q h = absurd (missing_array h)
first_from n (w ∷ l) q h = by (is_start w && all_values (up_to_start l)) h (first_from (n + 1) l q)
  where
    by : (b : Bool) → first (cond b (span n (n + 1 + length (up_to_start l)) ∷ spans (n + 1) l) (spans (n + 1) l)) ≡ Some q
        → (first (spans (n + 1) l) ≡ Some q → n + 1 ≤ q.start) → n ≤ q.start
    by true g later = let z : n ≡ q.start = ap (λ x. x.start) (same_Some _ q g) in omega (arith, z)
    by false g later = omega (arith, later g)

module _ (ws : List ℕ) (n : ℕ) where
  pub found_array : (p : ArraySpan) → first (spans_from ws n) ≡ Some p → FoundAt ws n p
  found_array p h = by (spans_from ws n) refl h
    where
      by : (l : List ArraySpan) → spans_from ws n ≡ l → first l ≡ Some p → FoundAt ws n p
      by [] q g = absurd (missing_array g)
      by (r ∷ rest) q g =
          let l_is : spans_from ws n ≡ p ∷ rest = q ∙ ap (λ (x : ArraySpan). x ∷ rest) (same_Some r p g) in
          let s = spot ws 0 n (drop n ws) p refl (ap (λ (x : List ArraySpan). get_elem? x 0) l_is) in
          record {
            shown_on =
                sym (shown_spans ws n (drop n ws) refl)
                ∙ ap (map (array_at ws)) l_is
                ∙ ap (λ (x : List ArraySpan). array_at ws p ∷ map (array_at ws) x) (sym (ap (drop 1) l_is) ∙ s.behind)
                ∙ ap (λ x. array_at ws p ∷ x) (shown_spans ws p.end (drop p.end ws) refl);
            from = first_from n (drop n ws) p h;
            least = s.least;
            most = s.most;
          }

  pub found_none : first (spans_from ws n) ≡ None → shown (arrays (drop n ws)) ≡ []
  found_none h = by (spans_from ws n) refl h
    where
      by : (l : List ArraySpan) → spans_from ws n ≡ l → first l ≡ None → shown (arrays (drop n ws)) ≡ []
      by [] q g = sym (shown_spans ws n (drop n ws) refl) ∙ ap (map (array_at ws)) q
      by (p ∷ rest) q g = absurd (missing_array (sym g))

-- ---- one call

module _ (ws vs : List ℕ) (a e : ℕ) (most : e ≤ length ws) (room : length ws ≤ length vs) where
  -- the values lent begin with the array's
  values_front : take (e - (a + 1)) (sets vs 0 (held ws a e)) ≡ held ws a e
  values_front =
      ap (λ n. take n (sets vs 0 (held ws a e))) (sym (length_held ws a e most))
      ∙ ap (take (length (held ws a e))) (sets-eq (held ws a e) vs 0 (omega (arith, length_held ws a e most, most, room)))
      ∙ take-append_seam (held ws a e) (drop (0 + length (held ws a e)) vs)

  arrived_told : (s : RingState) (c : Cursor) → told_in (arrived ws s c vs (Some (span a e))) ≡ Some (tells (array_at ws (span a e)))
  unfolding arrived
  arrived_told s c = ap (λ l. Some (told (get_or ws a 0 - 64512) l)) values_front

nth_first : (l : List Array) (k : ℕ) (a : Array) (r : List Array) → drop k l ≡ a ∷ r → nth k l ≡ Some a
unfolding nth
nth_first [] zero a r h = absurd (let z : 0 ≡ suc (length r) = ap length h in omega (arith, z))
nth_first [] (suc k) a r h = absurd (let z : 0 ≡ suc (length r) = ap length h in omega (arith, z))
nth_first (x ∷ l) zero a r h = ap (λ y. Some y) (ap (λ (m : List Array). get_or m 0 x) h)
nth_first (x ∷ l) (suc k) a r h = nth_first l k a r h

-- what no refusal says of the lengths
module _ (n : ℕ) (s : RingState) (m : ℕ) (h : next_refusal n s m ≡ Ok tt) where
  pub next_lent : m ≡ n
  unfolding next_refusal
  next_lent = by (eqb m n) refl h
    where
      by : (b : Bool) → eqb m n ≡ b → cond b (ring_refusal n s) (Err 31) ≡ Ok tt → m ≡ n
      by true e q = eqb-true m n e
      by false e q = absurd (err_ok q)

  pub next_sound : RingSound n s
  unfolding next_refusal
  next_sound = by (eqb m n) h
    where
      by : (b : Bool) → cond b (ring_refusal n s) (Err 31) ≡ Ok tt → RingSound n s
      by true q = sound_ring n s q
      by false q = absurd (err_ok q)

pub any_cursor : AnyCursor
unfolding stepped stepped_on arrived
any_cursor ring s c vs x h = by (next_refusal (length ring) s (length vs)) refl h
  where
    ws : List ℕ
    ws = by_age ring s

    by : (n : Result (Unit {0}) ℕ) → next_refusal (length ring) s (length vs) ≡ n → told_in (stepped_unless n (stepped_on ws s c vs) c vs) ≡ Some x → IsNext ring s c x
    by (Err n) q g = absurd (none-some x g)
    by (Ok tt) q g = on (is_current s c && stands ws c.from) g
      where
        found : (f : Option ArraySpan) → first (spans_from ws c.from) ≡ f → told_in (arrived ws s c vs f) ≡ Some x → IsNext ring s c x
        found None e k = absurd (none-some x k)
        found (Some p) e k =
            let sound = next_sound (length ring) s (length vs) q in
            let at = found_array ws c.from p e in
            let z = listing_from ws c.from in
            record {
              k = z.0;
              array = array_at ws p;
              listed = nth_first (listing ring s) z.0 (array_at ws p) (shown (arrays (drop p.end ws))) (z.1 ∙ at.shown_on);
              whole =
                  same_Some x _
                  (sym k
                  ∙ arrived_told ws vs p.start p.end at.most (omega (arith, by_age_length_lem ring s sound, sound.filled, next_lent (length ring) s (length vs) q)) s c);
              from = z.1;
            }

        on : (t : Bool) → told_in (cond t (arrived ws s c vs (first (spans_from ws c.from))) (left (Err NextError.MovedOn) c vs)) ≡ Some x → IsNext ring s c x
        on false k = absurd (none-some x k)
        on true k = found (first (spans_from ws c.from)) refl k

pub at_no_array : AtNoArray
at_no_array ring s c vs h away none_there = by (is_current s c) refl
  where
    by : (b : Bool) → is_current s c ≡ b → stepped ring s c vs ≡ left (Err NextError.MovedOn) c vs
    by false e = sym (stepped_moved ring s c vs h e)
    by true e = sym (stepped_astray ring s c vs h e (stands_nowhere (by_age ring s) c.from away none_there))

-- ---- all calls

-- a cursor that a call gives
given_current : (s : RingState) (e : ℕ) → is_current s (cursor e s.position s.filled) ≡ true
unfolding is_current
given_current s e =
    ap (λ b. eqb e 0 || (b && eqb s.filled s.filled)) (eq-eqb s.position s.position refl)
    ∙ ap (λ b. eqb e 0 || b) (eq-eqb s.filled s.filled refl)
    ∙ or_true (eqb e 0)

module _ (ring : List ℕ) (s : RingState) (sound : RingSound (length ring) s) where
  abbrev ws : List ℕ
  ws = by_age ring s

  module _ (vs : List ℕ) (lent : length vs ≡ length ring) where
    not_refused : next_refusal (length ring) s (length vs) ≡ Ok tt
    unfolding next_refusal
    not_refused =
        ap (λ b. cond b (ring_refusal (length ring) s) (Err 31)) (eq-eqb (length vs) (length ring) lent) ∙ sound_not_refused (length ring) s sound

    -- a call with a cursor that is current, and stands at an array or at the beginning, answers what is found from it on
    on_found : (c : Cursor) (f : Option ArraySpan) → is_current s c ≡ true → stands ws c.from ≡ true → first (spans_from ws c.from) ≡ f
        → stepped ring s c vs ≡ arrived ws s c vs f
    on_found c f h g e = sym (stepped_found ring s c vs not_refused h g f (sym e))

  turn : (n : ℕ) (c : Cursor) (vs : List ℕ) (x : Stepped) → stepped ring s c vs ≡ x
      → answers (suc n) ring s c vs ≡ told_in x ∷ answers n ring s x.cursor x.values
  unfolding answers
  turn n c vs x e = ap (λ (y : Stepped). told_in y ∷ answers n ring s y.cursor y.values) e

  ended : (n : ℕ) (c : Cursor) (vs : List ℕ) → stepped ring s c vs ≡ left (Ok None) c vs → answers n ring s c vs ≡ replicate n None
  unfolding answers
  ended zero c vs e = refl
  ended (suc n) c vs e = turn n c vs (left (Ok None) c vs) e ∙ ap (λ l. None ∷ l) (ended n c vs e)

  no_array : {a : Array} {l : List Array} → ◌≡◌ {A = List Array} [] (a ∷ l) → ⊥
  no_array {a} {l} e = let z : 0 ≡ suc (length l) = ap length e in omega (arith, z)

  from_cursor : (l : List Array) (c : Cursor) (vs : List ℕ) (m : ℕ) → length vs ≡ length ring → is_current s c ≡ true → stands ws c.from ≡ true → shown (arrays (drop c.from ws)) ≡ l
      → answers (length l + m) ring s c vs ≡ map (λ a. Some (tells a)) l ++ replicate m None
  unfolding arrived
  from_cursor [] c vs m lent h g e = ap (λ n. answers n ring s c vs) (zero-add m) ∙ ended m c vs (by (first (spans_from ws c.from)) refl)
    where
      by : (f : Option ArraySpan) → first (spans_from ws c.from) ≡ f → stepped ring s c vs ≡ left (Ok None) c vs
      by None q = on_found vs lent c None h g q
      by (Some p) q = absurd (no_array (sym e ∙ (found_array ws c.from p q).shown_on))
  from_cursor (x ∷ l) c vs m lent h g e = by (first (spans_from ws c.from)) refl (λ d us. from_cursor l d us m)
    where
      by : (f : Option ArraySpan) → first (spans_from ws c.from) ≡ f
          → ((d : Cursor) (us : List ℕ) → length us ≡ length ring → is_current s d ≡ true → stands ws d.from ≡ true → shown (arrays (drop d.from ws)) ≡ l
          → answers (length l + m) ring s d us ≡ map (λ a. Some (tells a)) l ++ replicate m None)
          → answers (suc (length l) + m) ring s c vs ≡ Some (tells x) ∷ (map (λ a. Some (tells a)) l ++ replicate m None)
      by None q on = absurd (no_array (sym (found_none ws c.from q) ∙ e))
      by (Some p) q on =
          let at = found_array ws c.from p q in
          let both : array_at ws p ∷ shown (arrays (drop p.end ws)) ≡ x ∷ l = sym at.shown_on ∙ e in
          let here : array_at ws p ≡ x = ap (λ (k : List Array). get_or k 0 x) both in
          let rest : shown (arrays (drop p.end ws)) ≡ l = ap (drop 1) both in
          let next = arrived ws s c vs (Some p) in
          ap (λ n. answers n ring s c vs) (suc-add (length l) m)
          ∙ turn (length l + m) c vs next (on_found vs lent c (Some p) h g q)
          ∙ ap (λ o. o ∷ answers (length l + m) ring s next.cursor next.values)
          (arrived_told ws vs p.start p.end at.most (omega (arith, by_age_length_lem ring s sound, sound.filled, lent)) s c ∙ ap (λ y. Some (tells y)) here)
          ∙ ap (λ t. Some (tells x) ∷ t)
          (on next.cursor next.values (length-sets vs 0 (held ws p.start p.end) ∙ lent) (given_current s p.end) (stands_given ws c.from p q) rest)

pub whole_listing : WholeListing
unfolding is_current stands
whole_listing ring s sound vs lent m = from_cursor ring s sound (listing ring s) begin vs m lent refl refl refl
