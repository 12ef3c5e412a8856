-- What is printed has room: a refusal has 20 bytes at most, a listing of 64 words 448. So the buffer's first bytes are just these. Assumes nothing.
use Rattle.std.specs.Prelude.{Result, Ok, Err, ℕ, zero, suc, ◌+◌, ◌*◌, ◌≤◌, ◌<◌, min, ◌≡◌, refl, Bool, true, false, cond, ◌&&◌, List, [], ◌∷◌, ◌++◌, length, take, drop, Float}
use Rattle.std.proofs.Common.{arith, sym, ap, subst, ◌∙◌, append-nil, length-append, take_at, length-take-le}
use Rattle.base_program.specs.declared.Program.{Program}
use Rattle.spec_check.specs.declared.Verdict.{Verdict}
use Rattle.spec_calls.specs.declared.State.{State}
use Rattle.spec_calls.specs.Stores.{ring_state}
use Rattle.storage_ring.specs.declared.RingState.{RingState}
use Rattle.storage_ring.specs.Ring.{by_age}
use Rattle.storage_ring.specs.RingLaws.{by_age_length_lem}
use Rattle.storage_listing.specs.Listing.{arrays, shown, ring_refusal}
use Rattle.storage_listing.proofs.RefusalLaws.{sound_ring}
use Rattle.text_answer.specs.declared.TextAnswer.{TextAnswer}
use Rattle.text_answer.specs.Check.{check_text}
use Rattle.listing_output.specs.Shown.{numeral, width, lines_of_arrays, spaced, refusal_bytes, arrays_unless, held_arrays}
use Rattle.listing_output.specs.ShownLaws.{length_numeral, width_most, listing_short}
use Rattle.listing_output.specs.Written.{written, Put}
use Rattle.listing_output.specs.WrittenLaws.{written_room}
use Rattle.spec_listing.specs.declared.Stage.{Stage}
use Rattle.spec_listing.specs.Listing.{Prints}
use Rattle.spec_listing.specs.Reading.{Finished}
use Rattle.spec_listing.proofs.ReadingLaws.{lines_listed, lines_unfinished, ended_fault, ended_passed}

put_whole : (out w : List ℕ) (r : ℕ) (next : List ℕ) → Put out 0 w r next → length w ≤ length out → w ≡ take r next
put_whole out w r next p h =
    let c = p.count in
    let n : r ≡ length w = omega (arith, c, h) in
    sym
    (ap (take r) (p.bytes ∙ written_room out 0 w (omega (arith, h)))
    ∙ take_at w (drop (0 + length w) out) r (sym n))

spaced_short : (k : ℕ) → length (spaced k) ≤ 6
unfolding spaced
spaced_short k = let a = length_numeral k in let b = width_most k in omega (arith, a, b)

refusal_short : (k t e : ℕ) → length (refusal_bytes k t e) ≤ 512
unfolding refusal_bytes
refusal_short k t e =
    let a = length-append (spaced k) (spaced t ++ (spaced e ++ (10 ∷ []))) in
    let b = length-append (spaced t) (spaced e ++ (10 ∷ [])) in
    let c = length-append (spaced e) (10 ∷ []) in
    let x = spaced_short k in
    let y = spaced_short t in
    let z = spaced_short e in
    omega (arith, a, b, c, x, y, z)

nothing_short : length (lines_of_arrays []) ≤ 512
unfolding lines_of_arrays
nothing_short = omega arith

held_short : (ring : List ℕ) (s : RingState) → length ring ≡ 64 → length (lines_of_arrays (held_arrays ring s)) ≤ 512
unfolding held_arrays
held_short ring s h = by (ring_refusal (length ring) s) refl
  where
    by : (n : Result (Unit {0}) ℕ) → ring_refusal (length ring) s ≡ n → length (lines_of_arrays (arrays_unless n (shown (arrays (by_age ring s))))) ≤ 512
    by (Ok tt) e =
        let sound = sound_ring (length ring) s e in
        let a = listing_short (by_age ring s) in
        let b = by_age_length_lem ring s sound in
        let c = sound.filled in
        omega (arith, a, b, c, h)
    by (Err n) e = nothing_short

-- ---- what stands in the buffer is what is to be printed

module _ (out : List ℕ) (r : ℕ) (next : List ℕ) (room : 512 ≤ length out) where
  whole_refusal : (k t e : ℕ) → Put out 0 (refusal_bytes k t e) r next → refusal_bytes k t e ≡ take r next
  whole_refusal k t e p = put_whole out (refusal_bytes k t e) r next p (let z = refusal_short k t e in omega (arith, z, room))

  whole_listing : (ring : List ℕ) (s : RingState) → length ring ≡ 64 → Put out 0 (lines_of_arrays (held_arrays ring s)) r next → lines_of_arrays (held_arrays ring s) ≡ take r next
  whole_listing ring s h p = put_whole out (lines_of_arrays (held_arrays ring s)) r next p (let z = held_short ring s h in omega (arith, z, room))

  module _ (state : State) (ring : List ℕ) where
    pub finish_refused : (k t e : ℕ) (v : List ℕ) → Put out 0 (refusal_bytes k t e) r next → Finished (Stage.Refused k t e) v state ring (take r next)
    finish_refused k t e v q s p a b c d f =
        subst (λ w. Prints s w) (whole_refusal k t e q) (subst (λ x. Prints x (refusal_bytes k t e)) (append-nil s) (f []))

    pub finish_unfinished : (v : List ℕ) → (v ≡ [] → ⊥) → Put out 0 (refusal_bytes 1 0 0) r next → Finished Stage.Lines v state ring (take r next)
    finish_unfinished v h q s p a b c d f = subst (λ w. Prints s w) (whole_refusal 1 0 0 q) (lines_unfinished s v p _ f.0 f.1 h)

    pub finish_listed : (v : List ℕ) → v ≡ [] → length ring ≡ 64 → Put out 0 (lines_of_arrays (held_arrays ring (ring_state state))) r next
        → Finished Stage.Lines v state ring (take r next)
    finish_listed v h n q s p a b c d f = subst (λ w. Prints s w) (whole_listing ring (ring_state state) n q) (lines_listed s v p _ f.0 f.1 h)

    module _ (v : List ℕ) (x : TextAnswer) (is : x ≡ check_text v) where
      pub finish_fault : (k t e : ℕ) → x.verdict ≡ Verdict.Fault k t e → Put out 0 (refusal_bytes k t e) r next → Finished Stage.Text v state ring (take r next)
      finish_fault k t e h q s p a b c d f = subst (λ w. Prints s w) (whole_refusal k t e q) (ended_fault s v _ f x is k t e h)

      pub finish_passed : (m n : ℕ) → x.verdict ≡ Verdict.Pass m n → length ring ≡ 64 → Put out 0 (lines_of_arrays (held_arrays ring (ring_state state))) r next
          → Finished Stage.Text v state ring (take r next)
      finish_passed m n h size q s p a b c d f = subst (λ w. Prints s w) (whole_listing ring (ring_state state) size q) (ended_passed s v _ f x is m n h)
