-- What the four numbers hold after a store, and the words that a value writes: by the definitions. Assumes nothing.
use Rattle.std.specs.Prelude.{◌≡◌, refl, Bool, true, false, cond, List, [], ◌∷◌, ℕ, length, get_or, set, eqb, Float}
use Rattle.std.proofs.Common.{sym, ap, ◌∙◌, arith, eq-eqb, ne_eqb}
use Rattle.base_float.specs.Finite.{stored}
use Rattle.base_float.specs.Laws.{stored_finite, stored_same}
use Rattle.storage_word.specs.Word.{value_word, start_word}
use Rattle.storage_ring.specs.declared.RingState.{RingState}
use Rattle.storage_ring.specs.Ring.{advanced}
use Rattle.spec_buffers.specs.Held.{Out, Tape, out_of, put_word}
use Rattle.spec_buffers.specs.Output.{write_out}
use Rattle.scan_output.specs.Words.{put_out, start_out}

-- ---- a list of four

of_four : (P : List ℕ → Type 0) → ((a b c d : ℕ) → P (a ∷ b ∷ c ∷ d ∷ [])) → (l : List ℕ) → length l ≡ 4 → P l
of_four P f [] h = absurd (omega arith)
of_four P f (a ∷ []) h = absurd (omega arith)
of_four P f (a ∷ b ∷ []) h = absurd (omega arith)
of_four P f (a ∷ b ∷ c ∷ []) h = absurd (omega arith)
of_four P f (a ∷ b ∷ c ∷ d ∷ []) h = f a b c d
of_four P f (a ∷ b ∷ c ∷ d ∷ e ∷ r) h = absurd (omega arith)

abbrev pub out_with : Tape → ℕ → Bool → Out
out_with t a w = record { tape = t; array = a; waiting = w }

-- the ring and its state as `write_word` leaves them
pub put_done : (w : ℕ) (ring ring' store : List ℕ) (s : RingState) → length store ≡ 4
    → s ≡ advanced (length ring) (out_of ring store).tape.state → ring' ≡ set ring (get_or store 0 0) w
    → out_of ring' (set (set store 0 s.position) 1 s.filled) ≡ put_out w (out_of ring store)
unfolding put_out put_word
put_done w ring ring' store s h =
    of_four
    (λ z.
    s ≡ advanced (length ring) (out_of ring z).tape.state → ring' ≡ set ring (get_or z 0 0) w
    → out_of ring' (set (set z 0 s.position) 1 s.filled) ≡ put_out w (out_of ring z))
    (λ a b c d state_is ring_is.
    ap (λ (t : RingState). out_with (record { ring = ring'; state = t }) c (eqb d 1)) state_is
    ∙ ap (λ (g : List ℕ). out_with (record { ring = g; state = advanced (length ring) (record { position = a; filled = b }) }) c (eqb d 1)) ring_is)
    store h

-- no start word waits any more
pub start_done : (ring store : List ℕ) → length store ≡ 4
    → out_of ring (set store 3 0) ≡ out_with (out_of ring store).tape (out_of ring store).array false
start_done ring store h =
    of_four (λ z. out_of ring (set z 3 0) ≡ out_with (out_of ring z).tape (out_of ring z).array false) (λ a b c d. refl) store h

-- ---- the start word

pub start_waits : (o : Out) → o.waiting ≡ true → start_out o ≡ out_with (put_word (start_word o.array) o.tape) o.array false
unfolding start_out
start_waits o h = ap (λ b. out_with (cond b (put_word (start_word o.array) o.tape) o.tape) o.array false) h

pub start_none : (o : Out) → o.waiting ≡ false → start_out o ≡ o
unfolding start_out
start_none o h =
    ap (λ b. out_with (cond b (put_word (start_word o.array) o.tape) o.tape) o.array false) h ∙ ap (λ b. out_with o.tape o.array b) (sym h)

-- what `write_start` leaves
pub start_written : (ring store ring' store' : List ℕ) (w : ℕ) → length store ≡ 4 → length store' ≡ length store → get_or store 3 0 ≡ 1
    → w ≡ start_word (get_or store 2 0) → out_of ring' store' ≡ put_out w (out_of ring store) → out_of ring' (set store' 3 0) ≡ start_out (out_of ring store)
unfolding put_out
start_written ring store ring' store' w four kept waits w_is put =
    let o : Out = out_of ring store in
    start_done ring' store' (kept ∙ four)
    ∙ ap (λ (z : Out). out_with z.tape z.array false) put
    ∙ ap (λ (z : ℕ). out_with (put_word z o.tape) o.array false) w_is
    ∙ sym (start_waits o (eq-eqb (get_or store 3 0) 1 waits))

pub start_left : (ring store : List ℕ) → (get_or store 3 0 ≡ 1 → ⊥) → out_of ring store ≡ start_out (out_of ring store)
start_left ring store h = sym (start_none (out_of ring store) (ne_eqb (get_or store 3 0) 1 h))

pub write_parts : (v : Float) (o : Out) → write_out v o ≡ put_out (value_word (stored v)) (start_out o)
unfolding write_out put_out start_out
write_parts v o = refl

-- what `write_value` leaves
pub value_written : (v : Float) (w : ℕ) (o p q : Out) → p ≡ start_out o → w ≡ value_word (stored v) → q ≡ put_out w p → q ≡ write_out v o
value_written v w o p q started w_is put =
    put ∙ ap (λ (z : ℕ). put_out z p) w_is ∙ ap (put_out (value_word (stored v))) started ∙ sym (write_parts v o)

-- what is written of a value is written of what is stored in its place
pub write_stored : (x : Float) (o : Out) → write_out (stored x) o ≡ write_out x o
unfolding write_out
write_stored x o =
    ap (λ y. out_with (put_word (value_word y) (cond o.waiting (put_word (start_word o.array) o.tape) o.tape)) o.array false)
    (stored_same (stored x) (stored_finite x))
