-- Words that go round the ring one behind the other: each appends itself to the words by age and drops what is beyond the ring's length, so that
-- behind them all the ring holds the last of what it held and of them. Assumes nothing.
use Rattle.std.specs.Prelude.{◌≡◌, refl, ℕ, ◌+◌, ◌-◌, List, [], ◌∷◌, ◌++◌, length, set, drop}
use Rattle.std.proofs.Common.{sym, ap, ◌∙◌, arith, append_assoc, append-nil, length-append, length-drop, length-set, drop-drop}
use Rattle.std.proofs.lemmas.List.{drop-append-le}
use Rattle.storage_ring.specs.Ring.{RingSound, by_age, latest}
use Rattle.storage_ring.specs.RingLaws.{by_age_length_lem, write_appends, write_sound}
use Rattle.spec_buffers.specs.Held.{Tape, put_word, put_words}

-- the last n of the last n of a, with b behind
pub latest_again : (n : ℕ) (a b : List ℕ) → latest n (latest n a ++ b) ≡ latest n (a ++ b)
latest_again n a b =
    ap (λ l. drop (length l - n) l) (sym (drop-append-le gone a b (omega arith)))
    ∙ drop-drop (length (drop gone (a ++ b)) - n) gone (a ++ b)
    ∙ ap (λ k. drop k (a ++ b)) sum
  where
    gone : ℕ
    gone = length a - n

    sum : gone + (length (drop gone (a ++ b)) - n) ≡ length (a ++ b) - n
    sum = omega (arith, length-drop (length a - n) (a ++ b), length-append a b)

abbrev pub aged : Tape → List ℕ
aged s = by_age s.ring s.state

abbrev pub SoundTape : Tape → Type 0
SoundTape s = RingSound (length s.ring) s.state

-- what is left of a ring once words have gone round it
pub record Gone (ws : List ℕ) (a b : Tape) : Type 0 where
  pub aged : aged b ≡ latest (length a.ring) (aged a ++ ws)
  pub sound : SoundTape b
  pub long : length b.ring ≡ length a.ring

pub all_gone : (ws : List ℕ) (a : Tape) → SoundTape a → Gone ws a (put_words ws a)
unfolding put_words put_word
all_gone [] a h = record { aged = nothing_more; sound = h; long = refl }
  where
    nothing_more : aged a ≡ latest (length a.ring) (aged a ++ [])
    nothing_more =
        ap (λ k. drop k (aged a)) (let g : 0 ≡ length (aged a) - length a.ring = omega (arith, by_age_length_lem a.ring a.state h, h.filled) in g)
        ∙ ap (latest (length a.ring)) (sym (append-nil (aged a)))
all_gone (w ∷ ws) a h = by (all_gone ws (put_word w a) (write_sound a.ring a.state w h))
  where
    n : ℕ
    n = length a.ring

    long : length (set a.ring a.state.position w) ≡ n
    long = length-set a.ring a.state.position w

    by : Gone ws (put_word w a) (put_words ws (put_word w a)) → Gone (w ∷ ws) a (put_words ws (put_word w a))
    by g =
        record {
          aged =
              g.aged
              ∙ ap (λ k. latest k (aged (put_word w a) ++ ws)) long
              ∙ ap (λ l. latest n (l ++ ws)) (write_appends a.ring a.state w h)
              ∙ latest_again n (aged a ++ (w ∷ [])) ws
              ∙ ap (latest n) (append_assoc (aged a) (w ∷ []) ws);
          sound = g.sound;
          long = g.long ∙ long;
        }
