-- What `find` cuts off is the first line of those that are left, and the text ends behind the last `)`, since a text is its lines and the bytes
-- behind them. Assumes nothing.
use Prim.Native.Nat.{ℕ, suc, ◌+◌, ◌-◌, ◌≤◌, ◌<◌}
use native.Mathlib.Omega.{arith}
use mathlib.Core.Path.{◌≡◌, refl, ap, ◌∙◌}
use mathlib.Core.Bool.{Bool, true, false, cond, ◌&&◌}
use mathlib.Core.List.{List, [], ◌∷◌}
use lib.ListN.{length, take, drop, length-drop, drop_of_length-le}
use lib.Seq.{drop-drop, drop-cons}
use lib.Dec.{eqb}
use Rattle.std.proofs.Math.Bool.{and-true}
use Rattle.base_program.specs.declared.Program.{Program}
use Rattle.text_items.specs.Split.{on_first, split, is_some}
use Rattle.text_opening.specs.Opening.{closes}
use Rattle.text_keyed.specs.Text.{bad, clean, all_but_last, last_of, lines_of, bytes_behind, ended}
use Rattle.text_items.specs.Cut.{before, ByteFound}
use Rattle.base_laws.specs.Tests.{no, not_second}
use Rattle.text_items.specs.Pieces.{split_more, split_last}

-- ---- a line and what is left behind it

split_some : (k : ℕ) (s : List ℕ) → 0 < length (split k s)
unfolding split
split_some k [] = omega arith
split_some k (b ∷ s) = go (eqb b k) (split k s)
  where
    first : (ws : List (List ℕ)) → 0 < length (on_first b ws)
    first [] = omega arith
    first (w ∷ ws) = let z : 0 < suc (length ws) = omega arith in z

    go : (t : Bool) (ws : List (List ℕ)) → 0 < length (cond t ([] ∷ ws) (on_first b ws))
    go true ws = let z : 0 < suc (length ws) = omega arith in z
    go false ws = first ws

first_of : (w : List ℕ) (ws : List (List ℕ)) → 0 < length ws → all_but_last (w ∷ ws) ≡ w ∷ all_but_last ws
first_of w [] h = absurd (omega arith)
first_of w (v ∷ ws) h = refl

last_of_lem : (w : List ℕ) (ws : List (List ℕ)) → 0 < length ws → last_of (w ∷ ws) ≡ last_of ws
last_of_lem w [] h = absurd (omega arith)
last_of_lem w (v ∷ ws) h = refl

module _ (s : List ℕ) (at e : ℕ) (f : ByteFound 10 s at e) where
  split_cut : e < length s → split 10 (drop at s) ≡ take (e - at) (drop at s) ∷ split 10 (drop (e + 1) s)
  split_cut h =
      let left = drop at s in
      let q : before 10 left ≡ e - at = omega (arith, f.is) in
      split_more 10 left (omega (arith, q, length-drop at s))
      ∙ ap (λ x. take x left ∷ split 10 (drop (suc (before 10 left)) left)) q
      ∙ ap (λ x. take (e - at) left ∷ split 10 x) (drop-drop (suc (before 10 left)) at s ∙ ap (λ x. drop x s) (let z : at + suc (before 10 left) ≡ e + 1 = omega (arith, f.is) in z))

  pub line_cut : e < length s → lines_of (drop at s) ≡ take (e - at) (drop at s) ∷ lines_of (drop (e + 1) s)
  unfolding lines_of
  line_cut h = ap all_but_last (split_cut h) ∙ first_of (take (e - at) (drop at s)) (split 10 (drop (e + 1) s)) (split_some 10 (drop (e + 1) s))

  pub behind_cut : e < length s → bytes_behind (drop at s) ≡ bytes_behind (drop (e + 1) s)
  unfolding bytes_behind
  behind_cut h = ap last_of (split_cut h) ∙ last_of_lem (take (e - at) (drop at s)) (split 10 (drop (e + 1) s)) (split_some 10 (drop (e + 1) s))

  pub line_last : e ≡ length s → lines_of (drop at s) ≡ []
  unfolding lines_of
  line_last h = ap all_but_last (split_last 10 (drop at s) (omega (arith, f.is, length-drop at s)))

-- ---- the end of the text

-- where bytes are left there is a line, or some stand behind the last
more_left : (p : Program) (l r : List ℕ) → is_some r ≡ true → ended p (l ∷ lines_of r) (bytes_behind r) ≡ bad 1 0 0
unfolding ended lines_of bytes_behind split
more_left p l [] h = absurd (let z : ◌≡◌ {A = ℕ} 0 1 = cc in omega arith)
more_left p l (b ∷ r) h = go (eqb b 10) (split 10 r) (split_some 10 r)
  where
    go : (t : Bool) (ws : List (List ℕ)) → 0 < length ws → ended p (l ∷ all_but_last (cond t ([] ∷ ws) (on_first b ws))) (last_of (cond t ([] ∷ ws) (on_first b ws))) ≡ bad 1 0 0
    go t [] x = absurd (omega arith)
    go true (w ∷ ws) x = refl
    go false (w ∷ []) x = no _ _ (not_second (closes l) refl)
    go false (w ∷ v ∷ ws) x = refl

some_left : (k : ℕ) (s : List ℕ) → k < length s → is_some (drop k s) ≡ true
some_left k s h = ap is_some (drop-cons s k 0 h)

module _ (p : Program) (s : List ℕ) (at e : ℕ) (f : ByteFound 10 s at e) where
  pub ended_short : e ≡ length s → ended p (lines_of (drop at s)) (bytes_behind (drop at s)) ≡ bad 1 0 0
  unfolding ended
  ended_short h = ap (λ ls. ended p ls (bytes_behind (drop at s))) (line_last s at e f h)

  cut_ended : e < length s → ended p (lines_of (drop at s)) (bytes_behind (drop at s)) ≡ ended p (take (e - at) (drop at s) ∷ lines_of (drop (e + 1) s)) (bytes_behind (drop (e + 1) s))
  cut_ended h = ap (λ ls. ended p ls (bytes_behind (drop at s))) (line_cut s at e f h) ∙ ap (ended p (take (e - at) (drop at s) ∷ lines_of (drop (e + 1) s))) (behind_cut s at e f h)

  pub ended_more : e + 1 < length s → ended p (lines_of (drop at s)) (bytes_behind (drop at s)) ≡ bad 1 0 0
  ended_more h = cut_ended (omega arith) ∙ more_left p (take (e - at) (drop at s)) (drop (e + 1) s) (some_left (e + 1) s h)

  none_left : e < length s → length s ≤ e + 1
      → ended p (lines_of (drop at s)) (bytes_behind (drop at s)) ≡ cond (closes (take (e - at) (drop at s)) && true) (clean p) (bad 1 0 0)
  unfolding ended lines_of bytes_behind split
  none_left h l = cut_ended h ∙ ap (λ r. ended p (take (e - at) (drop at s) ∷ lines_of r) (bytes_behind r)) (drop_of_length-le s l)

  pub ended_closes : e < length s → length s ≤ e + 1 → ended p (lines_of (drop at s)) (bytes_behind (drop at s)) ≡ cond (closes (take (e - at) (drop at s))) (clean p) (bad 1 0 0)
  ended_closes h l = none_left h l ∙ ap (λ t. cond t (clean p) (bad 1 0 0)) (and-true (closes (take (e - at) (drop at s))))
