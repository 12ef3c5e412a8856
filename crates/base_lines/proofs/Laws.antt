-- What one turn of a loop over bytes or lines does to the definitions. Assumes nothing.
use Rattle.std.proofs.Common.{◌≡◌, ℕ, zero, suc, ◌+◌, ◌-◌, ◌≤◌, ◌<◌, ◌==◌, Bool, true, false, not, cond, List, [], ◌∷◌, length, take, drop, refl, sym, ap, ◌∙◌, add-one, arith, eq-eqb, drop-cons, drop-drop, take_all, length-drop, length-append, append_assoc, append-nil, ◌++◌, take-suc}
use Rattle.std.specs.Prelude.{take_while}
use Rattle.std.specs.List.{prefix_len}
use lib.ListN.{get_or, drop_of_length-le}
use borrow.Author.Tests.{ne_eqb}
use Rattle.base_lines.specs.Line.{ending, behind, behind_lines, behind_closes, from_place, is_close, from_word, longer, lines}
use Rattle.base_lines.specs.Written.{written}

yes : {A : Type 0} {t : Bool} (x y : A) → t ≡ true → cond t x y ≡ x
yes x y e = ap (λ b. cond b x y) e

no : {A : Type 0} {t : Bool} (x y : A) → t ≡ false → cond t x y ≡ y
no x y e = ap (λ b. cond b x y) e

pub from_all : (s : List ℕ) (i : ℕ) → take (length s - i) (drop i s) ≡ drop i s
from_all s i = take_all (length s - i) (drop i s) (omega (arith, length-drop i s))

-- ---- where a line ends

abbrev pub line : List ℕ → List ℕ
line s = take_while (λ b. not (b == 10)) s

taken_back : (k : ℕ) (s : List ℕ) → take (length (take k s)) s ≡ take k s
taken_back zero s = refl
taken_back (suc k) [] = refl
taken_back (suc k) (b ∷ s) = ap (λ l. b ∷ l) (taken_back k s)

pub line_taken : (s : List ℕ) → take (length (line s)) s ≡ line s
line_taken s = taken_back _ s

taken_within : (k : ℕ) (s : List ℕ) → length (take k s) ≤ length s
taken_within zero s = omega arith
taken_within (suc k) [] = omega arith
taken_within (suc k) (b ∷ s) = omega (arith, taken_within k s)

pub line_within : (s : List ℕ) → length (line s) ≤ length s
line_within s = taken_within _ s

pub ending_behind : (s : List ℕ) → drop (length (line s)) s ≡ ending s
unfolding ending
ending_behind [] = refl
ending_behind (b ∷ s) =
    let p = prefix_len (λ b. not (b == 10)) s in
    let e : 1 + p ≡ suc p = omega arith in
    elim (b == 10) as (λ v. drop (length (take (cond (not v) (1 + p) 0) (b ∷ s))) (b ∷ s) ≡ cond v (b ∷ s) (ending s)) [
      | true ↦ refl
      | false ↦ ap (λ k. drop (length (take k (b ∷ s))) (b ∷ s)) e ∙ ending_behind s
    ]

-- ---- `Lines::next`

lengthened : (b : ℕ) (t : List ℕ) → (0 < length t → lines t ≡ line t ∷ lines (drop (length (line t) + 1) t)) → longer b (lines t) ≡ (b ∷ line t) ∷ lines (drop (length (b ∷ line t) + 1) (b ∷ t))
unfolding lines
lengthened b [] h = refl
lengthened b (c ∷ t) h =
    let n = length (line (c ∷ t)) in
    ap (longer b) (h (omega arith)) ∙ ap (λ k. (b ∷ line (c ∷ t)) ∷ lines (drop k (c ∷ t))) (add-one n) ∙ ap (λ k. (b ∷ line (c ∷ t)) ∷ lines (drop k (b ∷ c ∷ t))) (sym (add-one (suc n)))

lines_first : (s : List ℕ) → 0 < length s → lines s ≡ line s ∷ lines (drop (length (line s) + 1) s)
unfolding lines
lines_first [] h = absurd (omega (arith, h))
lines_first (b ∷ s) h =
    let p = prefix_len (λ b. not (b == 10)) s in
    let e : 1 + p ≡ suc p = omega arith in
    elim (b == 10) as (λ v. cond v ([] ∷ lines s) (longer b (lines s)) ≡ take (cond (not v) (1 + p) 0) (b ∷ s) ∷ lines (drop (length (take (cond (not v) (1 + p) 0) (b ∷ s)) + 1) (b ∷ s))) [
      | true ↦ refl
      | false ↦ lengthened b s (lines_first s) ∙ ap (λ k. take k (b ∷ s) ∷ lines (drop (length (take k (b ∷ s)) + 1) (b ∷ s))) (sym e)
    ]

pub lines_turn : (s : List ℕ) → 0 < length s → lines s ≡ line s ∷ lines (behind s)
lines_turn s h =
    lines_first s h ∙ ap (λ t. line s ∷ lines t) (sym (drop-drop 1 (length (line s)) s) ∙ ap (drop 1) (ending_behind s))

pub lines_ended : (s : List ℕ) → length s ≡ 0 → lines s ≡ []
unfolding lines
lines_ended [] h = refl
lines_ended (b ∷ s) h = absurd (omega (arith, h))

-- ---- a turn of `from_word`

pub word_here : (k : ℕ) (s : List ℕ) → k ≡ 0 → s ≡ from_word k s
unfolding from_word
word_here zero s e = refl
word_here (suc k) s e = absurd (omega (arith, e))

pub word_none : (k : ℕ) → [] ≡ from_word k []
unfolding from_word
word_none zero = refl
word_none (suc k) = refl

pub word_next : (k b : ℕ) (s : List ℕ) → (k ≡ 0 → ⊥) → from_word k (b ∷ s) ≡ cond (b == 32) (from_word (k - 1) s) (from_word k s)
unfolding from_word
word_next zero b s e = absurd (e refl)
word_next (suc k) b s e =
    let m : suc k - 1 ≡ k = omega arith in
    ap (λ j. cond (b == 32) (from_word j s) (from_word (suc k) s)) (sym m)

pub word_passed : (s : List ℕ) (i k : ℕ) → i < length s → (k ≡ 0 → ⊥) → get_or s i 0 ≡ 32 → from_word (k - 1) (drop (i + 1) s) ≡ from_word k (drop i s)
word_passed s i k h n e =
    ap (λ j. from_word (k - 1) (drop j s)) (add-one i) ∙ sym (ap (from_word k) (drop-cons s i 0 h) ∙ word_next k (get_or s i 0) (drop (suc i) s) n ∙ yes _ _ (eq-eqb (get_or s i 0) 32 e))

pub word_inside : (s : List ℕ) (i k : ℕ) → i < length s → (k ≡ 0 → ⊥) → (get_or s i 0 ≡ 32 → ⊥) → from_word k (drop (i + 1) s) ≡ from_word k (drop i s)
word_inside s i k h n e =
    ap (λ j. from_word k (drop j s)) (add-one i) ∙ sym (ap (from_word k) (drop-cons s i 0 h) ∙ word_next k (get_or s i 0) (drop (suc i) s) n ∙ no _ _ (ne_eqb (get_or s i 0) 32 e))

-- ---- `next_line`

pub behind_at : (s rest : List ℕ) (e : ℕ) → drop e s ≡ ending rest → drop (e + 1) s ≡ behind rest
behind_at s rest e h = sym (drop-drop 1 e s) ∙ ap (drop 1) h

pub behind_none : (s rest : List ℕ) (e : ℕ) → length s ≤ e → drop e s ≡ ending rest → drop e s ≡ behind rest
behind_none s rest e l h =
    let d : drop e s ≡ [] = drop_of_length-le s l in d ∙ sym (ap (drop 1) (sym h ∙ d))

-- ---- a turn of `skip_lines`

pub lines_next : (n j : ℕ) (s : List ℕ) → j < n → behind_lines (n - (j + 1)) (behind s) ≡ behind_lines (n - j) s
unfolding behind_lines
lines_next n j s h =
    let e : n - j ≡ suc (n - (j + 1)) = omega arith in sym (ap (λ m. behind_lines m s) e)

pub lines_done : (n : ℕ) (s : List ℕ) → n ≡ 0 → s ≡ behind_lines n s
unfolding behind_lines
lines_done zero s e = refl
lines_done (suc n) s e = absurd (omega (arith, e))

pub lines_none : (n : ℕ) → [] ≡ behind_lines n []
unfolding behind_lines ending
lines_none zero = refl
lines_none (suc n) = lines_none n

-- ---- a turn of `skip_closes`

pub closes_done : (n k : ℕ) (s : List ℕ) → k ≡ 0 → s ≡ behind_closes n k s
unfolding behind_closes
closes_done zero k s e = refl
closes_done (suc n) k s e = sym (yes _ _ (eq-eqb k 0 e))

pub closes_over : (n k : ℕ) (s : List ℕ) → n ≡ 0 → s ≡ behind_closes n k s
unfolding behind_closes
closes_over zero k s e = refl
closes_over (suc n) k s e = absurd (omega (arith, e))

pub closes_next : (n j k : ℕ) (s : List ℕ) → j < n → (k ≡ 0 → ⊥) → behind_closes (n - (j + 1)) (cond (is_close s) (k - 1) k) (behind s) ≡ behind_closes (n - j) k s
unfolding behind_closes
closes_next n j k s h e =
    let m : n - j ≡ suc (n - (j + 1)) = omega arith in
    sym (no _ _ (ne_eqb k 0 e)) ∙ sym (ap (λ i. behind_closes i k s) m)

either : {s t : List ℕ} (b : Bool) → s ≡ t → s ≡ cond b s t
either true e = refl
either false e = e

pub closes_none : (n k : ℕ) → [] ≡ behind_closes n k []
unfolding behind_closes ending is_close
closes_none zero k = refl
closes_none (suc n) k = either (k == 0) (closes_none n k)

-- ---- `place_of`

pub place_none : (s : List ℕ) (t e : ℕ) → length s ≡ 0 → s ≡ from_place t e s
unfolding from_place ending
place_none [] t e h = lines_none e ∙ ap (behind_lines e) (closes_none 400 (t - 1))
place_none (b ∷ s) t e h = absurd (omega (arith, h))

-- ---- a turn of `put_text`

taken_both : (m : ℕ) (s t : List ℕ) → take m s ++ take (m - length (take m s)) t ≡ take m (s ++ t)
taken_both zero s t = refl
taken_both (suc m) [] t =
    let e : suc m - 0 ≡ suc m = omega arith in ap (λ k. take k t) e
taken_both (suc m) (b ∷ s) t =
    let e : suc m - suc (length (take m s)) ≡ m - length (take m s) = omega arith in
    ap (λ l. b ∷ l) (ap (λ k. take m s ++ take k t) e ∙ taken_both m s t)

pub written_both : (n : ℕ) (old s t : List ℕ) → written n (written n old s) t ≡ written n old (s ++ t)
written_both n old s t =
    let m = n - length old in
    let e : n - length (old ++ take m s) ≡ m - length (take m s) = omega (arith, length-append old (take m s)) in
    append_assoc old (take m s) (take (n - length (old ++ take m s)) t) ∙ ap (λ k. old ++ (take m s ++ take k t)) e ∙ ap (λ l. old ++ l) (taken_both m s t)

taken_none : (m : ℕ) → take {A = ℕ} m [] ≡ []
taken_none zero = refl
taken_none (suc m) = refl

pub written_none : (n : ℕ) (old : List ℕ) → old ≡ written n old []
written_none n old = sym (ap (λ l. old ++ l) (taken_none (n - length old)) ∙ append-nil old)

pub written_next : (n : ℕ) (old s : List ℕ) (i : ℕ) → i < length s → written n (written n old (take i s)) (get_or s i 0 ∷ []) ≡ written n old (take (i + 1) s)
written_next n old s i h =
    written_both n old (take i s) (get_or s i 0 ∷ []) ∙ ap (written n old) (sym (ap (λ k. take k s) (add-one i) ∙ take-suc s i 0 h))
