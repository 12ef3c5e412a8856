-- Laws of marks and of the stack: what a number is as a mark, what a store and a place below do to the stack. Assumes nothing.
use Rattle.std.specs.Prelude.{◌≡◌, refl, ℕ, zero, suc, ◌+◌, ◌-◌, ◌*◌, ◌/◌, ◌%◌, ◌≤◌, ◌<◌, min, Bool, true, false, cond, not, List, [], ◌∷◌, length, get_or, set, ltb, eqb}
use Rattle.std.proofs.Common.{sym, ap, subst, ◌∙◌, arith, add-one, get_or-set_same, get_or-set_other, lt-ltb, le-ltb, ltb-true, ltb-false, ne_eqb, eq-eqb, eqb-true}
use Rattle.std.proofs.lemmas.Bool.{eqb-false}
use Rattle.scan_marks.specs.Marks.{Mark, first_loop, first_call, then_mark, loop_mark, call_mark, mark_of, stack, place_in, To, go, nowhere, seen}
use Rattle.scan_marks.specs.Move.{pass_to, shift_to, Shifted, MoveReady, Marked, own_loop, else_to, leave_to, Moved, Pushed}

-- the arm that a test has taken
pub yes : {A : Type 0} {b : Bool} (x y : A) → b ≡ true → cond b x y ≡ x
yes x y h = ap (λ z. cond z x y) h

pub no : {A : Type 0} {b : Bool} (x y : A) → b ≡ false → cond b x y ≡ y
no x y h = ap (λ z. cond z x y) h

-- ---- numbers as marks

abbrev loop_in : ℕ → Mark
loop_in v = loop_mark (v / first_loop - 1) (v / 65536 % 65536) (v % 65536 + 1)

abbrev call_in : ℕ → Mark
call_in v = call_mark (min ((v - first_call) / 65536) 383)

pub then_is : (v : ℕ) → v < first_loop → mark_of v ≡ then_mark
unfolding mark_of
then_is v h = yes then_mark (cond (ltb v first_call) (loop_in v) (call_in v)) (lt-ltb v first_loop h)

pub loop_is : (v : ℕ) → first_loop ≤ v → v < first_call → mark_of v ≡ loop_mark (v / first_loop - 1) (v / 65536 % 65536) (v % 65536 + 1)
unfolding mark_of
loop_is v h k =
    no then_mark (cond (ltb v first_call) (loop_in v) (call_in v)) (le-ltb v first_loop h) ∙ yes (loop_in v) (call_in v) (lt-ltb v first_call k)

pub call_is : (v : ℕ) → first_call ≤ v → mark_of v ≡ call_mark (min ((v - first_call) / 65536) 383)
unfolding mark_of
call_is v h =
    no then_mark (cond (ltb v first_call) (loop_in v) (call_in v)) (le-ltb v first_loop (omega arith)) ∙ no (loop_in v) (call_in v) (le-ltb v first_call h)

loop_parts : {a a' n n' j j' : ℕ} → a ≡ a' → n ≡ n' → j ≡ j' → loop_mark a n j ≡ loop_mark a' n' j'
loop_parts p q r = cc

-- a loop that begins
pub loop_made : (a n : ℕ) → a ≤ 127 → n < 65536 → mark_of ((a + 1) * first_loop + n * 65536) ≡ loop_mark a n 1
loop_made a n ha hn =
    let v : ℕ = (a + 1) * first_loop + n * 65536 in
    loop_is v (omega arith) (omega arith)
    ∙ loop_parts (let g : v / first_loop - 1 ≡ a = omega arith in g) (let g : v / 65536 % 65536 ≡ n = omega arith in g) (let g : v % 65536 + 1 ≡ 1 = omega arith in g)

-- the next pass
pub loop_next : (v : ℕ) → first_loop ≤ v → v < first_call → v % 65536 + 1 < v / 65536 % 65536
    → mark_of (v + 1) ≡ loop_mark (v / first_loop - 1) (v / 65536 % 65536) (suc (v % 65536 + 1))
loop_next v h k lt =
    loop_is (v + 1) (omega arith) (omega arith)
    ∙ loop_parts (let g : (v + 1) / first_loop - 1 ≡ v / first_loop - 1 = omega arith in g)
    (let g : (v + 1) / 65536 % 65536 ≡ v / 65536 % 65536 = omega arith in g)
    (let g : (v + 1) % 65536 + 1 ≡ suc (v % 65536 + 1) = omega arith in g)

pub call_made : (pc : ℕ) → pc < 384 → mark_of (first_call + pc * 65536) ≡ call_mark pc
call_made pc h =
    call_is (first_call + pc * 65536) (omega arith) ∙ ap call_mark (let g : min ((first_call + pc * 65536 - first_call) / 65536) 383 ≡ pc = omega arith in g)

-- ---- the stack

pub stack_length : (l : List ℕ) (k : ℕ) → length (stack l k) ≡ k
stack_length l zero = refl
stack_length l (suc k) = ap suc (stack_length l k)

stack_set : (l : List ℕ) (k j v : ℕ) → k < j → stack (set l j v) k ≡ stack l k
stack_set l zero j v h = refl
stack_set l (suc k) j v h =
    ap (λ x. mark_of x ∷ stack (set l j v) k) (get_or-set_other l j (suc k) v 0 (λ e. omega arith))
    ∙ ap (λ s. mark_of (get_or l (suc k) 0) ∷ s) (stack_set l k j v (omega arith))

stack_push : (l : List ℕ) (k v : ℕ) → suc k < length l → stack (set l (suc k) v) (suc k) ≡ mark_of v ∷ stack l k
stack_push l k v h =
    ap (λ x. mark_of x ∷ stack (set l (suc k) v) k) (get_or-set_same l (suc k) v 0 h) ∙ ap (λ s. mark_of v ∷ s) (stack_set l k (suc k) v (omega arith))

-- the uppermost mark is this
pub top_is : (l : List ℕ) (k : ℕ) {m : Mark} → 0 < k → mark_of (get_or l k 0) ≡ m → stack l k ≡ m ∷ stack l (k - 1)
top_is l zero h e = absurd (omega arith)
top_is l (suc k) {m} h e =
    let down : k ≡ suc k - 1 = omega arith in
    ap (λ x. x ∷ stack l k) e ∙ ap (λ (j : ℕ). m ∷ stack l j) down

-- the uppermost mark is replaced
pub top_set : (l : List ℕ) (k v : ℕ) → 0 < k → k < length l → stack (set l k v) k ≡ mark_of v ∷ stack l (k - 1)
top_set l zero v h r = absurd (omega arith)
top_set l (suc k) v h r = stack_push l k v r ∙ ap (λ (j : ℕ). mark_of v ∷ stack l j) (let g : k ≡ suc k - 1 = omega arith in g)

pub bottom : (l : List ℕ) (k : ℕ) → k ≤ 0 → stack l k ≡ []
bottom l k h = ap (stack l) (let g : k ≡ 0 = omega arith in g)

-- ---- how far indexed locations are moved up

pub marked : {pc top : ℕ} {marks : List ℕ} → MoveReady pc top marks → Marked marks top
marked r = (r.room, r.size, r.shifted)

pub shifted_below : (l : List ℕ) (k j : ℕ) → j ≤ k → Shifted l k → Shifted l j
shifted_below l k j h s i g = s i (omega arith)

-- a number that has the shift is stored above
shifted_set : (l : List ℕ) (k v : ℕ) → suc k < length l → v % 65536 ≡ shift_to (mark_of v ∷ stack l k) → Shifted l k → Shifted (set l (suc k) v) (suc k)
shifted_set l k v room e s i h = by (eqb i (suc k)) refl
  where
    by : (b : Bool) → eqb i (suc k) ≡ b → get_or (set l (suc k) v) i 0 % 65536 ≡ shift_to (stack (set l (suc k) v) i)
    by true q =
        let same : suc k ≡ i = sym (eqb-true i (suc k) q) in
        subst (λ n. get_or (set l (suc k) v) n 0 % 65536 ≡ shift_to (stack (set l (suc k) v) n)) same
        (ap (λ x. x % 65536) (get_or-set_same l (suc k) v 0 room) ∙ e ∙ sym (ap shift_to (stack_push l k v room)))
    by false q =
        let other : i ≡ suc k → ⊥ = eqb-false i (suc k) q in
        let less : i < suc k = omega arith in
        ap (λ x. x % 65536) (get_or-set_other l (suc k) i v 0 other)
        ∙ s i (omega arith)
        ∙ sym (ap shift_to (stack_set l i (suc k) v less))

-- the uppermost number is replaced
pub shifted_top : (l : List ℕ) (k v : ℕ) → 0 < k → k < length l → v % 65536 ≡ shift_to (mark_of v ∷ stack l (k - 1)) → Shifted l k → Shifted (set l k v) k
shifted_top l zero v some room e s = absurd (omega arith)
shifted_top l (suc k) v some room e s =
    let down : suc k - 1 ≡ k = omega arith in
    shifted_set l k v room (subst (λ (j : ℕ). v % 65536 ≡ shift_to (mark_of v ∷ stack l j)) down e) (shifted_below l (suc k) k (omega arith) s)

pub pushed : (l : List ℕ) (k v : ℕ) → k + 1 < length l → v % 65536 ≡ shift_to (mark_of v ∷ stack l k) → Shifted l k → Pushed (mark_of v) l k (set l (k + 1) v) (k + 1)
pushed l k v h e s =
    let up : suc k ≡ k + 1 = sym (add-one k) in
    subst (λ (j : ℕ). Pushed (mark_of v) l k (set l j v) j) up
    (record { above = stack_push l k v (omega arith); higher = up; shifted = shifted_set l k v (omega arith) e s })

-- ---- answers

pub seen_nowhere : (s : List Mark) → seen 384 s ≡ nowhere
unfolding seen
seen_nowhere s = refl

pub seen_go : (r : ℕ) (s : List Mark) → r < 384 → seen r s ≡ go (r / 128) (r % 128) s
unfolding seen
seen_go r s h = no nowhere (go (r / 128) (r % 128) s) (ne_eqb r 384 (λ e. omega arith))

go_parts : {t t' e e' : ℕ} (s : List Mark) → t ≡ t' → e ≡ e' → go t e s ≡ go t' e' s
go_parts s p q = cc

-- place q of pc's table
pub seen_in : (pc q r : ℕ) (s : List Mark) → pc < 384 → q ≤ 127 → r ≡ place_in pc q → (seen r s ≡ go (pc / 128) q s) × (r < 384)
seen_in pc q r s h k e =
    (seen_go r s (omega arith) ∙ go_parts s (let g : r / 128 ≡ pc / 128 = omega arith in g) (let g : r % 128 ≡ q = omega arith in g), omega arith)

pub moved_nowhere : (l : List ℕ) (k : ℕ) (to : To) → k ≤ 96 → Shifted l k → to ≡ nowhere → Moved to 384 l k
moved_nowhere l k to h m e = record { leads = seen_nowhere (stack l k) ∙ sym e; within = omega arith; room = h; shifted = m }

pub moved_to : (l : List ℕ) (k r : ℕ) (s : List Mark) (to : To) → r < 384 → k ≤ 96 → Shifted l k → stack l k ≡ s → to ≡ go (r / 128) (r % 128) s → Moved to r l k
moved_to l k r s to h j m e f =
    record { leads = ap (seen r) e ∙ seen_go r s h ∙ sym f; within = omega arith; room = j; shifted = m }

pub moved_in : (l : List ℕ) (k pc q r : ℕ) (s : List Mark) (to : To) → pc < 384 → q ≤ 127 → r ≡ place_in pc q → k ≤ 96 → Shifted l k → stack l k ≡ s → to ≡ go (pc / 128) q s
    → Moved to r l k
moved_in l k pc q r s to h small i j m e f =
    let g = seen_in pc q r s h small i in record { leads = ap (seen r) e ∙ g.0 ∙ sym f; within = omega (arith, g.1); room = j; shifted = m }

-- a mark that is no Then Do has no Else
pub not_then : (ends : List ℕ) (pc v : ℕ) (s : List Mark) → first_loop ≤ v → else_to ends pc (mark_of v ∷ s) ≡ nowhere
not_then ends pc v s h = by (ltb v first_call) refl
  where
    by : (b : Bool) → ltb v first_call ≡ b → else_to ends pc (mark_of v ∷ s) ≡ nowhere
    by true e = ap (λ x. else_to ends pc (x ∷ s)) (loop_is v h (ltb-true v first_call e))
    by false e = ap (λ x. else_to ends pc (x ∷ s)) (call_is v (ltb-false v first_call e))

-- where no End is told an exit leads nowhere
pub no_end : (ends : List ℕ) (pc v : ℕ) (s : List Mark) → v < first_call → get_or ends pc 0 ≡ 0 → leave_to ends pc (mark_of v ∷ s) ≡ nowhere
no_end ends pc v s h z = by (ltb v first_loop) refl
  where
    by : (b : Bool) → ltb v first_loop ≡ b → leave_to ends pc (mark_of v ∷ s) ≡ nowhere
    by true e = ap (λ x. leave_to ends pc (x ∷ s)) (then_is v (ltb-true v first_loop e)) ∙ yes nowhere _ (eq-eqb (get_or ends pc 0) 0 z)
    by false e = ap (λ x. leave_to ends pc (x ∷ s)) (loop_is v (ltb-false v first_loop e) h) ∙ yes nowhere _ (eq-eqb (get_or ends pc 0) 0 z)

-- ---- a loop's pass, as the code holds it, is not 0

pass_open : (l : List ℕ) (k : ℕ) → eqb (pass_to (stack l k)) 0 ≡ not (own_loop (stack l k))
unfolding mark_of
pass_open l zero = refl
pass_open l (suc k) = by (ltb (get_or l (suc k) 0) first_loop) (ltb (get_or l (suc k) 0) first_call) (pass_open l k)
  where
    by : (a b : Bool) → eqb (pass_to (stack l k)) 0 ≡ not (own_loop (stack l k))
        → eqb (pass_to (cond a then_mark (cond b (loop_in (get_or l (suc k) 0)) (call_in (get_or l (suc k) 0))) ∷ stack l k)) 0
        ≡ not (own_loop (cond a then_mark (cond b (loop_in (get_or l (suc k) 0)) (call_in (get_or l (suc k) 0))) ∷ stack l k))
    by true b h = h
    by false true h = ne_eqb (get_or l (suc k) 0 % 65536 + 1) 0 (λ z. omega arith)
    by false false h = refl

not-true : (b : Bool) → true ≡ not b → b ≡ false
not-true true h = h
not-true false h = refl

not-false : (b : Bool) → false ≡ not b → b ≡ true
not-false true h = refl
not-false false h = h

pub no_loop : (l : List ℕ) (k : ℕ) → pass_to (stack l k) ≡ 0 → own_loop (stack l k) ≡ false
no_loop l k h = not-true (own_loop (stack l k)) (sym (eq-eqb (pass_to (stack l k)) 0 h) ∙ pass_open l k)

pub a_loop : (l : List ℕ) (k : ℕ) → (pass_to (stack l k) ≡ 0 → ⊥) → own_loop (stack l k) ≡ true
a_loop l k h = not-false (own_loop (stack l k)) (sym (ne_eqb (pass_to (stack l k)) 0 h) ∙ pass_open l k)
