-- A step from a configuration that runs well ends the scan, or leads to one that runs well and has less to go: one case for each kind of
-- control flow. Assumes nothing.
use Rattle.std.specs.Prelude.{◌≡◌, Bool, true, false, cond, length, drop, ltb}
use Rattle.std.proofs.Math.Path.{refl, sym, ap}
use Rattle.std.proofs.Common.{◌∙◌, arith, ltb-true}
use Prim.Native.Nat.{ℕ, zero, suc, ◌+◌, ◌*◌, ◌-◌, ◌≤◌, ◌<◌}
use Rattle.std.proofs.Math.Nat.{le_refl}
use Rattle.std.specs.Bool.{beq}
use Rattle.std.proofs.Math.Option.{Option, none, some}
use mathlib.Core.List.{List, [], ◌∷◌}
use Rattle.std.proofs.Math.Seq.{drop-length}
use Rattle.base_program.specs.declared.Flow.{Flow}
use Rattle.base_program.specs.declared.Instruction.{Instruction}
use Rattle.base_program.specs.declared.Program.{Program}
use Rattle.base_program.specs.declared.Table.{Table}
use Rattle.base_program.specs.declared.Table.TheVariants.{Three}
use Rattle.base_program.specs.Flow.{flow}
use Rattle.base_program.specs.Entries.{entries}
use Rattle.spec_check.specs.Calls.{behind, body}
use Rattle.spec_check.specs.Counts.{top, rest, added_on, count_entry, counts, call_count}
use Rattle.proof_check.specs.CallLaws.{count_to_end}
use Rattle.spec_check.specs.Blocks.{label, same}
use Rattle.spec_machine.specs.Memory.{Memory}
use Rattle.spec_machine.specs.Values.{Scan}
use Rattle.spec_machine.specs.Ends.{Way, ways, behind_label}
use Rattle.spec_machine.specs.Machine.{Open, then_do, loop, Place, Config, Next, next, place_at, at, shift, loop_open, table_of, test, effect, pass_over, if_false, past_end, leave, exit, call, again, stop, go_on, act, step}
use Rattle.proof_safety.specs.Shape.{Shape, half, HasLoop, Scope, in_table, in_sub, WellFlow, Callable, ElseWell, match}
use Rattle.base_laws.specs.Lists.{drop_next}
use Rattle.proof_safety.specs.Potential.{shapes, length_shapes, Well, cnt, from, Matched, togo, Back, togo_top, back_top, Stands, stands_at, stands_behind, Left, leaves, Callers, RunsWell, Advances}

mul_suc : (a b x : ℕ) → a ≡ suc b → a * x ≡ x + b * x
mul_suc a b x h = rw h (omega arith)

-- ---- places that are found

-- the entries behind the 85 that a call finds
pub found_behind : (k e q : ℕ) (l tab : List Instruction) → drop e tab ≡ l → behind_label k e l ≡ some q → behind k l ≡ drop q tab
unfolding behind_label behind
found_behind k e q [] tab h f = cc
found_behind k e q (i ∷ r) tab h f = by (same (some k) (label (flow i))) f (λ g. found_behind k (suc e) q r tab nx g)
  where
    nx : drop (suc e) tab ≡ r
    nx = drop_next e tab h

    some_same : (a b : ℕ) → some a ≡ some b → a ≡ b
    some_same a b g = cc

    by : (b : Bool) → cond b (some (suc e)) (behind_label k (suc e) r) ≡ some q → (behind_label k (suc e) r ≡ some q → behind k r ≡ drop q tab)
        → cond b r (behind k r) ≡ drop q tab
    by true g ih = sym nx ∙ ap (λ n. drop n tab) (some_same (suc e) q g)
    by false g ih = ih g

module _ (p : Program) where
  -- what a call adds is the count of the entries behind its 85
  call_counts : (n k q : ℕ) → behind_label k 0 (entries p Three) ≡ some q → call_count p (suc n) k ≡ top (counts (call_count p n) (drop q (entries p Three)))
  unfolding call_count body
  call_counts n k q f =
      sym (count_to_end (call_count p n) (behind k (entries p Three)))
      ∙ ap (λ l. top (counts (call_count p n) l)) (found_behind k 0 q (entries p Three) (entries p Three) refl f)

  module _ (n : ℕ) (w : Scope) (t : Table) (cs : List Place) (m : Memory) (b d : ℕ) (fr : Callers p n w cs b) where
    arrive : (q : ℕ) (bs : List Open) (a : ℕ) → Stands p n w t q bs a → a + b < d → Advances p (next (at t q bs cs m)) d
    arrive q bs a st lt = (a + b, lt, record { level = n; scope = w; mine = a; theirs = b; sum = le_refl _; stands = st; callers = fr })

    -- to the entry behind this one
    forward : (e : ℕ) (bs : List Open) (r : List Instruction) → from p n w t e ≡ r → Well p n w t (shapes bs) r → Back p n w t bs (cnt p n w t r) → length bs ≤ 11
        → togo p n w t bs (cnt p n w t r) + b < d → Advances p (next (at t e bs cs m)) d
    forward e bs r h ok bk few lt = arrive e bs (togo p n w t bs (cnt p n w t r)) (stands_at p n w t e bs r h ok bk few) lt

    -- the same, where the entry passed counted 1 + x
    onto : (e : ℕ) (bs : List Open) (r : List Instruction) (x : ℕ) → from p n w t e ≡ r → Well p n w t (shapes bs) r
        → Back p n w t bs (added_on (1 + x) (cnt p n w t r)) → length bs ≤ 11
        → togo p n w t bs (added_on (1 + x) (cnt p n w t r)) + b ≤ d → Advances p (next (at t e bs cs m)) d
    onto e bs r x h ok bk few lt =
        let c : List ℕ = cnt p n w t r in
        forward e bs r h ok (back_top p n w t bs (1 + x + top c) c bk) few (omega (arith, togo_top p n w t bs (1 + x + top c) c))

    -- a false Then Do
    passes_over : (o : Option ℕ) (q : ℕ) (bs : List Open) (c : List ℕ) → Well p n w t (shapes bs) (from p n w t q) → cnt p n w t (from p n w t q) ≡ rest c
        → ElseWell p (Callable p n) (call_count p n) w (entries p t) o half (shapes bs) c → Back p n w t bs (rest c) → length bs < 11
        → top c + togo p n w t bs (rest c) + b < d → Advances p (pass_over o q t bs cs m) d
    passes_over none q bs c ok e el bk few lt =
        arrive q bs (togo p n w t bs (rest c)) (stands_behind p n w t q bs (rest c) e ok bk (omega arith)) (omega arith)
    passes_over (some z) q bs c ok e el bk few lt =
        arrive z (then_do ∷ bs) (top c + togo p n w t bs (rest c))
        (record { ok = el.0; back = rw el.1 bk; few = few; less = rw el.1 (omega (arith, el.2)) })
        lt

    if_false_lem : (ws : List Way) (bs : List Open) (c : List ℕ) → Matched p n w t (half ∷ shapes bs) ws c → Back p n w t bs (rest c) → length bs < 11
        → top c + togo p n w t bs (rest c) + b < d → Advances p (if_false ws t bs cs m) d
    if_false_lem [] bs c mt bk few lt = mt
    if_false_lem (x ∷ ws) bs c mt bk few lt = passes_over x.behind_else x.behind_end bs c mt.0 mt.1 mt.2 bk few lt

    -- an Else reached
    past_end_lem : (ws : List Way) (bs : List Open) (c : List ℕ) → Matched p n w t (half ∷ shapes bs) ws c → Back p n w t bs (rest c) → length bs < 11
        → top c + togo p n w t bs (rest c) + b < d → Advances p (past_end ws t bs cs m) d
    past_end_lem [] bs c mt bk few lt = mt
    past_end_lem (x ∷ ws) bs c mt bk few lt =
        arrive x.behind_end bs (togo p n w t bs (rest c)) (stands_behind p n w t x.behind_end bs (rest c) mt.1 mt.0 bk (omega arith)) (omega arith)

    -- an exit
    left : (x : Next) (a : ℕ) → Left p n w t x cs m a → a + b < d → Advances p x d
    left x a l lt = rw l.3 (arrive l.0 l.1 l.2 l.4 (omega (arith, l.5)))

    loop_open_lem : (bs : List Open) → HasLoop (shapes bs) → loop_open bs ≡ true
    unfolding loop_open
    loop_open_lem [] h = absurd h
    loop_open_lem (then_do ∷ bs) h = loop_open_lem bs h
    loop_open_lem (loop a k j ∷ bs) h = refl

    exits : (taken : Bool) (e : ℕ) (bs : List Open) (r : List Instruction) → from p n w t e ≡ r → Well p n w t (shapes bs) r → HasLoop (shapes bs)
        → Matched p n w t (shapes bs) (ways e r) (cnt p n w t r) → Back p n w t bs (added_on 1 (cnt p n w t r)) → length bs ≤ 11
        → togo p n w t bs (added_on 1 (cnt p n w t r)) + b ≤ d → Advances p (exit (loop_open bs) taken (ways e r) t e bs cs m) d
    exits true e bs r h ok hl mt bk few lt =
        let c : List ℕ = cnt p n w t r in
        rw (loop_open_lem bs hl)
        (left (leave bs (ways e r) t cs m) (togo p n w t bs c)
        (leaves p n w t bs (ways e r) c cs m (togo p n w t bs c) hl mt (back_top p n w t bs (1 + top c) c bk) few (le_refl _))
        (omega (arith, togo_top p n w t bs (1 + top c) c)))
    exits false e bs r h ok hl mt bk few lt = rw (loop_open_lem bs hl) (onto e bs r 0 h ok bk few lt)

    -- a loop's End
    once_more : (a k j : ℕ) (bs : List Open) (c : List ℕ) → Back p n w t (loop a k j ∷ bs) (1 ∷ c) → length bs < 11
        → togo p n w t (loop a k j ∷ bs) (1 ∷ c) + b ≤ d → j < k → Advances p (next (at t a (loop a k (suc j) ∷ bs) cs m)) d
    once_more a k j bs c bk few lt jk =
        let inside : ℕ = top (cnt p n w t (from p n w t a)) in
        arrive a (loop a k (suc j) ∷ bs) (inside + ((k - suc j) * inside + togo p n w t bs c))
        (record { ok = bk.2; back = (omega arith, jk, bk.2, refl, rw bk.3 bk.4); few = few; less = rw bk.3 (le_refl _) })
        (omega (arith, mul_suc (k - j) (k - suc j) inside (omega arith)))

    ends_loop : (a k j e : ℕ) (bs : List Open) (r : List Instruction) → from p n w t e ≡ r → Well p n w t (shapes bs) r
        → Back p n w t (loop a k j ∷ bs) (1 ∷ cnt p n w t r) → length bs < 11 → togo p n w t (loop a k j ∷ bs) (1 ∷ cnt p n w t r) + b ≤ d
        → Advances p (again (ltb j k) a k j t e bs cs m) d
    ends_loop a k j e bs r h ok bk few lt = by (ltb j k) refl
      where
        by : (z : Bool) → ltb j k ≡ z → Advances p (again z a k j t e bs cs m) d
        by true q = once_more a k j bs (cnt p n w t r) bk few lt (ltb-true j k q)
        by false q = forward e bs r h ok bk.4 (omega arith) (omega arith)

  -- a call
  enters : (n : ℕ) (w : Scope) (t : Table) (cs : List Place) (m : Memory) (b d : ℕ) → Callers p n w cs b → (e : ℕ) (bs : List Open) (r : List Instruction) (k : ℕ)
      → from p n w t e ≡ r → Callable p n k → Well p n w t (shapes bs) r → Back p n w t bs (cnt p n w t r) → length bs ≤ 11
      → call_count p n k + (togo p n w t bs (cnt p n w t r) + b) < d
      → Advances p (call (behind_label k 0 (entries p Three)) true t e bs cs m) d
  enters zero w t cs m b d fr e bs r k h cl ok bk few lt = absurd cl
  enters (suc n) w t cs m b d fr e bs r k h cl ok bk few lt =
      let a : ℕ = togo p (suc n) w t bs (cnt p (suc n) w t r) in
      let same : call_count p (suc n) k ≡ top (counts (call_count p n) (drop cl.0 (entries p Three))) = call_counts n k cl.0 cl.1 in
      rw cl.1
      (arrive n in_sub Three (place_at t e bs ∷ cs) m (a + b) d (w, a, b, le_refl _, stands_at p (suc n) w t e bs r h ok bk few, fr)
      cl.0 [] (top (counts (call_count p n) (drop cl.0 (entries p Three))))
      (record { ok = cl.2; back = tt; few = omega arith; less = le_refl _ })
      (omega (arith, same)))

  -- a call that is not made
  not_called : (n : ℕ) (w : Scope) (t : Table) (cs : List Place) (m : Memory) (d e k : ℕ) (bs : List Open) → Callable p n k → Advances p (next (at t e bs cs m)) d
      → Advances p (call (behind_label k 0 (entries p Three)) false t e bs cs m) d
  not_called zero w t cs m d e k bs cl h = absurd cl
  not_called (suc n) w t cs m d e k bs cl h = rw cl.1 h

  module _ (x : Scan) where
    -- command 0
    stops : (m : Memory) (d : ℕ) → 0 < d → Advances p (stop p x m) d
    unfolding counts
    stops m d h =
        let home : Table = table_of x.table in
        arrive 7 in_table home [] m 0 d refl (length (entries p home)) [] 0
        (stands_at p 7 in_table home (length (entries p home)) [] [] (drop-length (entries p home)) tt tt (omega arith))
        (omega arith)

    -- an entry of this kind; e is the place behind it, where the entries are r
    goes_on : (y : Flow) (z : Bool) (r : List Instruction) (t : Table) (e : ℕ) (bs : List Open) (cs : List Place) (m : Memory) (n : ℕ) (w : Scope) (b d : ℕ)
        → from p n w t e ≡ r → WellFlow (Callable p n) w y (shapes bs) (λ s. Well p n w t s r) → Back p n w t bs (count_entry (call_count p n) y (cnt p n w t r))
        → length bs ≤ 11 → Callers p n w cs b → togo p n w t bs (count_entry (call_count p n) y (cnt p n w t r)) + b ≤ d
        → ((s : List Shape) → Well p n w t s r → Matched p n w t s (ways e r) (cnt p n w t r))
        → Advances p (go_on p x y z (ways e r) t e bs cs m) d
    unfolding go_on count_entry
    goes_on Flow.Next z r t e bs cs m n w b d h ok bk few fr lt mt = onto n w t cs m b d fr e bs r 0 h ok bk few lt
    goes_on Flow.Else z r t e [] cs m n w b d h ok bk few fr lt mt = absurd ok
    goes_on Flow.Else z r t e (then_do ∷ bs) cs m n w b d h ok bk few fr lt mt =
        past_end_lem n w t cs m b d fr (ways e r) bs (cnt p n w t r) (mt (half ∷ shapes bs) ok) bk few (omega arith)
    goes_on Flow.Else z r t e (loop a k j ∷ bs) cs m n w b d h ok bk few fr lt mt = absurd ok
    goes_on Flow.End z r t e [] [] m n in_table b d h ok bk few fr lt mt = absurd ok
    goes_on Flow.End z r t e [] [] m n in_sub b d h ok bk few fr lt mt = absurd fr
    goes_on Flow.End z r t e [] (g ∷ gs) m n in_table b d h ok bk few fr lt mt = absurd ok
    goes_on Flow.End z r t e [] (g ∷ gs) m n in_sub b d h ok bk few fr lt mt =
        (fr.1 + fr.2, omega (arith, fr.3), record { level = suc n; scope = fr.0; mine = fr.1; theirs = fr.2; sum = le_refl _; stands = fr.4; callers = fr.5 })
    goes_on Flow.End z r t e (then_do ∷ bs) cs m n w b d h ok bk few fr lt mt = forward n w t cs m b d fr e bs r h ok bk (omega arith) (omega arith)
    goes_on Flow.End z r t e (loop a k j ∷ bs) cs m n w b d h ok bk few fr lt mt = ends_loop n w t cs m b d fr a k j e bs r h ok bk few lt
    goes_on Flow.Then z r t e bs cs m n w b d h ok bk few fr lt mt = by z
      where
        c : List ℕ
        c = cnt p n w t r

        y : ℕ
        y = 1 + 1 * top c + top (rest c)

        bk' : Back p n w t bs (rest c)
        bk' = back_top p n w t bs y (rest c) bk

        short : length bs < 11
        short = omega (arith, ok.0, length_shapes bs)

        by : (u : Bool) → Advances p (go_on p x Flow.Then u (ways e r) t e bs cs m) d
        by true = forward n w t cs m b d fr e (then_do ∷ bs) r h ok.1 bk' short (omega (arith, togo_top p n w t bs y (rest c)))
        by false = if_false_lem n w t cs m b d fr (ways e r) bs c (mt (half ∷ shapes bs) ok.1) bk' short (omega (arith, togo_top p n w t bs y (rest c)))
    goes_on Flow.Stop true r t e bs cs m n w b d h ok bk few fr lt mt =
        stops m d (omega (arith, togo_top p n w t bs (1 + top (cnt p n w t r)) (cnt p n w t r)))
    goes_on Flow.Stop false r t e bs cs m n w b d h ok bk few fr lt mt = onto n w t cs m b d fr e bs r 0 h ok bk few lt
    goes_on (Flow.Loop k) z r t e bs cs m n w b d h ok bk few fr lt mt =
        let c : List ℕ = cnt p n w t r in
        let y : ℕ = 1 + k * top c + top (rest c) in
        let bk' = back_top p n w t bs y (rest c) bk in
        let q = togo_top p n w t bs y (rest c) in
        let short : length bs < 11 = omega (arith, ok.1, length_shapes bs) in
        forward n w t cs m b d fr e (loop e k 1 ∷ bs) r h ok.2
        (omega arith, ok.0, rw h ok.2, ap (λ l. rest (cnt p n w t l)) h, bk')
        short
        (rw h (omega (arith, mul_suc k (k - 1) (top c) (omega (arith, ok.0)))))
    goes_on (Flow.Subroutine k) z r t e bs cs m n w b d h ok bk few fr lt mt = absurd ok
    goes_on (Flow.Call k) true r t e bs cs m n w b d h ok bk few fr lt mt =
        let c : List ℕ = cnt p n w t r in
        let y : ℕ = 1 + call_count p n k + top c in
        enters n w t cs m b d fr e bs r k h ok.0 ok.1 (back_top p n w t bs y c bk) few (omega (arith, togo_top p n w t bs y c))
    goes_on (Flow.Call k) false r t e bs cs m n w b d h ok bk few fr lt mt =
        not_called n w t cs m d e k bs ok.0 (onto n w t cs m b d fr e bs r (call_count p n k) h ok.1 bk few lt)
    goes_on (Flow.Exit when) z r t e bs cs m n w b d h ok bk few fr lt mt =
        exits n w t cs m b d fr (beq z when) e bs r h ok.1 ok.0 (mt (shapes bs) ok.1) bk few lt

    acts : (l : List Instruction) (t : Table) (e : ℕ) (bs : List Open) (cs : List Place) (m : Memory) (n : ℕ) (w : Scope) (b d : ℕ) → from p n w t e ≡ l
        → Well p n w t (shapes bs) l → Back p n w t bs (cnt p n w t l) → length bs ≤ 11 → Callers p n w cs b → togo p n w t bs (cnt p n w t l) + b ≤ d
        → Advances p (act p x l t e bs cs m) d
    unfolding act counts
    acts [] t e [] [] m n w b d h ok bk few fr lt = tt
    acts [] t e [] (g ∷ gs) m n in_table b d h ok bk few fr lt = absurd fr
    acts [] t e [] (g ∷ gs) m n in_sub b d h ok bk few fr lt = absurd ok
    acts [] t e (y ∷ bs) cs m n w b d h ok bk few fr lt = absurd ok
    acts (i ∷ r) t e bs cs m n w b d h ok bk few fr lt =
        let nx = drop_next e (entries p t) h in
        goes_on (flow i) (test p x (shift bs) i m) r t (suc e) bs cs (effect p x t (suc e) (shift bs) i m) n w b d nx ok.1 bk few fr lt
        (λ s o. match p (Callable p n) (call_count p n) w (entries p t) r (suc e) s nx o)

    pub advance : (c : Config) (d : ℕ) → RunsWell p c d → Advances p (step p x c) d
    advance c d h =
        acts (drop c.place.before (entries p c.place.table)) c.place.table c.place.before c.place.blocks c.callers c.memory
        h.level h.scope h.theirs d refl h.stands.ok h.stands.back h.stands.few h.callers (omega (arith, h.stands.less, h.sum))
