-- The ways that the machine goes by, and the blocks that the check's walk has open, are the matching of Ends: by recursion on the entries.
-- Assumes nothing.
use Rattle.std.specs.Prelude.{◌≡◌, refl, ℕ, suc, ◌+◌, Bool, true, false, ◌⊎◌, List, [], ◌∷◌, ◌++◌, map, length}
use Rattle.std.proofs.Common.{sym, ap, ◌∙◌, subst, arith, inl, inr, append_assoc, length-append}
use Rattle.std.proofs.Math.Option.{none, some}
use Rattle.base_program.specs.declared.Flow.{Flow}
use Rattle.base_program.specs.declared.Instruction.{Instruction}
use Rattle.base_program.specs.Flow.{flow, opens}
use Rattle.spec_check.specs.Blocks.{Block, then_do, else_do, subroutine, loop, through, blocks_after, kind, is}
use Rattle.spec_machine.specs.Ends.{Way, inner, divided, way_of, ways}
use Rattle.base_laws.specs.Tests.{apart}
use Rattle.spec_machine.specs.Matching.{Level, Undivided, EndOf, ElseIn, GoesBy, Exact, WaysExact, WalkMatches}
use Rattle.spec_machine.specs.Matching.Level.{empty, entry, block}

-- ---- what is inside a block has one Else at least, or none

pub halves : {a : List Instruction} → Level a → Undivided a ⊎ ElseIn a
halves empty = inl Undivided.empty
halves (entry {i} {r} o e l) = by (is 94 (flow i)) refl (halves l)
  where
    by : (b : Bool) → is 94 (flow i) ≡ b → Undivided r ⊎ ElseIn r → Undivided (i ∷ r) ⊎ ElseIn (i ∷ r)
    by true q h = inr (record { first = []; else = i; second = r; split = refl; undivided = Undivided.empty; is_else = q; level = l })
    by false q (inl u) = inl (Undivided.entry o e q u)
    by false q (inr x) =
        inr
        (record {
          first = i ∷ x.first;
          else = x.else;
          second = x.second;
          split = ap (λ z. i ∷ z) x.split;
          undivided = Undivided.entry o e q x.undivided;
          is_else = x.is_else;
          level = x.level;
        })
halves (block {o} {a} {r} e p l q m) = by (halves m)
  where
    by : Undivided r ⊎ ElseIn r → Undivided (o ∷ a ++ e ∷ r) ⊎ ElseIn (o ∷ a ++ e ∷ r)
    by (inl u) = inl (Undivided.block e p l q u)
    by (inr x) =
        inr
        (record {
          first = o ∷ a ++ e ∷ x.first;
          else = x.else;
          second = x.second;
          split = ap (λ z. o ∷ a ++ e ∷ z) x.split ∙ ap (λ z. o ∷ z) (sym (append_assoc a (e ∷ x.first) (x.else ∷ x.second)));
          undivided = Undivided.block e p l q x.undivided;
          is_else = x.is_else;
          level = x.level;
        })

-- ---- the machine's ways

-- a kind that neither opens nor closes leaves the Ends; one that is no Else either leaves all ways
abbrev ends : List Way → List ℕ
ends ws = map (λ w. w.behind_end) ws

ends_divided : (e : ℕ) (ws : List Way) → ends (divided e ws) ≡ ends ws
ends_divided e [] = refl
ends_divided e (w ∷ ws) = refl

ends_inner : (a b : List Way) → ends a ≡ ends b → ends (inner a) ≡ ends (inner b)
ends_inner a b h = sym (rest_ends a) ∙ ap rest h ∙ rest_ends b
  where
    rest : List ℕ → List ℕ
    rest [] = []
    rest (k ∷ l) = l

    rest_ends : (ws : List Way) → rest (ends ws) ≡ ends (inner ws)
    rest_ends [] = refl
    rest_ends (w ∷ ws) = refl

one_entry : (x : Flow) (e : ℕ) (ws : List Way) → opens x ≡ false → is 95 x ≡ false → ends (way_of x e ws) ≡ ends ws
unfolding way_of opens kind
one_entry Flow.Next e ws o n = refl
one_entry Flow.Else e ws o n = ends_divided e ws
one_entry Flow.End e ws o n = absurd (apart n)
one_entry Flow.Then e ws o n = absurd (apart o)
one_entry Flow.Stop e ws o n = refl
one_entry (Flow.Loop k) e ws o n = absurd (apart o)
one_entry (Flow.Subroutine k) e ws o n = absurd (apart o)
one_entry (Flow.Call k) e ws o n = refl
one_entry (Flow.Exit b) e ws o n = refl

inner_entry : (x : Flow) (e : ℕ) (ws : List Way) → opens x ≡ false → is 95 x ≡ false → inner (way_of x e ws) ≡ inner ws
unfolding way_of opens kind
inner_entry Flow.Next e ws o n = refl
inner_entry Flow.Else e [] o n = refl
inner_entry Flow.Else e (w ∷ ws) o n = refl
inner_entry Flow.End e ws o n = absurd (apart n)
inner_entry Flow.Then e ws o n = absurd (apart o)
inner_entry Flow.Stop e ws o n = refl
inner_entry (Flow.Loop k) e ws o n = absurd (apart o)
inner_entry (Flow.Subroutine k) e ws o n = absurd (apart o)
inner_entry (Flow.Call k) e ws o n = refl
inner_entry (Flow.Exit b) e ws o n = refl

plain_entry : (x : Flow) (e : ℕ) (ws : List Way) → opens x ≡ false → is 95 x ≡ false → is 94 x ≡ false → way_of x e ws ≡ ws
unfolding way_of opens kind
plain_entry Flow.Next e ws o n m = refl
plain_entry Flow.Else e ws o n m = absurd (apart m)
plain_entry Flow.End e ws o n m = absurd (apart n)
plain_entry Flow.Then e ws o n m = absurd (apart o)
plain_entry Flow.Stop e ws o n m = refl
plain_entry (Flow.Loop k) e ws o n m = absurd (apart o)
plain_entry (Flow.Subroutine k) e ws o n m = absurd (apart o)
plain_entry (Flow.Call k) e ws o n m = refl
plain_entry (Flow.Exit b) e ws o n m = refl

opener : (x : Flow) (e : ℕ) (ws : List Way) → opens x ≡ true → way_of x e ws ≡ inner ws
unfolding way_of opens
opener Flow.Next e ws o = absurd (apart (sym o))
opener Flow.Else e ws o = absurd (apart (sym o))
opener Flow.End e ws o = absurd (apart (sym o))
opener Flow.Then e ws o = refl
opener Flow.Stop e ws o = absurd (apart (sym o))
opener (Flow.Loop k) e ws o = refl
opener (Flow.Subroutine k) e ws o = refl
opener (Flow.Call k) e ws o = absurd (apart (sym o))
opener (Flow.Exit b) e ws o = absurd (apart (sym o))

is_flow_end : (x : Flow) → is 95 x ≡ true → x ≡ Flow.End
unfolding kind
is_flow_end Flow.Next h = absurd (apart (sym h))
is_flow_end Flow.Else h = absurd (apart (sym h))
is_flow_end Flow.End h = refl
is_flow_end Flow.Then h = absurd (apart (sym h))
is_flow_end Flow.Stop h = absurd (apart (sym h))
is_flow_end (Flow.Loop k) h = absurd (apart (sym h))
is_flow_end (Flow.Subroutine k) h = absurd (apart (sym h))
is_flow_end (Flow.Call k) h = absurd (apart (sym h))
is_flow_end (Flow.Exit b) h = absurd (apart (sym h))

is_flow_else : (x : Flow) → is 94 x ≡ true → x ≡ Flow.Else
unfolding kind
is_flow_else Flow.Next h = absurd (apart (sym h))
is_flow_else Flow.Else h = refl
is_flow_else Flow.End h = absurd (apart (sym h))
is_flow_else Flow.Then h = absurd (apart (sym h))
is_flow_else Flow.Stop h = absurd (apart (sym h))
is_flow_else (Flow.Loop k) h = absurd (apart (sym h))
is_flow_else (Flow.Subroutine k) h = absurd (apart (sym h))
is_flow_else (Flow.Call k) h = absurd (apart (sym h))
is_flow_else (Flow.Exit b) h = absurd (apart (sym h))

abbrev closed : ℕ → Way
closed e = record { behind_else = none; behind_end = e }

ways_end : (e : ℕ) (i : Instruction) (r : List Instruction) → is 95 (flow i) ≡ true → ways e (i ∷ r) ≡ closed (suc e) ∷ ways (suc e) r
unfolding ways way_of
ways_end e i r h = ap (λ x. way_of x (suc e) (ways (suc e) r)) (is_flow_end (flow i) h)

-- behind entries that close no block open before them the same Ends are found
level_ends : {a : List Instruction} → Level a → (e : ℕ) (r : List Instruction) → ends (ways e (a ++ r)) ≡ ends (ways (e + length a) r)
unfolding ways
level_ends empty e r = ap (λ n. ends (ways n r)) (let g : e ≡ e + 0 = omega arith in g)
level_ends (entry {i = i} {r = s} o n l) e r =
    one_entry (flow i) (suc e) (ways (suc e) (s ++ r)) o n
    ∙ level_ends l (suc e) r
    ∙ ap (λ k. ends (ways k r)) (let g : suc e + length s ≡ e + suc (length s) = omega arith in g)
level_ends (block {o = o} {a = a} {r = s} i p l q m) e r =
    ap (λ z. ends (way_of (flow o) (suc e) (ways (suc e) z))) (append_assoc a (i ∷ s) r)
    ∙ ap ends (opener (flow o) (suc e) (ways (suc e) (a ++ i ∷ (s ++ r))) p)
    ∙ ends_inner (ways (suc e) (a ++ i ∷ (s ++ r))) (ways (suc e + length a) (i ∷ (s ++ r))) (level_ends l (suc e) (i ∷ (s ++ r)))
    ∙ ap (λ z. ends (inner z)) (ways_end (suc e + length a) i (s ++ r) q)
    ∙ level_ends m (suc (suc e + length a)) r
    ∙ ap (λ k. ends (ways k r)) (let g : suc (suc e + length a) + length s ≡ e + suc (length (a ++ i ∷ s)) = omega (arith, length-append a (i ∷ s)) in g)

-- the ways outside a block are those behind its End
inside_closed : {a : List Instruction} → Level a → (e : ℕ) (i : Instruction) (r : List Instruction) → is 95 (flow i) ≡ true
    → inner (ways e (a ++ i ∷ r)) ≡ ways (suc (e + length a)) r
unfolding ways
inside_closed empty e i r h = ap inner (ways_end e i r h) ∙ ap (λ n. ways (suc n) r) (let g : e ≡ e + 0 = omega arith in g)
inside_closed (entry {i = j} {r = s} o n l) e i r h =
    inner_entry (flow j) (suc e) (ways (suc e) (s ++ i ∷ r)) o n
    ∙ inside_closed l (suc e) i r h
    ∙ ap (λ k. ways (suc k) r) (let g : suc e + length s ≡ e + suc (length s) = omega arith in g)
inside_closed (block {o = o} {a = a} {r = s} j p l q m) e i r h =
    ap (λ z. inner (way_of (flow o) (suc e) (ways (suc e) z))) (append_assoc a (j ∷ s) (i ∷ r))
    ∙ ap inner (opener (flow o) (suc e) (ways (suc e) (a ++ j ∷ (s ++ i ∷ r))) p)
    ∙ ap inner (inside_closed l (suc e) j (s ++ i ∷ r) q)
    ∙ inside_closed m (suc (suc e + length a)) i r h
    ∙ ap (λ k. ways (suc k) r) (let g : suc (suc e + length a) + length s ≡ e + suc (length (a ++ j ∷ s)) = omega (arith, length-append a (j ∷ s)) in g)

undivided_ways : {a : List Instruction} → Undivided a → (e : ℕ) (r : List Instruction) → ways e (a ++ r) ≡ ways (e + length a) r
unfolding ways
undivided_ways Undivided.empty e r = ap (λ n. ways n r) (let g : e ≡ e + 0 = omega arith in g)
undivided_ways (Undivided.entry {i = i} {r = s} o n m l) e r =
    plain_entry (flow i) (suc e) (ways (suc e) (s ++ r)) o n m
    ∙ undivided_ways l (suc e) r
    ∙ ap (λ k. ways k r) (let g : suc e + length s ≡ e + suc (length s) = omega arith in g)
undivided_ways (Undivided.block {o = o} {a = a} {r = s} i p l q m) e r =
    ap (λ z. way_of (flow o) (suc e) (ways (suc e) z)) (append_assoc a (i ∷ s) r)
    ∙ opener (flow o) (suc e) (ways (suc e) (a ++ i ∷ (s ++ r))) p
    ∙ inside_closed l (suc e) i (s ++ r) q
    ∙ undivided_ways m (suc (suc e + length a)) r
    ∙ ap (λ k. ways k r) (let g : suc (suc e + length a) + length s ≡ e + suc (length (a ++ i ∷ s)) = omega (arith, length-append a (i ∷ s)) in g)

-- ---- the machine finds exactly these

-- the first way, where there is one
Heads : List Way → (Way → Type 0) → Type 0
Heads [] P = ⊥
Heads (w ∷ ws) P = P w

heads_ends : (ws : List Way) (n : ℕ) (l : List ℕ) → ends ws ≡ n ∷ l → Heads ws (λ w. w.behind_end ≡ n)
unfolding Heads
heads_ends [] n l h = absurd (let z : ◌≡◌ {A = ℕ} 0 1 = cc in omega arith)
heads_ends (w ∷ ws) n l h = cc

found_end : (e : ℕ) (l : List Instruction) (x : EndOf l) → Heads (ways e l) (λ w. w.behind_end ≡ suc (e + length x.inside))
found_end e l x =
    heads_ends (ways e l) (suc (e + length x.inside)) (ends (ways (suc (e + length x.inside)) x.behind))
    (ap (λ z. ends (ways e z)) x.split
    ∙ level_ends x.level e (x.end ∷ x.behind)
    ∙ ap ends (ways_end (e + length x.inside) x.end x.behind x.is_end))

no_else : (e : ℕ) (l : List Instruction) (x : EndOf l) → Undivided x.inside → Heads (ways e l) (λ w. w.behind_else ≡ none)
unfolding Heads
no_else e l x u =
    rw (ap (ways e) x.split ∙ undivided_ways u e (x.end ∷ x.behind) ∙ ways_end (e + length x.inside) x.end x.behind x.is_end) refl

divided_head : (n : ℕ) (ws : List Way) (P : Way → Type 0) → Heads ws P → Heads (divided n ws) (λ w. w.behind_else ≡ some n)
unfolding Heads
divided_head n [] P h = absurd h
divided_head n (w ∷ ws) P h = refl

ways_else : (e : ℕ) (i : Instruction) (r : List Instruction) → is 94 (flow i) ≡ true → ways e (i ∷ r) ≡ divided (suc e) (ways (suc e) r)
unfolding ways way_of
ways_else e i r h = ap (λ x. way_of x (suc e) (ways (suc e) r)) (is_flow_else (flow i) h)

found_else : (e : ℕ) (l : List Instruction) (x : EndOf l) (y : ElseIn x.inside) → Heads (ways e l) (λ w. w.behind_else ≡ some (suc (e + length y.first)))
found_else e l x y =
    subst (λ z. Heads z (λ w. w.behind_else ≡ some (suc (e + length y.first)))) (sym same)
    (divided_head (suc (e + length y.first)) (ways (suc (e + length y.first)) later) _ (found_end (suc (e + length y.first)) later rest))
  where
    later : List Instruction
    later = y.second ++ x.end ∷ x.behind

    rest : EndOf later
    rest = record { inside = y.second; end = x.end; behind = x.behind; split = refl; level = y.level; is_end = x.is_end }

    same : ways e l ≡ divided (suc (e + length y.first)) (ways (suc (e + length y.first)) later)
    same =
        ap (ways e) (x.split ∙ ap (λ z. z ++ x.end ∷ x.behind) y.split ∙ append_assoc y.first (y.else ∷ y.second) (x.end ∷ x.behind))
        ∙ undivided_ways y.undivided e (y.else ∷ later)
        ∙ ways_else (e + length y.first) y.else later y.is_else

-- Each way that is found has its End, and the ways behind that have theirs.
abbrev Peeled : List Way → ℕ → List Instruction → Type 0
Peeled [] e l = Unit {0}
Peeled (w ∷ ws) e l = (x : EndOf l) × (w.behind_end ≡ suc (e + length x.inside)) × Peeled ws (suc (e + length x.inside)) x.behind

-- an entry in front that neither opens nor closes
put_before : (ws : List Way) (e : ℕ) (i : Instruction) (l : List Instruction) → opens (flow i) ≡ false → is 95 (flow i) ≡ false → Peeled ws (suc e) l → Peeled ws e (i ∷ l)
put_before [] e i l o n h = tt
put_before (w ∷ ws) e i l o n h =
    let x = h.0 in
    let more : suc (suc e + length x.inside) ≡ suc (e + suc (length x.inside)) = omega arith in (
      record { inside = i ∷ x.inside; end = x.end; behind = x.behind; split = ap (λ z. i ∷ z) x.split; level = entry o n x.level; is_end = x.is_end },
      h.1 ∙ more,
      subst (λ k. Peeled ws k x.behind) more h.2,
    )

-- a block in front
put_block : (ws : List Way) (e : ℕ) (o : Instruction) (l : List Instruction) → opens (flow o) ≡ true → Peeled ws (suc e) l → Peeled (inner ws) e (o ∷ l)
put_block [] e o l p h = tt
put_block (w ∷ []) e o l p h = tt
put_block (w ∷ v ∷ ws) e o l p h =
    let x = h.0 in
    let y = h.2.0 in
    let more : suc (suc (suc e + length x.inside) + length y.inside) ≡ suc (e + suc (length (x.inside ++ x.end ∷ y.inside))) =
    omega (arith, length-append x.inside (x.end ∷ y.inside)) in (
      record {
        inside = o ∷ x.inside ++ x.end ∷ y.inside;
        end = y.end;
        behind = y.behind;
        split =
            ap (λ z. o ∷ z)
            (x.split ∙ ap (λ z. x.inside ++ x.end ∷ z) y.split ∙ sym (append_assoc x.inside (x.end ∷ y.inside) (y.end ∷ y.behind)));
        level = block x.end p x.level x.is_end y.level;
        is_end = y.is_end;
      },
      h.2.1 ∙ more,
      subst (λ k. Peeled ws k y.behind) more h.2.2,
    )

put_else : (ws : List Way) (q e : ℕ) (l : List Instruction) → Peeled ws e l → Peeled (divided q ws) e l
put_else [] q e l h = tt
put_else (w ∷ ws) q e l h = h

peel_one : (x : Flow) (i : Instruction) → flow i ≡ x → (e : ℕ) (r : List Instruction) (ws : List Way) → Peeled ws (suc e) r → Peeled (way_of x (suc e) ws) e (i ∷ r)
unfolding way_of opens kind
peel_one Flow.Next i q e r ws h = put_before ws e i r (ap opens q) (ap (is 95) q) h
peel_one Flow.Else i q e r ws h = put_before (divided (suc e) ws) e i r (ap opens q) (ap (is 95) q) (put_else ws (suc e) (suc e) r h)
peel_one Flow.End i q e r ws h =
    let here : suc e ≡ suc (e + 0) = omega arith in
    (record { inside = []; end = i; behind = r; split = refl; level = empty; is_end = ap (is 95) q }, here, subst (λ k. Peeled ws k r) here h)
peel_one Flow.Then i q e r ws h = put_block ws e i r (ap opens q) h
peel_one Flow.Stop i q e r ws h = put_before ws e i r (ap opens q) (ap (is 95) q) h
peel_one (Flow.Loop k) i q e r ws h = put_block ws e i r (ap opens q) h
peel_one (Flow.Subroutine k) i q e r ws h = put_block ws e i r (ap opens q) h
peel_one (Flow.Call k) i q e r ws h = put_before ws e i r (ap opens q) (ap (is 95) q) h
peel_one (Flow.Exit b) i q e r ws h = put_before ws e i r (ap opens q) (ap (is 95) q) h

peeled : (e : ℕ) (l : List Instruction) → Peeled (ways e l) e l
unfolding ways
peeled e [] = tt
peeled e (i ∷ r) = peel_one (flow i) i refl e r (ways (suc e) r) (peeled (suc e) r)

pub ways_exact : WaysExact
unfolding Heads
ways_exact e l = by (ways e l) refl (peeled e l)
  where
    by : (ws : List Way) → ways e l ≡ ws → Peeled ws e l → Exact e l ws
    by [] q h = λ x. subst (λ z. Heads z (λ w. w.behind_end ≡ suc (e + length x.inside))) q (found_end e l x)
    by (w ∷ ws) q h = (
      h.0,
      λ x. record {
        end = subst (λ z. Heads z (λ v. v.behind_end ≡ suc (e + length x.inside))) q (found_end e l x);
        no_else = λ u. subst (λ z. Heads z (λ v. v.behind_else ≡ none)) q (no_else e l x u);
        else = λ y. subst (λ z. Heads z (λ v. v.behind_else ≡ some (suc (e + length y.first)))) q (found_else e l x y);
      },
    )

-- ---- the check's walk

walk_append : (bs : List Block) (a b : List Instruction) → blocks_after bs (a ++ b) ≡ blocks_after (blocks_after bs a) b
unfolding blocks_after
walk_append bs [] b = refl
walk_append bs (i ∷ a) b = walk_append (through (flow i) bs) a b

Innermost : List Block → List Block → Type 0
Innermost cs bs = (b : Block) × (cs ≡ b ∷ bs)

walk_entry : (x : Flow) (b : Block) (bs : List Block) → opens x ≡ false → is 95 x ≡ false → Innermost (through x (b ∷ bs)) bs
unfolding Innermost through opens kind
walk_entry Flow.Next b bs o n = (b, refl)
walk_entry Flow.Else then_do bs o n = (else_do, refl)
walk_entry Flow.Else else_do bs o n = (else_do, refl)
walk_entry Flow.Else subroutine bs o n = (subroutine, refl)
walk_entry Flow.Else (loop k) bs o n = (loop k, refl)
walk_entry Flow.End b bs o n = absurd (apart n)
walk_entry Flow.Then b bs o n = absurd (apart o)
walk_entry Flow.Stop b bs o n = (b, refl)
walk_entry (Flow.Loop k) b bs o n = absurd (apart o)
walk_entry (Flow.Subroutine k) b bs o n = absurd (apart o)
walk_entry (Flow.Call k) b bs o n = (b, refl)
walk_entry (Flow.Exit z) b bs o n = (b, refl)

walk_opener : (x : Flow) (bs : List Block) → opens x ≡ true → Innermost (through x bs) bs
unfolding Innermost through opens
walk_opener Flow.Next bs o = absurd (apart (sym o))
walk_opener Flow.Else bs o = absurd (apart (sym o))
walk_opener Flow.End bs o = absurd (apart (sym o))
walk_opener Flow.Then bs o = (then_do, refl)
walk_opener Flow.Stop bs o = absurd (apart (sym o))
walk_opener (Flow.Loop k) bs o = (loop k, refl)
walk_opener (Flow.Subroutine k) bs o = (subroutine, refl)
walk_opener (Flow.Call k) bs o = absurd (apart (sym o))
walk_opener (Flow.Exit z) bs o = absurd (apart (sym o))

walk_end : (i : Instruction) (b : Block) (bs cs : List Block) → is 95 (flow i) ≡ true → cs ≡ b ∷ bs → through (flow i) cs ≡ bs
unfolding through
walk_end i b bs cs h q = ap (through (flow i)) q ∙ ap (λ x. through x (b ∷ bs)) (is_flow_end (flow i) h)

walk_level : {a : List Instruction} → Level a → (b : Block) (bs : List Block) → Innermost (blocks_after (b ∷ bs) a) bs
unfolding Innermost blocks_after
walk_level empty b bs = (b, refl)
walk_level (entry {i = i} {r = r} o n l) b bs =
    let z = walk_entry (flow i) b bs o n in
    subst (λ cs. Innermost (blocks_after cs r) bs) (sym z.1) (walk_level l z.0 bs)
walk_level (block {o = o} {a = a} {r = r} e p l q m) b bs =
    let z = walk_opener (flow o) (b ∷ bs) p in
    let y = walk_level l z.0 (b ∷ bs) in
    let back : blocks_after (through (flow o) (b ∷ bs)) (a ++ e ∷ r) ≡ blocks_after (b ∷ bs) r =
    walk_append (through (flow o) (b ∷ bs)) a (e ∷ r)
    ∙ ap (λ cs. blocks_after (through (flow e) (blocks_after cs a)) r) z.1
    ∙ ap (λ cs. blocks_after cs r) (walk_end e y.0 (b ∷ bs) (blocks_after (z.0 ∷ b ∷ bs) a) q y.1) in
    subst (λ cs. Innermost cs bs) (sym back) (walk_level m b bs)

pub walk_matches : WalkMatches
unfolding Innermost blocks_after
walk_matches bs o l p x =
    let z = walk_opener (flow o) bs p in
    let y = walk_level x.level z.0 bs in
    let inside : blocks_after (through (flow o) bs) x.inside ≡ y.0 ∷ bs = ap (λ cs. blocks_after cs x.inside) z.1 ∙ y.1 in (
      (y.0, inside),
      walk_append (through (flow o) bs) x.inside (x.end ∷ []) ∙ walk_end x.end y.0 bs (blocks_after (through (flow o) bs) x.inside) x.is_end inside,
    )
