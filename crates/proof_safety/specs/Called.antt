-- In a program that the check passes every call of a table is of a subroutine that is there, runs well and starts no chain of more than 7; so
-- both tables run well. Assumes nothing.
use Rattle.std.proofs.Math.Path.{◌≡◌, refl, sym, ap, subst}
use Rattle.std.proofs.Common.{◌∙◌, arith, length-append, drop_at, eqb-true}
use Prim.Native.Nat.{ℕ, zero, suc}
use Rattle.std.specs.Prelude.{Bool, true, false, cond, ◌&&◌, ◌||◌, length, drop}
use Rattle.std.proofs.Math.Bool.{not}
use mathlib.Core.List.{List, [], ◌∷◌, ◌++◌, append_assoc}
use Rattle.std.proofs.Math.Option.{Option, none, some}
use Rattle.base_program.specs.declared.Command.TheVariants.{Stop, Call, Then}
use Rattle.base_program.specs.declared.Flow.{Flow}
use Rattle.base_program.specs.declared.Instruction.{Instruction}
use Rattle.base_program.specs.declared.Instruction.TheVariants.{End, Else, Subroutine, Loop}
use Rattle.base_program.specs.declared.Program.{Program}
use Rattle.base_program.specs.declared.Table.{Table}
use Rattle.base_program.specs.declared.Table.TheVariants.{Three}
use Rattle.base_program.specs.Flow.{flow, call_of}
use Rattle.base_program.specs.Entries.{entries}
use Rattle.spec_check.specs.Blocks.{Block, subroutine, through, blocks_after, is_none, kind, is, label, same, label_before, is_three}
use Rattle.spec_check.specs.Calls.{missing, up_to_end, behind, body, chain}
use Rattle.proof_check.specs.CallLaws.{OnCall, AllCalls, all_calls, both_calls, no_call_lem, calls_behind, calls_to_end}
use Rattle.proof_check.specs.Passed.{Passed, no_long}
use Rattle.spec_machine.specs.Ends.{behind_label}
use Rattle.proof_safety.specs.Shape.{in_table, in_sub, WellWith, Callable}
use Rattle.proof_safety.specs.Advance.{found_behind}
use Rattle.proof_safety.specs.Sound.{sound}
use Rattle.base_laws.specs.Tests.{apart, not-false}
use Rattle.proof_safety.specs.Checked.{strip, Bottom, after_one, well_from}

-- the 85 that a call finds: the entries before it, and those behind it
pub record Begins (p : Program) (k q : ℕ) : Type 0 where
  pub ahead : List Instruction
  pub entry : Instruction
  pub rest : List Instruction
  pub split : entries p Three ≡ ahead ++ entry ∷ rest
  pub number : label (flow entry) ≡ some k
  pub behind_it : drop q (entries p Three) ≡ rest

same_label : (k : ℕ) (o : Option ℕ) → same (some k) o ≡ true → o ≡ some k
same_label k none h = absurd (apart (sym h))
same_label k (some j) h = ap some (sym (eqb-true k j h))

-- an 85 that was begun is found
label_before_found_lem : (k e : ℕ) (l : List Instruction) → label_before (some k) l ≡ true → (q : ℕ) × (behind_label k e l ≡ some q)
unfolding label_before behind_label
label_before_found_lem k e [] h = absurd (apart (sym h))
label_before_found_lem k e (i ∷ r) h = by (same (some k) (label (flow i))) h (λ g. label_before_found_lem k (suc e) r g)
  where
    by : (b : Bool) → b || label_before (some k) r ≡ true → (label_before (some k) r ≡ true → (q : ℕ) × (behind_label k (suc e) r ≡ some q))
        → (q : ℕ) × (cond b (some (suc e)) (behind_label k (suc e) r) ≡ some q)
    by true g ih = (suc e, refl)
    by false g ih = ih g

some_same : (a b : ℕ) → some a ≡ some b → a ≡ b
some_same a b g = cc

label_flow : (x : Flow) (k : ℕ) → label x ≡ some k → x ≡ Flow.Subroutine k
unfolding label
label_flow Flow.Next k h = absurd (let z : ◌≡◌ {A = ℕ} 0 1 = cc in omega arith)
label_flow Flow.Else k h = absurd (let z : ◌≡◌ {A = ℕ} 0 1 = cc in omega arith)
label_flow Flow.End k h = absurd (let z : ◌≡◌ {A = ℕ} 0 1 = cc in omega arith)
label_flow Flow.Then k h = absurd (let z : ◌≡◌ {A = ℕ} 0 1 = cc in omega arith)
label_flow Flow.Stop k h = absurd (let z : ◌≡◌ {A = ℕ} 0 1 = cc in omega arith)
label_flow (Flow.Loop n) k h = absurd (let z : ◌≡◌ {A = ℕ} 0 1 = cc in omega arith)
label_flow (Flow.Subroutine j) k h = ap Flow.Subroutine (some_same j k h)
label_flow (Flow.Call j) k h = absurd (let z : ◌≡◌ {A = ℕ} 0 1 = cc in omega arith)
label_flow (Flow.Exit b) k h = absurd (let z : ◌≡◌ {A = ℕ} 0 1 = cc in omega arith)

nothing_open : (bs : List Block) → is_none bs ≡ true → bs ≡ []
nothing_open [] h = refl
nothing_open (b ∷ bs) h = absurd (apart (sym h))

module _ (p : Program) where
  begins : (k q : ℕ) (l pre : List Instruction) → entries p Three ≡ pre ++ l → behind_label k (length pre) l ≡ some q → Begins p k q
  unfolding behind_label
  begins k q [] pre h f = absurd (let z : ◌≡◌ {A = ℕ} 0 1 = cc in omega arith)
  begins k q (i ∷ r) pre h f = by (same (some k) (label (flow i))) refl f (λ g. begins k q r (pre ++ i ∷ []) next (ap (λ n. behind_label k n r) longer ∙ g))
    where
      next : entries p Three ≡ (pre ++ i ∷ []) ++ r
      next = h ∙ sym (append_assoc pre (i ∷ []) r)

      longer : length (pre ++ i ∷ []) ≡ suc (length pre)
      longer = omega (arith, length-append pre (i ∷ []))

      behind_here : drop (suc (length pre)) (entries p Three) ≡ r
      behind_here = ap (drop (suc (length pre))) next ∙ drop_at (pre ++ i ∷ []) r (suc (length pre)) longer

      by : (b : Bool) → same (some k) (label (flow i)) ≡ b → cond b (some (suc (length pre))) (behind_label k (suc (length pre)) r) ≡ some q
          → (behind_label k (suc (length pre)) r ≡ some q → Begins p k q) → Begins p k q
      by true e g ih =
          record {
            ahead = pre;
            entry = i;
            rest = r;
            split = h;
            number = same_label k (label (flow i)) e;
            behind_it = ap (λ n. drop n (entries p Three)) (sym (some_same (suc (length pre)) q g)) ∙ behind_here;
          }
      by false e g ih = ih g

  module _ (c : Passed p) where
    Known : ℕ → Type 0
    Known k = label_before (some k) (entries p Three) ≡ true

    known_one : (o : Option ℕ) → missing o (entries p Three) ≡ false → OnCall Known o
    unfolding Known
    known_one none h = tt
    known_one (some k) h = not-false (label_before (some k) (entries p Three)) h

    all_known : (t : Table) (l pre : List Instruction) → entries p t ≡ pre ++ l → AllCalls Known l
    all_known t [] pre h = tt
    all_known t (i ∷ r) pre h =
        (known_one (call_of (flow i)) (sound p c t pre i r h).no_18, all_known t r (pre ++ i ∷ []) (h ∙ sym (append_assoc pre (i ∷ []) r)))

    -- behind an 85 only its own block is open
    opened : (k q : ℕ) (b : Begins p k q) → blocks_after [] (b.ahead ++ b.entry ∷ []) ≡ subroutine ∷ []
    unfolding through kind
    opened k q b =
        let x : flow b.entry ≡ Flow.Subroutine k = label_flow (flow b.entry) k b.number in
        let none : blocks_after [] b.ahead ≡ [] =
        nothing_open (blocks_after [] b.ahead)
        (not-false (is_none (blocks_after [] b.ahead))
        (ap (λ y. is 85 y && not (is_none (blocks_after [] b.ahead))) (sym x) ∙ (sound p c Three b.ahead b.entry b.rest b.split).no_10)) in
        after_one [] b.ahead b.entry ∙ ap (λ y. through y (blocks_after [] b.ahead)) x ∙ ap (λ z. subroutine ∷ z) none

    callable : (n k q : ℕ) → behind_label k 0 (entries p Three) ≡ some q → chain p n k ≡ false → Callable p n k
    unfolding chain body Known
    callable zero k q f h = apart h
    callable (suc n) k q f h =
        let b : Begins p k q = begins k q (entries p Three) [] refl f in
        let open_here = opened k q b in
        let split : entries p Three ≡ (b.ahead ++ b.entry ∷ []) ++ b.rest = b.split ∙ sym (append_assoc b.ahead (b.entry ∷ []) b.rest) in
        let rest_is : behind k (entries p Three) ≡ b.rest = found_behind k 0 q (entries p Three) (entries p Three) refl f ∙ b.behind_it in
        let known : AllCalls Known (body p k) =
        calls_to_end Known 0 (behind k (entries p Three)) (calls_behind Known k (entries p Three) (all_known Three (entries p Three) [] refl)) in
        let short : AllCalls (λ j. chain p n j ≡ false) (body p k) = no_call_lem (chain p n) (body p k) h in
        let calls : AllCalls (Callable p n) (up_to_end 0 b.rest) =
        subst (λ l. AllCalls (Callable p n) (up_to_end 0 l)) rest_is
        (all_calls (body p k) (λ j z. let g = label_before_found_lem j 0 (entries p Three) z.0 in callable n j g.0 g.1 z.1)
        (both_calls Known (λ j. chain p n j ≡ false) (body p k) known short)) in (
          q,
          f,
          subst (λ l. WellWith p (Callable p n) in_sub [] l) (sym b.behind_it)
              (subst (λ z. WellWith p (Callable p n) in_sub (strip z) b.rest) open_here
              (well_from p c (Callable p n) Three in_sub refl b.rest (b.ahead ++ b.entry ∷ []) split (subst (Bottom in_sub) (sym open_here) refl)
              (subst (λ z. AllCalls (Callable p n) (up_to_end (length (strip z)) b.rest)) (sym open_here) calls))),
        )

    -- 'called or not': every number that an entry calls
    calls_callable : (t : Table) → AllCalls (Callable p 7) (entries p t)
    unfolding Known
    calls_callable t =
        all_calls (entries p t)
        (λ j z. let g = label_before_found_lem j 0 (entries p Three) z in callable 7 j g.0 g.1 (no_long p c.chains j))
        (all_known t (entries p t) [] refl)

    pub table_well : (t : Table) → is_three t ≡ false → WellWith p (Callable p 7) in_table [] (entries p t)
    unfolding blocks_after
    table_well t h = well_from p c (Callable p 7) t in_table h (entries p t) [] refl tt (calls_callable t)
