-- A program that the check passes runs well: its tables where nothing is open, and each subroutine behind its 85. The blocks that the check
-- sees open before an entry are those that the machine has open there, so what the check asked of the entry is what the machine needs.
-- Assumes nothing.
use Rattle.std.specs.Prelude.{◌≡◌, true, false, cond, ◌&&◌, ◌||◌, length, eqb}
use Rattle.std.proofs.Math.Path.{refl, sym, ap, subst}
use Rattle.std.proofs.Common.{◌∙◌, arith, leb-true, leb-false}
use Prim.Native.Nat.{ℕ, zero, suc, ◌<◌}
use Rattle.std.proofs.Math.Bool.{not}
use mathlib.Core.List.{List, [], ◌∷◌, ◌++◌, append_assoc}
use Rattle.std.proofs.Math.Dec.{leb}
use Rattle.base_program.specs.declared.Command.{Command}
use Rattle.base_program.specs.declared.Command.TheVariants.{Stop, Call, Raise, Lower, Then, ExitIfTrue, ExitIfFalse, PortHigh, PortLow}
use Rattle.base_program.specs.declared.Flow.{Flow}
use Rattle.base_program.specs.declared.Instruction.{Instruction}
use Rattle.base_program.specs.declared.Instruction.TheVariants.{End, Else, MeasureSingle, MeasureDifferential, SetFixed, Copy, Increment, Add, AddFixed, Subtract, Multiply, MultiplyFixed, Divide, Sample, Average, Total, Maximum, Minimum, StoreTime, Subroutine, Do, Loop, IfLocations, IfFixed, IfFlag, IfTime}
use Rattle.base_program.specs.declared.Program.{Program}
use Rattle.base_program.specs.declared.Table.{Table}
use Rattle.base_program.specs.Flow.{flow, command_flow, call_of, opens}
use Rattle.base_program.specs.Entries.{entries}
use Rattle.base_program.specs.Reach.{locations}
use Rattle.spec_check.specs.Ranges.{in_range}
use Rattle.base_program.specs.Codes.{between}
use Rattle.spec_check.specs.Blocks.{Block, then_do, else_do, subroutine, loop, through, blocks_after, is_none, inside_then, has_loop, count_blocks, kind, is, is_three}
use Rattle.spec_check.specs.Calls.{passes_in_force, any_outside, up_to_end}
use Rattle.proof_check.specs.CallLaws.{OnCall, AllCalls}
use Rattle.proof_check.specs.Passed.{Passed}
use Rattle.proof_safety.specs.Shape.{Shape, half, turns, HasLoop, rounds, Scope, in_table, in_sub, WellFlow, EntryFits, WellWith}
use Rattle.proof_safety.specs.Sound.{EntrySound, sound}
use Rattle.base_laws.specs.Tests.{apart, not-false, neither, and_both}

-- ---- the check's blocks, seen as the machine's

abbrev pub strip : List Block → List Shape
strip [] = []
strip (then_do ∷ bs) = half ∷ strip bs
strip (else_do ∷ bs) = half ∷ strip bs
strip (subroutine ∷ bs) = strip bs
strip (loop n ∷ bs) = turns n ∷ strip bs

-- in a table no 85 is open; in a subroutine one is, and nothing outside it
abbrev pub Bottom : Scope → List Block → Type 0
Bottom in_table [] = Unit {0}
Bottom in_sub [] = ⊥
Bottom w (then_do ∷ bs) = Bottom w bs
Bottom w (else_do ∷ bs) = Bottom w bs
Bottom in_table (subroutine ∷ bs) = ⊥
Bottom in_sub (subroutine ∷ bs) = bs ≡ []
Bottom w (loop n ∷ bs) = Bottom w bs

count_strip : (bs : List Block) → length (strip bs) ≡ count_blocks bs
unfolding count_blocks
count_strip [] = refl
count_strip (then_do ∷ bs) = omega (arith, count_strip bs)
count_strip (else_do ∷ bs) = omega (arith, count_strip bs)
count_strip (subroutine ∷ bs) = count_strip bs
count_strip (loop n ∷ bs) = omega (arith, count_strip bs)

rounds_strip : (bs : List Block) → rounds (strip bs) ≡ passes_in_force bs
unfolding passes_in_force
rounds_strip [] = refl
rounds_strip (then_do ∷ bs) = rounds_strip bs
rounds_strip (else_do ∷ bs) = rounds_strip bs
rounds_strip (subroutine ∷ bs) = rounds_strip bs
rounds_strip (loop n ∷ bs) = refl

loop_strip : (bs : List Block) → has_loop bs ≡ true → HasLoop (strip bs)
unfolding has_loop
loop_strip [] h = absurd (apart (sym h))
loop_strip (then_do ∷ bs) h = loop_strip bs h
loop_strip (else_do ∷ bs) h = loop_strip bs h
loop_strip (subroutine ∷ bs) h = loop_strip bs h
loop_strip (loop n ∷ bs) h = tt

few : (bs : List Block) → leb 11 (count_blocks bs) ≡ false → length (strip bs) < 11
few bs h = omega (arith, leb-false 11 (count_blocks bs) h, count_strip bs)

pub after_one : (bs : List Block) (pre : List Instruction) (i : Instruction) → blocks_after bs (pre ++ i ∷ []) ≡ through (flow i) (blocks_after bs pre)
unfolding blocks_after
after_one bs [] i = refl
after_one bs (j ∷ pre) i = after_one (through (flow j) bs) pre i

-- ---- a loop that is in range has passes

Positive : Flow → Type 0
Positive Flow.Next = Unit {0}
Positive Flow.Else = Unit {0}
Positive Flow.End = Unit {0}
Positive Flow.Then = Unit {0}
Positive Flow.Stop = Unit {0}
Positive (Flow.Loop n) = 0 < n
Positive (Flow.Subroutine k) = Unit {0}
Positive (Flow.Call k) = Unit {0}
Positive (Flow.Exit b) = Unit {0}

command_positive : (c : Command) → Positive (command_flow c)
unfolding Positive command_flow
command_positive Stop = tt
command_positive (Call k) = tt
command_positive (Raise f) = tt
command_positive (Lower f) = tt
command_positive Then = tt
command_positive ExitIfTrue = tt
command_positive ExitIfFalse = tt
command_positive (PortHigh q) = tt
command_positive (PortLow q) = tt

positive : (i : Instruction) → in_range i ≡ true → Positive (flow i)
unfolding Positive flow in_range
positive End h = tt
positive Else h = tt
positive (MeasureSingle reps range channel location scale) h = tt
positive (MeasureDifferential reps range channel location scale) h = tt
positive (SetFixed f z) h = tt
positive (Copy x z) h = tt
positive (Increment z) h = tt
positive (Add x y z) h = tt
positive (AddFixed x f z) h = tt
positive (Subtract x y z) h = tt
positive (Multiply x y z) h = tt
positive (MultiplyFixed x f z) h = tt
positive (Divide x y z) h = tt
positive (Sample reps x) h = tt
positive (Average reps x) h = tt
positive (Total reps x) h = tt
positive (Maximum reps x) h = tt
positive (Minimum reps x) h = tt
positive (StoreTime code) h = tt
positive (Subroutine k) h = tt
positive (Do c) h = command_positive c
positive (Loop delay count) h = leb-true 1 count (and_both (leb 1 count) (leb count 9999) (and_both (eqb delay 0) (between 1 9999 count) h).1).0
positive (IfLocations x r y c) h = command_positive c
positive (IfFixed x r f c) h = command_positive c
positive (IfFlag f high c) h = command_positive c
positive (IfTime into interval c) h = command_positive c

-- ---- the calls that a scope makes from here on

-- of a table all, of a subroutine those up to the End that closes it, with d blocks open inside it
abbrev calls_from : Scope → ℕ → List Instruction → List Instruction
calls_from in_table d l = l
calls_from in_sub d l = up_to_end d l

module _ (C : ℕ → Type 0) (i : Instruction) (r : List Instruction) where
  calls_here : (w : Scope) (d : ℕ) → AllCalls C (calls_from w d (i ∷ r)) → OnCall C (call_of (flow i))
  unfolding up_to_end
  calls_here in_table d a = a.0
  calls_here in_sub zero a = a.0
  calls_here in_sub (suc d) a = a.0

  calls_same : (w : Scope) (d : ℕ) → is 95 (flow i) ≡ false → opens (flow i) ≡ false → AllCalls C (calls_from w d (i ∷ r)) → AllCalls C (calls_from w d r)
  unfolding up_to_end
  calls_same in_table d e o a = a.1
  calls_same in_sub zero e o a =
      subst (λ b. AllCalls C (up_to_end (cond b 1 0) r)) o (subst (λ b. AllCalls C (cond b [] (up_to_end (cond (opens (flow i)) 1 0) r))) e a.1)
  calls_same in_sub (suc d) e o a =
      subst (λ b. AllCalls C (up_to_end (cond b (suc (suc d)) (suc d)) r)) o
      (subst (λ b. AllCalls C (up_to_end (cond b d (cond (opens (flow i)) (suc (suc d)) (suc d))) r)) e a.1)

  calls_opened : (w : Scope) (d : ℕ) → is 95 (flow i) ≡ false → opens (flow i) ≡ true → AllCalls C (calls_from w d (i ∷ r)) → AllCalls C (calls_from w (suc d) r)
  unfolding up_to_end
  calls_opened in_table d e o a = a.1
  calls_opened in_sub zero e o a =
      subst (λ b. AllCalls C (up_to_end (cond b 1 0) r)) o (subst (λ b. AllCalls C (cond b [] (up_to_end (cond (opens (flow i)) 1 0) r))) e a.1)
  calls_opened in_sub (suc d) e o a =
      subst (λ b. AllCalls C (up_to_end (cond b (suc (suc d)) (suc d)) r)) o
      (subst (λ b. AllCalls C (up_to_end (cond b d (cond (opens (flow i)) (suc (suc d)) (suc d))) r)) e a.1)

  calls_closed : (w : Scope) (d : ℕ) → is 95 (flow i) ≡ true → AllCalls C (calls_from w (suc d) (i ∷ r)) → AllCalls C (calls_from w d r)
  unfolding up_to_end
  calls_closed in_table d e a = a.1
  calls_closed in_sub d e a = subst (λ b. AllCalls C (up_to_end (cond b d (cond (opens (flow i)) (suc (suc d)) (suc d))) r)) e a.1

-- ---- one entry

abbrev pub IsThree : (t : Table) → Scope → Type 0
IsThree t in_table = is_three t ≡ false
IsThree t in_sub = is_three t ≡ true

module _ (p : Program) (C : ℕ → Type 0) (t : Table) (i : Instruction) (r : List Instruction) (K : List Shape → Type 0) where
  -- What follows an entry of kind x runs well, given that the blocks open behind the entry are such a scope's and its calls are of a C.
  Follows : Scope → Flow → List Block → Type 0
  Follows w x bs = Bottom w (through x bs) → AllCalls C (calls_from w (length (strip (through x bs))) r) → K (strip (through x bs))

  ends : (w : Scope) (bs : List Block) → is 95 (flow i) ≡ true → is_none bs ≡ false → Bottom w bs → AllCalls C (calls_from w (length (strip bs)) (i ∷ r))
      → Follows w Flow.End bs → WellFlow C w Flow.End (strip bs) K
  unfolding Follows through
  ends w [] e n bt cl go = absurd (apart n)
  ends in_table (then_do ∷ bs) e n bt cl go = go bt (calls_closed C i r in_table (length (strip bs)) e cl)
  ends in_sub (then_do ∷ bs) e n bt cl go = go bt (calls_closed C i r in_sub (length (strip bs)) e cl)
  ends in_table (else_do ∷ bs) e n bt cl go = go bt (calls_closed C i r in_table (length (strip bs)) e cl)
  ends in_sub (else_do ∷ bs) e n bt cl go = go bt (calls_closed C i r in_sub (length (strip bs)) e cl)
  ends in_table (subroutine ∷ bs) e n bt cl go = absurd bt
  ends in_sub (subroutine ∷ bs) e n bt cl go = rw bt tt
  ends in_table (loop k ∷ bs) e n bt cl go = go bt (calls_closed C i r in_table (length (strip bs)) e cl)
  ends in_sub (loop k ∷ bs) e n bt cl go = go bt (calls_closed C i r in_sub (length (strip bs)) e cl)

  divides : (w : Scope) (bs : List Block) → is 95 (flow i) ≡ false → opens (flow i) ≡ false → inside_then bs ≡ true → Bottom w bs
      → AllCalls C (calls_from w (length (strip bs)) (i ∷ r)) → Follows w Flow.Else bs → WellFlow C w Flow.Else (strip bs) K
  unfolding Follows through
  divides w [] e o n bt cl go = absurd (apart (sym n))
  divides w (then_do ∷ bs) e o n bt cl go = go bt (calls_same C i r w (length (strip (then_do ∷ bs))) e o cl)
  divides w (else_do ∷ bs) e o n bt cl go = absurd (apart (sym n))
  divides w (subroutine ∷ bs) e o n bt cl go = absurd (apart (sym n))
  divides w (loop k ∷ bs) e o n bt cl go = absurd (apart (sym n))

  -- an 85 is not run into
  not_run_into : (w : Scope) (bs : List Block) → IsThree t w → Bottom w bs → not (is_three t) || not (is_none bs) ≡ false → ⊥
  not_run_into in_table bs three bt h = apart (sym (ap not three) ∙ (neither (not (is_three t)) (not (is_none bs)) h).0)
  not_run_into in_sub [] three bt h = bt
  not_run_into in_sub (b ∷ bs) three bt h = apart (neither (not (is_three t)) true h).1

  called : (k : ℕ) → OnCall C (call_of (Flow.Call k)) → C k
  unfolding call_of
  called k h = h

  well_one : (w : Scope) → IsThree t w → (x : Flow) → flow i ≡ x → Positive x → (bs : List Block) → Bottom w bs → EntrySound p t bs i
      → AllCalls C (calls_from w (length (strip bs)) (i ∷ r)) → Follows w x bs → WellFlow C w x (strip bs) K
  unfolding Follows through kind opens Positive
  well_one w three Flow.Next e pos bs bt s cl go = go bt (calls_same C i r w (length (strip bs)) (ap (is 95) e) (ap opens e) cl)
  well_one w three Flow.Else e pos bs bt s cl go =
      divides w bs (ap (is 95) e) (ap opens e) (not-false (inside_then bs) (ap (λ y. is 94 y && not (inside_then bs)) (sym e) ∙ s.no_14)) bt cl go
  well_one w three Flow.End e pos bs bt s cl go = ends w bs (ap (is 95) e) (ap (λ y. is 95 y && is_none bs) (sym e) ∙ s.no_13) bt cl go
  well_one w three Flow.Then e pos bs bt s cl go = (
    few bs (ap (λ y. (is 30 y || is 87 y) && leb 11 (count_blocks bs)) (sym e) ∙ s.no_16),
    go bt (calls_opened C i r w (length (strip bs)) (ap (is 95) e) (ap opens e) cl),
  )
  well_one w three Flow.Stop e pos bs bt s cl go = go bt (calls_same C i r w (length (strip bs)) (ap (is 95) e) (ap opens e) cl)
  well_one w three (Flow.Loop n) e pos bs bt s cl go = (
    pos,
    few bs (ap (λ y. (is 30 y || is 87 y) && leb 11 (count_blocks bs)) (sym e) ∙ s.no_16),
    go bt (calls_opened C i r w (length (strip bs)) (ap (is 95) e) (ap opens e) cl),
  )
  well_one w three (Flow.Subroutine k) e pos bs bt s cl go =
      absurd (not_run_into w bs three bt (ap (λ y. is 85 y && (not (is_three t) || not (is_none bs))) (sym e) ∙ s.no_10))
  well_one w three (Flow.Call k) e pos bs bt s cl go = (
    called k (subst (λ y. OnCall C (call_of y)) e (calls_here C i r w (length (strip bs)) cl)),
    go bt (calls_same C i r w (length (strip bs)) (ap (is 95) e) (ap opens e) cl),
  )
  well_one w three (Flow.Exit b) e pos bs bt s cl go = (
    loop_strip bs (not-false (has_loop bs) (ap (λ y. is 31 y && not (has_loop bs)) (sym e) ∙ s.no_15)),
    go bt (calls_same C i r w (length (strip bs)) (ap (is 95) e) (ap opens e) cl),
  )

-- ---- the entries from a place on

module _ (p : Program) (c : Passed p) (C : ℕ → Type 0) (t : Table) (w : Scope) (three : IsThree t w) where
  closes : (v : Scope) (bs : List Block) → is_none bs ≡ true → Bottom v bs → WellWith p C v (strip bs) []
  closes in_table [] n bt = tt
  closes in_sub [] n bt = bt
  closes v (b ∷ bs) n bt = absurd (apart (sym n))

  fits : (bs : List Block) (i : Instruction) → EntrySound p t bs i → EntryFits p (rounds (strip bs)) i
  fits bs i s =
      record {
        is_in_range = s.is_in_range;
        locations_in = ap (λ n. any_outside p.locations n (locations i)) (rounds_strip bs) ∙ s.locations_in;
        readings_in = s.readings_in;
      }

  pub well_from : (l pre : List Instruction) → entries p t ≡ pre ++ l → Bottom w (blocks_after [] pre)
      → AllCalls C (calls_from w (length (strip (blocks_after [] pre))) l) → WellWith p C w (strip (blocks_after [] pre)) l
  unfolding Follows
  well_from [] pre h bt cl =
      closes w (blocks_after [] pre)
      (not-false (is_none (blocks_after [] pre)) (ap (λ l. not (is_none (blocks_after [] l))) (sym (h ∙ append_none pre)) ∙ c.closed t))
      bt
    where
      append_none : (l : List Instruction) → l ++ [] ≡ l
      append_none [] = refl
      append_none (j ∷ l) = ap (λ z. j ∷ z) (append_none l)
  well_from (i ∷ r) pre h bt cl =
      let s = sound p c t pre i r h in
      let bs : List Block = blocks_after [] pre in
      let next : entries p t ≡ (pre ++ i ∷ []) ++ r = h ∙ sym (append_assoc pre (i ∷ []) r) in
      let now : blocks_after [] (pre ++ i ∷ []) ≡ through (flow i) bs = after_one [] pre i in (
        fits bs i s,
        well_one p C t i r (λ z. WellWith p C w z r) w three (flow i) refl (positive i s.is_in_range) bs bt s cl
            (λ b a. subst (λ z. WellWith p C w (strip z) r) now
            (well_from r (pre ++ i ∷ []) next (subst (Bottom w) (sym now) b) (subst (λ z. AllCalls C (calls_from w (length (strip z)) r)) (sym now) a))),
      )
