-- What is judged of an entry: its kind, the blocks open before it, whether the table is Table 3, and whether its number was there before.
-- Assumes nothing.
use Rattle.std.specs.Prelude.{◌≡◌, ◌≢◌, Option, MatchOption, ℕ, zero, suc, Bool, true, false, not, ◌<◌, ◌&&◌, ◌||◌, List, get_or, leb, ltb, eqb}
use Rattle.std.proofs.Math.Path.{refl}
use Rattle.std.proofs.Common.{sym, arith}
use Rattle.std.specs.Bool.{then_some}
use Rattle.std.proofs.Math.Dec.{eqb-suc-zero}
use Rattle.base_program.specs.declared.Flow.{Flow}
use Rattle.spec_check.specs.Blocks.{Block as Open, is_none, inside_then, has_loop, count_blocks, is, kind}
use Rattle.spec_check.specs.Check.{or}
use Rattle.check_open.specs.declared.Block.{Block}
use Rattle.check_open.specs.Stack.{stack_of}

unfoldable pub judge : Bool → Flow → List Open → Bool → ℕ
judge three x bs again =
    or (is 85 x && (not three || not (is_none bs))) 10
    (or again 11
    (or (not (is 85 x || is 95 x) && (three && is_none bs)) 12
    (or (is 95 x && is_none bs) 13
    (or (is 94 x && not (inside_then bs)) 14
    (or (is 31 x && not (has_loop bs)) 15 (or ((is 30 x || is 87 x) && leb 11 (count_blocks bs)) 16 0))))))

-- the fault that is judged, 0 for none, as an answer
abbrev pub FaultIs : ℕ → Option ℕ → Type 0
FaultIs n r = MatchOption r (n ≡ 0) (λ k. (k ≡ n) × (n ≢ 0))

-- an 85 whose number stands before entry e
abbrev pub again_of : Flow → ℕ → List ℕ → Bool
again_of Flow.Next e subs = false
again_of Flow.Else e subs = false
again_of Flow.End e subs = false
again_of Flow.Then e subs = false
again_of Flow.Stop e subs = false
again_of (Flow.Loop n) e subs = false
again_of (Flow.Subroutine k) e subs = ltb 0 (get_or subs k 0) && ltb (get_or subs k 0) e
again_of (Flow.Call k) e subs = false
again_of (Flow.Exit b) e subs = false

-- 14, 15 or 16
abbrev pub inside : Flow → List Open → ℕ
inside x bs =
    or (is 94 x && not (inside_then bs)) 14 (or (is 31 x && not (has_loop bs)) 15 (or ((is 30 x || is 87 x) && leb 11 (count_blocks bs)) 16 0))

-- 12, or what comes behind it
abbrev pub outside : Bool → List Open → ℕ → ℕ
outside three bs later = or (three && is_none bs) 12 later

abbrev pub labelled : Bool → List Open → Bool → ℕ
labelled three bs again = or (not three || not (is_none bs)) 10 (or again 11 0)

-- ---- each kind

module _ (three : Bool) (bs : List Open) where
  pub judge_end : judge three Flow.End bs false ≡ or (is_none bs) 13 0
  unfolding judge kind
  judge_end = refl

  pub judge_else : judge three Flow.Else bs false ≡ outside three bs (or (not (inside_then bs)) 14 0)
  unfolding judge kind
  judge_else = refl

  pub judge_exit : (b : Bool) → judge three (Flow.Exit b) bs false ≡ outside three bs (or (not (has_loop bs)) 15 0)
  unfolding judge kind
  judge_exit b = refl

  pub judge_then : judge three Flow.Then bs false ≡ outside three bs (or (leb 11 (count_blocks bs)) 16 0)
  unfolding judge kind
  judge_then = refl

  pub judge_loop : (n : ℕ) → judge three (Flow.Loop n) bs false ≡ outside three bs (or (leb 11 (count_blocks bs)) 16 0)
  unfolding judge kind
  judge_loop n = refl

  pub judge_next : judge three Flow.Next bs false ≡ outside three bs 0
  unfolding judge kind
  judge_next = refl

  pub judge_stop : judge three Flow.Stop bs false ≡ outside three bs 0
  unfolding judge kind
  judge_stop = refl

  pub judge_call : (k : ℕ) → judge three (Flow.Call k) bs false ≡ outside three bs 0
  unfolding judge kind
  judge_call k = refl

  pub judge_label : (k : ℕ) (again : Bool) → judge three (Flow.Subroutine k) bs again ≡ labelled three bs again
  unfolding judge kind
  judge_label k again = refl

-- nothing is open exactly at depth 0
pub none_open : (l : List Block) (d : ℕ) → is_none (stack_of l d) ≡ eqb d 0
unfolding stack_of
none_open l zero = refl
none_open l (suc d) = sym (eqb-suc-zero d)

-- ---- an answer

pub then_fault : (b : Bool) (n : ℕ) → 0 < n → FaultIs (or b n 0) (then_some b n)
then_fault true n h = (refl, λ z. omega arith)
then_fault false n h = refl

pub judge_other : (three : Bool) (x : Flow) (bs : List Open) (e : ℕ) (subs : List ℕ) → ((k : ℕ) → x ≡ Flow.Subroutine k → ⊥) → (x ≡ Flow.End → ⊥)
    → judge three x bs (again_of x e subs) ≡ or (three && is_none bs) 12 (inside x bs)
unfolding judge kind
judge_other three Flow.Next bs e subs g h = refl
judge_other three Flow.Else bs e subs g h = refl
judge_other three Flow.End bs e subs g h = absurd (h refl)
judge_other three Flow.Then bs e subs g h = refl
judge_other three Flow.Stop bs e subs g h = refl
judge_other three (Flow.Loop n) bs e subs g h = refl
judge_other three (Flow.Subroutine k) bs e subs g h = absurd (g k refl)
judge_other three (Flow.Call k) bs e subs g h = refl
judge_other three (Flow.Exit b) bs e subs g h = refl
