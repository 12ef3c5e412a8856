-- How many blocks the walk has open: 11 that count at most, and a subroutine round them. Assumes nothing.
use Rattle.std.specs.Prelude.{◌≡◌, ℕ, zero, suc, ◌≤◌, Bool, true, false, List, [], ◌∷◌, length}
use Rattle.std.proofs.Math.Path.{refl}
use Rattle.std.proofs.Common.{ap, arith, leb-false}
use Rattle.base_program.specs.declared.Flow.{Flow}
use Rattle.spec_check.specs.Blocks.{Block, then_do, else_do, subroutine, loop, halved, outer, through, count_blocks, kind}
use Rattle.spec_check.specs.Check.{or}
use Rattle.check_open.specs.declared.Block.{Block as Open}
use Rattle.check_open.specs.Stack.{stack_of}
use Rattle.check_block.specs.Judge.{judge, again_of, labelled}

pub record Shallow (bs : List Block) : Type 0 where
  pub outermost : length bs ≤ suc (count_blocks bs)
  pub counted : count_blocks bs ≤ 11

halved_shallow : (bs : List Block) → Shallow bs → Shallow (halved bs)
unfolding count_blocks
halved_shallow [] s = s
halved_shallow (then_do ∷ bs) s = record { outermost = s.outermost; counted = s.counted }
halved_shallow (else_do ∷ bs) s = s
halved_shallow (subroutine ∷ bs) s = s
halved_shallow (loop n ∷ bs) s = s

outer_shallow : (bs : List Block) → Shallow bs → Shallow (outer bs)
unfolding count_blocks
outer_shallow [] s = s
outer_shallow (then_do ∷ bs) s = record { outermost = omega (arith, s.outermost); counted = omega (arith, s.counted) }
outer_shallow (else_do ∷ bs) s = record { outermost = omega (arith, s.outermost); counted = omega (arith, s.counted) }
outer_shallow (subroutine ∷ bs) s = record { outermost = omega (arith, s.outermost); counted = s.counted }
outer_shallow (loop n ∷ bs) s = record { outermost = omega (arith, s.outermost); counted = omega (arith, s.counted) }

-- one more that counts, where fault 16 is not found
no_12th : (three full : Bool) → or three 12 (or full 16 0) ≡ 0 → full ≡ false
no_12th true full h = absurd (omega (arith, h))
no_12th false true h = absurd (omega (arith, h))
no_12th false false h = refl

-- a subroutine begins where nothing is open
label_shallow : (three again : Bool) (bs : List Block) → labelled three bs again ≡ 0 → Shallow (subroutine ∷ bs)
unfolding count_blocks
label_shallow true again [] h = record { outermost = omega arith; counted = omega arith }
label_shallow false again [] h = absurd (omega (arith, h))
label_shallow true again (b ∷ bs) h = absurd (omega (arith, h))
label_shallow false again (b ∷ bs) h = absurd (omega (arith, h))

through_shallow : (three : Bool) (x : Flow) (bs : List Block) (e : ℕ) (subs : List ℕ) → judge three x bs (again_of x e subs) ≡ 0 → Shallow bs → Shallow (through x bs)
unfolding judge kind through count_blocks
through_shallow three Flow.Next bs e subs h s = s
through_shallow three Flow.Else bs e subs h s = halved_shallow bs s
through_shallow three Flow.End bs e subs h s = outer_shallow bs s
through_shallow three Flow.Then bs e subs h s =
    let few = leb-false 11 (count_blocks bs) (no_12th _ _ h) in
    record { outermost = omega (arith, s.outermost); counted = omega (arith, few) }
through_shallow three Flow.Stop bs e subs h s = s
through_shallow three (Flow.Loop n) bs e subs h s =
    let few = leb-false 11 (count_blocks bs) (no_12th _ _ h) in
    record { outermost = omega (arith, s.outermost); counted = omega (arith, few) }
through_shallow three (Flow.Subroutine k) bs e subs h s = label_shallow three _ bs h
through_shallow three (Flow.Call k) bs e subs h s = s
through_shallow three (Flow.Exit b) bs e subs h s = s

-- ---- in an array

stack_length : (l : List Open) (d : ℕ) → length (stack_of l d) ≡ d
unfolding stack_of
stack_length l zero = refl
stack_length l (suc d) = ap suc (stack_length l d)

pub depth_12 : (l : List Open) (d : ℕ) → Shallow (stack_of l d) → d ≤ 12
depth_12 l d s = omega (arith, stack_length l d, s.outermost, s.counted)

pub shallow_start : (l : List Open) (d : ℕ) → d ≡ 0 → Shallow (stack_of l d)
unfolding stack_of count_blocks
shallow_start l d h = rw h (record { outermost = omega arith; counted = omega arith })

pub shallow_next : (three : Bool) (x : Flow) (l l' : List Open) (d d' e : ℕ) (subs : List ℕ) → judge three x (stack_of l d) (again_of x e subs) ≡ 0
    → stack_of l' d' ≡ through x (stack_of l d) → Shallow (stack_of l d) → Shallow (stack_of l' d')
shallow_next three x l l' d d' e subs h passed s = rw passed (through_shallow three x (stack_of l d) e subs h s)
