-- The open blocks in an array, innermost last. Assumes nothing.
use Rattle.std.specs.Prelude.{◌≡◌, refl, ℕ, zero, suc, ◌+◌, ◌-◌, ◌≤◌, ◌<◌, Bool, true, false, cond, ◌||◌, List, [], ◌∷◌, ◌++◌, length, get_or, set, take}
use Rattle.std.proofs.Common.{sym, ap, ◌∙◌, arith, get_or-set_same, get_or-set_other}
use Rattle.std.proofs.Math.Seq.{take-suc}
use Rattle.std.specs.List.{list_any, count_by}
use Rattle.std.proofs.lemmas.List.Folds.{list_any-append}
use Rattle.std.proofs.lemmas.List.Sums.{sum_by-append}
use Rattle.spec_check.specs.Blocks as spec
use Rattle.spec_check.specs.Blocks.{then_do, else_do, subroutine, loop, halved, outer, inside_then, has_loop, count_blocks}
use Rattle.check_open.specs.declared.Block.{Block}

abbrev pub block_of : Block → spec.Block
block_of Block.Then = then_do
block_of Block.Else = else_do
block_of Block.Subroutine = subroutine
block_of (Block.Loop n) = loop n

-- the first `depth` blocks of the array
unfoldable pub stack_of : List Block → ℕ → List spec.Block
stack_of l zero = []
stack_of l (suc d) = block_of (get_or l d Block.Then) ∷ stack_of l d

-- a block above does not matter
pub stack_set : (l : List Block) (d : ℕ) (v : Block) (k : ℕ) → k ≤ d → stack_of (set l d v) k ≡ stack_of l k
unfolding stack_of
stack_set l d v zero h = refl
stack_set l d v (suc k) h =
    ap (λ x. block_of x ∷ stack_of (set l d v) k) (get_or-set_other l d k v Block.Then (λ e. omega arith)) ∙ ap (λ s. block_of (get_or l k Block.Then) ∷ s) (stack_set l d v k (omega arith))

-- the block at `d` is put on top, or replaced there
pub stack_push : (l : List Block) (d : ℕ) (v : Block) → d < length l → stack_of (set l d v) (suc d) ≡ block_of v ∷ stack_of l d
unfolding stack_of
stack_push l d v h = ap (λ x. block_of x ∷ stack_of (set l d v) d) (get_or-set_same l d v Block.Then h) ∙ ap (λ s. block_of v ∷ s) (stack_set l d v d (omega arith))

pub stack_top : (l : List Block) (d : ℕ) → 0 < d → stack_of l d ≡ block_of (get_or l (d - 1) Block.Then) ∷ stack_of l (d - 1)
unfolding stack_of
stack_top l zero h = absurd (omega arith)
stack_top l (suc d) h = ap (λ k. block_of (get_or l k Block.Then) ∷ stack_of l k) (let g : d ≡ suc d - 1 = omega arith in g)

-- the block on top is replaced
pub stack_replace : (l : List Block) (d : ℕ) (v : Block) → 0 < d → d ≤ length l → stack_of (set l (d - 1) v) d ≡ block_of v ∷ stack_of l (d - 1)
stack_replace l d v h m = ap (stack_of (set l (d - 1) v)) (let g : d ≡ suc (d - 1) = omega arith in g) ∙ stack_push l (d - 1) v (omega arith)

-- Else marks the block on top
pub halved_top : (l : List Block) (d : ℕ) → 0 < d → d ≤ length l → get_or l (d - 1) Block.Then ≡ Block.Then → stack_of (set l (d - 1) Block.Else) d ≡ halved (stack_of l d)
halved_top l d h m e =
    stack_replace l d Block.Else h m ∙ sym (ap halved (stack_top l d h) ∙ ap (λ b. halved (block_of b ∷ stack_of l (d - 1))) e)

pub halved_other : (v : Block) (bs : List spec.Block) → (v ≡ Block.Then → ⊥) → halved (block_of v ∷ bs) ≡ block_of v ∷ bs
halved_other Block.Then bs h = absurd (h refl)
halved_other Block.Else bs h = refl
halved_other Block.Subroutine bs h = refl
halved_other (Block.Loop n) bs h = refl

pub halved_same : (l : List Block) (d : ℕ) → 0 < d → (get_or l (d - 1) Block.Then ≡ Block.Then → ⊥) → stack_of l d ≡ halved (stack_of l d)
halved_same l d h e = stack_top l d h ∙ sym (ap halved (stack_top l d h) ∙ halved_other (get_or l (d - 1) Block.Then) (stack_of l (d - 1)) e)

pub halved_none : (l : List Block) (d : ℕ) → d ≡ 0 → stack_of l d ≡ halved (stack_of l d)
unfolding stack_of
halved_none l d e = ap (stack_of l) e ∙ sym (ap (λ k. halved (stack_of l k)) e)

-- one block less
pub outer_top : (l : List Block) (d : ℕ) → stack_of l (d - 1) ≡ outer (stack_of l d)
unfolding stack_of
outer_top l zero = refl
outer_top l (suc d) = ap (stack_of l) (let g : suc d - 1 ≡ d = omega arith in g)

-- ---- what is asked of the blocks, as tests over the array

abbrev pub opens_loop : Block → Bool
opens_loop Block.Then = false
opens_loop Block.Else = false
opens_loop Block.Subroutine = false
opens_loop (Block.Loop n) = true

-- how many passes a loop has; 0 at other blocks
abbrev pub passes_of : Block → ℕ
passes_of Block.Then = 0
passes_of Block.Else = 0
passes_of Block.Subroutine = 0
passes_of (Block.Loop n) = n

abbrev pub is_then : Block → Bool
is_then Block.Then = true
is_then Block.Else = false
is_then Block.Subroutine = false
is_then (Block.Loop n) = false

abbrev pub is_counted : Block → Bool
is_counted Block.Then = true
is_counted Block.Else = true
is_counted Block.Subroutine = false
is_counted (Block.Loop n) = true

or_true : (p : Bool) → true ≡ (p || true)
or_true true = refl
or_true false = refl

or_false : (p : Bool) → p ≡ (p || false)
or_false true = refl
or_false false = refl

loop_on_top : (b : Block) (bs : List spec.Block) → has_loop (block_of b ∷ bs) ≡ (has_loop bs || (opens_loop b || false))
unfolding has_loop
loop_on_top Block.Then bs = or_false (has_loop bs)
loop_on_top Block.Else bs = or_false (has_loop bs)
loop_on_top Block.Subroutine bs = or_false (has_loop bs)
loop_on_top (Block.Loop n) bs = or_true (has_loop bs)

pub has_loop_any : (l : List Block) (d : ℕ) → d ≤ length l → has_loop (stack_of l d) ≡ list_any opens_loop (take d l)
unfolding stack_of has_loop
has_loop_any l zero h = refl
has_loop_any l (suc d) h =
    loop_on_top (get_or l d Block.Then) (stack_of l d)
    ∙ ap (λ p. p || (opens_loop (get_or l d Block.Then) || false)) (has_loop_any l d (omega arith))
    ∙ sym (list_any-append opens_loop (take d l) (get_or l d Block.Then ∷ []))
    ∙ ap (list_any opens_loop) (sym (take-suc l d Block.Then (omega arith)))

counted_on_top : (b : Block) (bs : List spec.Block) → count_blocks (block_of b ∷ bs) ≡ count_blocks bs + (0 + cond (is_counted b) 1 0)
unfolding count_blocks
counted_on_top Block.Then bs = omega arith
counted_on_top Block.Else bs = omega arith
counted_on_top Block.Subroutine bs = omega arith
counted_on_top (Block.Loop n) bs = omega arith

pub count_blocks_by : (l : List Block) (d : ℕ) → d ≤ length l → count_blocks (stack_of l d) ≡ count_by is_counted (take d l)
unfolding stack_of count_blocks
count_blocks_by l zero h = refl
count_blocks_by l (suc d) h =
    counted_on_top (get_or l d Block.Then) (stack_of l d)
    ∙ ap (λ n. n + (0 + cond (is_counted (get_or l d Block.Then)) 1 0)) (count_blocks_by l d (omega arith))
    ∙ sym (let e : count_by is_counted (take d l ++ (get_or l d Block.Then ∷ [])) ≡ count_by is_counted (take d l) + (0 + cond (is_counted (get_or l d Block.Then)) 1 0) = sum_by-append (λ b. cond (is_counted b) 1 0) (take d l) (get_or l d Block.Then ∷ []) in e)
    ∙ ap (count_by is_counted) (sym (take-suc l d Block.Then (omega arith)))

pub then_on_top : (b : Block) (bs : List spec.Block) → inside_then (block_of b ∷ bs) ≡ is_then b
then_on_top Block.Then bs = refl
then_on_top Block.Else bs = refl
then_on_top Block.Subroutine bs = refl
then_on_top (Block.Loop n) bs = refl

not_then : (b : Block) → (b ≡ Block.Then → ⊥) → is_then b ≡ false
not_then Block.Then h = absurd (h refl)
not_then Block.Else h = refl
not_then Block.Subroutine h = refl
not_then (Block.Loop n) h = refl

pub other_top : (b : Block) (bs : List spec.Block) → (b ≡ Block.Then → ⊥) → inside_then (block_of b ∷ bs) ≡ false
other_top b bs h = then_on_top b bs ∙ not_then b h

-- ---- the block on top

pub block_loop : (n : ℕ) → block_of (Block.Loop n) ≡ loop n
block_loop n = refl

pub is_loop : (b : Block) → opens_loop b ≡ true → block_of b ≡ loop (passes_of b)
is_loop Block.Then h = absurd (let z : ◌≡◌ {A = ℕ} 0 1 = cc in omega arith)
is_loop Block.Else h = absurd (let z : ◌≡◌ {A = ℕ} 0 1 = cc in omega arith)
is_loop Block.Subroutine h = absurd (let z : ◌≡◌ {A = ℕ} 0 1 = cc in omega arith)
is_loop (Block.Loop n) h = refl

pub loop_found : (b : Block) (bs : List spec.Block) → opens_loop b ≡ true → has_loop (block_of b ∷ bs) ≡ true
unfolding has_loop
loop_found Block.Then bs h = absurd (let z : ◌≡◌ {A = ℕ} 0 1 = cc in omega arith)
loop_found Block.Else bs h = absurd (let z : ◌≡◌ {A = ℕ} 0 1 = cc in omega arith)
loop_found Block.Subroutine bs h = absurd (let z : ◌≡◌ {A = ℕ} 0 1 = cc in omega arith)
loop_found (Block.Loop n) bs h = refl

pub not_loop : (b : Block) → ((n : ℕ) → b ≡ Block.Loop n → ⊥) → opens_loop b ≡ false
not_loop Block.Then h = refl
not_loop Block.Else h = refl
not_loop Block.Subroutine h = refl
not_loop (Block.Loop n) h = absurd (h n refl)

pub loop_further : (b : Block) (bs : List spec.Block) → opens_loop b ≡ false → has_loop (block_of b ∷ bs) ≡ has_loop bs
unfolding has_loop
loop_further Block.Then bs h = refl
loop_further Block.Else bs h = refl
loop_further Block.Subroutine bs h = refl
loop_further (Block.Loop n) bs h = absurd (let z : ◌≡◌ {A = ℕ} 0 1 = cc in omega arith)

pub count_sub : (b : Block) (bs : List spec.Block) → b ≡ Block.Subroutine → count_blocks (block_of b ∷ bs) ≡ count_blocks bs
unfolding count_blocks
count_sub b bs h = ap (λ (x : Block). count_blocks (block_of x ∷ bs)) h

pub count_other : (b : Block) (bs : List spec.Block) → (b ≡ Block.Subroutine → ⊥) → count_blocks (block_of b ∷ bs) ≡ 1 + count_blocks bs
unfolding count_blocks
count_other Block.Then bs h = refl
count_other Block.Else bs h = refl
count_other Block.Subroutine bs h = absurd (h refl)
count_other (Block.Loop n) bs h = refl

pub halved_then : (b : Block) (bs : List spec.Block) → b ≡ Block.Then → halved (block_of b ∷ bs) ≡ block_of Block.Else ∷ bs
halved_then b bs h = ap (λ (x : Block). halved (block_of x ∷ bs)) h

pub outer_none : (l : List Block) (d : ℕ) → d ≡ 0 → stack_of l 0 ≡ outer (stack_of l d)
unfolding stack_of
outer_none l d e = sym (ap (λ k. outer (stack_of l k)) e)
