-- The passes in force inside the open blocks, as numbers in an array: at place d those with d blocks open. Assumes nothing.
use Rattle.std.specs.Prelude.{◌≡◌, refl, ℕ, zero, suc, ◌+◌, ◌-◌, ◌≤◌, ◌<◌, List, [], ◌∷◌, ◌++◌, length, get_or, take, drop, set}
use Rattle.std.proofs.Common.{sym, ap, ◌∙◌, arith, get_or-set_same, get_or-set_other, take-suc}
use Rattle.base_program.specs.declared.Instruction.{Instruction}
use Rattle.base_program.specs.Flow.{flow}
use Rattle.spec_check.specs.Blocks.{Block, then_do, else_do, subroutine, loop, halved, outer, through, blocks_after}
use Rattle.spec_check.specs.Calls.{passes_in_force}

pub record PassesHeld (l : List ℕ) (depth : ℕ) (bs : List Block) : Type 0 where
  pub deep : length bs ≡ depth
  pub held : (k : ℕ) → k ≤ depth → get_or l (depth - k) 0 ≡ passes_in_force (drop k bs)

-- ---- nothing open

pub held_none : (l : List ℕ) → 0 < length l → PassesHeld (set l 0 1) 0 []
unfolding passes_in_force
held_none l h = record { deep = refl; held = λ k m. at k }
  where
    at : (k : ℕ) → get_or (set l 0 1) (0 - k) 0 ≡ passes_in_force (drop k [])
    at zero = get_or-set_same l 0 1 0 h
    at (suc k) = ap (λ j. get_or (set l 0 1) j 0) (let g : 0 - suc k ≡ 0 = omega arith in g) ∙ get_or-set_same l 0 1 0 h

pub held_top : (l : List ℕ) (d : ℕ) (bs : List Block) → PassesHeld l d bs → get_or l d 0 ≡ passes_in_force bs
held_top l d bs h = ap (λ j. get_or l j 0) (let g : d ≡ d - 0 = omega arith in g) ∙ h.held 0 (omega arith)

-- ---- a block more

pub held_more : (l : List ℕ) (d : ℕ) (bs : List Block) (b : Block) → PassesHeld l d bs → d + 1 < length l → (v : ℕ) → v ≡ passes_in_force (b ∷ bs) → PassesHeld (set l (d + 1) v) (d + 1) (b ∷ bs)
held_more l d bs b h m v e = record { deep = omega (arith, h.deep); held = at }
  where
    at : (k : ℕ) → k ≤ d + 1 → get_or (set l (d + 1) v) (d + 1 - k) 0 ≡ passes_in_force (drop k (b ∷ bs))
    at zero n = ap (λ j. get_or (set l (d + 1) v) j 0) (let g : d + 1 - 0 ≡ d + 1 = omega arith in g) ∙ get_or-set_same l (d + 1) v 0 m ∙ e
    at (suc k) n =
        ap (λ j. get_or (set l (d + 1) v) j 0) (let g : d + 1 - suc k ≡ d - k = omega arith in g)
        ∙ get_or-set_other l (d + 1) (d - k) v 0 (λ e. omega arith)
        ∙ h.held k (omega arith)

-- ---- the same number of blocks

halved_length : (bs : List Block) → length (halved bs) ≡ length bs
halved_length [] = refl
halved_length (then_do ∷ bs) = refl
halved_length (else_do ∷ bs) = refl
halved_length (subroutine ∷ bs) = refl
halved_length (loop n ∷ bs) = refl

halved_passes : (k : ℕ) (bs : List Block) → passes_in_force (drop k bs) ≡ passes_in_force (drop k (halved bs))
unfolding passes_in_force
halved_passes zero [] = refl
halved_passes zero (then_do ∷ bs) = refl
halved_passes zero (else_do ∷ bs) = refl
halved_passes zero (subroutine ∷ bs) = refl
halved_passes zero (loop n ∷ bs) = refl
halved_passes (suc k) [] = refl
halved_passes (suc k) (then_do ∷ bs) = refl
halved_passes (suc k) (else_do ∷ bs) = refl
halved_passes (suc k) (subroutine ∷ bs) = refl
halved_passes (suc k) (loop n ∷ bs) = refl

pub held_halved : (l : List ℕ) (d : ℕ) (bs : List Block) → PassesHeld l d bs → PassesHeld l d (halved bs)
held_halved l d bs h = record { deep = halved_length bs ∙ h.deep; held = λ k m. h.held k m ∙ halved_passes k bs }

-- ---- a block less

pub held_less : (l : List ℕ) (d : ℕ) (bs : List Block) → PassesHeld l d bs → PassesHeld l (d - 1) (outer bs)
held_less l d [] h = record {
  deep = omega (arith, h.deep);
  held = λ k m. ap (λ j. get_or l j 0) (let g : d - 1 - k ≡ d - k = omega (arith, h.deep) in g) ∙ h.held k (omega arith);
}
held_less l d (b ∷ bs) h = record {
  deep = omega (arith, h.deep);
  held = λ k m. ap (λ j. get_or l j 0) (let g : d - 1 - k ≡ d - suc k = omega (arith, h.deep) in g) ∙ h.held (suc k) (omega (arith, h.deep));
}

-- ---- from entry to entry

blocks_append : (bs : List Block) (xs ys : List Instruction) → blocks_after bs (xs ++ ys) ≡ blocks_after (blocks_after bs xs) ys
unfolding blocks_after
blocks_append bs [] ys = refl
blocks_append bs (i ∷ xs) ys = blocks_append (through (flow i) bs) xs ys

pub blocks_next : (l : List Instruction) (e : ℕ) → e < length l
    → through (flow (get_or l e Instruction.End)) (blocks_after [] (take e l)) ≡ blocks_after [] (take (e + 1) l)
unfolding blocks_after
blocks_next l e h =
    sym
    (ap (λ n. blocks_after [] (take n l)) (let g : e + 1 ≡ suc e = omega arith in g)
    ∙ ap (blocks_after []) (take-suc l e Instruction.End h)
    ∙ blocks_append [] (take e l) (get_or l e Instruction.End ∷ []))
