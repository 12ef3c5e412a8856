-- The End and the Else of a block, by document 01's sentence. Assumes nothing.
use Rattle.std.specs.Prelude.{◌≡◌, ℕ, suc, ◌+◌, true, false, List, [], ◌∷◌, ◌++◌, length}
use Rattle.std.proofs.Math.Option.{none, some}
use Rattle.base_program.specs.declared.Instruction.{Instruction}
use Rattle.base_program.specs.Flow.{flow, opens}
use Rattle.spec_check.specs.Blocks.{Block, blocks_after, is}
use Rattle.spec_machine.specs.Ends.{Way, ways}

-- 'belongs to no block inside it': entries that close no block but those opened among them, and leave none of these open
pub data Level : List Instruction → Type 0 where
  empty : Level []
  entry : {i : Instruction} {r : List Instruction} → opens (flow i) ≡ false → is 95 (flow i) ≡ false → Level r → Level (i ∷ r)
  block : {o : Instruction} {a r : List Instruction} (e : Instruction) → opens (flow o) ≡ true → Level a → is 95 (flow e) ≡ true → Level r → Level (o ∷ a ++ e ∷ r)

-- the same with no Else that belongs to no block inside
pub data Undivided : List Instruction → Type 0 where
  empty : Undivided []
  entry : {i : Instruction} {r : List Instruction} → opens (flow i) ≡ false → is 95 (flow i) ≡ false → is 94 (flow i) ≡ false → Undivided r → Undivided (i ∷ r)
  block : {o : Instruction} {a r : List Instruction} (e : Instruction) → opens (flow o) ≡ true → Level a → is 95 (flow e) ≡ true → Undivided r → Undivided (o ∷ a ++ e ∷ r)

-- 'A block's End is the first after it that belongs to no block inside it': e, among the entries l behind the block's opener.
pub record EndOf (l : List Instruction) : Type 0 where
  pub inside : List Instruction
  pub end : Instruction
  pub behind : List Instruction
  pub split : l ≡ inside ++ end ∷ behind
  pub level : Level inside
  pub is_end : is 95 (flow end) ≡ true

-- 'its Else is such a one before that End, if there is one'
pub record ElseIn (inside : List Instruction) : Type 0 where
  pub first : List Instruction
  pub else : Instruction
  pub second : List Instruction
  pub split : inside ≡ first ++ else ∷ second
  pub undivided : Undivided first
  pub is_else : is 94 (flow else) ≡ true
  pub level : Level second

-- ---- what is proved of them (MatchingLaws)

-- Of a block whose opener stands in front of place e, with the entries l behind it and x for its End: the machine goes behind that End, and
-- behind the first Else, if there is one.
pub record GoesBy (e : ℕ) (l : List Instruction) (w : Way) (x : EndOf l) : Type 0 where
  pub end : w.behind_end ≡ suc (e + length x.inside)
  pub no_else : Undivided x.inside → w.behind_else ≡ none
  pub else : (y : ElseIn x.inside) → w.behind_else ≡ some (suc (e + length y.first))

-- The machine has no way where there is no End; where it has one, there is an End, and it goes by every such End.
abbrev pub Exact : ℕ → List Instruction → List Way → Type 0
Exact e l [] = EndOf l → ⊥
Exact e l (w ∷ ws) = EndOf l × ((x : EndOf l) → GoesBy e l w x)

abbrev pub WaysExact : Type 0
WaysExact = (e : ℕ) (l : List Instruction) → Exact e l (ways e l)

-- The check's walk has the same matching: before a block's End that block is the innermost one open, and behind it the same are open as before
-- the block.
abbrev pub WalkMatches : Type 0
WalkMatches =
    (bs : List Block) (o : Instruction) (l : List Instruction) → opens (flow o) ≡ true → (x : EndOf l)
    → ((b : Block) × (blocks_after bs (o ∷ x.inside) ≡ b ∷ bs))
    × (blocks_after bs (o ∷ x.inside ++ x.end ∷ []) ≡ bs)
