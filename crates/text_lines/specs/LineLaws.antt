-- An entry whose line is sound and within the limit of 99. Assumes nothing.
use Rattle.std.specs.Prelude.{ℕ, ◌≡◌, Bool, true, false, cond, eqb, Result, Ok, Err}
use Rattle.std.proofs.Common.{arith, eq-eqb}
use Rattle.base_program.specs.declared.Instruction.{Instruction}
use Rattle.text_lines.specs.Line.{limited}

-- Of the entries of a table only the first 99 are sound.
pub limited_few : (n : ℕ) (j : Result Instruction ℕ) (x : Instruction) → limited n j ≡ Ok x → n ≡ 100 → ⊥
unfolding limited
limited_few n (Err k) x h e = let y : ◌≡◌ {A = ℕ} 0 1 = cc in omega arith
limited_few n (Ok i) x h e = go (eqb n 100) (eq-eqb n 100 e) h
  where
    go : (t : Bool) → t ≡ true → cond {A = Result Instruction ℕ} t (Err 6) (Ok i) ≡ Ok x → ⊥
    go true z h = let y : ◌≡◌ {A = ℕ} 0 1 = cc in omega arith
    go false z h = let y : ◌≡◌ {A = ℕ} 0 1 = cc in omega arith

-- and they are what their lines say.
pub limited_is : (n : ℕ) (j : Result Instruction ℕ) (x : Instruction) → limited n j ≡ Ok x → j ≡ Ok x
unfolding limited
limited_is n (Err k) x h = h
limited_is n (Ok i) x h = go (eqb n 100) h
  where
    go : (t : Bool) → cond {A = Result Instruction ℕ} t (Err 6) (Ok i) ≡ Ok x → ◌≡◌ {A = Result Instruction ℕ} (Ok i) (Ok x)
    go true h = absurd (let y : ◌≡◌ {A = ℕ} 0 1 = cc in omega arith)
    go false h = h
