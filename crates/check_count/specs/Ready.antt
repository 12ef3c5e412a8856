-- What counting is lent: kinds of entries, what calls add, and room for factors. Assumes nothing.
use Rattle.std.specs.Prelude.{◌≡◌, ℕ, ◌+◌, ◌≤◌, ◌<◌, List, length, get_or}
use Rattle.std.proofs.Math.ListN.{drop}
use Rattle.base_program.specs.declared.Instruction.{Instruction}
use Rattle.base_program.specs.Flow.{flow}
use Rattle.spec_check.specs.Counts.{top, counts}
use Rattle.record_codes.specs.Loaded.{decode}
use Rattle.check_count.specs.Saturate.{sat}
use Rattle.check_count.specs.Dot.{dot}

-- what a call of j adds, by the array
abbrev pub added : List ℕ → ℕ → ℕ
added l j = get_or l j 0

pub record CountReady (codes : List ℕ) (base from to : ℕ) (adds list : List ℕ) : Type 0 where
  pub places : length codes ≡ 297
  pub low : base ≤ 198
  pub order : from ≤ to
  pub short : to ≤ 99
  pub calls : length adds ≡ 256
  pub stopped : (k : ℕ) → get_or adds k 0 ≤ 60001
  pub room : length list ≡ 101

-- the kinds of a table's entries
abbrev pub FlowsIn : List ℕ → ℕ → List Instruction → Type 0
FlowsIn codes base l = (e : ℕ) → e < length l → decode (get_or codes (base + e) 0) ≡ flow (get_or l e Instruction.End)

-- what is counted before entry e, and what is left
abbrev pub Counting : (ℕ → ℕ) → List Instruction → ℕ → ℕ → ℕ → List ℕ → Type 0
Counting f l from e count ms = sat (count + dot ms (counts f (drop e l))) ≡ sat (top (counts f (drop from l)))
