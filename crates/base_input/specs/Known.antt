-- What reads take of a reader's bytes, where these are known. Assumes nothing.
use Rattle.std.specs.Prelude.{ℕ, ◌<◌, ◌≤◌, List, length, take, drop, Option, None, Some, Result, Ok, Err}
use Rattle.std.specs.declared.io.Error.{Error}
use Rattle.std.specs.Io.KnownBytes.{Keeps, Consumes, IsAtEnd}

-- what stands behind the first n bytes of buf were the reader's next ones; the input ends where there are none
abbrev pub TakesMore : Option (List ℕ) → Option (List ℕ) → ℕ → List ℕ → Result (Option ℕ) Error → Type 0
TakesMore old new n buf (Ok (Some m)) = Consumes old new (drop n (take m buf))
TakesMore old new n buf (Ok None) = Keeps old new × IsAtEnd new
TakesMore old new n buf (Err e) = Keeps old new

-- the reader's bytes stand at the start of buf, all of them where there is room for more
abbrev pub TakesWhole : Option (List ℕ) → Option (List ℕ) → List ℕ → Result ℕ Error → Type 0
TakesWhole old new buf (Ok n) = Consumes old new (take n buf) × (n < length buf → IsAtEnd new)
TakesWhole old new buf (Err e) = 0 ≤ length buf
