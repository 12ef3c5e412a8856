-- What a read answers: how many bytes are filled then, the end, or a failure. What was read lies behind the bytes that were there. Assumes nothing.
use Rattle.std.specs.Prelude.{ℕ, ◌≤◌, ◌<◌, Option, None, Some, Result, Ok, Err}
use Rattle.std.specs.declared.io.Error.{Error}

-- behind the first n of `most` bytes
abbrev pub Filling : ℕ → ℕ → Result (Option ℕ) Error → Type 0
Filling n most (Ok (Some m)) = (n < m) × (m ≤ most)
Filling n most (Ok None) = 0 ≤ most
Filling n most (Err e) = 0 ≤ most

-- the whole input, or as much of it as there is room for
abbrev pub Fits : ℕ → Result ℕ Error → Type 0
Fits most (Ok n) = n ≤ most
Fits most (Err e) = 0 ≤ most
