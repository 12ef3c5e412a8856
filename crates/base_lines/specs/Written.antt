-- Bytes written behind others, as far as there is room. Assumes nothing.
use Rattle.std.specs.Prelude.{ℕ, ◌-◌, List, ◌++◌, length, take}

-- s behind old, up to n bytes
abbrev pub written : ℕ → List ℕ → List ℕ → List ℕ
written n old s = old ++ take (n - length old) s
