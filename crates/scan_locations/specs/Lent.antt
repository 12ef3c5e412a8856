-- What a measurement, processing or a test asks of the locations and readings lent to it. Assumes nothing.
use Rattle.std.specs.Prelude.{ℕ, ◌+◌, ◌≤◌, ◌≡◌, Bool, cond}

-- location n, moved up where it is indexed
abbrev pub moved_by : ℕ → ℕ → Bool → ℕ
moved_by shift n indexed = n + cond indexed shift 0

-- location n is one of the i lent
abbrev pub Inside : ℕ → ℕ → Type 0
Inside n i = (1 ≤ n) × (n ≤ i)

-- so are two locations
pub record Two (a b i : ℕ) : Type 0 where
  pub first : Inside a i
  pub second : Inside b i

-- and three
pub record Three (a b z i : ℕ) : Type 0 where
  pub first : Inside a i
  pub second : Inside b i
  pub third : Inside z i

-- 'There are 196 single-ended readings': r are lent, and c is one of n channels
pub record Channel (c n r : ℕ) : Type 0 where
  pub least : 1 ≤ c
  pub most : c ≤ n
  pub readings : r ≡ 196

-- 'reps take following channels, cards and locations': from c on of n channels, from `at` on of i locations; r readings are lent
pub record Measured (c n reps at r i : ℕ) : Type 0 where
  pub first_channel : 1 ≤ c
  pub last_channel : c + reps ≤ n + 1
  pub first_location : 1 ≤ at
  pub last_location : at + reps ≤ i + 1
  pub readings : r ≡ 196
