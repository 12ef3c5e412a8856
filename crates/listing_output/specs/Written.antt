-- Bytes written into a lent buffer behind those that are there, as far as there is room. Assumes nothing.
use Rattle.std.specs.Prelude.{ℕ, ◌+◌, ◌≤◌, min, ◌≡◌, List, length}
use Rattle.std.proofs.lemmas.List.Edits.{sets}

-- w in out, byte by byte from place n on; past the end of out nothing is written
unfoldable pub written : List ℕ → ℕ → List ℕ → List ℕ
written out n w = sets out n w

-- w has been written behind the first n bytes of out: r bytes are filled, and the buffer is now `next`
pub record Put (out : List ℕ) (n : ℕ) (w : List ℕ) (r : ℕ) (next : List ℕ) : Type 0 where
  pub bytes : next ≡ written out n w
  pub count : r ≡ min (n + length w) (length out)
  pub within : r ≤ length out

-- writing w behind the first m bytes of out comes to the same as writing `all` behind the first n of `first`
pub record Left (out : List ℕ) (m : ℕ) (w first : List ℕ) (n : ℕ) (all : List ℕ) : Type 0 where
  pub bytes : written out m w ≡ written first n all
  pub count : min (m + length w) (length out) ≡ min (n + length all) (length first)
  pub within : m ≤ length out
  pub size : length out ≡ length first
