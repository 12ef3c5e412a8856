-- The ring of Final Storage: which rings are refused, its words by age, and what writing a word does. Assumes nothing.
use Rattle.std.specs.Prelude.{ℕ, ◌+◌, ◌-◌, ◌%◌, ◌≤◌, ◌<◌, min, Bool, ◌&&◌, List, ◌++◌, length, take, drop, leb, ltb}
use Rattle.storage_ring.specs.declared.RingState.{RingState}

-- A ring of n words and its state that no call refuses: 'ring 1 to 32,768'; no 'ring position at or past its length, filled count over it'.
pub record RingSound (n : ℕ) (s : RingState) : Type 0 where
  pub least : 1 ≤ n
  pub most : n ≤ 32768
  pub position : s.position < n
  pub filled : s.filled ≤ n

-- 31: 'ring 1 to 32,768'
abbrev pub sound_length : ℕ → Bool
sound_length n = leb 1 n && leb n 32768

-- 32: 'Ring position at or past its length, filled count over it'
abbrev pub sound_state : ℕ → RingState → Bool
sound_state n s = ltb s.position n && leb s.filled n

-- The filled words, oldest first. 'the ring's position (the next word to write; the filled words lie just before it, going round)'
unfoldable pub by_age : List ℕ → RingState → List ℕ
by_age ring s = drop (length ring - s.filled) (drop s.position ring ++ take s.position ring)

-- the state of a ring of n words once a word is written
unfoldable pub advanced : ℕ → RingState → RingState
advanced n s = record { position = (s.position + 1) % n; filled = min (s.filled + 1) n }

-- the last n of a list
abbrev pub latest : ℕ → List ℕ → List ℕ
latest n l = drop (length l - n) l
