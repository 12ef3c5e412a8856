-- A state's parts as a run begins and as it ends. Assumes nothing.
use Rattle.std.specs.Prelude.{ℕ, Bool, false, List, [], ◌∷◌, get_or, set}
use Rattle.spec_calls.specs.declared.State.{State}

-- flags 0 and 9 low
unfoldable pub lowered : List Bool → List Bool
lowered l = set (set l 0 false) 9 false

-- the numbers of the state beside the ring; no start word waits
unfoldable pub numbers_of : State → List ℕ
numbers_of s = s.position ∷ s.filled ∷ s.array ∷ 0 ∷ []

-- the state put together again from the local arrays, with the day and the minute of the scan at a table's place
unfoldable pub noting : ℕ → ℕ → ℕ → List Bool → List Bool → List ℕ → State → State
noting k day minute flags ports numbers s =
    record {
      flags = flags;
      ports = ports;
      position = get_or numbers 0 0;
      filled = get_or numbers 1 0;
      array = get_or numbers 2 0;
      days = set s.days k day;
      minutes = set s.minutes k minute;
    }
