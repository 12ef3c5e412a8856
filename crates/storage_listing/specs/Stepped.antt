-- The listing by a cursor: each call answers the next whole array. Assumes nothing.
use Rattle.std.specs.Prelude.{ℕ, ◌+◌, ◌-◌, Bool, cond, ◌&&◌, ◌||◌, Option, Some, None, Result, Ok, Err, List, length, get_or, eqb}
use Rattle.std.proofs.lemmas.List.Edits.{sets}
use Rattle.storage_ring.specs.declared.RingState.{RingState}
use Rattle.storage_ring.specs.Ring.{by_age}
use Rattle.storage_listing.specs.declared.ArraySpan.{ArraySpan}
use Rattle.storage_listing.specs.declared.Cursor.{Cursor}
use Rattle.storage_listing.specs.declared.NextArray.{NextArray}
use Rattle.storage_listing.specs.declared.NextError.{NextError}
use Rattle.storage_listing.specs.Listing.{ring_refusal}
use Rattle.storage_listing.specs.Spans.{spans, spans_from, first, held, any_at, begins_at, ends_at}

abbrev pub cursor : ℕ → ℕ → ℕ → Cursor
cursor from position filled = record { from = from; position = position; filled = filled }

-- before the first array
abbrev pub begin : Cursor
begin = cursor 0 0 0

-- A cursor goes on at the beginning, or it was given with the position and the filled count that the ring now has. Else the ring has moved on: the
-- words before the cursor may be others.
unfoldable pub is_current : RingState → Cursor → Bool
is_current s c = eqb c.from 0 || (eqb c.position s.position && eqb c.filled s.filled)

-- A cursor stands at the beginning, or at an array that is shown: where it begins, or where it ends, as a call leaves the cursor. One that stands
-- elsewhere no call gave of this ring.
unfoldable pub stands : List ℕ → ℕ → Bool
unfolding spans any_at
stands ws n = eqb n 0 || (begins_at (spans 0 ws) n || ends_at (spans 0 ws) n)

-- what a call answers, where it leaves the cursor, and what it leaves in the values lent
pub record Stepped : Type 0 where
  pub array : Result (Option NextArray) NextError
  pub cursor : Cursor
  pub values : List ℕ

abbrev pub left : Result (Option NextArray) NextError → Cursor → List ℕ → Stepped
left a c vs = record { array = a; cursor = c; values = vs }

abbrev pub array_told : ℕ → ℕ → NextArray
array_told id count = record { id = id; count = count }

-- an array that was found: its id and the count of its values, these in front of the values lent, and the cursor behind it
unfoldable pub arrived : List ℕ → RingState → Cursor → List ℕ → Option ArraySpan → Stepped
arrived ws s c vs None = left (Ok None) c vs
arrived ws s c vs (Some p) =
    record {
      array = Ok (Some (array_told (get_or ws p.start 0 - 64512) (p.end - (p.start + 1))));
      cursor = cursor p.end s.position s.filled;
      values = sets vs 0 (held ws p.start p.end);
    }

-- the first array that is shown of the words from the cursor on
unfoldable pub stepped_on : List ℕ → RingState → Cursor → List ℕ → Stepped
unfolding is_current stands spans arrived
stepped_on ws s c vs = cond (is_current s c && stands ws c.from) (arrived ws s c vs (first (spans_from ws c.from))) (left (Err NextError.MovedOn) c vs)

-- 31, then 32: as many values are lent as the ring has words
unfoldable pub next_refusal : ℕ → RingState → ℕ → Result (Unit {0}) ℕ
unfolding ring_refusal
next_refusal n s m = cond (eqb m n) (ring_refusal n s) (Err 31)

abbrev pub stepped_unless : Result (Unit {0}) ℕ → Stepped → Cursor → List ℕ → Stepped
stepped_unless (Ok u) x c vs = x
stepped_unless (Err k) x c vs = left (Err (NextError.Refused k)) c vs

-- the next array of the ring as it now is
unfoldable pub stepped : List ℕ → RingState → Cursor → List ℕ → Stepped
unfolding by_age stepped_on next_refusal
stepped ring s c vs = stepped_unless (next_refusal (length ring) s (length vs)) (stepped_on (by_age ring s) s c vs) c vs
