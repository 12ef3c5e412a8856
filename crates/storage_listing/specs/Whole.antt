-- The listing by a cursor, from any cursor at all and from its beginning to its end: the statements, which proofs/Laws.antt proves. Assumes nothing.
use Rattle.std.specs.Prelude.{◌≡◌, Option, Some, None, Result, Ok, Err, ℕ, zero, suc, ◌+◌, ◌-◌, List, [], ◌∷◌, ◌++◌, map, length, take, drop, replicate}
use Rattle.std.proofs.Math.Option.{some}
use Rattle.std.proofs.Math.ListN.{get_elem?}
use Rattle.storage_ring.specs.declared.RingState.{RingState}
use Rattle.storage_ring.specs.Ring.{RingSound, by_age}
use Rattle.storage_listing.specs.declared.Cursor.{Cursor}
use Rattle.storage_listing.specs.declared.ArraySpan.{ArraySpan}
use Rattle.storage_listing.specs.declared.NextArray.{NextArray}
use Rattle.storage_listing.specs.declared.NextError.{NextError}
use Rattle.storage_listing.specs.Listing.{Array, arrays, shown, nth}
use Rattle.storage_listing.specs.Spans.{spans}
use Rattle.storage_listing.specs.Stepped.{begin, Stepped, left, next_refusal, stepped}

-- what a caller has of an array that is answered: its id, and so many of the values lent as it has
pub record ArrayTold : Type 0 where
  pub id : ℕ
  pub values : List ℕ

abbrev pub told : ℕ → List ℕ → ArrayTold
told id values = record { id = id; values = values }

abbrev pub told_by : Result (Option NextArray) NextError → List ℕ → Option ArrayTold
told_by (Err e) vs = None
told_by (Ok None) vs = None
told_by (Ok (Some a)) vs = Some (told a.id (take a.count vs))

abbrev pub told_in : Stepped → Option ArrayTold
told_in x = told_by x.array x.values

-- an array, whole
abbrev pub tells : Array → ArrayTold
tells a = told (a.start - 64512) a.values

-- 'every whole array still stored, oldest first'
abbrev pub listing : List ℕ → RingState → List Array
listing ring s = shown (arrays (by_age ring s))

-- ---- any cursor, made up ones included

-- x is an array of the listing of the ring as it now is, with its own id and all its values: the first of those that begin at the cursor's word or
-- behind it
pub record IsNext (ring : List ℕ) (s : RingState) (c : Cursor) (x : ArrayTold) : Type 0 where
  pub k : ℕ
  pub array : Array
  pub listed : nth k (listing ring s) ≡ Some array
  pub whole : x ≡ tells array
  pub from : drop k (listing ring s) ≡ shown (arrays (drop c.from (by_age ring s)))

abbrev pub AnyCursor : Type 0
AnyCursor =
    (ring : List ℕ) (s : RingState) (c : Cursor) (vs : List ℕ) (x : ArrayTold) → told_in (stepped ring s c vs) ≡ Some x → IsNext ring s c x

-- Behind the beginning, a cursor that stands neither where an array that is shown begins nor where one ends is answered that the ring has moved on,
-- and nothing is written.
abbrev pub AtNoArray : Type 0
AtNoArray =
    (ring : List ℕ) (s : RingState) (c : Cursor) (vs : List ℕ) → next_refusal (length ring) s (length vs) ≡ Ok tt → (c.from ≡ 0 → ⊥)
    → ((k : ℕ) (p : ArraySpan) → get_elem? (spans 0 (by_age ring s)) k ≡ some p → (p.start ≡ c.from → ⊥) × (p.end ≡ c.from → ⊥))
    → stepped ring s c vs ≡ left (Err NextError.MovedOn) c vs

-- ---- from the beginning to the end

-- the answers of n calls, each with the cursor and the values as the one before left them
unfoldable pub answers : ℕ → List ℕ → RingState → Cursor → List ℕ → List (Option ArrayTold)
unfolding stepped
answers zero ring s c vs = []
answers (suc n) ring s c vs =
    told_in (stepped ring s c vs) ∷ answers n ring s (stepped ring s c vs).cursor (stepped ring s c vs).values

-- every array of the listing, oldest first, then none for as long as one calls
abbrev pub WholeListing : Type 0
WholeListing =
    (ring : List ℕ) (s : RingState) → RingSound (length ring) s → (vs : List ℕ) → length vs ≡ length ring → (m : ℕ)
    → answers (length (listing ring s) + m) ring s begin vs ≡ map (λ a. Some (tells a)) (listing ring s) ++ replicate m None
