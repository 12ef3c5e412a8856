-- What the library's listing answers, and what it leaves in the lent numbers. What is quoted is of `include/yukeira.h`. Assumes nothing.
use Rattle.std.specs.Prelude.{◌≡◌, Option, Some, None, Result, Ok, Err, ℕ, Bool, true, false, cond, ◌&&◌, List, [], ◌∷◌, length, get_or, eqb}
use Rattle.storage_listing.specs.declared.Item.{Item}
use Rattle.storage_listing.specs.declared.Cursor.{Cursor}
use Rattle.storage_listing.specs.declared.NextArray.{NextArray}
use Rattle.storage_listing.specs.declared.NextError.{NextError}
use Rattle.storage_listing.specs.Listing.{listed}
use Rattle.storage_listing.specs.Stepped.{cursor, Stepped, stepped}
use Rattle.spec_calls.specs.Stores.{ring_state}
use Rattle.record_layout.specs.Layout.{bit_of}
use Rattle.firmware_state.specs.State.{state_of}
use Rattle.firmware_buffers.specs.Sizes.{is_state}

-- ---- yukeira_list

-- '0: there is no such item', 1 the id, '2: a value'
unfoldable pub kind_of : Result (Option Item) ℕ → ℕ
kind_of (Ok None) = 0
kind_of (Err n) = n
kind_of (Ok (Some (Item.Id id))) = 1
kind_of (Ok (Some (Item.Value d))) = 2

-- 'nothing is written'; '*number is the id; *places and *negative are 0'; 'its digits are in *number'; '*negative is 0 or 1'
unfoldable pub number_left : Result (Option Item) ℕ → ℕ → ℕ
number_left (Ok None) before = before
number_left (Err n) before = before
number_left (Ok (Some (Item.Id id))) before = id
number_left (Ok (Some (Item.Value d))) before = d.digits

unfoldable pub places_left : Result (Option Item) ℕ → ℕ → ℕ
places_left (Ok None) before = before
places_left (Err n) before = before
places_left (Ok (Some (Item.Id id))) before = 0
places_left (Ok (Some (Item.Value d))) before = d.places

unfoldable pub negative_left : Result (Option Item) ℕ → ℕ → ℕ
negative_left (Ok None) before = before
negative_left (Err n) before = before
negative_left (Ok (Some (Item.Id id))) before = 0
negative_left (Ok (Some (Item.Value d))) before = bit_of d.negative

-- what the listing answers, r, and leaves in number, places and negative
pub record ItemTold (taken : Bool) (l : Result (Option Item) ℕ) (a b c r a' b' c' : ℕ) : Type 0 where
  pub answer : r ≡ cond taken (kind_of l) 31
  pub number : a' ≡ cond taken (number_left l a) a
  pub places : b' ≡ cond taken (places_left l b) b
  pub negative : c' ≡ cond taken (negative_left l c) c

abbrev pub ListTold : List ℕ → List ℕ → ℕ → ℕ → ℕ → ℕ → ℕ → ℕ → ℕ → ℕ → ℕ → Type 0
ListTold state ring k j a b c r a' b' c' = ItemTold (is_state state) (listed ring (ring_state (state_of state)) k j) a b c r a' b' c'

-- ---- yukeira_next

-- cursor[0] 'how many of the filled words, oldest first, come before where the listing goes on', cursor[1], [2] 'the ring's position and filled
-- count when the cursor was given'
unfoldable pub cursor_of : List ℕ → Cursor
cursor_of l = cursor (get_or l 0 0) (get_or l 1 0) (get_or l 2 0)

unfoldable pub numbers_of_cursor : Cursor → List ℕ
numbers_of_cursor c = c.from ∷ c.position ∷ c.filled ∷ []

abbrev pub is_cursor : List ℕ → Bool
is_cursor l = eqb (length l) 3

-- '0: there are no more arrays', '1: an array', '3: the ring has moved on'
unfoldable pub kind_of_array : Result (Option NextArray) NextError → ℕ
kind_of_array (Ok None) = 0
kind_of_array (Err (NextError.Refused n)) = n
kind_of_array (Err NextError.MovedOn) = 3
kind_of_array (Ok (Some a)) = 1

-- 'Its id is in `*id`, the count of its values in `*count`'; else these two stay
unfoldable pub id_left : Result (Option NextArray) NextError → ℕ → ℕ
id_left (Ok None) before = before
id_left (Err (NextError.Refused n)) before = before
id_left (Err NextError.MovedOn) before = before
id_left (Ok (Some a)) before = a.id

unfoldable pub count_left : Result (Option NextArray) NextError → ℕ → ℕ
count_left (Ok None) before = before
count_left (Err (NextError.Refused n)) before = before
count_left (Err NextError.MovedOn) before = before
count_left (Ok (Some a)) before = a.count

pub record ArrayPut (a : Result (Option NextArray) NextError) (i n r i' n' : ℕ) : Type 0 where
  pub answer : r ≡ kind_of_array a
  pub id : i' ≡ id_left a i
  pub count : n' ≡ count_left a n

-- the next array from the cursor on
abbrev pub next_of : List ℕ → List ℕ → List ℕ → List ℕ → Stepped
next_of state ring cur vs = stepped ring (ring_state (state_of state)) (cursor_of cur) vs

-- before it cursor, values, id and count are cur, vs, i and n, behind it cur', vs', i' and n'
pub record NextTaken (x : Stepped) (i n r : ℕ) (cur' vs' : List ℕ) (i' n' : ℕ) : Type 0 where
  pub array : ArrayPut x.array i n r i' n'
  pub cursor : cur' ≡ numbers_of_cursor x.cursor
  pub values : vs' ≡ x.values

-- 31: a state or a cursor of another size; then nothing is written
pub record NextLeft (cur vs : List ℕ) (i n r : ℕ) (cur' vs' : List ℕ) (i' n' : ℕ) : Type 0 where
  pub answer : r ≡ 31
  pub cursor : cur' ≡ cur
  pub values : vs' ≡ vs
  pub id : i' ≡ i
  pub count : n' ≡ n

abbrev pub NextIf : Bool → List ℕ → List ℕ → List ℕ → List ℕ → ℕ → ℕ → ℕ → List ℕ → List ℕ → ℕ → ℕ → Type 0
NextIf true state ring cur vs i n r cur' vs' i' n' = NextTaken (next_of state ring cur vs) i n r cur' vs' i' n'
NextIf false state ring cur vs i n r cur' vs' i' n' = NextLeft cur vs i n r cur' vs' i' n'

abbrev pub NextTold : List ℕ → List ℕ → List ℕ → List ℕ → ℕ → ℕ → ℕ → List ℕ → List ℕ → ℕ → ℕ → Type 0
NextTold state ring cur vs i n r cur' vs' i' n' = NextIf (is_state state && is_cursor cur) state ring cur vs i n r cur' vs' i' n'
