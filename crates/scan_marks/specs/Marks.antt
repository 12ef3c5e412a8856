-- What is open, as the code holds it: numbers, read as marks. Every number is a mark. Assumes nothing.
use Rattle.std.specs.Prelude.{◌≡◌, ℕ, zero, suc, ◌+◌, ◌-◌, ◌*◌, ◌/◌, ◌%◌, min, cond, List, [], ◌∷◌, get_or, ltb, eqb}

-- A Then Do; a loop with the place behind its 87 (the entries before it), its count and its pass; a call with the place to go back to, as one number.
pub data Mark : Type 0 where
  then_mark : Mark
  loop_mark : ℕ → ℕ → ℕ → Mark
  call_mark : ℕ → Mark

-- Smaller numbers than 2 ^ 32 are Then Dos, smaller ones than 129 times that are loops. A call's place is 383 at most. The low 16 bits of a loop's
-- are the passes done.
abbrev pub first_loop : ℕ
first_loop = 4294967296

abbrev pub first_call : ℕ
first_call = 554050781184

unfoldable pub mark_of : ℕ → Mark
mark_of v =
    cond (ltb v first_loop) then_mark
    (cond (ltb v first_call) (loop_mark (v / first_loop - 1) (v / 65536 % 65536) (v % 65536 + 1)) (call_mark (min ((v - first_call) / 65536) 383)))

-- the marks 1 to k, the uppermost first
abbrev pub stack : List ℕ → ℕ → List Mark
stack l zero = []
stack l (suc k) = mark_of (get_or l (suc k) 0) ∷ stack l k

-- place q of the table that the place pc is in
abbrev pub place_in : ℕ → ℕ → ℕ
place_in pc q = pc / 128 * 128 + q

-- Where an entry leads: a table's row and a place in it, with what is open there; or nowhere.
pub data To : Type 0 where
  go : ℕ → ℕ → List Mark → To
  nowhere : To

-- what an answer and the marks say; NOWHERE is 384
unfoldable pub seen : ℕ → List Mark → To
seen r s = cond (eqb r 384) nowhere (go (r / 128) (r % 128) s)
