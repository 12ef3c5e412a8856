-- A location that is there is written as it is read. Assumes nothing.
use Rattle.std.specs.Prelude.{◌≡◌, List, ℕ, ◌+◌, ◌-◌, ◌≤◌, ◌<◌, length, get_or, take, drop, Float}
use Rattle.std.proofs.Common.{sym, ap, ◌∙◌, arith}
use Rattle.std.proofs.lemmas.List.{get_or-take, get_or-drop, length-take, length-drop}
use Rattle.spec_buffers.specs.Held.{Out, cell}
use Rattle.spec_buffers.specs.Cells.{load_at}
use Rattle.spec_buffers.specs.Output.{write_out}
use Rattle.spec_buffers.specs.Read.{cell_inside}
use Rattle.scan_output.specs.Laws.{write_stored}

-- n of a list's elements from place i on, as the slice that has them
abbrev pub window : {A : Type 0} → ℕ → ℕ → List A → List A
window i n l = take (i + n - i) (drop i l)

pub window_length : {A : Type 0} (i n : ℕ) (l : List A) → i + n ≤ length l → length (window i n l) ≡ n
window_length i n l h = length-take (i + n - i) (drop i l) ∙ (let e : length (drop i l) ≡ length l - i = length-drop i l in omega arith)

pub window_at : {A : Type 0} (i n : ℕ) (l : List A) (k : ℕ) (d : A) → k < n → get_or (window i n l) k d ≡ get_or l (i + k) d
window_at i n l k d h = get_or-take (i + n - i) (drop i l) k d (omega arith) ∙ get_or-drop i l k d

-- the n locations from `at` on
pub location_at : (at n : ℕ) (l : List Float) (k : ℕ) (d : Float) → 1 ≤ at → k < n → get_or (window (at - 1) n l) k d ≡ get_or l (at + k - 1) d
location_at at n l k d low h =
    window_at (at - 1) n l k d h ∙ ap (λ (j : ℕ). get_or l j d) (let e : at - 1 + k ≡ at + k - 1 = omega arith in e)

-- a location written as it is read
pub sample_written : (l : List Float) (n : ℕ) (d : Float) (o p : Out) → 1 ≤ n → n ≤ length l → p ≡ write_out (get_or l (n - 1) d) o
    → p ≡ write_out (load_at l n) o
sample_written l n d o p low high e =
    e ∙ ap (λ x. write_out x o) (cell_inside l n d low high) ∙ sym (write_stored (cell l n) o)
