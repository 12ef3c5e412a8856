-- What the listing program answers: the first bytes of a buffer, which are what is printed of some input, or that a read failed. Assumes nothing.
use Rattle.std.specs.Prelude.{ℕ, ◌≤◌, List, length, take, IfSome, Bool, true, false, Option, Result, Ok, Err}
use Rattle.std.specs.declared.io.Error.{Error}
use Rattle.spec_listing.specs.declared.Stage.{Stage}
use Rattle.spec_listing.specs.Listing.{Prints}

abbrev pub Answered : List ℕ → Result ℕ Error → Type 0
Answered out (Ok n) = (n ≤ length out) × ((s : List ℕ) × Prints s (take n out))
Answered out (Err e) = 0 ≤ length out

-- where the input's bytes are known, what is printed is the listing of all of them
abbrev pub Listing : Option (List ℕ) → List ℕ → Result ℕ Error → Type 0
Listing known out (Ok n) = IfSome known (λ s. Prints s (take n out))
Listing known out (Err e) = 0 ≤ length out

abbrev pub refused : Stage → Bool
refused Stage.Text = false
refused Stage.Lines = false
refused (Stage.Refused number table entry) = true
