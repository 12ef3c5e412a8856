-- What every move asks. Assumes nothing.
use Rattle.std.specs.Prelude.{ℕ, ◌<◌, List}
use Rattle.scan_marks.specs.Move.{MoveReady, Targets}

-- pc is the place behind an entry, home the place behind the last entry of the table scanned
pub record Moving (pc home : ℕ) (ends elses subs marks : List ℕ) (top : ℕ) : Type 0 where
  pub ready : MoveReady pc top marks
  pub home_in : home < 384
  pub ends_in : Targets ends 384
  pub elses_in : Targets elses 384
  pub subs_in : Targets subs 256
