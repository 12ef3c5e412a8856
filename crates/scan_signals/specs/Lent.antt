-- What is asked of the flags, the ports and the numbers beside the ring that are lent. Assumes nothing.
use Rattle.std.specs.Prelude.{◌≡◌, Bool, true, List, ℕ, ◌≤◌, ◌<◌, length}
use Rattle.base_program.specs.declared.Command.{Command}
use Rattle.spec_check.specs.Ranges.{command_in_range}

pub record Raising (f : ℕ) (flags : List Bool) (store : List ℕ) : Type 0 where
  pub flag : f < length flags
  pub four : length store ≡ 4

pub record Port (q : ℕ) (ports : List Bool) : Type 0 where
  pub least : 1 ≤ q
  pub most : q ≤ length ports

pub record Commanded (c : Command) (f p : List Bool) (store : List ℕ) : Type 0 where
  pub range : command_in_range c ≡ true
  pub flags : length f ≡ 10
  pub ports : length p ≡ 8
  pub four : length store ≡ 4
