-- The store and the two numbers are the definition's.
use mathlib.Core.Path.{refl}
use Rattle.storage_ring.specs.Ring.{advanced}
use Rattle.storage_ring.proofs.ring.write_word.Goals as goal

pub returns : goal.returns
unfolding advanced
returns c =
    ((cc (c.next_position.ensures, c.more_filled.ensures)), refl)
