-- The place is counted on from the oldest word, and goes round at the ring's end.
use native.Mathlib.Omega.{arith}
use Rattle.storage_ring.specs.RingLaws.{word_before_end, word_round}
use Rattle.storage_ring.proofs.ring.word_at.Goals as goal

pub returns-then-at-n : goal.returns-then-at-n
returns-then-at-n c =
    word_before_end c.args.ring.now c.args.s c.requires.0 c.args.i c.requires.1 (omega arith)

pub returns : goal.returns
returns c =
    word_round c.args.ring.now c.args.s c.requires.0 c.args.i c.requires.1 (omega arith)
