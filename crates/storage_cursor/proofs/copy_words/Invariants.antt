-- The words so far stand there.
use Rattle.std.proofs.Common.{◌≡◌, take, length}
use Rattle.storage_cursor.proofs.copy_words.Given as goal

abbrev pub invariant-loop-k : goal.invariant-loop-k
invariant-loop-k l = (take l.k l.values ≡ take l.k l.words) × (length l.values ≡ length l.words)
