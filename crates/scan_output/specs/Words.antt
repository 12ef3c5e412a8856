-- One word written to what is held, and the start word that waits. Assumes nothing.
use Rattle.std.specs.Prelude.{ℕ, false, cond}
use Rattle.storage_word.specs.Word.{start_word}
use Rattle.spec_buffers.specs.Held.{Out, put_word}

-- the array stays as it is
unfoldable pub put_out : ℕ → Out → Out
put_out w o = record { tape = put_word w o.tape; array = o.array; waiting = o.waiting }

-- 'its start word is written with its first value'
unfoldable pub start_out : Out → Out
start_out o =
    record {
      tape = cond o.waiting (put_word (start_word o.array) o.tape) o.tape;
      array = o.array;
      waiting = false;
    }
