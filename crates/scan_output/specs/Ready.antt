-- A ring that takes one word takes the next: writing keeps its state sound and the array's id, whatever an entry writes. Assumes nothing.
use Rattle.std.specs.Prelude.{◌≡◌, Bool, true, false, cond, List, [], ◌∷◌, ℕ, ◌<◌, length, eqb, Float}
use Rattle.std.proofs.Common.{sym, ◌∙◌, subst}
use Rattle.base_float.specs.Finite.{stored}
use Rattle.storage_word.specs.Word.{value_word, start_word}
use Rattle.base_program.specs.declared.Command.{Command}
use Rattle.base_program.specs.declared.Command.TheVariants.{Stop, Call, Raise, Lower, Then, ExitIfTrue, ExitIfFalse, PortHigh, PortLow}
use Rattle.base_program.specs.declared.TimeCode.{TimeCode}
use Rattle.base_program.specs.declared.TimeCode.TheVariants.{HoursMinutes, Day, DayHoursMinutes}
use Rattle.storage_ring.specs.RingLaws.{write_sound}
use Rattle.spec_machine.specs.Values.{each, reps}
use Rattle.spec_machine.specs.Output.{whole}
use Rattle.spec_buffers.specs.Held.{Held, Out, out_of, put_word}
use Rattle.spec_buffers.specs.Output.{write_out, write_each, time_out, begin_out}
use Rattle.spec_buffers.specs.Effects.{raise_held, command_held}
use Rattle.scan_output.specs.Words.{put_out, start_out}
use Rattle.scan_output.specs.Lent.{RingReady, Room}
use Rattle.scan_output.specs.Laws.{out_with, write_parts}

put_ready : (w : ℕ) (o : Out) → RingReady o → RingReady (put_out w o)
unfolding put_out put_word
put_ready w o r = record { ring = write_sound o.tape.ring o.tape.state w r.ring; array = r.array }

start_ready : (o : Out) → RingReady o → RingReady (start_out o)
unfolding start_out put_word
start_ready o r = by o.waiting
  where
    by : (b : Bool) → RingReady (out_with (cond b (put_word (start_word o.array) o.tape) o.tape) o.array false)
    by true = record { ring = write_sound o.tape.ring o.tape.state (start_word o.array) r.ring; array = r.array }
    by false = record { ring = r.ring; array = r.array }

pub write_ready : (v : Float) (o : Out) → RingReady o → RingReady (write_out v o)
write_ready v o r = subst RingReady (sym (write_parts v o)) (put_ready (value_word (stored v)) (start_out o) (start_ready o r))

each_ready : (ks : List ℕ) (v : ℕ → Float) (o : Out) → RingReady o → RingReady (each ks (λ k. write_out (v k)) o)
unfolding each
each_ready [] v o r = r
each_ready (k ∷ ks) v o r = each_ready ks v (write_out (v k) o) (write_ready (v k) o r)

pub write_each_ready : (n : ℕ) (v : ℕ → Float) (o : Out) → RingReady o → RingReady (write_each n v o)
unfolding write_each
write_each_ready n v o r = each_ready (reps n) v o r

pub time_ready : (code : TimeCode) (day clock : ℕ) (o : Out) → RingReady o → RingReady (time_out code day clock o)
unfolding time_out
time_ready HoursMinutes day clock o r = write_ready (whole clock) o r
time_ready Day day clock o r = write_ready (whole day) o r
time_ready DayHoursMinutes day clock o r = write_ready (whole clock) (write_out (whole day) o) (write_ready (whole day) o r)

raise_ready : (id f : ℕ) (h : Held) → id < 1024 → RingReady h.out → RingReady (raise_held id f h).out
unfolding raise_held
raise_ready id f h small r = by (eqb f 0)
  where
    by : (b : Bool) → RingReady (cond b (begin_out id h.out) h.out)
    by true = record { ring = r.ring; array = small }
    by false = r

pub command_ready : (id : ℕ) (c : Command) (h : Held) → id < 1024 → RingReady h.out → RingReady (command_held id c h).out
unfolding command_held
command_ready id Stop h small r = r
command_ready id (Call k) h small r = r
command_ready id (Raise f) h small r = raise_ready id f h small r
command_ready id (Lower f) h small r = r
command_ready id Then h small r = r
command_ready id ExitIfTrue h small r = r
command_ready id ExitIfFalse h small r = r
command_ready id (PortHigh q) h small r = r
command_ready id (PortLow q) h small r = r

-- the same of the numbers, from what `write_start` and `write_value` ensure
pub room_started : (ring store ring' store' : List ℕ) → Room ring store → length store' ≡ length store → out_of ring' store' ≡ start_out (out_of ring store)
    → Room ring' store'
room_started ring store ring' store' r kept e =
    record { four = kept ∙ r.four; ready = subst RingReady (sym e) (start_ready (out_of ring store) r.ready) }

pub room_written : (v : Float) (ring store ring' store' : List ℕ) → Room ring store → length store' ≡ length store
    → out_of ring' store' ≡ write_out v (out_of ring store) → Room ring' store'
room_written v ring store ring' store' r kept e =
    record { four = kept ∙ r.four; ready = subst RingReady (sym e) (write_ready v (out_of ring store) r.ready) }
