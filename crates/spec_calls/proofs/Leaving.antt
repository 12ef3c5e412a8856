-- A scan leaves b where its run ends with the memory that is put together of b: since the words that it wrote have gone round the ring, the filled
-- words of b are the last of all. Assumes nothing.
use Rattle.std.specs.Prelude.{◌≡◌, refl, ℕ, Bool, List, ◌++◌, set}
use Rattle.std.proofs.Common.{sym, ap, ◌∙◌, subst}
use Rattle.base_program.specs.declared.Program.{Program}
use Rattle.storage_ring.specs.Ring.{latest}
use Rattle.spec_machine.specs.Values.{Scan, minute_of}
use Rattle.spec_machine.specs.Run.{start, Ends}
use Rattle.spec_buffers.specs.Held.{put_words}
use Rattle.spec_calls.specs.Stores.{Stores, words_in, tape_in, memory_in}
use Rattle.spec_calls.specs.Holding.{with_waiting, memory_held}
use Rattle.spec_calls.specs.RingWords.{Gone, all_gone}
use Rattle.spec_calls.specs.Scanned.{StoresSound, place_of, Leaves}

module _ (p : Program) (x : Scan) (a b : Stores) (words : List ℕ) (waiting : Bool) where
  pub leaves_together : (n : ℕ) → Ends p x (start x (memory_in a (words_in a))) n (with_waiting waiting (memory_in b (words_in a ++ words)))
      → tape_in b ≡ put_words words (tape_in a) → StoresSound p a → StoresSound p b → b.state.days ≡ set a.state.days (place_of x.table) x.day
      → b.state.minutes ≡ set a.state.minutes (place_of x.table) (minute_of x.time) → Leaves p x a b
  leaves_together n run round before sound days minutes =
      let gone : Gone words (tape_in a) (tape_in b) =
      subst (λ z. Gone words (tape_in a) z) (sym round) (all_gone words (tape_in a) before.fits.ring) in
      record {
        memory = with_waiting waiting (memory_in b (words_in a ++ words));
        ends = (n, run);
        holds = memory_held b waiting (words_in a ++ words) (gone.aged ∙ ap (λ k. latest k (words_in a ++ words)) (sym gone.long));
        words = words;
        written = refl;
        ring = round;
        days = days;
        minutes = minutes;
        sound = sound;
      }
