-- A scan leaves one thing: the machine's run has one end, a list of known length is known by its elements, the ring by the words, and the last
-- scans are said. Assumes nothing.
use Rattle.std.specs.Prelude.{◌≡◌, ℕ, suc, Bool, false, List, length, get_or, Float}
use Rattle.std.proofs.Common.{sym, ap, ◌∙◌, ext_get_or}
use Rattle.base_program.specs.declared.Program.{Program}
use Rattle.spec_machine.specs.Memory.{Memory}
use Rattle.base_float.specs.Finite.{zero_float}
use Rattle.spec_machine.specs.Values.{Scan}
use Rattle.proof_safety.specs.Laws.{one_end}
use Rattle.spec_buffers.specs.Held.{Tape, put_words}
use Rattle.spec_calls.specs.Stores.{Stores, words_in, tape_in}
use Rattle.spec_calls.specs.Scanned.{Leaves}
use Rattle.proof_demand.specs.Before.{same_behind}

same_list : {A : Type 0} (d : A) (l r : List A) (n : ℕ) → length l ≡ n → length r ≡ n → ◌≡◌ {A = ℕ → A} (λ k. get_or l k d) (λ k. get_or r k d) → l ≡ r
same_list d l r n long long' e = ext_get_or d l r (long ∙ sym long') (λ i low. ap (λ f. f i) e)

module _ (p : Program) (x : Scan) (a b c : Stores) (l : Leaves p x a b) (r : Leaves p x a c) where
  same_memory : l.memory ≡ r.memory
  same_memory = one_end p x l.ends.1 r.ends.1

  -- what both hold of the machine's memory
  both_hold : {A : Type 0} {u v : A} (f : Memory → A) → u ≡ f l.memory → v ≡ f r.memory → u ≡ v
  both_hold f h g = h ∙ ap f same_memory ∙ sym g

  same_locations : b.locations ≡ c.locations
  same_locations =
      same_list zero_float b.locations c.locations p.locations l.sound.fits.locations r.sound.fits.locations
      (ap {B = ℕ → Float} (λ (f : ℕ → Float). λ k. f (suc k)) (both_hold (λ m. m.cells.locations) l.holds.locations r.holds.locations))

  same_sums : b.sums ≡ c.sums
  same_sums =
      same_list zero_float b.sums c.sums p.sums l.sound.fits.sums r.sound.fits.sums
      (both_hold (λ m. m.cells.sums) l.holds.sums r.holds.sums)

  same_counts : b.counts ≡ c.counts
  same_counts =
      same_list 0 b.counts c.counts 297 l.sound.fits.counts r.sound.fits.counts
      (both_hold (λ m. m.cells.counts) l.holds.counts r.holds.counts)

  same_flags : b.state.flags ≡ c.state.flags
  same_flags =
      same_list false b.state.flags c.state.flags 10 l.sound.fits.flags r.sound.fits.flags
      (both_hold (λ m. m.signals.flags) l.holds.flags r.holds.flags)

  same_ports : b.state.ports ≡ c.state.ports
  same_ports =
      same_list false b.state.ports c.state.ports 8 l.sound.fits.ports r.sound.fits.ports
      (ap {B = ℕ → Bool} (λ (f : ℕ → Bool). λ k. f (suc k)) (both_hold (λ m. m.signals.ports) l.holds.ports r.holds.ports))

  same_words : l.words ≡ r.words
  same_words =
      same_behind (words_in a) l.words r.words (sym l.written ∙ ap (λ (m : Memory). m.storage.words) same_memory ∙ r.written)

  same_tape : tape_in b ≡ tape_in c
  same_tape = l.ring ∙ ap (λ w. put_words w (tape_in a)) same_words ∙ sym r.ring

  pub leaves_one : b ≡ c
  leaves_one =
      let days = l.days ∙ sym r.days in
      let minutes = l.minutes ∙ sym r.minutes in
      let e₁ = same_locations in
      let e₂ = same_sums in
      let e₃ = same_counts in
      let e₄ = same_flags in
      let e₅ = same_ports in
      let e₆ : b.ring ≡ c.ring = ap (λ (t : Tape). t.ring) same_tape in
      let e₇ : b.state.position ≡ c.state.position = ap (λ (t : Tape). t.state.position) same_tape in
      let e₈ : b.state.filled ≡ c.state.filled = ap (λ (t : Tape). t.state.filled) same_tape in
      let e₉ : b.state.array ≡ c.state.array = both_hold (λ m. m.storage.array) l.holds.array r.holds.array in
      let g : whole b ≡ whole c = cc in
      g
    where
      whole : Stores → Stores
      whole s =
          record {
            state =
                record {
                  flags = s.state.flags;
                  ports = s.state.ports;
                  position = s.state.position;
                  filled = s.state.filled;
                  array = s.state.array;
                  days = s.state.days;
                  minutes = s.state.minutes;
                };
            locations = s.locations;
            sums = s.sums;
            counts = s.counts;
            ring = s.ring;
          }
