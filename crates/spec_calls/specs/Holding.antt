-- The memory that state and buffers hold is the one that is put together of them, but for whether a start word waits: part by part. Assumes nothing.
use Rattle.std.specs.Prelude.{◌≡◌, refl, ℕ, Bool, List, length}
use Rattle.std.proofs.Common.{sym}
use Rattle.storage_ring.specs.Ring.{latest}
use Rattle.spec_machine.specs.Memory.{Memory, set_storage}
use Rattle.spec_calls.specs.Stores.{Stores, words_in, memory_in, Holds}

-- the same memory, but for whether a start word waits; 'Flags 0 and 9 are lowered as a table starts', and then none does
abbrev pub with_waiting : Bool → Memory → Memory
with_waiting b m = set_storage m.storage.words m.storage.array b m

module _ (s : Stores) where
  pub memory_held : (b : Bool) (words : List ℕ) → words_in s ≡ latest (length s.ring) words → Holds s (with_waiting b (memory_in s words))
  memory_held b words h =
      record { locations = refl; flags = refl; ports = refl; sums = refl; words = h; counts = refl; array = refl; last = refl }

  pub held_memory : (m : Memory) → Holds s m → m ≡ with_waiting m.storage.waiting (memory_in s m.storage.words)
  held_memory m h =
      sym
      (λ i. record {
        cells = record { locations = h.locations i; sums = h.sums i; counts = h.counts i };
        signals = record { flags = h.flags i; ports = h.ports i };
        storage = record { words = m.storage.words; array = h.array i; waiting = m.storage.waiting };
        last = h.last i;
      })
