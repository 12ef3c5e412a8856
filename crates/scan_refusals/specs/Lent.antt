-- Refusals 31 to 33 of a scan by the lengths that are lent, and when a table is due by its V. Assumes nothing.
use Rattle.std.specs.Prelude.{ℕ, ◌%◌, Bool, not, ◌&&◌, List, length, eqb, leb}
use Rattle.base_program.specs.Codes.{between}
use Rattle.spec_check.specs.Check.{or}
use Rattle.storage_ring.specs.Ring.{sound_state}
use Rattle.spec_machine.specs.Calls.{is_tick}
use Rattle.spec_calls.specs.declared.State.{State}
use Rattle.spec_calls.specs.Stores.{ring_state}
use Rattle.spec_calls.specs.Refusals.{few_samples}
use Rattle.scan_refusals.specs.declared.Sizes.{Sizes}

-- how many locations, sums, readings and words are lent
abbrev pub sizes_lent : ℕ → ℕ → ℕ → ℕ → Sizes
sizes_lent locations sums readings ring = record { locations = locations; sums = sums; readings = readings; ring = ring }

-- 31: 'Lent lengths: locations I, sums M, counts 297, readings 196, ring 1 to 32,768', where I is i and M is m
unfoldable pub lent_all : ℕ → ℕ → Sizes → ℕ → Bool
lent_all i m n counts =
    eqb n.locations i && (eqb n.sums m && (eqb counts 297 && (eqb n.readings 196 && between 1 32768 n.ring)))

-- 32, with a ring of n words
unfoldable pub ordered : State → ℕ → List ℕ → Bool
ordered s n counts = sound_state n (ring_state s) && (leb s.array 399 && few_samples counts)

-- 31, 32 and 33 in that order, or 0
unfoldable pub lent_refusal : ℕ → ℕ → Sizes → State → List ℕ → ℕ → ℕ → ℕ
lent_refusal i m n s counts day time =
    or (not (lent_all i m n (length counts))) 31 (or (not (ordered s n.ring counts)) 32 (or (not (is_tick day time)) 33 0))

-- 'A table runs if V is not 0 and divides T.'
unfoldable pub runs_at : ℕ → ℕ → Bool
runs_at v time = not (eqb v 0) && eqb (time % v) 0
