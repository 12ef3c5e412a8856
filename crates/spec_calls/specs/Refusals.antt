-- Refusals 30 to 34, 'in that order'; 'a call is held to those that concern what it was handed'. 0 is no refusal. Assumes nothing.
use Rattle.std.specs.Prelude.{ℕ, Bool, true, false, not, ◌&&◌, List, [], ◌∷◌, length, eqb, leb, Float}
use Rattle.base_program.specs.declared.Program.{Program}
use Rattle.spec_check.specs.declared.Verdict.{Verdict}
use Rattle.base_program.specs.Codes.{between}
use Rattle.spec_check.specs.Check.{check, or}
use Rattle.storage_ring.specs.Ring.{sound_state}
use Rattle.spec_machine.specs.Calls.{all_lent, is_tick, is_keyed}
use Rattle.spec_calls.specs.Stores.{Stores, lengths_of, ring_state}

-- 30: 'Scan or key with a record the check refuses'
unfoldable pub is_pass : Verdict → Bool
is_pass (Verdict.Pass first second) = true
is_pass (Verdict.Fault number table entry) = false

abbrev pub is_passed : Program → Bool
is_passed p = is_pass (check p)

-- 32: 'a sample count over 16,777,215'
unfoldable pub few_samples : List ℕ → Bool
few_samples [] = true
few_samples (c ∷ r) = leb c 16777215 && few_samples r

-- 32: 'Ring position at or past its length, filled count over it, array id over 399, or a sample count over 16,777,215'
abbrev pub in_order : Stores → Bool
in_order s = sound_state (length s.ring) (ring_state s.state) && (leb s.state.array 399 && few_samples s.counts)

unfoldable pub scan_refusal : Program → Stores → ℕ → ℕ → List Float → ℕ
scan_refusal p s day time readings =
    or (not (is_passed p)) 30 (or (not (all_lent p (lengths_of s) readings)) 31 (or (not (in_order s)) 32 (or (not (is_tick day time)) 33 0)))

-- keying a location, of n lent
unfoldable pub key_refusal : Program → ℕ → ℕ → Float → ℕ
key_refusal p n k v = or (not (is_passed p)) 30 (or (not (eqb n p.locations)) 31 (or (not (is_keyed p k v)) 34 0))

-- keying a flag
unfoldable pub flag_refusal : Program → ℕ → ℕ
flag_refusal p f = or (not (is_passed p)) 30 (or (not (between 1 8 f)) 34 0)
