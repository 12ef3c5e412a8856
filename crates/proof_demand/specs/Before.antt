-- The scan of a contract is the plain machine's whatever words were written before: the machine reads none of them (`scan-writes`), and the memory
-- that is held is known by its parts. Assumes nothing.
use Rattle.std.specs.Prelude.{◌≡◌, ℕ, Bool, List, [], ◌∷◌, ◌++◌}
use Rattle.std.proofs.Common.{sym, ap, ◌∙◌, subst}
use Rattle.base_program.specs.declared.Program.{Program}
use Rattle.spec_machine.specs.Memory.{Memory}
use Rattle.spec_machine.specs.Values.{Scan}
use Rattle.spec_machine.specs.Run.{start, Ends}
use Rattle.proof_safety.specs.Written.{with_words, Writes, scan_writes}
use Rattle.spec_calls.specs.Stores.{Stores, words_in, memory_in}
use Rattle.spec_calls.specs.Holding.{with_waiting, held_memory}
use Rattle.spec_calls.specs.Scanned.{Leaves}

pub same_behind : (a b c : List ℕ) → a ++ b ≡ a ++ c → b ≡ c
same_behind [] b c e = e
same_behind (x ∷ a) b c e = same_behind a b c (cc)

module _ {p : Program} {x : Scan} {a b : Stores} (l : Leaves p x a b) where
  -- whether a start word waits as the scan ends
  abbrev pub waits : Bool
  waits = l.memory.storage.waiting

  -- what was written before the scan, and then what it wrote
  pub whatever_before : (before : List ℕ) → (n : ℕ) × Ends p x (start x (memory_in a before)) n (with_waiting waits (memory_in b (before ++ l.words)))
  whatever_before before =
      let w : Writes p x (memory_in a (words_in a)) l.ends.0 l.memory = scan_writes p x (memory_in a (words_in a)) l.memory l.ends.0 l.ends.1 in
      let same : w.words ≡ l.words = same_behind (words_in a) w.words l.words (sym w.grows ∙ l.written) in
      let left : with_words (before ++ w.words) l.memory ≡ with_waiting waits (memory_in b (before ++ l.words)) =
      ap (λ v. with_words (before ++ v) l.memory) same ∙ ap (with_words (before ++ l.words)) (held_memory b l.memory l.holds) in
      (l.ends.0, subst (λ (m : Memory). Ends p x (start x (memory_in a before)) l.ends.0 m) left (w.whatever before))
