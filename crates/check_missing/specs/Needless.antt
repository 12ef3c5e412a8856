-- What fault 18 alone is judged by, where no entry can have fault 20. Assumes nothing.
use Rattle.std.specs.Prelude.{◌≡◌, ℕ, ◌+◌, ◌*◌, ◌≤◌, ◌<◌, false, ◌||◌, List, length, get_or}
use Rattle.std.proofs.Common.{sym, ap, ◌∙◌, arith}
use Rattle.base_program.specs.declared.Instruction.{Instruction}
use Rattle.base_program.specs.declared.Program.{Program}
use Rattle.base_program.specs.declared.Table.{Table}
use Rattle.base_program.specs.declared.Table.TheVariants.{One, Two, Three}
use Rattle.base_program.specs.Reach.{locations, readings}
use Rattle.base_program.specs.Entries.{row, entries}
use Rattle.spec_check.specs.Calls.{any_outside, any_beyond}
use Rattle.record_codes.specs.Loaded.{LengthsAre, FlowsAre, SubsAre}
use Rattle.check_reach.specs.Needs.{beyond_moved, entry_beyond}
use Rattle.check_reach.specs.Ready.{ReachReady}

-- no entry in use needs anything of I
abbrev pub Needless : List ℕ → List ℕ → Type 0
Needless needs lengths = (t e : ℕ) → t < 3 → e < get_or lengths t 0 → get_or needs (99 * t + e) 0 ≡ 0

-- nothing is out of reach, whatever passes are in force
abbrev pub Near : Program → Table → ℕ → Type 0
Near p t e =
    (n : ℕ) → any_outside p.locations n (locations (get_or (entries p t) e Instruction.End)) || any_beyond 196 (readings (get_or (entries p t) e Instruction.End)) ≡ false

pub record MissingReady (p : Program) (lengths codes subs : List ℕ) : Type 0 where
  pub lengths_are : LengthsAre p lengths
  pub flows_are : FlowsAre p codes
  pub subs_are : SubsAre p subs
  pub near : (t : Table) (e : ℕ) → e < length (entries p t) → Near p t e

row_small : (t : Table) → row t < 3
row_small One = omega arith
row_small Two = omega arith
row_small Three = omega arith

pub missing_ready : (p : Program) (lengths : List ℕ) (most : ℕ) (codes needs subs : List ℕ) → most ≤ 65535 → Needless needs lengths
    → ReachReady p lengths most codes needs subs → MissingReady p lengths codes subs
missing_ready p lengths most codes needs subs small none r = record {
  lengths_are = r.lengths_are;
  flows_are = r.flows_are;
  subs_are = r.subs_are;
  near = λ t e h n.
      ap (λ m. any_outside m n (locations (get_or (entries p t) e Instruction.End)) || any_beyond 196 (readings (get_or (entries p t) e Instruction.End))) (sym r.most_is)
      ∙ entry_beyond most n small (get_or (entries p t) e Instruction.End)
      ∙ ap (beyond_moved most n) (sym (r.needs_are t e h) ∙ none (row t) e (row_small t) (omega (arith, h, r.lengths_are t)));
}
