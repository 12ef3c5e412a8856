-- The entry come to is the instruction that lies in its slot of the lent buffers. Assumes nothing.
use Rattle.std.specs.Prelude.{◌≡◌, ℕ, ◌+◌, ◌*◌, ◌/◌, ◌%◌, ◌<◌, min, Bool, List, length, get_or, Float}
use Rattle.std.proofs.Common.{sym, ap, ◌∙◌, arith}
use Rattle.base_program.specs.declared.Instruction.{Instruction}
use Rattle.base_program.specs.Entries.{row, entries}
use Rattle.base_program.specs.Laws.{row_at}
use Rattle.spec_buffers.specs.Held.{Held}
use Rattle.record_layout.specs.Layout.{length_of, record_of}
use Rattle.record_fields.specs.Numbers.{lies}
use Rattle.record_fields.specs.Entries.{entry_lies, length_lies}
use Rattle.scan_turns.specs.Turn.{table_in, TurnGoing}
use Rattle.scan_turns.specs.Loop.{Asks, entries_few, entry_here}

module _ (ns : List ℕ) (vs : List Float) {start home day hour minute : ℕ} {b : Bool} {ends elses subs firsts : List ℕ} {readings : List Float} {store : List ℕ}
    (a : Asks (record_of ns vs) start home day hour minute b ends elses subs firsts readings store) {pc top : ℕ} {marks : List ℕ} {h : Held}
    (g : TurnGoing (record_of ns vs) pc marks top h) (inside : pc % 128 < length (entries (record_of ns vs) (table_in pc))) where
  low : pc / 128 < 3
  low = omega (arith, g.place)

  claimed_here : get_or (record_of ns vs).lengths (row (table_in pc)) 0 ≡ length_of ns (pc / 128)
  claimed_here = ap (λ k. get_or (record_of ns vs).lengths k 0) (row_at (pc / 128) low) ∙ length_lies ns vs (pc / 128) low

  few : pc % 128 < min (length_of ns (pc / 128)) 99
  few = omega (arith, inside, entries_few (record_of ns vs) (table_in pc), claimed_here)

  pub lies_here : (s : ℕ) → s ≡ 99 * (pc / 128) + pc % 128 → get_or (entries (record_of ns vs) (table_in pc)) (pc % 128) Instruction.End ≡ lies ns vs s
  lies_here s s_is = entry_here a g inside ∙ entry_lies ns vs (pc / 128) (pc % 128) low few ∙ ap (lies ns vs) (sym s_is)
