-- Where subroutines begin: the table of first places, filled from the end. Assumes nothing.
use Rattle.std.specs.Prelude.{◌≡◌, refl, ℕ, ◌+◌, ◌<◌, Bool, true, false, cond, List, ◌∷◌, length, get_or, set, eqb}
use Rattle.std.proofs.Common.{sym, ◌∙◌, arith, add-one, drop_of_length-le, drop-cons, get_or-set_same, get_or-set_other, eqb-true}
use Rattle.std.proofs.Math.Path.{ap}
use Rattle.std.proofs.Math.Option.{none, some}
use Rattle.std.proofs.Math.ListN.{drop}
use Rattle.std.proofs.lemmas.Bool.{eqb-false}
use Rattle.base_program.specs.declared.Instruction.{Instruction}
use Rattle.base_program.specs.declared.Program.{Program}
use Rattle.base_program.specs.declared.Table.TheVariants.{Three}
use Rattle.base_program.specs.Flow.{flow}
use Rattle.base_program.specs.Entries.{entries}
use Rattle.spec_check.specs.Blocks.{label, same}
use Rattle.proof_check.specs.Labels.{label_place}

-- right for the entries from e on
abbrev pub Begins : Program → List ℕ → ℕ → Type 0
Begins p subs e = (k : ℕ) → k < 256 → get_or subs k 0 ≡ label_place k (e + 1) (drop e (entries p Three))

pub begins_end : (p : Program) (subs : List ℕ) (n : ℕ) → length (entries p Three) ≡ n → ((k : ℕ) → get_or subs k 0 ≡ 0) → Begins p subs n
unfolding label_place
begins_end p subs n h z k s = z k ∙ ap (label_place k (n + 1)) (sym (drop_of_length-le (entries p Three) {i = n} (omega arith)))

module _ (p : Program) (subs : List ℕ) (e : ℕ) (within : e < length (entries p Three)) (size : length subs ≡ 256) where
  abbrev entry : Instruction
  entry = get_or (entries p Three) e Instruction.End

  here : (k : ℕ) → label_place k (e + 1) (drop e (entries p Three)) ≡ cond (same (some k) (label (flow entry))) (e + 1) (label_place k (e + 1 + 1) (drop (e + 1) (entries p Three)))
  unfolding label_place
  here k = ap (label_place k (e + 1)) (drop-cons (entries p Three) e Instruction.End within ∙ ap (λ n. entry ∷ drop n (entries p Three)) (sym (add-one e)))

  pub begins_other : label (flow entry) ≡ none → Begins p subs (e + 1) → Begins p subs e
  begins_other h b k s = b k s ∙ sym (here k ∙ ap (λ o. cond (same (some k) o) (e + 1) (label_place k (e + 1 + 1) (drop (e + 1) (entries p Three)))) h)

  pub begins_label : (j : ℕ) → j < 256 → label (flow entry) ≡ some j → Begins p subs (e + 1) → Begins p (set subs j (e + 1)) e
  begins_label j m h b k s = by (eqb k j) refl
    where
      other : ℕ
      other = label_place k (e + 1 + 1) (drop (e + 1) (entries p Three))

      told : label_place k (e + 1) (drop e (entries p Three)) ≡ cond (eqb k j) (e + 1) other
      told = here k ∙ ap (λ o. cond (same (some k) o) (e + 1) other) h

      by : (q : Bool) → eqb k j ≡ q → get_or (set subs j (e + 1)) k 0 ≡ label_place k (e + 1) (drop e (entries p Three))
      by true z =
          ap (λ x. get_or (set subs j (e + 1)) x 0) (eqb-true k j z)
          ∙ get_or-set_same subs j (e + 1) 0 (omega arith)
          ∙ sym (told ∙ ap (λ q. cond q (e + 1) other) z)
      by false z =
          get_or-set_other subs j k (e + 1) 0 (eqb-false k j z)
          ∙ b k s
          ∙ sym (told ∙ ap (λ q. cond q (e + 1) other) z)
