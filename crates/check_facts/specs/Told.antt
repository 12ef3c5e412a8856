-- What the first walk finds of an entry. Assumes nothing.
use Rattle.std.specs.Prelude.{◌≡◌, refl, ℕ, Bool}
use Rattle.std.proofs.Common.{sym, ap, ◌∙◌}
use Rattle.base_program.specs.declared.Flow.{Flow}
use Rattle.base_program.specs.declared.Instruction.{Instruction}
use Rattle.base_program.specs.Flow.{flow}
use Rattle.base_program.specs.Reach.{sums}
use Rattle.spec_check.specs.Ranges.{in_range}
use Rattle.record_codes.specs.Loaded.{decode}
use Rattle.check_reach.specs.declared.Reach.{Reach}
use Rattle.check_reach.specs.Needs.{need_in, entry_need}
use Rattle.check_reach.specs.Reached.{entry_reach}
use Rattle.check_facts.specs.declared.Facts.{Facts}

abbrev pub facts : Bool → ℕ → ℕ → Reach → ℕ → Facts
facts fits code taken far most = record { fits = fits; code = code; taken = taken; need = need_in most far.fixed far.moved }

pub record FactsTold (most : ℕ) (i : Instruction) (f : Facts) : Type 0 where
  pub fits : f.fits ≡ in_range i
  pub kind : decode f.code ≡ flow i
  pub sums_are : f.taken ≡ sums i
  pub need_is : f.need ≡ entry_need most i

-- by its parts, each found for the instruction that it is
pub told : (most : ℕ) (i j : Instruction) (f : Facts) (fits : Bool) (code taken : ℕ) (far : Reach) → f ≡ facts fits code taken far most → i ≡ j
    → fits ≡ in_range j → decode code ≡ flow j → taken ≡ sums j → far ≡ entry_reach j → FactsTold most i f
told most i j f fits code taken far h e a b c d = record {
  fits = ap (λ (x : Facts). x.fits) h ∙ a ∙ ap in_range (sym e);
  kind = ap (λ (x : Facts). decode x.code) h ∙ b ∙ ap flow (sym e);
  sums_are = ap (λ (x : Facts). x.taken) h ∙ c ∙ ap sums (sym e);
  need_is = ap (λ (x : Facts). x.need) h ∙ ap (λ (x : Reach). need_in most x.fixed x.moved) d ∙ ap (entry_need most) (sym e);
}
