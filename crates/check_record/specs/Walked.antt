-- What the first walk lends the others. Assumes nothing.
use Rattle.std.specs.Prelude.{◌≡◌, ℕ, ◌≤◌, ◌<◌, List, get_or}
use Rattle.std.proofs.Common.{sym, ap, ◌∙◌, subst}
use Rattle.base_program.specs.declared.Finding.{Finding}
use Rattle.base_program.specs.declared.Program.{Program}
use Rattle.base_program.specs.Entries.{row}
use Rattle.check_reach.specs.Ready.{NeedsAre}
use Rattle.check_ranges.specs.Walked.{RangesWalked}
use Rattle.check_walks.specs.Walked.{Ranged}
pub use Rattle.check_walks.specs.Walked.{WalksFound, sized_short}

-- what the first walk tells, of lengths, I and M that are the record's
module _ (p : Program) (codes taken needs : List ℕ) (r : Finding) (walked : RangesWalked p codes taken needs r) (none : r ≡ Finding.Clean) (lengths : List ℕ) (are : lengths ≡ p.lengths) where
  pub ranged_short : (t : ℕ) → t < 3 → get_or lengths t 0 ≤ 99
  ranged_short t h = subst (λ l. get_or l t 0 ≤ 99) (sym are) (sized_short p (walked.lengths_are none) t h)

  pub ranged : (most limit : ℕ) → most ≡ p.locations → limit ≡ p.sums → Ranged p lengths most limit codes taken needs
  ranged most limit i m = record {
    clean = sym walked.finding ∙ none;
    sized = walked.lengths_are none;
    known = record {
      lengths_are = λ t. (walked.lengths_are none t).0 ∙ ap (λ l. get_or l (row t) 0) (sym are);
      most_is = i;
      flows_are = walked.flows_are none;
      needs_are = subst (λ n. NeedsAre p n needs) (sym i) (walked.needs_are none);
    };
    sums_are = walked.sums_are none;
    limit_is = sym m;
  }
