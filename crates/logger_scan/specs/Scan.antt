-- What a scan answers, by its refusals. By the definitions. Assumes nothing.
use Rattle.std.specs.Prelude.{◌≡◌, refl, ℕ, zero, suc, List, Float}
use Rattle.std.proofs.Common.{sym, ◌∙◌, subst}
use Rattle.base_program.specs.declared.Program.{Program}
use Rattle.base_program.specs.declared.Timed.{Timed}
use Rattle.spec_check.specs.declared.Verdict.{Verdict}
use Rattle.spec_check.specs.Check.{check}
use Rattle.spec_machine.specs.Run.{due}
use Rattle.spec_calls.specs.declared.State.{State}
use Rattle.spec_calls.specs.declared.Answer.{Answer}
use Rattle.spec_calls.specs.Stores.{Stores, stores}
use Rattle.spec_calls.specs.Scanned.{StoresScanned}
use Rattle.spec_calls.specs.Refusals.{scan_refusal}
use Rattle.spec_calls.specs.Answers.{answer_with, ScanLeaves, ScanAnswers}
use Rattle.check_record.specs.Walked.{WalksFound, sized_short}
use Rattle.scan_turns.specs.Run.{Loaded}
use Rattle.scan_refusals.specs.Laws.{refusal_behind, scan_refused, scan_passed}

pub loaded : (p : Program) (codes taken starts : List ℕ) → WalksFound p codes taken starts → Loaded p codes taken starts
loaded p codes taken starts f =
    record {
      lengths_are = λ t. (f.lengths_are t).0;
      flows_are = f.flows_are;
      sums_are = f.sums_are;
      subs_are = f.subs_are;
      codes_sized = record { places = f.codes_size; short = sized_short p f.lengths_are };
      taken_sized = record { places = f.taken_size; short = sized_short p f.lengths_are };
      subs_long = f.starts_size;
    }

-- ---- the answer

module _ (p : Program) (t : Timed) (day time : ℕ) (readings : List Float) (a : Stores) where
  -- 'a refused call changes nothing'
  refused_leaves : (number : ℕ) → (number ≡ 0 → ⊥) → ScanLeaves number p t day time readings a a
  refused_leaves zero h = absurd (h refl)
  refused_leaves (suc n) h = refl

  pub answer_refused : (number table entry : ℕ) → check p ≡ Verdict.Fault number table entry → ScanAnswers p t day time readings a 30 a
  answer_refused number table entry e = record { refusal = scan_refused p a day time readings number table entry e; left = refl }

  module _ (first second : ℕ) (passed : check p ≡ Verdict.Pass first second) (number : ℕ) (judged : number ≡ refusal_behind p a day time readings) where
    told : number ≡ scan_refusal p a day time readings
    told = judged ∙ scan_passed p a day time readings first second passed

    pub answer_lent : (number ≡ 0 → ⊥) → ScanAnswers p t day time readings a number a
    answer_lent h = record { refusal = told; left = refused_leaves number h }

    pub answer_taken : number ≡ 0 → (b : Stores) → StoresScanned (due p t time) p t day time readings a b → ScanAnswers p t day time readings a 0 b
    answer_taken none b l = record { refusal = sym none ∙ told; left = l }

  -- the answer, from the number and the state that it is made of
  pub answer_is : (r : Answer) (number : ℕ) (s : State) (locations sums : List Float) (counts ring : List ℕ) → r ≡ answer_with number s
      → ScanAnswers p t day time readings a number (stores s locations sums counts ring)
      → ScanAnswers p t day time readings a r.refusal (stores r.state locations sums counts ring)
  answer_is r number s locations sums counts ring e h =
      subst (λ (z : Answer). ScanAnswers p t day time readings a z.refusal (stores z.state locations sums counts ring)) (sym e) h
