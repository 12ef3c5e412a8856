-- What a scan that takes its buffers answers, from the scan behind it, and what one that does not take them answers. By the test, and by the
-- equations of what was read. Assumes nothing.
use mathlib.Core.Path.{◌≡◌, refl, sym, ap, ◌∙◌, subst}
use Prim.Native.Nat.{ℕ, zero, suc}
use mathlib.Core.Bool.{Bool, true, false}
use mathlib.Core.List.{List}
use lib.Ieee.{Float}
use Rattle.base_program.specs.declared.Program.{Program}
use Rattle.base_program.specs.declared.Timed.{Timed}
use Rattle.spec_calls.specs.declared.State.{State}
use Rattle.spec_calls.specs.Stores.{Stores, stores}
use Rattle.spec_calls.specs.Answers.{ScanAnswers}
use Rattle.firmware_state.specs.State.{numbers_of_state}
use Rattle.firmware_scan.specs.Scan.{CallBuffers, CallScanned, ScanTaken, state_scanned}

module _ (t : Bool) where
  pub scan_refused : (p : Program) (u : Timed) (day time : ℕ) (readings : List Float) (a : CallBuffers) → t ≡ false → CallScanned t p u day time readings a 31 a
  scan_refused p u day time readings a h = subst (λ (z : Bool). CallScanned z p u day time readings a 31 a) (sym h) (refl, refl)

  pub scan_taken : (p : Program) (u : Timed) (day time : ℕ) (readings : List Float) (a : CallBuffers) (r : ℕ) (b : CallBuffers) → t ≡ true
      → ScanTaken p u day time readings a r b → CallScanned t p u day time readings a r b
  scan_taken p u day time readings a r b h x = subst (λ (z : Bool). CallScanned z p u day time readings a r b) (sym h) x

-- the scan of the state and at the tick that were read
pub scan_of_lem : (p : Program) (t u : Timed) (s z : State) (day d time : ℕ) (readings locations sums : List Float) (counts ring : List ℕ) (r : ℕ) (b : Stores)
    → t ≡ u → s ≡ z → day ≡ d → ScanAnswers p t day time readings (stores s locations sums counts ring) r b
    → ScanAnswers p u d time readings (stores z locations sums counts ring) r b
scan_of_lem p t u s z day d time readings locations sums counts ring r b et es ed x =
    subst (λ (y : Timed). ScanAnswers p y d time readings (stores z locations sums counts ring) r b) et
    (subst (λ (y : State). ScanAnswers p t d time readings (stores y locations sums counts ring) r b) es
    (subst (λ (y : ℕ). ScanAnswers p t y time readings (stores s locations sums counts ring) r b) ed x))

-- what is left of the state: as it was where the scan was refused or not due, else what is written
module _ (l : List ℕ) (s : State) (number : ℕ) (d : Bool) where
  pub scan_kept : (number ≡ 0 → ⊥) → l ≡ state_scanned number d l s
  scan_kept h = by number h
    where
      by : (n : ℕ) → (n ≡ 0 → ⊥) → l ≡ state_scanned n d l s
      by zero g = absurd (g refl)
      by (suc n) g = refl

  pub scan_not_due : number ≡ 0 → d ≡ false → l ≡ state_scanned number d l s
  scan_not_due h e = sym (ap (λ n. state_scanned n d l s) h ∙ ap (λ b. state_scanned 0 b l s) e)

  pub scan_written : number ≡ 0 → d ≡ true → numbers_of_state s ≡ state_scanned number d l s
  scan_written h e = sym (ap (λ n. state_scanned n d l s) h ∙ ap (λ b. state_scanned 0 b l s) e)
