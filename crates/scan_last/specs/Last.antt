-- A table's last scan, by its place in the state, and whether it was in another day or minute. By cases on the table. Assumes nothing.
use Rattle.std.specs.Prelude.{◌≡◌, ℕ, true, cond, not, ◌&&◌, get_or, eqb}
use Rattle.std.proofs.Common.{sym, ap, ◌∙◌, eq-eqb, ne_eqb}
use Rattle.std.proofs.Math.Option.{none, some}
use Rattle.base_program.specs.declared.Timed.{Timed}
use Rattle.base_program.specs.declared.Timed.TheVariants.{One, Two}
use Rattle.spec_machine.specs.Values.{another}
use Rattle.spec_calls.specs.declared.State.{State}
use Rattle.spec_calls.specs.Stores.{moment_at, last_in}
use Rattle.spec_calls.specs.Scanned.{place_of}

pub last_at : (s : State) (t : Timed) (k : ℕ) → k ≡ place_of t → last_in s t ≡ moment_at (get_or s.days k 0) (get_or s.minutes k 0)
last_at s One k e = ap (λ j. moment_at (get_or s.days j 0) (get_or s.minutes j 0)) (sym e)
last_at s Two k e = ap (λ j. moment_at (get_or s.days j 0) (get_or s.minutes j 0)) (sym e)

module _ (d m day minute : ℕ) where
  pub never : d ≡ 0 → true ≡ another (moment_at d m) day minute
  never h = sym (ap (λ b. another (cond b none (some (record { day = d; minute = m }))) day minute) (eq-eqb d 0 h))

  some_scan : (d ≡ 0 → ⊥) → not (eqb d day && eqb m minute) ≡ another (moment_at d m) day minute
  some_scan h = sym (ap (λ b. another (cond b none (some (record { day = d; minute = m }))) day minute) (ne_eqb d 0 h))

  pub that_day : (d ≡ 0 → ⊥) → d ≡ day → not (eqb m minute) ≡ another (moment_at d m) day minute
  that_day h e = sym (ap (λ b. not (b && eqb m minute)) (eq-eqb d day e)) ∙ some_scan h

  pub other_day : (d ≡ 0 → ⊥) → (d ≡ day → ⊥) → true ≡ another (moment_at d m) day minute
  other_day h e = sym (ap (λ b. not (b && eqb m minute)) (ne_eqb d day e)) ∙ some_scan h
