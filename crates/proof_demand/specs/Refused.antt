-- Calls with a record that the check refuses: each answers 30, and nothing changes. By the refusals' order. Assumes nothing.
use Rattle.std.specs.Prelude.{◌≡◌, refl, ℕ, false, not, List}
use Rattle.std.proofs.Math.Path.{ap, subst}
use Rattle.std.proofs.Common.{◌∙◌}
use Rattle.base_program.specs.declared.Program.{Program}
use Rattle.spec_check.specs.declared.Verdict.{Verdict}
use Rattle.spec_check.specs.Check.{check, or}
use Rattle.spec_machine.specs.Calls.{Call, scan, key_location, key_flag}
use Rattle.spec_machine.specs.Limits.{Each}
use Rattle.spec_calls.specs.Stores.{Stores, stores}
use Rattle.spec_calls.specs.Refusals.{is_pass, is_passed, scan_refusal, key_refusal, flag_refusal}
use Rattle.spec_calls.specs.Answers.{ScanLeaves, keyed, flagged, Answered, AnsweredAll, no_call, one_more}

module _ (p : Program) (number table entry : ℕ) (fault : check p ≡ Verdict.Fault number table entry) where
  not_passed : is_passed p ≡ false
  unfolding is_pass
  not_passed = ap is_pass fault

  first_30 : (k : ℕ) → or (not (is_passed p)) 30 k ≡ 30
  first_30 k = ap (λ b. or (not b) 30 k) not_passed

  refused_one : (c : Call) (a b : Stores) (k : ℕ) → Answered p c a k b → (k ≡ 30) × (b ≡ a)
  unfolding scan_refusal key_refusal flag_refusal keyed flagged
  refused_one (scan t day time r) a b k h =
      let e : k ≡ 30 = h.refusal ∙ first_30 _ in
      (e, subst (λ z. ScanLeaves z p t day time r a b) e h.left)
  refused_one (key_location l v) a b k h =
      let e : k ≡ 30 = h.0 ∙ first_30 _ in
      (e, h.1 ∙ ap (λ z. stores a.state (keyed z l v a.locations) a.sums a.counts a.ring) e)
  refused_one (key_flag f) a b k h =
      let e : k ≡ 30 = h.0 ∙ first_30 _ in
      (e, h.1 ∙ ap (λ z. stores (flagged z f a.state) a.locations a.sums a.counts a.ring) e)

  -- 30: 'Scan or key with a record the check refuses'
  pub refused_all : {cs : List Call} {a b : Stores} {numbers : List ℕ} → AnsweredAll p cs a numbers b → Each (λ k. k ≡ 30) numbers × (b ≡ a)
  refused_all no_call = (tt, refl)
  refused_all (one_more {c = c} {a = a} {b = b} {number = k} h r) =
      let z = refused_one c a b k h in
      let y = refused_all r in
      ((z.0, y.0), y.1 ∙ z.1)
