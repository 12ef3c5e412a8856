-- The listing program prints one thing of an input: its lines lead to one refusal or end, since each scan has one answer. Assumes nothing.
use Rattle.std.specs.Prelude.{◌≡◌, refl, ℕ, zero, suc, List, [], ◌∷◌, Float, Option}
use Rattle.std.proofs.Common.{sym, ap, ◌∙◌, subst}
use Rattle.base_program.specs.declared.Program.{Program}
use Rattle.base_program.specs.declared.Timed.{Timed}
use Rattle.spec_check.specs.declared.Verdict.{Verdict}
use Rattle.spec_calls.specs.declared.State.{State}
use Rattle.spec_calls.specs.declared.Answer.{Answer}
use Rattle.spec_calls.specs.Stores.{Stores, stores}
use Rattle.spec_calls.specs.Answers.{ScanAnswers}
use Rattle.text_answer.specs.Check.{check_text}
use Rattle.text_keyed.specs.Text.{lines_of, bytes_behind}
use Rattle.listing_input.specs.declared.Line.{Line}
use Rattle.listing_input.specs.Line.{line_of}
use Rattle.spec_listing.specs.Step.{RunBuffers, LentScanned, Run, run_of, Step, other, reading, first, both, LinesLead, ended, onward, stopped}
use Rattle.spec_listing.specs.Listing.{text_in, later_in, fresh_run, run_bytes, RunPrints, VerdictPrints, Prints}
use Rattle.proof_unique.specs.Unique.{scan_one}

-- the run with what stores hold
abbrev running : List Float → Stores → Run
running r s = run_of s.state r s.locations s.sums s.counts s.ring

abbrev held : State → RunBuffers → Stores
held s a = stores s a.locations a.sums a.counts a.ring

step_one : {p : Program} {x : Option Line} {a b c : Run} {n m : ℕ} → Step p x a n b → Step p x a m c → (n ≡ m) × (b ≡ c)
step_one other other = (refl, refl)
step_one (reading n v) (reading m u) = (refl, refl)
step_one {p = p} {a = a} (first {day = day} {time = time} q l z s) (first r m y t) =
    let one = scan_one p Timed.One day time a.readings (held a.state a.lent) (held q.state l) (held r.state m) q.refusal r.refusal s t in
    (one.0, ap (running a.readings) one.1)
step_one {p = p} {a = a} (first {day = day} {time = time} q l z s) (both r m q' m' y t u) =
    let one = scan_one p Timed.One day time a.readings (held a.state a.lent) (held q.state l) (held r.state m) q.refusal r.refusal s t in
    absurd (z (one.0 ∙ y))
step_one {p = p} {a = a} (both {day = day} {time = time} q l q' l' z s w) (first r m y t) =
    let one = scan_one p Timed.One day time a.readings (held a.state a.lent) (held q.state l) (held r.state m) q.refusal r.refusal s t in
    absurd (y (sym one.0 ∙ z))
step_one {p = p} {a = a} (both {day = day} {time = time} q l q' l' z s w) (both r m r' m' y t u) =
    let one = scan_one p Timed.One day time a.readings (held a.state a.lent) (held q.state l) (held r.state m) q.refusal r.refusal s t in
    let two = scan_one p Timed.Two day time a.readings (held q.state l) (held q'.state l') (held r'.state m') q'.refusal r'.refusal w
    (subst (λ x. ScanAnswers p Timed.Two day time a.readings x r'.refusal (held r'.state m')) (sym one.1) u) in
    (two.0, ap (running a.readings) two.1)

leads_one : {p : Program} {ls : List (List ℕ)} {a b c : Run} {n m : ℕ} → LinesLead p ls a n b → LinesLead p ls a m c → (n ≡ m) × (b ≡ c)
leads_one ended ended = (refl, refl)
leads_one {p = p} {c = c} {m = m} (onward {ls = ls} {b = d} s f) (onward {b = e} t g) =
    leads_one f (subst (λ x. LinesLead p ls x m c) (sym (step_one s t).1) g)
leads_one (onward s f) (stopped t z) = absurd (z (sym (step_one s t).0))
leads_one (stopped s z) (onward t g) = absurd (z (step_one s t).0)
leads_one (stopped s z) (stopped t y) = step_one s t

run_one : (p : Program) (later w v : List ℕ) → RunPrints p later w → RunPrints p later v → w ≡ v
run_one p later w v l r =
    let one = leads_one l.leads r.leads in
    l.bytes ∙ ap (λ k. run_bytes k (bytes_behind later) l.after) one.0 ∙ ap (run_bytes r.refusal (bytes_behind later)) one.1 ∙ sym r.bytes

verdict_one : (x : Verdict) (p : Program) (later w v : List ℕ) → VerdictPrints x p later w → VerdictPrints x p later v → w ≡ v
verdict_one (Verdict.Fault k t e) p later w v l r = l ∙ sym r
verdict_one (Verdict.Pass a b) p later w v l r = run_one p later w v l r

pub prints_one : (s w v : List ℕ) → Prints s w → Prints s v → w ≡ v
prints_one s w v l r = verdict_one (check_text (text_in s)).verdict (check_text (text_in s)).program (later_in s) w v l r
