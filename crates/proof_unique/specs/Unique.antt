-- A scan's contract leaves one answer and one content of the state and of each buffer: of the logger's call, and of the library's on numbers and
-- slices; and so does every list of the logger's calls. By the refusal, by whether the table is due, and by `leaves-one`. Assumes nothing.
use Rattle.std.specs.Prelude.{◌≡◌, refl, ℕ, zero, suc, Bool, true, false, ◌&&◌, List, ◌∷◌, Float}
use Rattle.std.proofs.Common.{sym, ap, ◌∙◌, subst}
use Rattle.base_program.specs.declared.Program.{Program}
use Rattle.base_program.specs.declared.Timed.{Timed}
use Rattle.spec_machine.specs.Run.{due}
use Rattle.spec_machine.specs.Calls.{Call, scan, key_location, key_flag}
use Rattle.spec_calls.specs.declared.State.{State}
use Rattle.spec_calls.specs.Stores.{Stores, stores}
use Rattle.spec_calls.specs.Scanned.{StoresScanned, scan_in}
use Rattle.spec_calls.specs.Answers.{ScanLeaves, ScanAnswers, keyed, flagged, Answered, AnsweredAll, no_call, one_more}
use Rattle.record_layout.specs.Layout.{record_of}
use Rattle.firmware_state.specs.State.{state_of}
use Rattle.firmware_buffers.specs.Sizes.{is_record, is_state, timed_of, tick_day}
use Rattle.firmware_scan.specs.Scan as library
use Rattle.firmware_scan.specs.Scan.{CallBuffers, ScanCalled, state_scanned}
use Rattle.proof_demand.specs.One.{leaves_one}

module _ (p : Program) (t : Timed) (day time : ℕ) (readings : List Float) (a b c : Stores) where
  scanned_one : (d : Bool) → StoresScanned d p t day time readings a b → StoresScanned d p t day time readings a c → b ≡ c
  scanned_one true l r = leaves_one p (scan_in t day time readings a) a b c l r
  scanned_one false l r = l ∙ sym r

  left_one : (number : ℕ) → ScanLeaves number p t day time readings a b → ScanLeaves number p t day time readings a c → b ≡ c
  left_one zero l r = scanned_one (due p t time) l r
  left_one (suc number) l r = l ∙ sym r

  -- the logger's call
  pub scan_one : (n m : ℕ) → ScanAnswers p t day time readings a n b → ScanAnswers p t day time readings a m c → (n ≡ m) × (b ≡ c)
  scan_one n m l r =
      let same : n ≡ m = l.refusal ∙ sym r.refusal in
      (same, left_one m (rw (← same) l.left) r.left)

-- any call, and any list of calls
pub answered_one : (p : Program) (call : Call) (a b c : Stores) (n m : ℕ) → Answered p call a n b → Answered p call a m c → (n ≡ m) × (b ≡ c)
answered_one p (scan t day time r) a b c n m l k = scan_one p t day time r a b c n m l k
answered_one p (key_location i v) a b c n m l k =
    let same : n ≡ m = l.0 ∙ sym k.0 in
    (same, l.1 ∙ ap (λ z. stores a.state (keyed z i v a.locations) a.sums a.counts a.ring) same ∙ sym k.1)
answered_one p (key_flag f) a b c n m l k =
    let same : n ≡ m = l.0 ∙ sym k.0 in
    (same, l.1 ∙ ap (λ z. stores (flagged z f a.state) a.locations a.sums a.counts a.ring) same ∙ sym k.1)

pub all_answered_one : {p : Program} {cs : List Call} {a b c : Stores} {ns ms : List ℕ} → AnsweredAll p cs a ns b → AnsweredAll p cs a ms c → (ns ≡ ms) × (b ≡ c)
all_answered_one no_call no_call = (refl, refl)
all_answered_one {p = p} {c = c} (one_more {c = call} {cs = cs} {a = a} {b = d} {number = n} {numbers = ns} h r) (one_more {b = e} {number = m} {numbers = ms} g s) =
    let one = answered_one p call a d e n m h g in
    let rest = all_answered_one r (subst (λ z. AnsweredAll p cs z ms c) (sym one.1) s) in
    (ap (λ k. k ∷ ns) one.0 ∙ ap (λ l. m ∷ l) rest.0, rest.1)

-- the library's call
module _ (numbers : List ℕ) (values : List Float) (table day time : ℕ) (readings : List Float) (a b c : CallBuffers) (n m : ℕ) where
  taken_one : library.ScanTaken (record_of numbers values) (timed_of table) day time readings a n b
      → library.ScanTaken (record_of numbers values) (timed_of table) day time readings a m c → (n ≡ m) × (b ≡ c)
  taken_one l r =
      let both = scan_one (record_of numbers values) (timed_of table) day time readings (stores (state_of a.state) a.locations a.sums a.counts a.ring)
      (stores l.after b.locations b.sums b.counts b.ring) (stores r.after c.locations c.sums c.counts c.ring) n m
      l.answers r.answers in
      let same : n ≡ m = both.0 in
      let e₁ : l.after ≡ r.after = ap (λ (s : Stores). s.state) both.1 in
      let e₂ : b.locations ≡ c.locations = ap (λ (s : Stores). s.locations) both.1 in
      let e₃ : b.sums ≡ c.sums = ap (λ (s : Stores). s.sums) both.1 in
      let e₄ : b.counts ≡ c.counts = ap (λ (s : Stores). s.counts) both.1 in
      let e₅ : b.ring ≡ c.ring = ap (λ (s : Stores). s.ring) both.1 in
      let e₀ : b.state ≡ c.state = l.state ∙ ap (λ k. state_scanned k (due (record_of numbers values) (timed_of table) time) a.state l.after) same ∙ ap (state_scanned m (due (record_of numbers values) (timed_of table) time) a.state) e₁ ∙ sym r.state in
      let g : whole b ≡ whole c = cc in
      (same, g)
    where
      whole : CallBuffers → CallBuffers
      whole s = record { state = s.state; locations = s.locations; sums = s.sums; counts = s.counts; ring = s.ring }

  called_one : (d : Bool) → library.CallScanned d (record_of numbers values) (timed_of table) day time readings a n b
      → library.CallScanned d (record_of numbers values) (timed_of table) day time readings a m c → (n ≡ m) × (b ≡ c)
  called_one true l r = taken_one l r
  called_one false l r = (l.0 ∙ sym r.0, l.1 ∙ sym r.1)

pub yukeira_scan_one : (numbers : List ℕ) (values : List Float) (table day time : ℕ) (readings : List Float) (a b c : CallBuffers) (n m : ℕ)
    → ScanCalled numbers values table day time readings a n b → ScanCalled numbers values table day time readings a m c → (n ≡ m) × (b ≡ c)
yukeira_scan_one numbers values table day time readings a b c n m l r =
    called_one numbers values table (tick_day table day) time readings a b c n m (is_record numbers values && is_state a.state) l r
