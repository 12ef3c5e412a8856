-- What is known of the state and the buffers of a scan that nothing refuses, and that the tests by lengths are those of the definition: by the
-- definitions, one test after the other. Assumes nothing.
use Rattle.std.specs.Prelude.{◌≡◌, ℕ, zero, suc, ◌+◌, ◌≤◌, ◌<◌, Bool, true, false, not, ◌&&◌, List, [], ◌∷◌, length, get_or, drop, eqb, leb, ltb, Float}
use Rattle.std.proofs.Math.Path.{refl}
use Rattle.std.proofs.Common.{sym, ap, ◌∙◌, arith, drop-cons}
use borrow.Author.Tests.{ltb-true, leb-true, eqb-true, le-leb, lt-leb}
use Rattle.base_program.specs.declared.Program.{Program}
use Rattle.base_program.specs.declared.Timed.{Timed}
use Rattle.base_program.specs.declared.Timed.TheVariants.{One, Two}
use Rattle.spec_check.specs.declared.Verdict.{Verdict}
use Rattle.spec_check.specs.Ranges.{interval}
use Rattle.base_program.specs.Codes.{between}
use Rattle.spec_check.specs.Check.{check, or}
use Rattle.spec_machine.specs.Run.{due}
use Rattle.spec_machine.specs.Calls.{is_tick}
use Rattle.spec_calls.specs.declared.State.{State}
use Rattle.spec_calls.specs.Stores.{Stores}
use Rattle.spec_calls.specs.Refusals.{is_pass, few_samples, scan_refusal}
use Rattle.spec_calls.specs.Scanned as scanned
use Rattle.scan_refusals.specs.declared.Sizes.{Sizes}
use Rattle.spec_calls.specs.Scanned.{place_of}
use Rattle.scan_refusals.specs.Lent.{sizes_lent, lent_all, ordered, lent_refusal, runs_at}
use Rattle.scan_refusals.specs.Tests.{refused, not_refused, none_refused}
use Rattle.base_laws.specs.Tests.{and_both}

-- ---- the counts

-- the counts from place k on
pub few_next : (l : List ℕ) (k : ℕ) → k < length l → get_or l k 0 ≤ 16777215 → few_samples (drop (k + 1) l) ≡ few_samples (drop k l)
unfolding few_samples
few_next l k h low =
    let e : k + 1 ≡ suc k = omega arith in
    ap (λ j. few_samples (drop j l)) e
    ∙ sym (ap few_samples (drop-cons l k 0 h) ∙ ap (λ b. b && few_samples (drop (suc k) l)) (le-leb (get_or l k 0) 16777215 low))

pub few_not : (l : List ℕ) (k : ℕ) → k < length l → 16777215 < get_or l k 0 → few_samples (drop k l) ≡ false
unfolding few_samples
few_not l k h high =
    ap few_samples (drop-cons l k 0 h) ∙ ap (λ b. b && few_samples (drop (suc k) l)) (lt-leb (get_or l k 0) 16777215 high)

-- nothing that comes behind a count too many makes up for it
pub none_after : (b : Bool) (x y : Bool) → x ≡ false → false && y ≡ b && x
none_after true x y h = sym h
none_after false x y h = refl

pub all_true : (b : Bool) → b ≡ b && true
all_true true = refl
all_true false = refl

pub few_each : (l : List ℕ) → few_samples l ≡ true → (c : ℕ) → get_or l c 0 ≤ 16777215
unfolding few_samples
few_each [] h c = omega arith
few_each (x ∷ r) h zero = leb-true x 16777215 (and_both (leb x 16777215) (few_samples r) h).0
few_each (x ∷ r) h (suc c) = few_each r (and_both (leb x 16777215) (few_samples r) h).1 c

-- ---- a scan

abbrev pub sizes_in : Stores → List Float → Sizes
sizes_in a readings = sizes_lent (length a.locations) (length a.sums) (length readings) (length a.ring)

-- the lengths of the state's arrays
pub record Shaped (s : State) : Type 0 where
  pub flags : length s.flags ≡ 10
  pub ports : length s.ports ≡ 8
  pub days : length s.days ≡ 2
  pub minutes : length s.minutes ≡ 2

module _ (p : Program) (a : Stores) (day time : ℕ) (readings : List Float) where
  -- 31 to 33, by what is lent
  abbrev pub refusal_behind : ℕ
  refusal_behind = lent_refusal p.locations p.sums (sizes_in a readings) a.state a.counts day time

  pub scan_refused : (number table entry : ℕ) → check p ≡ Verdict.Fault number table entry → 30 ≡ scan_refusal p a day time readings
  unfolding scan_refusal is_pass
  scan_refused number table entry e = refused (is_pass (check p)) 30 _ (ap is_pass e)

  pub scan_passed : (first second : ℕ) → check p ≡ Verdict.Pass first second → refusal_behind ≡ scan_refusal p a day time readings
  unfolding scan_refusal is_pass lent_refusal lent_all ordered
  scan_passed first second e = not_refused (is_pass (check p)) 30 refusal_behind refusal_behind (ap is_pass e) refl

  -- what is known where nothing is refused
  pub record Taken : Type 0 where
    pub sound : scanned.StoresSound p a
    pub all : length readings ≡ 196
    pub day_least : 1 ≤ day
    pub day_most : day ≤ 366
    pub time_most : time ≤ 6911999

module _ (p : Program) (a : Stores) (day time : ℕ) (readings : List Float) (shaped : Shaped a.state) (none : refusal_behind p a day time readings ≡ 0) where
  -- the tests of 31, 32 and 33 one by one
  at_31 : (lent_all p.locations p.sums (sizes_in a readings) (length a.counts) ≡ true) × (or (not (ordered a.state (length a.ring) a.counts)) 32 (or (not (is_tick day time)) 33 0) ≡ 0)
  unfolding lent_refusal
  at_31 =
      none_refused (lent_all p.locations p.sums (sizes_in a readings) (length a.counts)) 31
      (or (not (ordered a.state (length a.ring) a.counts)) 32 (or (not (is_tick day time)) 33 0)) (λ e. omega arith) none

  at_32 : (ordered a.state (length a.ring) a.counts ≡ true) × (or (not (is_tick day time)) 33 0 ≡ 0)
  at_32 =
      none_refused (ordered a.state (length a.ring) a.counts) 32 (or (not (is_tick day time)) 33 0) (λ e. omega arith) at_31.1

  at_33 : is_tick day time ≡ true
  at_33 = (none_refused (is_tick day time) 33 0 (λ e. omega arith) at_32.1).0

  pub taken : Taken p a day time readings
  unfolding lent_all ordered
  taken =
      let l = and_both (eqb (length a.locations) p.locations) _ at_31.0 in
      let u = and_both (eqb (length a.sums) p.sums) _ l.1 in
      let c = and_both (eqb (length a.counts) 297) _ u.1 in
      let r = and_both (eqb (length readings) 196) _ c.1 in
      let g = and_both (leb 1 (length a.ring)) (leb (length a.ring) 32768) r.1 in
      let o = and_both _ (leb a.state.array 399 && few_samples a.counts) at_32.0 in
      let s = and_both (ltb a.state.position (length a.ring)) (leb a.state.filled (length a.ring)) o.0 in
      let f = and_both (leb a.state.array 399) (few_samples a.counts) o.1 in
      let t = and_both (between 1 366 day) (leb time 6911999) at_33 in
      let d = and_both (leb 1 day) (leb day 366) t.0 in
      record {
        sound = record {
          fits = record {
            locations = eqb-true _ _ l.0;
            sums = eqb-true _ _ u.0;
            counts = eqb-true _ _ c.0;
            flags = shaped.flags;
            ports = shaped.ports;
            ring = record {
              least = leb-true _ _ g.0;
              most = leb-true _ _ g.1;
              position = ltb-true _ _ s.0;
              filled = leb-true _ _ s.1;
            };
          };
          array = leb-true _ _ f.0;
          counts = few_each a.counts f.1;
          tables = (shaped.days, shaped.minutes);
        };
        all = eqb-true _ _ r.0;
        day_least = leb-true _ _ d.0;
        day_most = leb-true _ _ d.1;
        time_most = leb-true _ _ t.1;
      }

-- ---- a table that is due

pub due_at : (p : Program) (t : Timed) (k time : ℕ) → k ≡ place_of t → runs_at (get_or p.intervals k 0) time ≡ due p t time
unfolding due runs_at interval
due_at p One k time e = ap (λ j. runs_at (get_or p.intervals j 0) time) e
due_at p Two k time e = ap (λ j. runs_at (get_or p.intervals j 0) time) e
