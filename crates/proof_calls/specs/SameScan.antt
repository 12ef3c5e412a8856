-- Records that agree in I, M, both V, the lengths and the entries in use are scanned and keyed alike: the refusals, and what a scan
-- leaves. By `same_check` and `same_ends`. Assumes nothing.
use Rattle.std.specs.Prelude.{◌≡◌, Bool, true, false, not, ◌&&◌, List, length, eqb, Float}
use Rattle.std.proofs.Math.Path.{ap}
use Rattle.std.proofs.Common.{◌∙◌, subst}
use Prim.Native.Nat.{ℕ, zero, suc}
use Rattle.base_float.specs.Finite.{finite}
use Rattle.base_program.specs.declared.Program.{Program}
use Rattle.base_program.specs.declared.Timed.{Timed}
use Rattle.base_program.specs.Codes.{between}
use Rattle.spec_check.specs.Check.{or}
use Rattle.proof_record.specs.SameRecord.{Same, same_check}
use Rattle.spec_machine.specs.Values.{Scan}
use Rattle.spec_machine.specs.Run.{due}
use Rattle.spec_machine.specs.Calls.{Lengths, all_lent, is_tick, is_keyed}
use Rattle.proof_calls.specs.SameRun.{same_due, same_ends}
use Rattle.spec_buffers.specs.Held.{Held, Fits}
use Rattle.spec_calls.specs.Stores.{Stores, lengths_of}
use Rattle.spec_calls.specs.Scanned.{StoresSound, Leaves, StoresScanned}
use Rattle.spec_calls.specs.Refusals.{is_pass, is_passed, in_order, scan_refusal, key_refusal, flag_refusal}
use Rattle.spec_calls.specs.Answers.{ScanLeaves, ScanAnswers}

module _ (p q : Program) (s : Same p q) where
  -- ---- what is left

  same_fits : {h : Held} → Fits p h → Fits q h
  same_fits f =
      record {
        locations = f.locations ∙ s.locations;
        sums = f.sums ∙ s.sums;
        counts = f.counts;
        flags = f.flags;
        ports = f.ports;
        ring = f.ring;
      }

  same_sound : {a : Stores} → StoresSound p a → StoresSound q a
  same_sound g = record { fits = same_fits g.fits; array = g.array; counts = g.counts; tables = g.tables }

  same_leaves : {x : Scan} {a b : Stores} → Leaves p x a b → Leaves q x a b
  same_leaves {x = x} l =
      record {
        memory = l.memory;
        ends = (l.ends.0, same_ends p q s x l.ends.1);
        holds = l.holds;
        words = l.words;
        written = l.written;
        ring = l.ring;
        days = l.days;
        minutes = l.minutes;
        sound = same_sound l.sound;
      }

  module _ (t : Timed) (day time : ℕ) (readings : List Float) (a b : Stores) where
    same_run : (d : Bool) → StoresScanned d p t day time readings a b → StoresScanned d q t day time readings a b
    same_run true l = same_leaves l
    same_run false l = l

    same_left : (number : ℕ) → ScanLeaves number p t day time readings a b → ScanLeaves number q t day time readings a b
    same_left zero l = subst (λ d. StoresScanned d q t day time readings a b) (same_due p q s t time) (same_run (due p t time) l)
    same_left (suc number) l = l

  -- ---- refusals

  same_lent : (n : Lengths) (readings : List Float) → all_lent p n readings ≡ all_lent q n readings
  same_lent n readings =
      ap (λ k. eqb n.locations k && (eqb n.sums p.sums && others)) s.locations
      ∙ ap (λ k. eqb n.locations q.locations && (eqb n.sums k && others)) s.sums
    where
      others : Bool
      others = eqb n.counts 297 && (eqb (length readings) 196 && between 1 32768 n.ring)

  same_passed : is_passed p ≡ is_passed q
  same_passed = ap is_pass (same_check p q s)

  same_scan_refusal : (a : Stores) (day time : ℕ) (readings : List Float) → scan_refusal p a day time readings ≡ scan_refusal q a day time readings
  unfolding scan_refusal
  same_scan_refusal a day time readings =
      ap (λ v. or (not v) 30 (or (not (all_lent p (lengths_of a) readings)) 31 rest)) same_passed
      ∙ ap (λ b. or (not (is_passed q)) 30 (or (not b) 31 rest)) (same_lent (lengths_of a) readings)
    where
      rest : ℕ
      rest = or (not (in_order a)) 32 (or (not (is_tick day time)) 33 0)

  pub same_key_refusal : (n k : ℕ) (v : Float) → key_refusal p n k v ≡ key_refusal q n k v
  unfolding key_refusal
  same_key_refusal n k v =
      ap (λ w. or (not w) 30 (or (not (eqb n p.locations)) 31 (or (not (is_keyed p k v)) 34 0))) same_passed
      ∙ ap (λ i. or (not (is_passed q)) 30 (or (not (eqb n i)) 31 (or (not (between 1 i k && finite v)) 34 0))) s.locations

  pub same_flag_refusal : (f : ℕ) → flag_refusal p f ≡ flag_refusal q f
  unfolding flag_refusal
  same_flag_refusal f = ap (λ w. or (not w) 30 (or (not (between 1 8 f)) 34 0)) same_passed

  -- ---- calls

  pub same_scan : {t : Timed} {day time : ℕ} {readings : List Float} {a b : Stores} {number : ℕ} → ScanAnswers p t day time readings a number b
      → ScanAnswers q t day time readings a number b
  same_scan {t = t} {day = day} {time = time} {readings = readings} {a = a} {b = b} {number = number} r =
      record {
        refusal = r.refusal ∙ same_scan_refusal a day time readings;
        left = same_left t day time readings a b number r.left;
      }
