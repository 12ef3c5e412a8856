-- What a piece more, a line followed, a fault and the end of the input come to. A text's end stays where it was found, and lines that come in
-- pieces are the lines of the whole, so what the kept bytes lead to is what the whole input leads to. Assumes nothing.
use Rattle.std.specs.Prelude.{ℕ, zero, suc, ◌+◌, ◌-◌, ◌≤◌, ◌<◌, min, ◌≡◌, refl, Bool, true, false, cond, ◌&&◌, List, [], ◌∷◌, ◌++◌, length, take, drop, replicate, ltb, Option, Some, None}
use Rattle.std.proofs.Common.{arith, sym, subst, ◌∙◌, append_assoc, append-nil, length-append, length-take, length-drop, take_all, lt-ltb}
use Rattle.std.proofs.Math.Path.{ap}
use Rattle.std.proofs.lemmas.List.{take-append-le, drop-append-le}
use Rattle.std.proofs.Math.Seq.{take-length, drop-length}
use Rattle.base_float.specs.Finite.{zero_float}
use Rattle.base_laws.specs.Tests.{yes, and_both, not-false}
use Rattle.base_program.specs.declared.Program.{Program}
use Rattle.base_program.specs.Ranges.{within, location_counts, sum_counts}
use Rattle.base_program.specs.RangeLaws.{within_is}
use Rattle.spec_check.specs.declared.Verdict.{Verdict}
use Rattle.spec_check.specs.Ranges.{fault2header}
use Rattle.spec_check.specs.Check.{JudgedPlace, judged, or, walk_ranges, first_of, verdict, check}
use Rattle.spec_calls.specs.Stores.{fresh_state, ring_state}
use Rattle.text_keyed.specs.declared.Keyed.{Keyed}
use Rattle.text_keyed.specs.Text.{bad, text_of, all_but_last, last_of, lines_of, bytes_behind}
use Rattle.text_answer.specs.declared.TextAnswer.{TextAnswer}
use Rattle.text_answer.specs.Check.{answer, settled, check_text}
use Rattle.text_answer.proofs.Record.{passes_again}
use Rattle.text_items.specs.Split.{split}
use Rattle.listing_input.specs.declared.Line.{Line}
use Rattle.listing_input.specs.Line.{line_of}
use Rattle.listing_input.specs.Extent.{extent_of, length_in, text_length}
use Rattle.listing_input.specs.ExtentLaws.{ends_within, ends_stays, ends_later}
use Rattle.listing_output.specs.Shown.{lines_of_arrays, refusal_bytes, held_arrays}
use Rattle.spec_listing.specs.Step.{Run, run_of, Step, other, LinesLead, ended, stopped, Ran}
use Rattle.spec_listing.specs.Listing.{text_in, later_in, fresh_run, run_bytes, RunPrints, VerdictPrints, Prints}
use Rattle.spec_listing.specs.Pieces.{lines_joined, rest_joined, rest_alone, alone_none, Begun, unfinished, line, begun, lead_then, lead_stopped}
use Rattle.spec_listing.specs.Long.{line_long}
use Rattle.spec_listing.specs.Reading.{blank, cut, TextRead, LinesRead}

-- ---- the text's end

-- where the end is known, more behind it changes neither the text nor where it ends
module _ (s : List ℕ) (n : ℕ) (ends : extent_of s ≡ Some n) where
  length_is : text_length s ≡ n
  unfolding text_length
  length_is = ap (λ x. length_in x s) ends

  length_stays : (r : List ℕ) → text_length (s ++ r) ≡ n
  unfolding text_length
  length_stays r = ap (λ x. length_in x (s ++ r)) (ends_stays s r n ends)

  pub text_stays : (r : List ℕ) → text_in (s ++ r) ≡ text_in s
  text_stays r = ap (λ k. take k (s ++ r)) (length_stays r) ∙ take-append-le n s r (ends_within s n ends) ∙ sym (ap (λ k. take k s) length_is)

  pub later_stays : (r : List ℕ) → later_in (s ++ r) ≡ later_in s ++ r
  later_stays r = ap (λ k. drop k (s ++ r)) (length_stays r) ∙ drop-append-le n s r (ends_within s n ends) ∙ sym (ap (λ k. drop k s ++ r) length_is)

  text_found : text_in s ≡ take n s
  text_found = ap (λ k. take k s) length_is

  later_found : later_in s ≡ drop n s
  later_found = ap (λ k. drop k s) length_is

-- with no end the text is all
module _ (s : List ℕ) (endless : extent_of s ≡ None) where
  all_length : text_length s ≡ length s
  unfolding text_length
  all_length = ap (λ x. length_in x s) endless

  text_all : text_in s ≡ s
  text_all = ap (λ k. take k s) all_length ∙ take-length s

  later_none : later_in s ≡ []
  later_none = ap (λ k. drop k s) all_length ∙ drop-length s

-- ---- what is printed, from the answer of the check

by_answer : (s w : List ℕ) (x : TextAnswer) → check_text (text_in s) ≡ x → VerdictPrints x.verdict x.program (later_in s) w → Prints s w
by_answer s w x e v = subst (λ (y : TextAnswer). VerdictPrints y.verdict y.program (later_in s) w) (sym e) v

by_fault : (s : List ℕ) (x : TextAnswer) (k t e : ℕ) → check_text (text_in s) ≡ x → x.verdict ≡ Verdict.Fault k t e → Prints s (refusal_bytes k t e)
by_fault s x k t e a h =
    by_answer s (refusal_bytes k t e) x a (subst (λ v. VerdictPrints v x.program (later_in s) (refusal_bytes k t e)) (sym h) refl)

-- ---- the text

-- a piece more, and no end yet
pub text_more : (s w r : List ℕ) (a : Run) → TextRead s w a → extent_of (s ++ r) ≡ None → length (s ++ r) ≤ 16384 → TextRead (s ++ r) (w ++ r) a
text_more s w r a t e l = record { kept = ap (λ x. x ++ r) t.kept; endless = e; short = l; begun = t.begun }

too_long : (s : List ℕ) → 16384 < length s → text_of s ≡ bad 1 0 0
unfolding text_of
too_long s h = yes _ _ (lt-ltb 16384 (length s) h)

long_text : (s : List ℕ) → 16384 < length s → (check_text s).verdict ≡ Verdict.Fault 1 0 0
unfolding check_text bad
long_text s h = ap (λ (k : Keyed). (settled k.finding k.program).verdict) (too_long s h)

-- no end among more bytes than a text has: 'A text over 16,384 bytes is 1 at 0, 0 before all else.'
pub text_long : (s : List ℕ) → extent_of s ≡ None → 16384 < length s → (more : List ℕ) → Prints (s ++ more) (refusal_bytes 1 0 0)
text_long s e h more = by_fault (s ++ more) (check_text (text_in (s ++ more))) 1 0 0 refl (long_text (text_in (s ++ more)) (go (extent_of (s ++ more)) refl))
  where
    go : (x : Option ℕ) → extent_of (s ++ more) ≡ x → 16384 < length (text_in (s ++ more))
    go None q = let z = ap length (text_all (s ++ more) q) in omega (arith, z, length-append s more, h)
    go (Some n) q =
        let a = ends_later s more n e q in
        let b = ends_within (s ++ more) n q in
        let c = ap length (text_found (s ++ more) n q) in
        let d = length-take n (s ++ more) in
        omega (arith, a, b, c, d, h)

-- ---- a record that passes has room in the buffers

head_clean : (b : Bool) (r : List JudgedPlace) (x y n m : ℕ) → verdict (first_of (judged (or b 2 0) 0 0 ∷ r)) x y ≡ Verdict.Pass n m → b ≡ false
unfolding first_of
head_clean true r x y n m h = absurd (let z : ◌≡◌ {A = ℕ} 0 1 = cc in omega arith)
head_clean false r x y n m h = refl

record Sizes (p : Program) : Type 0 where
  locations : p.locations ≤ 2000
  sums : p.sums ≤ 2000

sizes : (p : Program) (first second : ℕ) → check p ≡ Verdict.Pass first second → Sizes p
unfolding check walk_ranges
sizes p first second h =
    let i = within location_counts p.locations in
    let m = within sum_counts p.sums in
    let z = and_both i m (not-false (i && m) (head_clean (fault2header p) _ _ _ first second h)) in
    record { locations = (within_is location_counts p.locations z.0).1; sums = (within_is sum_counts p.sums z.1).1 }

take_same : {A : Type 0} (n m : ℕ) (z : A) → n ≤ m → take n (replicate m z) ≡ replicate n z
take_same zero m z h = refl
take_same (suc n) zero z h = absurd (omega arith)
take_same (suc n) (suc m) z h = ap (λ l. z ∷ l) (take_same n m z (omega arith))

fresh_cut : (p : Program) (n m : ℕ) → check p ≡ Verdict.Pass n m → cut p blank ≡ fresh_run p
unfolding blank fresh_run
fresh_cut p n m h =
    let z = sizes p n m h in
    ap (λ l. run_of fresh_state (replicate 196 zero_float) l (take p.sums (replicate 2000 zero_float)) (replicate 297 0) (replicate 64 0))
    (take_same p.locations 2000 zero_float z.locations)
    ∙ ap (λ l. run_of fresh_state (replicate 196 zero_float) (replicate p.locations zero_float) l (replicate 297 0) (replicate 64 0))
    (take_same p.sums 2000 zero_float z.sums)

module _ (s : List ℕ) (n : ℕ) (ends : extent_of s ≡ Some n) (x : TextAnswer) (is : x ≡ check_text (take n s)) where
  answered_so : check_text (text_in s) ≡ x
  answered_so = ap check_text (text_found s n ends) ∙ sym is

  -- a text that ended with a fault
  pub text_fault : (k t e : ℕ) → x.verdict ≡ Verdict.Fault k t e → (more : List ℕ) → Prints (s ++ more) (refusal_bytes k t e)
  text_fault k t e h more = by_fault (s ++ more) x k t e (ap check_text (text_stays s n ends more) ∙ answered_so) h

  -- a text that ended and passed: what stands behind it is to be followed
  pub text_passed : (a b : ℕ) → x.verdict ≡ Verdict.Pass a b → (c : Run) → c ≡ blank → LinesRead s (drop n s) x.program c
  text_passed a b h c z =
      record {
        end = n;
        ends = ends;
        first = a;
        second = b;
        passed = answered_so ∙ ap (λ v. answer v x.program) h;
        on = λ more k d f. subst (λ l. LinesLead x.program (lines_of (l ++ more)) (fresh_run x.program) k d) (sym (later_found s n ends))
            (subst (λ r. LinesLead x.program (lines_of (drop n s ++ more)) r k d) (ap (cut x.program) z ∙ cut_blank) f);
        rest = λ more. ap (λ l. bytes_behind (l ++ more)) (sym (later_found s n ends));
      }
    where
      cut_blank : cut x.program blank ≡ fresh_run x.program
      cut_blank = fresh_cut x.program a b (subst (λ (y : TextAnswer). check y.program ≡ Verdict.Pass a b) (sym is) (passes_again (take n s) a b (ap (λ (y : TextAnswer). y.verdict) (sym is) ∙ h)))

-- ---- the lines behind it

module _ (s w : List ℕ) (p : Program) (a : Run) (l : LinesRead s w p a) where
  -- a piece more
  pub lines_more : (r : List ℕ) → LinesRead (s ++ r) (w ++ r) p a
  lines_more r =
      record {
        end = l.end;
        ends = ends_stays s r l.end l.ends;
        first = l.first;
        second = l.second;
        passed = ap check_text (text_stays s l.end l.ends r) ∙ l.passed;
        on = λ more k c f.
            subst (λ x. LinesLead p (lines_of x) (fresh_run p) k c) (sym (append_assoc (later_in s) r more) ∙ ap (λ x. x ++ more) (sym (later_stays s l.end l.ends r)))
            (l.on (r ++ more) k c (subst (λ x. LinesLead p (lines_of x) (cut p a) k c) (append_assoc w r more) f));
        rest = λ more. ap bytes_behind (append_assoc w r more) ∙ l.rest (r ++ more) ∙ ap bytes_behind (sym (append_assoc (later_in s) r more) ∙ ap (λ x. x ++ more) (sym (later_stays s l.end l.ends r)));
      }

  -- its whole lines followed without a refusal
  pub lines_followed : (k used : ℕ) (b : Run) → Ran p w (cut p a) k used (cut p b) → k ≡ 0 → LinesRead s (drop used w) p b × (split 10 (drop used w) ≡ drop used w ∷ [])
  lines_followed k used b r z =
      let q : drop used w ≡ bytes_behind w = r.rest z in (
        record {
          end = l.end;
          ends = l.ends;
          first = l.first;
          second = l.second;
          passed = l.passed;
          on = λ more n c f.
              l.on more n c
              (subst (λ x. LinesLead p x (cut p a) n c) (sym (lines_joined w more))
              (lead_then p r.follows z (lines_of (bytes_behind w ++ more)) n c (subst (λ x. LinesLead p (lines_of (x ++ more)) (cut p b) n c) q f)));
          rest = λ more. ap (λ x. bytes_behind (x ++ more)) q ∙ sym (rest_joined w more) ∙ l.rest more;
        },
        subst (λ x. split 10 x ≡ x ∷ []) (sym q) (rest_alone w),
      )

  -- what is printed where the lines lead to this, and this is left
  leads_to : (more : List ℕ) (k : ℕ) (c : Run) (v : List ℕ) → LinesLead p (lines_of (later_in s ++ more)) (fresh_run p) k c → v ≡ run_bytes k (bytes_behind (later_in s ++ more)) c
      → Prints (s ++ more) v
  leads_to more k c v f e =
      by_answer (s ++ more) v (answer (Verdict.Pass l.first l.second) p) (ap check_text (text_stays s l.end l.ends more) ∙ l.passed)
      (subst (λ x. RunPrints p x v) (sym (later_stays s l.end l.ends more)) (record { refusal = k; after = c; leads = f; bytes = e }))

  -- a line refused
  pub lines_refused : (k used : ℕ) (b : Run) → Ran p w (cut p a) k used b → (k ≡ 0 → ⊥) → (more : List ℕ) → Prints (s ++ more) (refusal_bytes k 0 0)
  lines_refused zero used b r z more = absurd (z refl)
  lines_refused (suc k) used b r z more =
      leads_to more (suc k) b (refusal_bytes (suc k) 0 0)
      (l.on more (suc k) b (subst (λ x. LinesLead p x (cut p a) (suc k) b) (sym (lines_joined w more)) (lead_stopped p r.follows z (lines_of (bytes_behind w ++ more)))))
      refl

  -- a line that has no end yet, and is too long to say anything
  pub lines_long : split 10 w ≡ w ∷ [] → 25 < length w → (more : List ℕ) → Prints (s ++ more) (refusal_bytes 1 0 0)
  lines_long alone h more = by (begun w more alone)
    where
      left : (x : List ℕ) → 25 < length x → refusal_bytes 1 0 0 ≡ run_bytes 0 x (cut p a)
      left [] h = absurd (omega arith)
      left (b ∷ x) h = refl

      by : Begun w more → Prints (s ++ more) (refusal_bytes 1 0 0)
      by (unfinished e q) =
          leads_to more 0 (cut p a) (refusal_bytes 1 0 0) (l.on more 0 (cut p a) (subst (λ x. LinesLead p x (cut p a) 0 (cut p a)) (sym e) ended))
          (left (w ++ more) (omega (arith, length-append w more, h)) ∙ ap (λ x. run_bytes 0 x (cut p a)) (sym q ∙ l.rest more))
      by (line v ls e) =
          leads_to more 1 (cut p a) (refusal_bytes 1 0 0)
          (l.on more 1 (cut p a)
          (subst (λ x. LinesLead p x (cut p a) 1 (cut p a)) (sym e)
          (stopped (subst (λ y. Step p y (cut p a) 1 (cut p a)) (sym (line_long (w ++ v) (omega (arith, length-append w v, h)))) other) (λ z. absurd (let y : ⊥ = omega (arith, z) in y)))))
          refl

  -- ---- the input's end

  lines_over : split 10 w ≡ w ∷ [] → (v : List ℕ) → v ≡ run_bytes 0 w (cut p a) → Prints s v
  lines_over alone v e =
      let z = alone_none w alone in
      let none : w ++ [] ≡ w = append-nil w in
      subst (λ x. Prints x v) (append-nil s)
      (leads_to [] 0 (cut p a) v (l.on [] 0 (cut p a) (subst (λ x. LinesLead p x (cut p a) 0 (cut p a)) (sym (ap lines_of none ∙ z.0)) ended))
      (e ∙ ap (λ x. run_bytes 0 x (cut p a)) (sym z.1 ∙ sym (ap bytes_behind none) ∙ l.rest [])))

  -- all lines had their byte 10
  pub lines_listed : split 10 w ≡ w ∷ [] → w ≡ [] → Prints s (lines_of_arrays (held_arrays a.lent.ring (ring_state a.state)))
  lines_listed alone e = lines_over alone _ (ap (λ x. run_bytes 0 x (cut p a)) (sym e))

  -- the last one had none
  pub lines_unfinished : split 10 w ≡ w ∷ [] → (w ≡ [] → ⊥) → Prints s (refusal_bytes 1 0 0)
  lines_unfinished alone e = lines_over alone (refusal_bytes 1 0 0) (left w e)
    where
      left : (x : List ℕ) → (x ≡ [] → ⊥) → refusal_bytes 1 0 0 ≡ run_bytes 0 x (cut p a)
      left [] h = absurd (h refl)
      left (b ∷ x) h = refl

blank_rings : (p : Program) → lines_of_arrays (held_arrays blank.lent.ring (ring_state blank.state)) ≡ lines_of_arrays (held_arrays (fresh_run p).lent.ring (ring_state (fresh_run p).state))
unfolding blank fresh_run
blank_rings p = refl

-- the text had no end: it is all of the input
module _ (s w : List ℕ) (a : Run) (t : TextRead s w a) (x : TextAnswer) (is : x ≡ check_text w) where
  all_answered : check_text (text_in s) ≡ x
  all_answered = ap check_text (text_all s t.endless ∙ sym t.kept) ∙ sym is

  pub ended_fault : (k n e : ℕ) → x.verdict ≡ Verdict.Fault k n e → Prints s (refusal_bytes k n e)
  ended_fault k n e h = by_fault s x k n e all_answered h

  pub ended_passed : (m n : ℕ) → x.verdict ≡ Verdict.Pass m n → Prints s (lines_of_arrays (held_arrays a.lent.ring (ring_state a.state)))
  unfolding lines_of bytes_behind split
  ended_passed m n h =
      by_answer s _ x all_answered
      (subst (λ v. VerdictPrints v x.program (later_in s) (lines_of_arrays (held_arrays a.lent.ring (ring_state a.state)))) (sym h)
      (subst (λ l. RunPrints x.program l (lines_of_arrays (held_arrays a.lent.ring (ring_state a.state)))) (sym (later_none s t.endless))
      (record { refusal = 0; after = fresh_run x.program; leads = ended; bytes = as_fresh })))
    where
      as_fresh : lines_of_arrays (held_arrays a.lent.ring (ring_state a.state)) ≡ lines_of_arrays (held_arrays (fresh_run x.program).lent.ring (ring_state (fresh_run x.program).state))
      as_fresh = ap (λ (r : Run). lines_of_arrays (held_arrays r.lent.ring (ring_state r.state))) t.begun ∙ blank_rings x.program
