-- A run of lines on buffers of which a part is lent: the first locations and sums are what the scans left, the others as they were. Assumes nothing.
use Rattle.std.specs.Prelude.{ℕ, suc, ◌+◌, ◌-◌, ◌≤◌, ◌<◌, min, ◌≡◌, refl, Bool, true, false, List, [], ◌∷◌, ◌++◌, length, take, drop, leb, Float, Some}
use Rattle.std.proofs.Common.{arith, sym, ap, subst, ◌∙◌, append-nil, length-take, length-drop, drop_of_length-le, take_all, take_at, take-take, take-add, drop_at, drop-drop, length-take-le, leb-true, leb-false}
use Rattle.base_program.specs.declared.Program.{Program}
use Rattle.spec_calls.specs.declared.State.{State}
use Rattle.spec_check.specs.declared.Verdict.{Verdict}
use Rattle.text_answer.specs.declared.TextAnswer.{TextAnswer}
use Rattle.text_answer.specs.Check.{check_text}
use Rattle.text_items.specs.Split.{split}
use Rattle.listing_input.specs.Extent.{extent_of}
use Rattle.listing_input.specs.ExtentLaws.{ends_within}
use Rattle.spec_listing.specs.declared.Stage.{Stage}
use Rattle.spec_listing.specs.Step.{Run, run_of, Ran}
use Rattle.spec_listing.specs.Reading.{Room, cut, LinesRead, Followed, Opened}
use Rattle.spec_listing.proofs.ReadingLaws.{text_fault, text_passed, lines_followed, lines_refused, lines_long}

-- ---- the first n of a list of `most`

front_same : {A : Type 0} (n most i : ℕ) (l : List A) → length l ≡ most → i ≡ min n most → take i l ≡ take n l
front_same n most i l h e = by (leb n most) refl
  where
    by : (t : Bool) → leb n most ≡ t → take i l ≡ take n l
    by true g = let z = leb-true n most g in ap (λ k. take k l) (let f : i ≡ n = omega (arith, e, z) in f)
    by false g = let z = leb-false n most g in take_all i l (omega (arith, e, z, h)) ∙ sym (take_all n l (omega (arith, z, h)))

front_back : {A : Type 0} (n most i : ℕ) (l part : List A) → length l ≡ most → i ≡ min n most → length part ≡ length (take i l) → take n (part ++ drop i l) ≡ part
front_back n most i l part h e s = by (leb n most) refl
  where
    size : length part ≡ i
    size = let z = length-take i l in omega (arith, z, s, e, h)

    by : (t : Bool) → leb n most ≡ t → take n (part ++ drop i l) ≡ part
    by true g = let z = leb-true n most g in take_at part (drop i l) n (omega (arith, size, e, z))
    by false g =
        let z = leb-false n most g in
        ap (λ x. take n (part ++ x)) (drop_of_length-le l {i = i} (omega (arith, e, z, h)))
        ∙ ap (take n) (append-nil part)
        ∙ take_all n part (omega (arith, size, e, z))

-- what is left of a block behind the bytes that were used
pub rest_of : (space : List ℕ) (from end used kept : ℕ) → from + used + kept ≡ end → end ≤ length space
    → take kept (drop (from + used) space) ≡ drop used (take (end - from) (drop from space))
rest_of space from end used kept h most =
    let l = length-drop from space in
    let n : used ≤ length (drop from space) = omega (arith, h, most, l) in
    let g : end - from ≡ used + kept = omega (arith, h) in
    sym
    (ap (λ k. drop used (take k (drop from space))) g
    ∙ ap (drop used) (take-add used kept (drop from space))
    ∙ drop_at (take used (drop from space)) (take kept (drop used (drop from space))) used (length-take-le used (drop from space) n)
    ∙ ap (take kept) (drop-drop used from space))

module _ (p : Program) (w : List ℕ) (r l m : List Float) (c ring : List ℕ) (s t : State) (r' l' m' : List Float) (c' ring' : List ℕ) (i j k used : ℕ)
    (room : Room r l m) (i_is : i ≡ min p.locations 2000) (j_is : j ≡ min p.sums 2000) (i_back : length l' ≡ length (take i l)) (j_back : length m' ≡ length (take j m))
    (ran : Ran p w (run_of s r (take i l) (take j m) c ring) k used (run_of t r' l' m' c' ring')) where
  abbrev before : Run
  before = run_of s r l m c ring

  abbrev after : Run
  after = run_of t r' (l' ++ drop i l) (m' ++ drop j m) c' ring'

  ran_cut : Ran p w (cut p before) k used (cut p after)
  ran_cut =
      let a = front_same p.locations 2000 i l room.locations i_is in
      let b = front_same p.sums 2000 j m room.sums j_is in
      let d = front_back p.locations 2000 i l l' room.locations i_is i_back in
      let e = front_back p.sums 2000 j m m' room.sums j_is j_back in
      subst (λ x. Ran p w x k used (cut p after)) (ap (λ x. run_of s r x (take j m) c ring) a ∙ ap (λ x. run_of s r (take p.locations l) x c ring) b)
      (subst (λ x. Ran p w (run_of s r (take i l) (take j m) c ring) k used x) (sym (ap (λ x. run_of t r' x (take p.sums (m' ++ drop j m)) c' ring') d ∙ ap (λ x. run_of t r' l' x c' ring') e)) ran)

  pub part_refused : (k ≡ 0 → ⊥) → (v : List ℕ) → Followed w p before (Stage.Refused k 0 0) v p after
  part_refused z v x f = lines_refused x w p before f k used (cut p after) ran_cut z

  pub part_kept : k ≡ 0 → (v : List ℕ) → v ≡ drop used w → Followed w p before Stage.Lines v p after
  part_kept z v e x f = subst (λ y. LinesRead x y p after × (split 10 y ≡ y ∷ [])) (sym e) (lines_followed x w p before f k used after ran_cut z)

  pub part_long : k ≡ 0 → (u : List ℕ) → u ≡ drop used w → 25 < length u → (v : List ℕ) → Followed w p before (Stage.Refused 1 0 0) v p after
  part_long z u e h v x f =
      let g = part_kept z u e x f in
      lines_long x u p after g.0 g.1 h

-- ---- the text, and what stands behind it in what was read

drop_of_take : {A : Type 0} (a n : ℕ) (l : List A) → a ≤ n → n ≤ length l → drop a (take n l) ≡ take (n - a) (drop a l)
drop_of_take a n l h most =
    let g : n ≡ a + (n - a) = omega (arith, h) in
    ap (λ k. drop a (take k l)) g
    ∙ ap (drop a) (take-add a (n - a) l)
    ∙ drop_at (take a l) (take (n - a) (drop a l)) a (length-take-le a l (omega (arith, h, most)))

module _ (space : List ℕ) (filled end : ℕ) (most : filled ≤ length space) (ends : extent_of (take filled space) ≡ Some end) where
  pub end_within : end ≤ filled
  end_within = let z = ends_within (take filled space) end ends in let y = length-take filled space in omega (arith, z, y)

  module _ (x : TextAnswer) (is : x ≡ check_text (take end space)) where
    in_all : x ≡ check_text (take end (take filled space))
    in_all = is ∙ ap check_text (sym (take-take end filled space end_within))

    pub open_fault : (k t e : ℕ) → x.verdict ≡ Verdict.Fault k t e → (a b : Run) (v : List ℕ) (q : Program) → Opened (take filled space) a (Stage.Refused k t e) v q b
    open_fault k t e h a b v q z more = text_fault (take filled space) end ends x in_all k t e h more

    pub open_passed : (m n : ℕ) → x.verdict ≡ Verdict.Pass m n → (a b : Run) (stage : Stage) (v : List ℕ) (q : Program)
        → Followed (take (filled - end) (drop end space)) x.program a stage v q b → Opened (take filled space) a stage v q b
    open_passed m n h a b stage v q f z =
        f (take filled space)
        (subst (λ w. LinesRead (take filled space) w x.program a) (drop_of_take end filled space end_within most) (text_passed (take filled space) end ends x in_all m n h a z))
