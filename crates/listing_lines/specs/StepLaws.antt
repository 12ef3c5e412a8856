-- A turn of the loop over lines: the next line, and what is left behind it. Assumes nothing.
use Rattle.std.specs.Prelude.{ℕ, suc, ◌+◌, ◌-◌, ◌≤◌, ◌<◌, ◌≡◌, refl, List, [], ◌∷◌, length, take, drop, Option}
use Rattle.std.proofs.Common.{add-one, add-zero, add-suc, arith, sym, ap, subst, ◌∙◌, length-drop, drop-drop}
use Rattle.base_program.specs.declared.Program.{Program}
use Rattle.text_items.specs.Split.{split}
use Rattle.text_items.specs.Cut.{before, ByteFound}
use Rattle.text_items.specs.Pieces.{split_more, split_last}
use Rattle.listing_input.specs.declared.Line.{Line}
use Rattle.listing_input.specs.Line.{line_of}
use Rattle.text_keyed.specs.Text.{all_but_last, last_of, lines_of, bytes_behind}
use Rattle.spec_listing.specs.Step.{Run, Step, LinesLead, ended, onward, stopped, Ran}
use Rattle.spec_listing.specs.Pieces.{split_some, front_next, last_next}

-- ---- the next line

-- the line from `at` to e
abbrev pub line : List ℕ → ℕ → ℕ → List ℕ
line s at e = take (e - at) (drop at s)

more : (s : List ℕ) (at e : ℕ) → ByteFound 10 s at e → e < length s → split 10 (drop at s) ≡ line s at e ∷ split 10 (drop (e + 1) s)
more s at e f h =
    let is = f.is in
    let d = length-drop at s in
    let b = before 10 (drop at s) in
    let short : b < length (drop at s) = omega (arith, is, d, h) in
    let n : b ≡ e - at = omega (arith, is) in
    let m : at + suc b ≡ e + 1 = omega (arith, is) in
    split_more 10 (drop at s) short
    ∙ ap (λ x. take x (drop at s) ∷ split 10 (drop (suc b) (drop at s))) n
    ∙ ap (λ x. line s at e ∷ split 10 x) (drop-drop (suc b) at s ∙ ap (λ k. drop k s) m)

pub lines_more : (s : List ℕ) (at e : ℕ) → ByteFound 10 s at e → e < length s → lines_of (drop at s) ≡ line s at e ∷ lines_of (drop (e + 1) s)
unfolding lines_of
lines_more s at e f h = ap all_but_last (more s at e f h) ∙ front_next (line s at e) (split 10 (drop (e + 1) s)) (split_some 10 (drop (e + 1) s))

pub rest_more : (s : List ℕ) (at e : ℕ) → ByteFound 10 s at e → e < length s → bytes_behind (drop (e + 1) s) ≡ bytes_behind (drop at s)
unfolding bytes_behind
rest_more s at e f h = sym (ap last_of (more s at e f h) ∙ last_next (line s at e) (split 10 (drop (e + 1) s)) (split_some 10 (drop (e + 1) s)))

one : (s : List ℕ) (at e : ℕ) → ByteFound 10 s at e → e ≡ length s → split 10 (drop at s) ≡ drop at s ∷ []
one s at e f h =
    let is = f.is in
    let d = length-drop at s in
    let long : length (drop at s) ≤ before 10 (drop at s) = omega (arith, is, d, h) in
    split_last 10 (drop at s) long

-- ---- what is left from here on leads to the same

pub record LinesGoing (p : Program) (s : List ℕ) (start : Run) (at : ℕ) (now : Run) : Type 0 where
  pub on : (k : ℕ) (c : Run) → LinesLead p (lines_of (drop at s)) now k c → LinesLead p (lines_of s) start k c
  pub rest : bytes_behind (drop at s) ≡ bytes_behind s
  pub within : at ≤ length s

pub going_start : (p : Program) (s : List ℕ) (a : Run) → LinesGoing p s a 0 a
going_start p s a = record { on = λ k c f. f; rest = refl; within = omega arith }

pub going_next : (p : Program) (s : List ℕ) (start now next : Run) (at e k : ℕ) (x : Option Line) → ByteFound 10 s at e → e < length s → LinesGoing p s start at now
    → line_of (line s at e) ≡ x → Step p x now k next → k ≡ 0 → LinesGoing p s start (e + 1) next
going_next p s start now next at e k x f h g q t z =
    let step : Step p (line_of (line s at e)) now 0 next = subst (λ n. Step p (line_of (line s at e)) now n next) z (subst (λ y. Step p y now k next) (sym q) t) in
    record {
      on = λ n c r. g.on n c (subst (λ ls. LinesLead p ls now n c) (sym (lines_more s at e f h)) (onward step r));
      rest = rest_more s at e f h ∙ g.rest;
      within = omega (arith, h);
    }

pub going_stopped : (p : Program) (s : List ℕ) (start now next : Run) (at e k : ℕ) (x : Option Line) → ByteFound 10 s at e → e < length s → LinesGoing p s start at now
    → line_of (line s at e) ≡ x → Step p x now k next → (k ≡ 0 → ⊥) → Ran p s start k at next
going_stopped p s start now next at e k x f h g q t z =
    let step : Step p (line_of (line s at e)) now k next = subst (λ y. Step p y now k next) (sym q) t in
    record {
      follows = g.on k next (subst (λ ls. LinesLead p ls now k next) (sym (lines_more s at e f h)) (stopped step z));
      rest = λ y. absurd (z y);
      within = g.within;
    }

pub going_ended : (p : Program) (s : List ℕ) (start now : Run) (at e : ℕ) → ByteFound 10 s at e → e ≡ length s → LinesGoing p s start at now → Ran p s start 0 at now
unfolding lines_of bytes_behind
going_ended p s start now at e f h g =
    record {
      follows = g.on 0 now (subst (λ ls. LinesLead p (all_but_last ls) now 0 now) (sym (one s at e f h)) ended);
      rest = λ q. sym (ap last_of (one s at e f h)) ∙ g.rest;
      within = g.within;
    }

-- ---- lengths

-- no buffer's length is changed
pub record Same (a b : Run) : Type 0 where
  pub readings : length a.readings ≡ length b.readings
  pub locations : length a.lent.locations ≡ length b.lent.locations
  pub sums : length a.lent.sums ≡ length b.lent.sums
  pub counts : length a.lent.counts ≡ length b.lent.counts
  pub ring : length a.lent.ring ≡ length b.lent.ring

pub same_start : (a : Run) → Same a a
same_start a = record { readings = refl; locations = refl; sums = refl; counts = refl; ring = refl }
