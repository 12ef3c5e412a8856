-- A piece that stands behind the kept bytes: with these it is what is looked at. Assumes nothing.
use Rattle.std.specs.Prelude.{ℕ, ◌+◌, ◌-◌, ◌≤◌, ◌≡◌, refl, List, [], ◌∷◌, ◌++◌, length, take, drop, Float, None}
use Rattle.std.proofs.Common.{arith, sym, ap, subst, ◌∙◌, append_assoc, append-nil, take-append-drop, take-take}
use Rattle.std.proofs.lemmas.List.{length-replicate}
use Rattle.base_float.specs.Finite.{zero_float}
use Rattle.spec_calls.specs.declared.State.{State}
use Rattle.spec_calls.specs.Stores.{fresh_state}
use Rattle.base_program.specs.declared.Program.{Program}
use Rattle.listing_input.specs.Extent.{extent_from, extent_of}
use Rattle.listing_output.specs.Shown.{refusal_bytes}
use Rattle.spec_listing.specs.declared.Stage.{Stage}
use Rattle.spec_listing.specs.Step.{Run, run_of}
use Rattle.spec_listing.specs.Listing.{Prints}
use Rattle.spec_listing.specs.Reading.{Room, blank, TextRead, LinesRead, Followed, Opened, Reads, Taken, Finished}
use Rattle.spec_listing.proofs.ReadingLaws.{lines_more}

none_endless : extent_of [] ≡ None
unfolding extent_of extent_from
none_endless = refl

-- nothing is read yet
pub reads_none : (space : List ℕ) (stage : Stage) (kept : ℕ) (p : Program) (state : State) (r l m : List Float) (c w : List ℕ)
    → stage ≡ Stage.Text → kept ≡ 0 → state ≡ fresh_state → run_of fresh_state r l m c w ≡ blank → Reads [] stage (take kept space) p (run_of state r l m c w)
reads_none space stage kept p state r l m c w e n f z =
    subst (λ x. Reads [] x (take kept space) p (run_of state r l m c w)) (sym e)
    (record { kept = ap (λ k. take k space) n; endless = none_endless; short = omega arith; begun = ap (λ x. run_of x r l m c w) f ∙ z })

-- how long the buffers are
pub record Sized (r l m : List Float) (w : List ℕ) : Type 0 where
  pub room : Room r l m
  pub ring : length w ≡ 64

pub blank_sized : (r l m : List Float) (c w : List ℕ) → run_of fresh_state r l m c w ≡ blank → Sized r l m w
unfolding blank
blank_sized r l m c w z =
    record {
      room =
          record {
            readings = ap (λ (a : Run). length a.readings) z ∙ length-replicate 196 zero_float;
            locations = ap (λ (a : Run). length a.lent.locations) z ∙ length-replicate 2000 zero_float;
            sums = ap (λ (a : Run). length a.lent.sums) z ∙ length-replicate 2000 zero_float;
          };
      ring = ap (λ (a : Run). length a.lent.ring) z ∙ length-replicate {A = ℕ} 64 0;
    }

module _ (space : List ℕ) (kept filled : ℕ) (h : kept ≤ filled) (p : Program) (a b : Run) (stage : Stage) (v : List ℕ) (q : Program) where
  abbrev piece : List ℕ
  piece = drop kept (take filled space)

  joined : take kept space ++ piece ≡ take filled space
  joined = ap (λ x. x ++ piece) (sym (take-take kept filled space h)) ∙ take-append-drop kept (take filled space)

  pub feed_text : Opened (take filled space) a stage v q b → Taken Stage.Text (take kept space) p a piece stage v q b
  feed_text f s t = subst (λ x. Reads x stage v q b) (sym joined ∙ ap (λ x. x ++ piece) t.kept) (f t.begun)

  pub feed_lines : Followed (take (filled - 0) (drop 0 space)) p a stage v q b → Taken Stage.Lines (take kept space) p a piece stage v q b
  feed_lines f s t =
      f (s ++ piece)
      (subst (λ x. LinesRead (s ++ piece) x p a) (joined ∙ ap (λ n. take n space) (let g : filled ≡ filled - 0 = omega arith in g))
      (lines_more s (take kept space) p a t.0 piece))

pub feed_refused : (k t e : ℕ) (w piece v : List ℕ) (p q : Program) (a b : Run) → Taken (Stage.Refused k t e) w p a piece (Stage.Refused k t e) v q b
feed_refused k t e w piece v p q a b s f more =
    subst (λ x. Prints x (refusal_bytes k t e)) (sym (append_assoc s piece more)) (f (piece ++ more))

-- ---- all pieces

-- pieces taken one after the other, from the start
pub data Fed : List (List ℕ) → Stage → List ℕ → Program → Run → Type 0 where
  nothing : (p : Program) → Fed [] Stage.Text [] p blank
  more : {ps : List (List ℕ)} {stage next : Stage} {w v : List ℕ} {p q : Program} {a b : Run} (piece : List ℕ) → Fed ps stage w p a → Taken stage w p a piece next v q b
      → Fed (ps ++ (piece ∷ [])) next v q b

unfoldable pub all_of : List (List ℕ) → List ℕ
all_of [] = []
all_of (w ∷ ws) = w ++ all_of ws

all_snoc : (ps : List (List ℕ)) (w : List ℕ) → all_of (ps ++ (w ∷ [])) ≡ all_of ps ++ w
unfolding all_of
all_snoc [] w = append-nil w
all_snoc (v ∷ ps) w = ap (λ x. v ++ x) (all_snoc ps w) ∙ sym (append_assoc v (all_of ps) w)

fed_reads : {ps : List (List ℕ)} {stage : Stage} {w : List ℕ} {p : Program} {a : Run} → Fed ps stage w p a → Reads (all_of ps) stage w p a
unfolding all_of
fed_reads (nothing p) = record { kept = refl; endless = none_endless; short = omega arith; begun = refl }
fed_reads (more {ps = ps} {next = next} {v = v} {q = q} {b = b} piece f t) = subst (λ x. Reads x next v q b) (sym (all_snoc ps piece)) (t (all_of ps) (fed_reads f))

-- Whatever pieces the input comes in, what is printed at its end is what is printed of all of it.
pub pieces_printed : (ps : List (List ℕ)) (stage : Stage) (w : List ℕ) (p : Program) (state : State) (r l m : List Float) (c ring out : List ℕ)
    → Fed ps stage w p (run_of state r l m c ring) → Finished stage w state ring out → Prints (all_of ps) out
pieces_printed ps stage w p state r l m c ring out f e = e (all_of ps) p r l m c (fed_reads f)
