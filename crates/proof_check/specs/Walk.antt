-- How a walk goes on from place to place: the first fault of the places left is that of all, as long as those passed had none.
-- Assumes nothing.
use Rattle.std.specs.Prelude.{◌≡◌, refl, ℕ, zero, suc, ◌+◌, ◌-◌, ◌*◌, ◌≤◌, ◌<◌, min, Bool, true, false, List, [], ◌∷◌, ◌++◌, length, get_or, take, drop, eqb}
use Rattle.std.proofs.Common.{sym, ◌∙◌, arith, add-one, drop_of_length-le, drop-cons, get_or-take, get_or-drop, ne_eqb}
use Rattle.std.proofs.Math.Path.{ap}
use Rattle.std.proofs.Math.Bool.{cond}
use Rattle.std.proofs.lemmas.List.{length-map}
use Rattle.std.proofs.Math.ListN.{get_or-map}
use Rattle.base_program.specs.declared.Finding.{Finding}
use Rattle.base_program.specs.declared.Program.{Program}
use Rattle.base_program.specs.declared.Table.{Table}
use Rattle.base_program.specs.declared.Table.TheVariants.{One, Two, Three}
use Rattle.base_program.specs.Reach.{numbers_from}
use Rattle.base_program.specs.Entries.{row, entries, table_at}
use Rattle.base_program.specs.Laws.{numbers_from_at_lem, numbers_from_length_lem}
use Rattle.spec_check.specs.Check.{JudgedPlace, judged, number, entry_places, first_of}

-- ---- the first fault of one walk and then another

abbrev pub or_else : Finding → Finding → Finding
or_else Finding.Clean g = g
or_else (Finding.Fault n t e) g = Finding.Fault n t e

pub first_append : (l r : List JudgedPlace) → first_of (l ++ r) ≡ or_else (first_of l) (first_of r)
unfolding first_of
first_append [] r = refl
first_append (j ∷ l) r = by (eqb j.fault 0) (first_append l r)
  where
    by : (b : Bool) → first_of (l ++ r) ≡ or_else (first_of l) (first_of r)
        → cond b (first_of (l ++ r)) (Finding.Fault j.fault j.table j.entry)
        ≡ or_else (cond b (first_of l) (Finding.Fault j.fault j.table j.entry)) (first_of r)
    by true h = h
    by false h = refl

-- ---- from place to place

abbrev pub nowhere : JudgedPlace
nowhere = judged 0 0 0

module _ (l r : List JudgedPlace) (k : ℕ) (within : k < length l) where
  next : drop k l ++ r ≡ get_or l k nowhere ∷ (drop (k + 1) l ++ r)
  next = ap (λ x. x ++ r) (drop-cons l k nowhere within ∙ ap (λ n. get_or l k nowhere ∷ drop n l) (sym (add-one k)))

  pub place_clean : (t e : ℕ) → get_or l k nowhere ≡ judged 0 t e → first_of (drop k l ++ r) ≡ first_of (drop (k + 1) l ++ r)
  unfolding first_of
  place_clean t e h = ap first_of (next ∙ ap (λ j. j ∷ (drop (k + 1) l ++ r)) h)

  pub place_faulty : (n t e : ℕ) → get_or l k nowhere ≡ judged n t e → (n ≡ 0 → ⊥) → first_of (drop k l ++ r) ≡ Finding.Fault n t e
  unfolding first_of
  place_faulty n t e h some =
      ap first_of (next ∙ ap (λ j. j ∷ (drop (k + 1) l ++ r)) h)
      ∙ ap (λ b. cond b (first_of (drop (k + 1) l ++ r)) (Finding.Fault n t e)) (ne_eqb n 0 some)

pub places_passed : (l r : List JudgedPlace) (k : ℕ) → length l ≤ k → drop k l ++ r ≡ r
places_passed l r k h = ap (λ x. x ++ r) (drop_of_length-le l {i = k} h)

-- ---- from table to table

-- the places of the tables from row t on
abbrev pub tables_from : (Table → List JudgedPlace) → ℕ → List JudgedPlace
tables_from f zero = f One ++ (f Two ++ f Three)
tables_from f (suc zero) = f Two ++ f Three
tables_from f (suc (suc zero)) = f Three
tables_from f (suc (suc (suc n))) = []

append_none : (l : List JudgedPlace) → l ≡ l ++ []
append_none [] = refl
append_none (j ∷ l) = ap (λ x. j ∷ x) (append_none l)

pub tables_next : (f : Table → List JudgedPlace) (t : ℕ) → t < 3 → tables_from f t ≡ f (table_at t) ++ tables_from f (t + 1)
tables_next f zero h = refl
tables_next f (suc zero) h = refl
tables_next f (suc (suc zero)) h = append_none (f Three)
tables_next f (suc (suc (suc n))) h = absurd (omega arith)

-- ---- the places of a table's entries

get_d_any : (l : List JudgedPlace) (k : ℕ) (a b : JudgedPlace) → k < length l → get_or l k a ≡ get_or l k b
get_d_any [] k a b h = absurd (omega arith)
get_d_any (j ∷ l) zero a b h = refl
get_d_any (j ∷ l) (suc k) a b h = get_d_any l k a b (omega arith)

module _ (judge : ℕ → ℕ) (p : Program) (t : Table) where
  pub entry_places_length : length (entry_places judge p t) ≡ length (entries p t)
  entry_places_length = length-map (numbers_from 1 (length (entries p t))) (λ e. judged (judge e) (number t) e) ∙ numbers_from_length_lem 1 (length (entries p t))

  pub entry_place : (k : ℕ) → k < length (entries p t) → get_or (entry_places judge p t) k nowhere ≡ judged (judge (1 + k)) (number t) (1 + k)
  entry_place k h =
      get_d_any (entry_places judge p t) k nowhere (judged (judge 0) (number t) 0) (omega (arith, entry_places_length))
      ∙ get_or-map (λ (e : ℕ). judged (judge e) (number t) e) (numbers_from 1 (length (entries p t))) k 0
      ∙ ap (λ (e : ℕ). judged (judge e) (number t) e) (numbers_from_at_lem 1 (length (entries p t)) k h)
