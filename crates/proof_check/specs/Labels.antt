-- The first place of an 85 with a number: the entries behind it, and whether one stands among or before entries. Assumes nothing.
use Rattle.std.specs.Prelude.{◌≡◌, refl, ℕ, zero, suc, ◌+◌, ◌-◌, ◌≤◌, ◌<◌, Bool, true, false, cond, not, ◌&&◌, ◌||◌, ◌⊎◌, List, [], ◌∷◌, length, get_or, take, drop, ltb, eqb}
use Rattle.std.proofs.Common.{sym, ap, ◌∙◌, arith, inl, inr, ⊎_elim, eqb-true, lt-ltb, le-ltb, ne_eqb}
use Rattle.std.proofs.Math.Option.{Option, none, some}
use Rattle.base_program.specs.declared.Instruction.{Instruction}
use Rattle.base_program.specs.Flow.{flow}
use Rattle.spec_check.specs.Blocks.{label, same, label_before}
use Rattle.spec_check.specs.Calls.{behind}

-- the place of the first 85 with number k among entries that are counted from e on; 0 with none
unfoldable pub label_place : ℕ → ℕ → List Instruction → ℕ
unfolding label
label_place k e [] = 0
label_place k e (i ∷ r) = cond (same (some k) (label (flow i))) e (label_place k (e + 1) r)

-- ---- the entries behind it

pub record LabelFound (k e : ℕ) (l : List Instruction) : Type 0 where
  pub entries_behind : behind k l ≡ drop (suc e) l
  pub within : e < length l
  pub has_label : label (flow (get_or l e Instruction.End)) ≡ some k

-- no 85 has the number, or one of the entries is the first
abbrev pub Placed : ℕ → ℕ → ℕ → Type 0
Placed s n place = (place ≡ 0) ⊎ ((e : ℕ) × (place ≡ s + e) × (e < n))

pub placed : (k s : ℕ) (l : List Instruction) → Placed s (length l) (label_place k s l)
unfolding label_place
placed k s [] = inl refl
placed k s (i ∷ r) = by (same (some k) (label (flow i))) (placed k (s + 1) r)
  where
    by : (b : Bool) → Placed (s + 1) (length r) (label_place k (s + 1) r) → Placed s (suc (length r)) (cond b s (label_place k (s + 1) r))
    by true h = inr (0, omega arith, omega arith)
    by false (inl e) = inl e
    by false (inr e) = inr (suc e.0, (let g : label_place k (s + 1) r ≡ s + 1 + e.0 = e.1 in omega arith), (let g : e.0 < length r = e.2 in omega arith))

labelled : (k : ℕ) (o : Option ℕ) → same (some k) o ≡ true → o ≡ some k
labelled k none h = absurd (let z : ◌≡◌ {A = ℕ} 0 1 = ap (λ c. cond c 1 0) h in omega arith)
labelled k (some j) h = ap some (sym (eqb-true k j h))

pub found : (k s e : ℕ) (l : List Instruction) → 0 < s → label_place k s l ≡ s + e → LabelFound k e l
unfolding label_place behind
found k s e [] p h = absurd (omega arith)
found k s zero (i ∷ r) p h = by (same (some k) (label (flow i))) refl h
  where
    by : (b : Bool) → same (some k) (label (flow i)) ≡ b → cond b s (label_place k (s + 1) r) ≡ s + zero → LabelFound k zero (i ∷ r)
    by true q g =
        record { entries_behind = ap (λ b. cond b r (behind k r)) q; within = omega arith; has_label = labelled k (label (flow i)) q }
    by false q g = absurd (⊎_elim (λ z. let y : s + zero ≡ 0 = sym g ∙ z in omega arith) (λ z. let y : s + zero ≡ s + 1 + z.0 = sym g ∙ z.1 in omega arith) (placed k (s + 1) r))
found k s (suc e) (i ∷ r) p h = by (same (some k) (label (flow i))) refl h (λ q. found k (s + 1) e r (omega arith) q)
  where
    by : (b : Bool) → same (some k) (label (flow i)) ≡ b → cond b s (label_place k (s + 1) r) ≡ s + suc e
        → (label_place k (s + 1) r ≡ s + 1 + e → LabelFound k e r)
        → LabelFound k (suc e) (i ∷ r)
    by true q g ih = absurd (omega arith)
    by false q g ih =
        let z : LabelFound k e r = ih (g ∙ omega arith) in
        record {
          entries_behind = ap (λ b. cond b r (behind k r)) q ∙ z.entries_behind;
          within = let y : e < length r = z.within in omega arith;
          has_label = z.has_label;
        }

pub absent : (k s : ℕ) (l : List Instruction) → 0 < s → label_place k s l ≡ 0 → behind k l ≡ []
unfolding label_place behind
absent k s [] p h = refl
absent k s (i ∷ r) p h = by (same (some k) (label (flow i))) h (λ q. absent k (s + 1) r (omega arith) q)
  where
    by : (b : Bool) → cond b s (label_place k (s + 1) r) ≡ 0 → (label_place k (s + 1) r ≡ 0 → behind k r ≡ []) → cond b r (behind k r) ≡ []
    by true g ih = absurd (omega arith)
    by false g ih = ih g

-- no 85 has the number, or its entries begin behind its place
abbrev pub Behind : ℕ → List Instruction → List Instruction → ℕ → Type 0
Behind e l b place = ((place ≡ 0) × (b ≡ [])) ⊎ ((e ≤ place) × (b ≡ drop (place + 1 - e) l))

pub behind_place : (k e : ℕ) (l : List Instruction) → 0 < e → Behind e l (behind k l) (label_place k e l)
behind_place k e l h = ⊎_elim (λ z. inl (z, absent k e l h z)) (λ z. inr (at z.0 z.1)) (placed k e l)
  where
    at : (j : ℕ) → label_place k e l ≡ e + j → (e ≤ label_place k e l) × (behind k l ≡ drop (label_place k e l + 1 - e) l)
    at j q = (omega arith, (found k e j l h q).entries_behind ∙ ap (λ n. drop n l) (let g : suc j ≡ label_place k e l + 1 - e = omega arith in g))

-- ---- whether there is one

-- it stands among entries exactly where its place is not 0
pub not_label_before_lem : (k e : ℕ) (l : List Instruction) → 0 < e → not (label_before (some k) l) ≡ eqb (label_place k e l) 0
unfolding label_before label_place
not_label_before_lem k e [] h = refl
not_label_before_lem k e (i ∷ r) h = by (same (some k) (label (flow i))) (not_label_before_lem k (e + 1) r (omega arith))
  where
    by : (b : Bool) → not (label_before (some k) r) ≡ eqb (label_place k (e + 1) r) 0 → not (b || label_before (some k) r) ≡ eqb (cond b e (label_place k (e + 1) r)) 0
    by true g = sym (ne_eqb e 0 (λ z. omega arith))
    by false g = g

-- ---- whether one stands before an entry: its first place is smaller

-- 0, or from s on
first_place : (k s : ℕ) (l : List Instruction) → (label_place k s l ≡ 0) ⊎ (s ≤ label_place k s l)
first_place k s l = ⊎_elim inl (λ e. inr (let q : label_place k s l ≡ s + e.0 = e.1 in omega arith)) (placed k s l)

abbrev earlier : ℕ → ℕ → Bool
earlier e f = ltb 0 f && ltb f e

earlier_zero : (e f : ℕ) → f ≡ 0 → false ≡ earlier e f
earlier_zero e f h = sym (ap (λ b. b && ltb f e) (le-ltb 0 f (omega arith)))

earlier_late : (e f : ℕ) → e ≤ f → 0 < e → false ≡ earlier e f
earlier_late e f h p = sym (ap (λ b. b && ltb f e) (lt-ltb 0 f (omega arith)) ∙ le-ltb f e h)

earlier_yes : (e f : ℕ) → 0 < f → f < e → true ≡ earlier e f
earlier_yes e f h p = sym (ap (λ b. b && ltb f e) (lt-ltb 0 f h) ∙ lt-ltb f e p)

pub label_before_place_lem : (k s e : ℕ) (l : List Instruction) → 0 < s → label_before (some k) (take e l) ≡ earlier (s + e) (label_place k s l)
unfolding label_before label_place
label_before_place_lem k s zero [] p = earlier_zero (s + zero) 0 refl
label_before_place_lem k s (suc e) [] p = earlier_zero (s + suc e) 0 refl
label_before_place_lem k s zero (i ∷ r) p = by (same (some k) (label (flow i))) (first_place k (s + 1) r)
  where
    by : (b : Bool) → (label_place k (s + 1) r ≡ 0) ⊎ (s + 1 ≤ label_place k (s + 1) r) → false ≡ earlier (s + zero) (cond b s (label_place k (s + 1) r))
    by true h = earlier_late (s + zero) s (omega arith) (omega arith)
    by false (inl h) = earlier_zero (s + zero) (label_place k (s + 1) r) h
    by false (inr h) = earlier_late (s + zero) (label_place k (s + 1) r) (omega arith) (omega arith)
label_before_place_lem k s (suc e) (i ∷ r) p = by (same (some k) (label (flow i))) (label_before_place_lem k (s + 1) e r (omega arith))
  where
    by : (b : Bool) → label_before (some k) (take e r) ≡ earlier (s + 1 + e) (label_place k (s + 1) r)
        → (b || label_before (some k) (take e r)) ≡ earlier (s + suc e) (cond b s (label_place k (s + 1) r))
    by true h = earlier_yes (s + suc e) s p (omega arith)
    by false h = h ∙ ap (λ n. earlier n (label_place k (s + 1) r)) (let g : s + 1 + e ≡ s + suc e = omega arith in g)
