-- What calls add, one subroutine after another, in rounds from the last one up. Assumes nothing.
use Rattle.std.specs.Prelude.{◌≡◌, refl, Bool, true, false, ◌||◌, ◌⊎◌, List, [], ◌∷◌, drop, set, leb, ltb, eqb}
use Rattle.std.proofs.Common.{sym, ◌∙◌, subst, add-one, get_or-set_same, get_or-set_other}
use Rattle.std.proofs.Math.Path.{ap}
use Prim.Native.Nat.{ℕ, zero, suc, ◌+◌, ◌%◌, ◌≤◌, ◌<◌}
use native.Mathlib.Omega.{arith}
use Rattle.std.proofs.Math.Logic.{inl, inr}
use Rattle.std.proofs.Math.Option.{Option, none, some}
use Rattle.std.proofs.Math.ListN.{length, get_or}
use borrow.Author.Tests.{eq-eqb, eqb-true, eqb-false, leb-false, lt-leb, lt-ltb, ltb-true, ltb-false}
use Rattle.base_program.specs.declared.Instruction.{Instruction}
use Rattle.base_program.specs.declared.Program.{Program}
use Rattle.base_program.specs.declared.Table.TheVariants.{Three}
use Rattle.base_program.specs.Flow.{flow, call_of}
use Rattle.base_program.specs.Entries.{entries}
use Rattle.spec_check.specs.Blocks.{label}
use Rattle.spec_check.specs.Calls.{behind, up_to_end, body, chain}
use Rattle.spec_check.specs.Counts.{count, counts, call_count, top}
use Rattle.record_codes.specs.Kinds.{none_some, call_small, sub_code}
use Rattle.proof_check.specs.Labels.{found, Placed, placed, absent, label_place}
use Rattle.record_codes.specs.Loaded.{decode, SubsAre}
use Rattle.check_count.specs.Saturate.{sat}
use Rattle.check_count.specs.Ready.{added, FlowsIn}
use Rattle.proof_check.specs.CallLaws.{OnCall, AllCalls, all_calls, both_calls, no_call_lem, calls_behind, calls_to_end, count_to_end}
use Rattle.check_counts.specs.Calls.{one_level, count_alike}

-- ---- called numbers are below 256

pub calls_small : (codes : List ℕ) (base : ℕ) (l : List Instruction) → FlowsIn codes base l → AllCalls (λ j. j < 256) l
calls_small codes base [] f = tt
calls_small codes base (i ∷ r) f = (on (call_of (flow i)) refl, calls_small codes (base + 1) r later)
  where
    on : (o : Option ℕ) → call_of (flow i) ≡ o → OnCall (λ j. j < 256) (call_of (flow i))
    on none e = rw e tt
    on (some j) e = rw e (call_small (get_or codes (base + 0) 0) j (ap call_of (f 0 (omega arith)) ∙ e))

    later : FlowsIn codes (base + 1) r
    later e h = ap (λ n. decode (get_or codes n 0)) (let g : base + 1 + e ≡ base + suc e = omega arith in g) ∙ f (suc e) (omega arith)

-- ---- calls of the entries from a place on

all_at : (P : ℕ → Type 0) (l : List Instruction) → ((x : ℕ) → x < length l → OnCall P (call_of (flow (get_or l x Instruction.End)))) → AllCalls P l
all_at P [] f = tt
all_at P (i ∷ r) f = (f 0 (omega arith), all_at P r (λ x h. f (suc x) (omega arith)))

calls_from_lem : (P : ℕ → Type 0) (l : List Instruction) (n : ℕ) → ((x : ℕ) → n ≤ x → x < length l → OnCall P (call_of (flow (get_or l x Instruction.End)))) → AllCalls P (drop n l)
calls_from_lem P l zero f = all_at P l (λ x h. f x (omega arith) h)
calls_from_lem P [] (suc n) f = tt
calls_from_lem P (i ∷ r) (suc n) f = calls_from_lem P r n (λ x u v. f (suc x) (omega arith) (omega arith))

one_of : {a b : ℕ} → some a ≡ some b → a ≡ b
one_of e = cc

-- ---- what is known on the way

pub record SubsReady (p : Program) (codes : List ℕ) (n : ℕ) (subs heights : List ℕ) : Type 0 where
  pub flows_are : FlowsIn codes 198 (entries p Three)
  pub length_is : length (entries p Three) ≡ n
  pub subs_are : SubsAre p subs
  pub heights_are : (k : ℕ) → k < 256 → (s : ℕ) → s ≤ 7 → leb s (get_or heights k 0) ≡ chain p s k
  pub short : (k : ℕ) → k < 256 → get_or heights k 0 ≤ 6

-- an 85's number, by its code
pub labelled_code : (c : ℕ) → 393216 ≤ c → c < 458752 → label (decode c) ≡ some (c % 256)
unfolding label
labelled_code c low high = ap label (sub_code c low high)

-- what a call of k adds is counted
abbrev pub Exact : Program → List ℕ → ℕ → Type 0
Exact p adds k = get_or adds k 0 ≡ sat (call_count p 7 k)

-- it is for all of these
abbrev pub CountedBy : Program → List ℕ → (ℕ → Bool) → Type 0
CountedBy p adds f = (k : ℕ) → k < 256 → f k ≡ true → Exact p adds k

-- counted before, or it is to be counted and begins behind entry e
abbrev pub Done : (ℕ → Bool) → (ℕ → Bool) → List ℕ → ℕ → ℕ → Type 0
Done before after subs e k = (before k ≡ true) ⊎ ((after k ≡ true) × (e < get_or subs k 0))

-- A round from the last entry up, over the subroutines with heights from low to high: whatever is counted after it was so before it, or begins and
-- has such a height; and its calls were counted before, or are of such as begin behind it.
pub record CountRule (p : Program) (subs heights : List ℕ) (low high : ℕ) (before after : ℕ → Bool) : Type 0 where
  pub reached : (k : ℕ) → k < 256 → after k ≡ true → (before k ≡ true) ⊎ ((low ≤ get_or heights k 0) × (get_or heights k 0 ≤ high) × (0 < get_or subs k 0))
  pub sooner : (k : ℕ) → before k ≡ true → after k ≡ true
  pub calls : (j e : ℕ) → j < 256 → after j ≡ true → get_or subs j 0 ≡ e + 1 → AllCalls (Done before after subs (e + 1)) (body p j)

-- before entry e, from the last one down; the round began with `first`
pub record AtCount (codes : List ℕ) (n : ℕ) (subs heights : List ℕ) (low high : ℕ) (first adds : List ℕ) (e : ℕ) : Type 0 where
  pub left : (p : Program) (before after : ℕ → Bool) → SubsReady p codes n subs heights → CountRule p subs heights low high before after
      → CountedBy p first before → (k : ℕ) → k < 256 → Done before after subs e k → Exact p adds k

module _ (p : Program) (codes : List ℕ) (n : ℕ) (subs heights : List ℕ) (ready : SubsReady p codes n subs heights) where
  -- no subroutine begins behind the last entry
  subs_most : (k : ℕ) → k < 256 → get_or subs k 0 ≤ n
  subs_most k m = subst (λ x. x ≤ n) (sym (ready.subs_are k m)) (by (placed k 1 (entries p Three)))
    where
      by : Placed 1 (length (entries p Three)) (label_place k 1 (entries p Three)) → label_place k 1 (entries p Three) ≤ n
      by (inl e) = omega arith
      by (inr e) = let a : label_place k 1 (entries p Three) ≡ 1 + e.0 = e.1 in let b : e.0 < length (entries p Three) = e.2 in let c : length (entries p Three) ≡ n = ready.length_is in omega arith

  -- the label of entry e, where a subroutine begins there
  label_there : (e k : ℕ) → k < 256 → get_or subs k 0 ≡ e + 1 → label (flow (get_or (entries p Three) e Instruction.End)) ≡ some k
  label_there e k m q = (found k 1 e (entries p Three) (omega arith) (sym (ready.subs_are k m) ∙ q ∙ omega arith)).has_label

  kind_there : (e : ℕ) → e < n → decode (get_or codes (198 + e) 0) ≡ flow (get_or (entries p Three) e Instruction.End)
  kind_there e h = ready.flows_are e (omega (arith, ready.length_is))

  -- one that does not begin adds nothing
  absent_none : (k : ℕ) → k < 256 → get_or subs k 0 ≡ 0 → sat (call_count p 7 k) ≡ 0
  unfolding call_count body up_to_end counts
  absent_none k m h = ap (λ l. sat (count (call_count p 6) (up_to_end 0 l))) (absent k 1 (entries p Three) (omega arith) (sym (ready.subs_are k m) ∙ h))

  -- what it counts, by what its calls add
  counted_here : (adds : List ℕ) (j e r : ℕ) → j < 256 → get_or subs j 0 ≡ e + 1 → AllCalls (Exact p adds) (body p j)
      → r ≡ sat (top (counts (added adds) (drop (e + 1) (entries p Three)))) → r ≡ sat (call_count p 7 j)
  unfolding body
  counted_here adds j e r low begins exact q =
      q
      ∙ ap (λ k. sat (top (counts (added adds) (drop k (entries p Three))))) (add-one e)
      ∙ ap (λ l. sat (top (counts (added adds) l))) (sym (found j 1 e (entries p Three) (omega arith) (sym (ready.subs_are j low) ∙ begins ∙ omega arith)).entries_behind)
      ∙ ap sat (count_to_end (added adds) (behind j (entries p Three)))
      ∙ one_level p (added adds) 6 j (omega arith)
      (sym (ready.heights_are j low 7 (omega arith)) ∙ lt-leb 7 (get_or heights j 0) (omega (arith, ready.short j low)))
      (all_calls (body p j) (λ i x c. x) exact)

  -- called numbers are below 256
  small_calls : (j : ℕ) → AllCalls (λ i. i < 256) (body p j)
  unfolding body
  small_calls j = calls_to_end (λ i. i < 256) 0 (behind j (entries p Three)) (calls_behind (λ i. i < 256) j (entries p Three) (calls_small codes 198 (entries p Three) ready.flows_are))

module _ (codes : List ℕ) (n : ℕ) (subs heights : List ℕ) (low high : ℕ) (first : List ℕ) where
  pub count_begins : AtCount codes n subs heights low high first first n
  count_begins = record { left = λ p before after ready rule counted k m d. by p before after ready counted k m d }
    where
      by : (p : Program) (before after : ℕ → Bool) → SubsReady p codes n subs heights → CountedBy p first before → (k : ℕ) → k < 256 → Done before after subs n k → Exact p first k
      by p before after ready counted k m (inl s) = counted k m s
      by p before after ready counted k m (inr d) = absurd (let g : get_or subs k 0 ≤ n = subs_most p codes n subs heights ready k m in omega (arith, g, d.1))

  pub count_over : (adds : List ℕ) → AtCount codes n subs heights low high first adds 0 → (p : Program) (before after : ℕ → Bool)
      → SubsReady p codes n subs heights → CountRule p subs heights low high before after → CountedBy p first before → CountedBy p adds after
  count_over adds a p before after ready rule counted k m d = by (rule.reached k m d)
    where
      by : (before k ≡ true) ⊎ ((low ≤ get_or heights k 0) × (get_or heights k 0 ≤ high) × (0 < get_or subs k 0)) → Exact p adds k
      by (inl s) = a.left p before after ready rule counted k m (inl s)
      by (inr s) = a.left p before after ready rule counted k m (inr (d, s.2))

  module _ (e : ℕ) (within : e < n) (adds : List ℕ) (a : AtCount codes n subs heights low high first adds (e + 1)) where
    -- an entry at which no subroutine of such a height begins
    skipped : ((p : Program) → SubsReady p codes n subs heights → (k : ℕ) → k < 256 → get_or subs k 0 ≡ e + 1 → low ≤ get_or heights k 0 → get_or heights k 0 ≤ high → ⊥)
        → AtCount codes n subs heights low high first adds e
    skipped other = record { left = λ p before after ready rule counted k m d. a.left p before after ready rule counted k m (by p before after ready rule k m d) }
      where
        by : (p : Program) (before after : ℕ → Bool) → SubsReady p codes n subs heights → CountRule p subs heights low high before after
            → (k : ℕ) → k < 256 → Done before after subs e k → Done before after subs (e + 1) k
        by p before after ready rule k m (inl s) = inl s
        by p before after ready rule k m (inr d) = at (eqb (get_or subs k 0) (e + 1)) refl (rule.reached k m d.0)
          where
            at : (b : Bool) → eqb (get_or subs k 0) (e + 1) ≡ b → (before k ≡ true) ⊎ ((low ≤ get_or heights k 0) × (get_or heights k 0 ≤ high) × (0 < get_or subs k 0))
                → Done before after subs (e + 1) k
            at b z (inl s) = inl s
            at true z (inr s) = absurd (other p ready k m (eqb-true (get_or subs k 0) (e + 1) z) s.0 s.1)
            at false z (inr s) = inr (d.0, (let y = eqb-false (get_or subs k 0) (e + 1) z in omega (arith, d.1)))

    pub skip_entry : label (decode (get_or codes (198 + e) 0)) ≡ none → AtCount codes n subs heights low high first adds e
    skip_entry q =
        skipped
        (λ p ready k m z u v. none_some (sym q ∙ ap label (kind_there p codes n subs heights ready e within) ∙ label_there p codes n subs heights ready e k m z))

    module _ (j : ℕ) (low_number : j < 256) (numbered : label (decode (get_or codes (198 + e) 0)) ≡ some j) where
      alone : (p : Program) → SubsReady p codes n subs heights → (k : ℕ) → k < 256 → get_or subs k 0 ≡ e + 1 → j ≡ k
      alone p ready k m z = one_of (sym numbered ∙ ap label (kind_there p codes n subs heights ready e within) ∙ label_there p codes n subs heights ready e k m z)

      pub skip_later : (get_or subs j 0 ≡ e + 1 → ⊥) → AtCount codes n subs heights low high first adds e
      skip_later apart = skipped (λ p ready k m z u v. apart (ap (λ i. get_or subs i 0) (alone p ready k m z) ∙ z))

      pub skip_height : (low ≤ get_or heights j 0 → get_or heights j 0 ≤ high → ⊥) → AtCount codes n subs heights low high first adds e
      skip_height apart =
          skipped (λ p ready k m z u v. let q : get_or heights j 0 ≡ get_or heights k 0 = ap (λ i. get_or heights i 0) (alone p ready k m z) in apart (omega arith) (omega arith))

      pub count_entry_lem : get_or subs j 0 ≡ e + 1 → (r : ℕ) → length adds ≡ 256
          → ((p : Program) → SubsReady p codes n subs heights → r ≡ sat (top (counts (added adds) (drop (e + 1) (entries p Three)))))
          → AtCount codes n subs heights low high first (set adds j r) e
      count_entry_lem begins r size counts_it = record { left = λ p before after ready rule counted k m d. by p before after ready rule counted k m d (eqb k j) refl }
        where
          exact : (p : Program) (before after : ℕ → Bool) → SubsReady p codes n subs heights → CountRule p subs heights low high before after → CountedBy p first before
              → after j ≡ true → r ≡ sat (call_count p 7 j)
          exact p before after ready rule counted d =
              counted_here p codes n subs heights ready adds j e r low_number begins
              (all_calls (body p j) (λ i x. a.left p before after ready rule counted i x.0 x.1)
              (both_calls (λ i. i < 256) (Done before after subs (e + 1)) (body p j) (small_calls p codes n subs heights ready j) (rule.calls j e low_number d begins)))
              (counts_it p ready)

          asked : (p : Program) (before after : ℕ → Bool) → CountRule p subs heights low high before after → (k : ℕ) → Done before after subs e k → after k ≡ true
          asked p before after rule k (inl s) = rule.sooner k s
          asked p before after rule k (inr d) = d.0

          rest : (p : Program) (before after : ℕ → Bool) → SubsReady p codes n subs heights → (k : ℕ) → k < 256 → (k ≡ j → ⊥) → Done before after subs e k → Done before after subs (e + 1) k
          rest p before after ready k m ne (inl s) = inl s
          rest p before after ready k m ne (inr d) = inr (d.0, late (eqb (get_or subs k 0) (e + 1)) refl)
            where
              late : (b : Bool) → eqb (get_or subs k 0) (e + 1) ≡ b → e + 1 < get_or subs k 0
              late true z = absurd (ne (sym (alone p ready k m (eqb-true (get_or subs k 0) (e + 1) z))))
              late false z = let y = eqb-false (get_or subs k 0) (e + 1) z in omega (arith, d.1)

          by : (p : Program) (before after : ℕ → Bool) → SubsReady p codes n subs heights → CountRule p subs heights low high before after → CountedBy p first before
              → (k : ℕ) → k < 256 → Done before after subs e k → (b : Bool) → eqb k j ≡ b → Exact p (set adds j r) k
          by p before after ready rule counted k m d true z =
              let q : k ≡ j = eqb-true k j z in
              ap (λ x. get_or (set adds j r) x 0) q ∙ get_or-set_same adds j r 0 (omega arith)
              ∙ exact p before after ready rule counted (ap after (sym q) ∙ asked p before after rule k d)
              ∙ ap (λ x. sat (call_count p 7 x)) (sym q)
          by p before after ready rule counted k m d false z =
              get_or-set_other adds j k r 0 (eqb-false k j z)
              ∙ a.left p before after ready rule counted k m (rest p before after ready k m (eqb-false k j z) d)

-- ---- the rounds

-- those that do not begin, and those with a height below h
abbrev pub lower : List ℕ → List ℕ → ℕ → ℕ → Bool
lower subs heights h k = eqb (get_or subs k 0) 0 || ltb (get_or heights k 0) h

-- no call of Table 3 leads back: each is of a subroutine that begins behind it
abbrev pub OnlyAhead : List ℕ → ℕ → List ℕ → ℕ → Type 0
OnlyAhead codes n subs from = (e k : ℕ) → from ≤ e → e < n → call_of (decode (get_or codes (198 + e) 0)) ≡ some k → e + 1 < get_or subs k 0

lower_cases : (subs heights : List ℕ) (h k : ℕ) → lower subs heights h k ≡ true → (get_or subs k 0 ≡ 0) ⊎ (get_or heights k 0 < h)
lower_cases subs heights h k = by (eqb (get_or subs k 0) 0) refl (ltb (get_or heights k 0) h) refl
  where
    by : (a : Bool) → eqb (get_or subs k 0) 0 ≡ a → (b : Bool) → ltb (get_or heights k 0) h ≡ b → a || b ≡ true → (get_or subs k 0 ≡ 0) ⊎ (get_or heights k 0 < h)
    by true p b q z = inl (eqb-true (get_or subs k 0) 0 p)
    by false p true q z = inr (ltb-true (get_or heights k 0) h q)
    by false p false q z = absurd (let y : ◌≡◌ {A = ℕ} 0 1 = cc in omega arith)

lower_absent : (subs heights : List ℕ) (h k : ℕ) → get_or subs k 0 ≡ 0 → lower subs heights h k ≡ true
lower_absent subs heights h k q = ap (λ b. b || ltb (get_or heights k 0) h) (eq-eqb (get_or subs k 0) 0 q)

lower_height : (subs heights : List ℕ) (h k : ℕ) → get_or heights k 0 < h → lower subs heights h k ≡ true
lower_height subs heights h k q = by (eqb (get_or subs k 0) 0)
  where
    by : (b : Bool) → b || ltb (get_or heights k 0) h ≡ true
    by true = refl
    by false = lt-ltb (get_or heights k 0) h q

module _ (p : Program) (codes : List ℕ) (n : ℕ) (subs heights : List ℕ) (ready : SubsReady p codes n subs heights) where
  pub none_counted : (adds : List ℕ) → ((k : ℕ) → get_or adds k 0 ≡ 0) → CountedBy p adds (lower subs heights 0)
  none_counted adds z k m s = by (lower_cases subs heights 0 k s)
    where
      by : (get_or subs k 0 ≡ 0) ⊎ (get_or heights k 0 < 0) → Exact p adds k
      by (inl q) = z k ∙ sym (absent_none p codes n subs heights ready k m q)
      by (inr q) = absurd (omega arith)

  pub all_counted : (adds : List ℕ) → CountedBy p adds (lower subs heights 7) → (k : ℕ) → k < 256 → get_or adds k 0 ≡ sat (call_count p 7 k)
  all_counted adds c k m = c k m (lower_height subs heights 7 k (omega (arith, ready.short k m)))

  reached_one : (low high k : ℕ) → lower subs heights (high + 1) k ≡ true
      → (lower subs heights low k ≡ true) ⊎ ((low ≤ get_or heights k 0) × (get_or heights k 0 ≤ high) × (0 < get_or subs k 0))
  reached_one low high k s = by (eqb (get_or subs k 0) 0) refl (ltb (get_or heights k 0) low) refl (lower_cases subs heights (high + 1) k s)
    where
      by : (a : Bool) → eqb (get_or subs k 0) 0 ≡ a → (b : Bool) → ltb (get_or heights k 0) low ≡ b → (get_or subs k 0 ≡ 0) ⊎ (get_or heights k 0 < high + 1)
          → (lower subs heights low k ≡ true) ⊎ ((low ≤ get_or heights k 0) × (get_or heights k 0 ≤ high) × (0 < get_or subs k 0))
      by a x b y (inl z) = inl (lower_absent subs heights low k z)
      by true x b y (inr z) = inl (lower_absent subs heights low k (eqb-true (get_or subs k 0) 0 x))
      by false x true y (inr z) = inl (lower_height subs heights low k (ltb-true (get_or heights k 0) low y))
      by false x false y (inr z) = inr (ltb-false (get_or heights k 0) low y, omega arith, (let w = eqb-false (get_or subs k 0) 0 x in omega arith))

  sooner_one : (low high k : ℕ) → low ≤ high → lower subs heights low k ≡ true → lower subs heights (high + 1) k ≡ true
  sooner_one low high k h s = by (lower_cases subs heights low k s)
    where
      by : (get_or subs k 0 ≡ 0) ⊎ (get_or heights k 0 < low) → lower subs heights (high + 1) k ≡ true
      by (inl q) = lower_absent subs heights (high + 1) k q
      by (inr q) = lower_height subs heights (high + 1) k (omega arith)

  -- of one height: its calls are of lower ones
  pub rule_level : (h : ℕ) → h ≤ 6 → CountRule p subs heights h h (lower subs heights h) (lower subs heights (h + 1))
  unfolding chain
  rule_level h small = record {
    reached = λ k m s. reached_one h h k s;
    sooner = λ k s. sooner_one h h k (omega arith) s;
    calls = λ j e m s q.
        all_calls (body p j) (λ i x. inl (lower_height subs heights h i (leb-false h (get_or heights i 0) (ready.heights_are i x.0 h (omega arith) ∙ x.1))))
        (both_calls (λ i. i < 256) (λ i. chain p h i ≡ false) (body p j) (small_calls p codes n subs heights ready j)
        (no_call_lem (chain p h) (body p j) (sym (ready.heights_are j m (suc h) (omega arith)) ∙ lt-leb (suc h) (get_or heights j 0) (low_one j e q (lower_cases subs heights (h + 1) j s)))));
  }
    where
      low_one : (j e : ℕ) → get_or subs j 0 ≡ e + 1 → (get_or subs j 0 ≡ 0) ⊎ (get_or heights j 0 < h + 1) → get_or heights j 0 < suc h
      low_one j e q (inl z) = absurd (omega arith)
      low_one j e q (inr z) = omega arith

  -- of all heights: its calls are of later ones
  pub rule_ahead : OnlyAhead codes n subs 0 → CountRule p subs heights 0 6 (lower subs heights 0) (lower subs heights (6 + 1))
  unfolding body
  rule_ahead ahead = record {
    reached = λ k m s. reached_one 0 6 k s;
    sooner = λ k s. sooner_one 0 6 k (omega arith) s;
    calls = λ j e m s q.
        all_calls (body p j) (λ i x. inr (lower_height subs heights 7 i (omega (arith, ready.short i x.0)), x.1))
        (both_calls (λ i. i < 256) (λ i. e + 1 < get_or subs i 0) (body p j) (small_calls p codes n subs heights ready j)
        (calls_to_end (λ i. e + 1 < get_or subs i 0) 0 (behind j (entries p Three))
        (subst (AllCalls (λ i. e + 1 < get_or subs i 0))
        (sym (found j 1 e (entries p Three) (omega arith) (sym (ready.subs_are j m) ∙ q ∙ omega arith)).entries_behind)
        (calls_from_lem (λ i. e + 1 < get_or subs i 0) (entries p Three) (suc e) (λ x u v. on e x u v (call_of (flow (get_or (entries p Three) x Instruction.End))) refl)))));
  }
    where
      on : (e x : ℕ) → suc e ≤ x → x < length (entries p Three) → (o : Option ℕ) → call_of (flow (get_or (entries p Three) x Instruction.End)) ≡ o → OnCall (λ i. e + 1 < get_or subs i 0) (call_of (flow (get_or (entries p Three) x Instruction.End)))
      on e x u v none q = rw q tt
      on e x u v (some k) q = rw q (omega (arith, u, ahead x k (omega arith) (omega (arith, ready.length_is)) (ap call_of (ready.flows_are x v) ∙ q)))

-- ---- a table

pub table_count : (p : Program) (codes : List ℕ) (base : ℕ) (l : List Instruction) (adds : List ℕ) → FlowsIn codes base l
    → ((k : ℕ) → k < 256 → get_or adds k 0 ≡ sat (call_count p 7 k))
    → sat (count (added adds) l) ≡ sat (count (call_count p 7) l)
table_count p codes base l adds f c =
    count_alike (added adds) (call_count p 7) l (all_calls l (λ j m. let q : get_or adds j 0 ≡ sat (call_count p 7 j) = c j m in omega arith) (calls_small codes base l f))
