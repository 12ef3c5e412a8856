-- The rounds that fill the heights, as steps: from entry to entry of Table 3, the last one first, and from round to round. Assumes nothing.
use mathlib.Core.Path.{◌≡◌, refl, sym, ap, ◌∙◌, subst}
use Prim.Native.Nat.{ℕ, suc, ◌+◌, ◌≤◌, ◌<◌}
use native.Mathlib.Omega.{arith}
use native.Mathlib.Numerals.{add-one}
use mathlib.Core.Bool.{Bool, true, false, ◌||◌}
use mathlib.Core.Logic.{inl, inr}
use mathlib.Core.List.{List, [], ◌∷◌}
use mathlib.Core.Option.{none, some}
use lib.ListN.{length, get_or, set, drop, drop_of_length-le}
use lib.Seq.{drop-cons}
use lib.Dec.{leb}
use borrow.Author.Tests.{lt-leb}
use Rattle.base_program.specs.declared.Flow.{Flow}
use Rattle.base_program.specs.declared.Instruction.{Instruction}
use Rattle.base_program.specs.declared.Program.{Program}
use Rattle.base_program.specs.declared.Table.TheVariants.{Three}
use Rattle.base_program.specs.Flow.{flow, call_of}
use Rattle.base_program.specs.Entries.{entries}
use Rattle.spec_check.specs.Blocks.{label}
use Rattle.spec_check.specs.Calls.{up_to_end, body, any_call}
use Rattle.record_codes.specs.Kinds.{none_some}
use Rattle.proof_check.specs.Labels.{found, Placed, placed, absent, label_place}
use Rattle.record_codes.specs.Loaded.{decode}
use Rattle.check_subroutines.specs.Listed.{Uncalling, ListedCalls, to_next, to_start}
use Rattle.check_chains.specs.Chains.{ChainsReady, HeightOf, HeightsAre, Higher, Raised, Tells, until_label, call_holds}
use Rattle.check_chains.specs.Between.{body_between, until_call, until_label_lem}
use Rattle.check_chains.specs.Heights.{begins, Raising, round_starts, round_ends, none_begins, not_raised, raised_one, no_heights}

one_of : {a b : ℕ} → some a ≡ some b → a ≡ b
one_of e = cc

or_comm : (a b : Bool) → a || b ≡ b || a
or_comm true true = refl
or_comm true false = refl
or_comm false true = refl
or_comm false false = refl

-- ---- where subroutines begin

module _ (p : Program) where
  -- there, the entry has its number
  there : (k e : ℕ) → begins p k ≡ e + 1 → label (flow (get_or (entries p Three) e Instruction.End)) ≡ some k
  there k e q = (found k 1 e (entries p Three) (omega arith) (q ∙ omega arith)).has_label

  within : (j : ℕ) → begins p j ≤ length (entries p Three)
  within j = by (placed j 1 (entries p Three))
    where
      by : Placed 1 (length (entries p Three)) (label_place j 1 (entries p Three)) → label_place j 1 (entries p Three) ≤ length (entries p Three)
      by (inl e) = omega arith
      by (inr e) = let a : label_place j 1 (entries p Three) ≡ 1 + e.0 = e.1 in let b : e.0 < length (entries p Three) = e.2 in omega arith

  nowhere : (j : ℕ) → begins p j ≡ 0 → body p j ≡ []
  unfolding body up_to_end
  nowhere j z = ap (up_to_end 0) (absent j 1 (entries p Three) (omega arith) z)

-- ---- a round

-- Before entry e, from the last one down: `most` is what the calls from there to the next 85 give.
pub record AtRound (codes : List ℕ) (n : ℕ) (first l : List ℕ) (e most : ℕ) (raised : Bool) : Type 0 where
  pub low : most ≤ 7
  pub ahead : (p : Program) → ChainsReady p codes n → (g : ℕ → Bool) (s : ℕ) → s < 7 → Tells l s g → leb (suc s) most ≡ any_call g (until_label (drop e (entries p Three)))
  pub left : (p : Program) (m : ℕ) → m < 7 → ChainsReady p codes n → HeightsAre p m first → Raising p m l e raised

module _ (codes : List ℕ) (n : ℕ) (first : List ℕ) where
  pub round_begins : AtRound codes n first first n 0 false
  unfolding until_label any_call
  round_begins = record {
    low = omega arith;
    ahead = λ p r g s w t.
        lt-leb (suc s) 0 (omega arith)
        ∙ sym (ap (λ x. any_call g (until_label x)) (drop_of_length-le (entries p Three) {i = n} (omega (arith, r.length_is))));
    left = λ p m w r h. round_starts p m first n (λ j. let g : begins p j ≤ length (entries p Three) = within p j in omega (arith, r.length_is)) h;
  }

  module _ (l : List ℕ) (most : ℕ) (raised : Bool) where
    pub round_done : AtRound codes n first l 0 most raised → (p : Program) (m : ℕ) → m < 7 → ChainsReady p codes n → HeightsAre p m first → Raised p m l raised
    round_done a p m w r h = round_ends p m l raised (nowhere p) w (a.left p m w r h)

    module _ (e : ℕ) (small : e < n) (a : AtRound codes n first l (e + 1) most raised) where
      abbrev this : Program → Instruction
      this p = get_or (entries p Three) e Instruction.End

      abbrev code : ℕ
      code = get_or codes (198 + e) 0

      module _ (p : Program) (r : ChainsReady p codes n) where
        in_table : e < length (entries p Three)
        in_table = omega (arith, r.length_is)

        kind_is : flow (this p) ≡ decode code
        kind_is = sym (r.flows_are Three e in_table)

        -- with the entry, those from it on
        from_here : this p ∷ drop (e + 1) (entries p Three) ≡ drop e (entries p Three)
        from_here = ap (λ j. this p ∷ drop j (entries p Three)) (add-one e) ∙ sym (drop-cons (entries p Three) e Instruction.End in_table)

      -- an entry that is no 85
      module _ (unlabelled : label (decode code) ≡ none) where
        beside : (p : Program) (m : ℕ) → m < 7 → ChainsReady p codes n → HeightsAre p m first → Raising p m l e raised
        beside p m w r h =
            none_begins p m l e raised (a.left p m w r h)
            (λ j z. none_some (sym (ap label (kind_is p r) ∙ unlabelled) ∙ there p j e z))

        -- the calls from it on
        calls : (p : Program) → ChainsReady p codes n → (g : ℕ → Bool)
            → call_holds g (call_of (decode code)) || any_call g (until_label (drop (e + 1) (entries p Three))) ≡ any_call g (until_label (drop e (entries p Three)))
        calls p r g =
            ap (λ y. call_holds g (call_of y) || any_call g (until_label (drop (e + 1) (entries p Three)))) (sym (kind_is p r))
            ∙ sym (until_call g (this p) (drop (e + 1) (entries p Three)) (ap label (kind_is p r) ∙ unlabelled))
            ∙ ap (λ x. any_call g (until_label x)) (from_here p r)

        pub round_passed : call_of (decode code) ≡ none → AtRound codes n first l e most raised
        round_passed q = record {
          low = a.low;
          ahead = λ p r g s w t.
              a.ahead p r g s w t
              ∙ ap (λ o. call_holds g o || any_call g (until_label (drop (e + 1) (entries p Three)))) (sym q)
              ∙ calls p r g;
          left = beside;
        }

        pub round_called : (k : ℕ) → k < 256 → decode code ≡ Flow.Call k → (most' : ℕ) → Higher (λ s. leb s (get_or l k 0)) most most' → AtRound codes n first l e most' raised
        unfolding call_of
        round_called k b q most' higher = record {
          low = higher.low;
          ahead = λ p r g s w t.
              higher.told s w
              ∙ ap (λ b. leb (suc s) most || b) (t k b)
              ∙ ap (λ b. b || g k) (a.ahead p r g s w t)
              ∙ or_comm (any_call g (until_label (drop (e + 1) (entries p Three)))) (g k)
              ∙ ap (λ y. call_holds g (call_of y) || any_call g (until_label (drop (e + 1) (entries p Three)))) (sym q)
              ∙ calls p r g;
          left = beside;
        }

      -- an 85
      module _ (k : ℕ) (q : decode code ≡ Flow.Subroutine k) where
        labelled : (p : Program) → ChainsReady p codes n → label (flow (this p)) ≡ some k
        unfolding label
        labelled p r = ap label (kind_is p r ∙ q)

        alone : (p : Program) → ChainsReady p codes n → (j : ℕ) → begins p j ≡ e + 1 → j ≡ k
        alone p r j z = one_of (sym (there p j e z) ∙ labelled p r)

        taken : (p : Program) → ChainsReady p codes n → HeightOf p l k most
        taken p r = record {
          low = a.low;
          told = λ g s w t.
              a.ahead p r g s w t
              ∙ ap (λ j. any_call g (until_label (drop j (entries p Three)))) (add-one e)
              ∙ ap (any_call g) (sym (body_between p r.blocks e k (in_table p r) (labelled p r)));
        }

        -- the calls before it are those of another subroutine
        anew : (p : Program) → ChainsReady p codes n → (g : ℕ → Bool) (s : ℕ) → leb (suc s) 0 ≡ any_call g (until_label (drop e (entries p Three)))
        unfolding any_call
        anew p r g s =
            lt-leb (suc s) 0 (omega arith)
            ∙ ap (any_call g) (sym (until_label_lem (this p) (drop (e + 1) (entries p Three)) k (kind_is p r ∙ q)) ∙ ap until_label (from_here p r))

        pub round_kept : get_or l k 0 ≡ most → AtRound codes n first l e 0 raised
        round_kept same = record {
          low = omega arith;
          ahead = λ p r g s w t. anew p r g s;
          left = λ p m w r h. not_raised p m l e raised (a.left p m w r h) w k (alone p r) most (taken p r) same;
        }

        pub round_raised : k < length l → AtRound codes n first (set l k most) e 0 true
        round_raised inside = record {
          low = omega arith;
          ahead = λ p r g s w t. anew p r g s;
          left = λ p m w r h. raised_one p m l e raised (a.left p m w r h) w k (alone p r) most (taken p r) inside;
        }

-- ---- over the list

module _ (codes list : List ℕ) (k : ℕ) (listed : ListedCalls codes list k) (first l : List ℕ) (most : ℕ) (raised : Bool) where
  At : ℕ → Type 0
  At e = AtRound codes (get_or list 0 0) first l e most raised

  on : (x : ℕ) → x < get_or list 0 0 → Uncalling (get_or codes (198 + x) 0) → At (x + 1) → At x
  unfolding At
  on x h u a = round_passed codes (get_or list 0 0) first l most raised x h a u.0 u.1

  -- to the next place
  pub round_next : (i : ℕ) → i < k → AtRound codes (get_or list 0 0) first l (get_or list i 0) most raised
      → AtRound codes (get_or list 0 0) first l (get_or list (i + 1) 0 + 1) most raised
  unfolding At
  round_next i h a = to_next codes list k listed At on i h a

  pub round_over : AtRound codes (get_or list 0 0) first l (get_or list k 0) most raised
      → (p : Program) (m : ℕ) → m < 7 → ChainsReady p codes (get_or list 0 0) → HeightsAre p m first → Raised p m l raised
  unfolding At
  round_over a = round_done codes (get_or list 0 0) first l most raised (to_start codes list k listed At on a)

-- ---- the rounds

-- The heights are right up to `rounds` calls.
pub record AtFill (codes : List ℕ) (n rounds : ℕ) (l : List ℕ) : Type 0 where
  pub left : (p : Program) → ChainsReady p codes n → HeightsAre p rounds l

module _ (codes : List ℕ) (n : ℕ) where
  pub fill_begins : (l : List ℕ) → ((k : ℕ) → get_or l k 0 ≡ 0) → AtFill codes n 0 l
  fill_begins l z = record { left = λ p r. no_heights p l z }

  pub fill_ends : (l : List ℕ) (rounds : ℕ) → rounds ≡ 7 → AtFill codes n rounds l → (p : Program) → ChainsReady p codes n → HeightsAre p 7 l
  fill_ends l rounds e a p r = subst (λ m. HeightsAre p m l) e (a.left p r)

  module _ (l l' : List ℕ) (rounds : ℕ) (raised : Bool) (a : AtFill codes n rounds l) (few : rounds < 7)
      (done : (p : Program) (m : ℕ) → m < 7 → ChainsReady p codes n → HeightsAre p m l → Raised p m l' raised) where
    pub fill_on : AtFill codes n (rounds + 1) l'
    fill_on = record { left = λ p r. subst (λ m. HeightsAre p m l') (sym (add-one rounds)) (done p rounds few r (a.left p r)).heights_are }

    pub fill_stops : raised ≡ false → (p : Program) → ChainsReady p codes n → HeightsAre p 7 l'
    fill_stops e p r = (done p rounds few r (a.left p r)).stopped e
