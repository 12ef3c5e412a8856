-- What a pass says of the entry between the entries `pre` and the rest of its table, by the blocks that are open behind `pre`. Assumes nothing.
use Rattle.std.specs.Prelude.{◌≡◌, refl, ℕ, ◌+◌, ◌-◌, ◌<◌, Bool, true, false, ◌&&◌, ◌||◌, get_or, take, ltb}
use Rattle.std.proofs.Common.{sym, ◌∙◌, arith, length-append}
use Rattle.std.proofs.Math.Path.{ap}
use Rattle.std.proofs.Math.Bool.{not}
use mathlib.Core.List.{List, [], ◌∷◌, ◌++◌}
use Rattle.std.proofs.Math.ListN.{length}
use Rattle.std.proofs.Math.Seq.{take-append_seam, get_or-append_seam}
use Rattle.std.proofs.Math.Dec.{leb}
use Rattle.base_program.specs.declared.Flow.{Flow}
use Rattle.base_program.specs.declared.Instruction.{Instruction}
use Rattle.base_program.specs.declared.Program.{Program}
use Rattle.base_program.specs.declared.Table.{Table}
use Rattle.base_program.specs.declared.Table.TheVariants.{Three}
use Rattle.base_program.specs.Flow.{flow, call_of}
use Rattle.base_program.specs.Entries.{entries, entry_at, first_sum}
use Rattle.base_program.specs.Reach.{locations, readings, sums}
use Rattle.spec_check.specs.Ranges.{in_range}
use Rattle.spec_check.specs.Blocks.{Block, blocks_after, before, is_none, inside_then, has_loop, count_blocks, is, label, label_before, is_three}
use Rattle.spec_check.specs.Calls.{missing, passes_in_force, any_outside, any_beyond}
use Rattle.spec_check.specs.Check.{or, block_fault, reach_fault}
use Rattle.proof_check.specs.Passed.{Passed, no_fault}
use Rattle.base_laws.specs.Tests.{not-false, neither}

-- ---- the place behind `pre`

module _ (p : Program) (t : Table) (pre : List Instruction) (i : Instruction) (r : List Instruction) (h : entries p t ≡ pre ++ i ∷ r) where
  bare : 1 + length pre - 1 ≡ length pre
  bare = omega arith

  pub entry_is : entry_at p t (1 + length pre) ≡ i
  entry_is =
      ap (λ n. get_or (entries p t) n Instruction.End) bare ∙ ap (λ l. get_or l (length pre) Instruction.End) h ∙ get_or-append_seam pre i r Instruction.End

  before_is : before p t (1 + length pre) ≡ pre
  before_is = ap (λ n. take n (entries p t)) bare ∙ ap (take (length pre)) h ∙ take-append_seam pre (i ∷ r)

  pub place_within : length pre < length (entries p t)
  place_within = rw h (omega (arith, length-append pre (i ∷ r)))

-- ---- what is known there

-- the faults 10 to 16 of an entry of this kind, with bs open behind the entries `pre`
block_fault_of : Table → Flow → List Block → List Instruction → ℕ
block_fault_of t x bs pre =
    or (is 85 x && (not (is_three t) || not (is_none bs))) 10
    (or (label_before (label x) pre) 11
    (or (not (is 85 x || is 95 x) && (is_three t && is_none bs)) 12
    (or (is 95 x && is_none bs) 13
    (or (is 94 x && not (inside_then bs)) 14 (or (is 31 x && not (has_loop bs)) 15 (or ((is 30 x || is 87 x) && leb 11 (count_blocks bs)) 16 0))))))

reach_fault_of : Program → Instruction → List Block → ℕ
reach_fault_of p i bs =
    or (missing (call_of (flow i)) (entries p Three)) 18 (or (any_outside p.locations (passes_in_force bs) (locations i) || any_beyond 196 (readings i)) 20 0)

none_of : (a b c d e f g : Bool) → or a 10 (or b 11 (or c 12 (or d 13 (or e 14 (or f 15 (or g 16 0)))))) ≡ 0
    → (a ≡ false) × (d ≡ false) × (e ≡ false) × (f ≡ false) × (g ≡ false)
none_of a b c d e f g h =
    let h₁ = no_fault a 9 (or b 11 (or c 12 (or d 13 (or e 14 (or f 15 (or g 16 0)))))) h in
    let h₂ = no_fault b 10 (or c 12 (or d 13 (or e 14 (or f 15 (or g 16 0))))) h₁.1 in
    let h₃ = no_fault c 11 (or d 13 (or e 14 (or f 15 (or g 16 0)))) h₂.1 in
    let h₄ = no_fault d 12 (or e 14 (or f 15 (or g 16 0))) h₃.1 in
    let h₅ = no_fault e 13 (or f 15 (or g 16 0)) h₄.1 in
    let h₆ = no_fault f 14 (or g 16 0) h₅.1 in
    (h₁.0, h₄.0, h₅.0, h₆.0, (no_fault g 15 0 h₆.1).0)

pub record EntrySound (p : Program) (t : Table) (bs : List Block) (i : Instruction) : Type 0 where
  pub is_in_range : in_range i ≡ true
  pub no_10 : is 85 (flow i) && (not (is_three t) || not (is_none bs)) ≡ false
  pub no_13 : is 95 (flow i) && is_none bs ≡ false
  pub no_14 : is 94 (flow i) && not (inside_then bs) ≡ false
  pub no_15 : is 31 (flow i) && not (has_loop bs) ≡ false
  pub no_16 : (is 30 (flow i) || is 87 (flow i)) && leb 11 (count_blocks bs) ≡ false
  pub no_18 : missing (call_of (flow i)) (entries p Three) ≡ false
  pub locations_in : any_outside p.locations (passes_in_force bs) (locations i) ≡ false
  pub readings_in : any_beyond 196 (readings i) ≡ false

module _ (p : Program) (c : Passed p) (t : Table) (pre : List Instruction) (i : Instruction) (r : List Instruction) (h : entries p t ≡ pre ++ i ∷ r) where
  block_zero : block_fault_of t (flow i) (blocks_after [] pre) pre ≡ 0
  unfolding block_fault block_fault_of
  block_zero =
      ap (λ l. block_fault_of t (flow i) (blocks_after [] l) l) (sym (before_is p t pre i r h))
      ∙ ap (λ j. block_fault_of t (flow j) (blocks_after [] (before p t (1 + length pre))) (before p t (1 + length pre))) (sym (entry_is p t pre i r h))
      ∙ c.blocks t (length pre) (place_within p t pre i r h)

  reach_zero : reach_fault_of p i (blocks_after [] pre) ≡ 0
  unfolding reach_fault reach_fault_of
  reach_zero =
      ap (λ l. reach_fault_of p i (blocks_after [] l)) (sym (before_is p t pre i r h))
      ∙ ap (λ j. reach_fault_of p j (blocks_after [] (before p t (1 + length pre)))) (sym (entry_is p t pre i r h))
      ∙ c.reach t (length pre) (place_within p t pre i r h)

  pub sound : EntrySound p t (blocks_after [] pre) i
  unfolding block_fault_of reach_fault_of
  sound =
      let x : Flow = flow i in
      let os : List Block = blocks_after [] pre in
      let f =
      none_of (is 85 x && (not (is_three t) || not (is_none os))) (label_before (label x) pre) (not (is 85 x || is 95 x) && (is_three t && is_none os))
      (is 95 x && is_none os) (is 94 x && not (inside_then os)) (is 31 x && not (has_loop os)) ((is 30 x || is 87 x) && leb 11 (count_blocks os)) block_zero in
      let f₁₈ =
      no_fault (missing (call_of x) (entries p Three)) 17
      (or (any_outside p.locations (passes_in_force os) (locations i) || any_beyond 196 (readings i)) 20 0) reach_zero in
      let f₂₀ = no_fault (any_outside p.locations (passes_in_force os) (locations i) || any_beyond 196 (readings i)) 19 0 f₁₈.1 in
      let n₂₀ = neither (any_outside p.locations (passes_in_force os) (locations i)) (any_beyond 196 (readings i)) f₂₀.0 in
      record {
        is_in_range = not-false (in_range i) (ap (λ j. not (in_range j)) (sym (entry_is p t pre i r h)) ∙ c.is_in_range t (length pre) (place_within p t pre i r h));
        no_10 = f.0;
        no_13 = f.1;
        no_14 = f.2;
        no_15 = f.3;
        no_16 = f.4;
        no_18 = f₁₈.0;
        locations_in = n₂₀.0;
        readings_in = n₂₀.1;
      }

  -- the entry's sums are below M
  pub sums_fit : ltb p.sums (first_sum p t (1 + length pre) + sums i) ≡ false
  sums_fit =
      ap (λ j. ltb p.sums (first_sum p t (1 + length pre) + sums j)) (sym (entry_is p t pre i r h)) ∙ c.sums t (length pre) (place_within p t pre i r h)
