-- The loop that counts: it begins with nothing counted, a turn keeps what is counted and left, and at its end all is counted. Assumes nothing.
use Rattle.std.specs.Prelude.{◌≡◌, refl, ℕ, ◌+◌, ◌*◌, ◌≤◌, ◌<◌, List, [], ◌∷◌, length, get_or}
use Rattle.std.proofs.Common.{sym, ◌∙◌, arith, add-one, mul-one, drop_of_length-le, drop-cons}
use Rattle.std.proofs.Math.Path.{ap}
use Rattle.std.proofs.Math.ListN.{drop}
use Rattle.base_program.specs.declared.Flow.{Flow}
use Rattle.base_program.specs.declared.Instruction.{Instruction}
use Rattle.base_program.specs.Flow.{flow}
use Rattle.spec_check.specs.Counts.{top, counts, count_entry}
use Rattle.record_codes.specs.Loaded.{decode}
use Rattle.check_count.specs.Saturate.{sat}
use Rattle.check_count.specs.Dot.{dot, passed, weight}
use Rattle.check_count.proofs.Dot.{turn, dot_empty, dot_closed, dot_all}
use Rattle.check_count.specs.Ready.{Counting}

pub count_start : (f : ℕ → ℕ) (l : List Instruction) (from : ℕ) (ms : List ℕ) → ms ≡ 1 ∷ [] → Counting f l from from 0 ms
count_start f l from ms h =
    ap (λ k. sat (0 + dot k (counts f (drop from l)))) h ∙ ap sat (let g : dot (1 ∷ []) (counts f (drop from l)) ≡ top (counts f (drop from l)) = dot_all (counts f (drop from l)) in omega arith)

module _ (f : ℕ → ℕ) (l : List Instruction) (from e count m w : ℕ) (ms fs : List ℕ) (x : Flow) (within : e < length l)
    (kind : x ≡ flow (get_or l e Instruction.End)) (whole : fs ≡ m ∷ ms) (counted : w ≡ weight f x) (going : Counting f l from e count fs) where
  pub count_turn : (gs : List ℕ) → gs ≡ passed x m fs → Counting f l from (e + 1) (sat (count + m * w)) gs
  unfolding counts
  count_turn gs h =
      ap (λ k. sat (sat (count + m * w) + dot k (counts f (drop (e + 1) l)))) (h ∙ ap (passed x m) whole)
      ∙ ap (λ k. sat (sat (count + m * k) + dot (passed x m (m ∷ ms)) (counts f (drop (e + 1) l)))) counted
      ∙ turn f x count m ms (counts f (drop (e + 1) l))
      ∙ ap (λ y. sat (count + dot (m ∷ ms) (count_entry f y (counts f (drop (e + 1) l))))) kind
      ∙ ap (λ k. sat (count + dot (m ∷ ms) (counts f (get_or l e Instruction.End ∷ drop k l)))) (add-one e)
      ∙ ap (λ k. sat (count + dot (m ∷ ms) (counts f k))) (sym (drop-cons l e Instruction.End within))
      ∙ ap (λ k. sat (count + dot k (counts f (drop e l)))) (sym whole)
      ∙ going

-- an entry with code 0
pub count_next : (f : ℕ → ℕ) (l : List Instruction) (from e count m c : ℕ) (ms fs : List ℕ) → e < length l → c ≡ 0 → decode c ≡ flow (get_or l e Instruction.End) → fs ≡ m ∷ ms → Counting f l from e count fs
    → Counting f l from (e + 1) (sat (count + m)) fs
unfolding decode
count_next f l from e count m c ms fs within plain kind whole going =
    ap (λ k. sat (sat (count + k) + dot fs (counts f (drop (e + 1) l)))) (sym (mul-one m))
    ∙ count_turn f l from e count m 1 ms fs Flow.Next within (sym (ap decode plain) ∙ kind) whole refl going fs refl

pub count_closed : (f : ℕ → ℕ) (l : List Instruction) (from e count : ℕ) (ms : List ℕ) → ms ≡ [] → count ≤ 60001 → Counting f l from e count ms → count ≡ sat (top (counts f (drop from l)))
count_closed f l from e count ms h small g =
    (let a : count ≡ sat (count + dot [] (counts f (drop e l))) = (let q : dot [] (counts f (drop e l)) ≡ 0 = dot_closed (counts f (drop e l)) in omega arith) in a)
    ∙ ap (λ k. sat (count + dot k (counts f (drop e l)))) (sym h)
    ∙ g

pub count_end : (f : ℕ → ℕ) (l : List Instruction) (from e count : ℕ) (ms : List ℕ) → length l ≤ e → count ≤ 60001 → Counting f l from e count ms → count ≡ sat (top (counts f (drop from l)))
unfolding counts
count_end f l from e count ms h small g =
    (let a : count ≡ sat (count + dot ms []) = (let q : dot ms [] ≡ 0 = dot_empty ms in omega arith) in a)
    ∙ ap (λ k. sat (count + dot ms (counts f k))) (sym (drop_of_length-le l {i = e} h))
    ∙ g
