-- A count taken from the front: what a turn adds to it, by the kinds of entries, and the factors in their array. Assumes nothing.
use Rattle.std.specs.Prelude.{◌≡◌, refl, ℕ, zero, suc, ◌+◌, ◌-◌, ◌*◌, ◌≤◌, ◌<◌, List, [], ◌∷◌, length, get_or, set}
use Rattle.std.proofs.Common.{sym, ap, ◌∙◌, arith, add-one, mul_comm, mul-zero, one-mul, mul-one, mul-add, mul_assoc, get_or-set_same, get_or-set_other}
use Rattle.base_program.specs.declared.Flow.{Flow}
use Rattle.spec_check.specs.Counts.{top, rest, added_on, block, count_entry}
use Rattle.check_count.specs.Saturate.{sat, sat_add, sat_mul}
use Rattle.check_count.specs.Dot.{dot, factors, passed, weight}

dot_none : (ms : List ℕ) → dot ms [] ≡ 0
unfolding dot
dot_none [] = refl
dot_none (m ∷ ms) = refl

pub dot_top : (m : ℕ) (ms cs : List ℕ) → dot (m ∷ ms) cs ≡ m * top cs + dot ms (rest cs)
unfolding dot
dot_top m ms [] = let e : dot ms [] ≡ 0 = dot_none ms in let f : m * 0 ≡ 0 = mul-zero m in omega arith
dot_top m ms (c ∷ cs) = refl

-- an entry that counts w
pub dot_counting : (w m : ℕ) (ms cs : List ℕ) → dot (m ∷ ms) (added_on w cs) ≡ m * w + dot (m ∷ ms) cs
unfolding dot
dot_counting w m ms cs =
    let e : m * (w + top cs) ≡ m * w + m * top cs = mul-add m w (top cs) in
    let f : dot (m ∷ ms) cs ≡ m * top cs + dot ms (rest cs) = dot_top m ms cs in
    omega arith

-- an End
pub dot_end : (m : ℕ) (ms cs : List ℕ) → dot (m ∷ ms) (1 ∷ cs) ≡ m + dot ms cs
unfolding dot
dot_end m ms cs = ap (λ k. k + dot ms cs) (mul-one m)

-- a block of n passes
pub dot_block : (n m : ℕ) (ms cs : List ℕ) → dot (m ∷ ms) (block n cs) ≡ m + dot (m * n ∷ m ∷ ms) cs
unfolding dot
dot_block n m ms cs =
    let a : dot (m * n ∷ m ∷ ms) cs ≡ m * n * top cs + dot (m ∷ ms) (rest cs) = dot_top (m * n) (m ∷ ms) cs in
    let b : dot (m ∷ ms) (rest cs) ≡ m * top (rest cs) + dot ms (rest (rest cs)) = dot_top m ms (rest cs) in
    let c : m * (1 + n * top cs + top (rest cs)) ≡ m * (1 + n * top cs) + m * top (rest cs) = mul-add m (1 + n * top cs) (top (rest cs)) in
    let d : m * (1 + n * top cs) ≡ m * 1 + m * (n * top cs) = mul-add m 1 (n * top cs) in
    let e : m * n * top cs ≡ m * (n * top cs) = mul_assoc m n (top cs) in
    let f : m * 1 ≡ m = mul-one m in
    omega arith

-- ---- the factors as numbers in an array, innermost last

factors_set : (l : List ℕ) (d v k : ℕ) → k ≤ d → factors (set l d v) k ≡ factors l k
unfolding factors
factors_set l d v zero h = refl
factors_set l d v (suc k) h =
    ap (λ x. x ∷ factors (set l d v) k) (get_or-set_other l d k v 0 (λ e. omega arith)) ∙ ap (λ s. get_or l k 0 ∷ s) (factors_set l d v k (omega arith))

pub factors_push : (l : List ℕ) (d v : ℕ) → d < length l → factors (set l d v) (d + 1) ≡ v ∷ factors l d
unfolding factors
factors_push l d v h =
    ap (factors (set l d v)) (add-one d)
    ∙ ap (λ x. x ∷ factors (set l d v) d) (get_or-set_same l d v 0 h)
    ∙ ap (λ s. v ∷ s) (factors_set l d v d (omega arith))

pub factors_top : (l : List ℕ) (d : ℕ) → 0 < d → factors l d ≡ get_or l (d - 1) 0 ∷ factors l (d - 1)
unfolding factors
factors_top l zero h = absurd (omega arith)
factors_top l (suc d) h = ap (λ k. get_or l k 0 ∷ factors l k) (let g : d ≡ suc d - 1 = omega arith in g)

-- ---- a turn, with what is counted and the factors stopped at 60,001

module _ (acc m : ℕ) (ms cs : List ℕ) where
  pub turn_counting : (w : ℕ) → sat (sat (acc + m * w) + dot (m ∷ ms) cs) ≡ sat (acc + dot (m ∷ ms) (added_on w cs))
  turn_counting w = sat_add (acc + m * w) (dot (m ∷ ms) cs) ∙ ap sat (let e : dot (m ∷ ms) (added_on w cs) ≡ m * w + dot (m ∷ ms) cs = dot_counting w m ms cs in omega arith)

  pub turn_end : sat (sat (acc + m) + dot ms cs) ≡ sat (acc + dot (m ∷ ms) (1 ∷ cs))
  turn_end = sat_add (acc + m) (dot ms cs) ∙ ap sat (let e : dot (m ∷ ms) (1 ∷ cs) ≡ m + dot ms cs = dot_end m ms cs in omega arith)

  pub turn_block : (n : ℕ) → sat (sat (acc + m) + dot (sat (m * n) ∷ m ∷ ms) cs) ≡ sat (acc + dot (m ∷ ms) (block n cs))
  turn_block n =
      sat_add (acc + m) (dot (sat (m * n) ∷ m ∷ ms) cs)
      ∙ ap (λ k. sat (acc + m + k)) (dot_top (sat (m * n)) (m ∷ ms) cs ∙ ap (λ k. k + dot (m ∷ ms) (rest cs)) (mul_comm (sat (m * n)) (top cs)))
      ∙ ap sat (let g : acc + m + (top cs * sat (m * n) + dot (m ∷ ms) (rest cs)) ≡ acc + m + top cs * sat (m * n) + dot (m ∷ ms) (rest cs) = omega arith in g)
      ∙ sat_mul (acc + m) (top cs) (m * n) (dot (m ∷ ms) (rest cs))
      ∙ ap sat
      (let a : dot (m ∷ ms) (block n cs) ≡ m + dot (m * n ∷ m ∷ ms) cs = dot_block n m ms cs in
      let b : dot (m * n ∷ m ∷ ms) cs ≡ m * n * top cs + dot (m ∷ ms) (rest cs) = dot_top (m * n) (m ∷ ms) cs in
      let c : top cs * (m * n) ≡ m * n * top cs = mul_comm (top cs) (m * n) in
      omega arith)

-- by kinds
pub turn : (f : ℕ → ℕ) (x : Flow) (acc m : ℕ) (ms cs : List ℕ)
    → sat (sat (acc + m * weight f x) + dot (passed x m (m ∷ ms)) cs) ≡ sat (acc + dot (m ∷ ms) (count_entry f x cs))
unfolding count_entry
turn f Flow.Next acc m ms cs = turn_counting acc m ms cs 1
turn f Flow.Else acc m ms cs = turn_counting acc m ms cs 1
turn f Flow.End acc m ms cs = ap (λ k. sat (sat (acc + k) + dot ms cs)) (mul-one m) ∙ turn_end acc m ms cs
turn f Flow.Then acc m ms cs =
    ap (λ k. sat (sat (acc + k) + dot (sat m ∷ m ∷ ms) cs)) (mul-one m)
    ∙ ap (λ k. sat (sat (acc + m) + dot (sat k ∷ m ∷ ms) cs)) (sym (mul-one m))
    ∙ turn_block acc m ms cs 1
turn f Flow.Stop acc m ms cs = turn_counting acc m ms cs 1
turn f (Flow.Loop n) acc m ms cs = ap (λ k. sat (sat (acc + k) + dot (sat (m * n) ∷ m ∷ ms) cs)) (mul-one m) ∙ turn_block acc m ms cs n
turn f (Flow.Subroutine k) acc m ms cs =
    ap (λ k. sat (sat (acc + k) + dot (sat m ∷ m ∷ ms) cs)) (mul-one m)
    ∙ ap (λ k. sat (sat (acc + m) + dot (sat k ∷ m ∷ ms) cs)) (sym (mul-one m))
    ∙ turn_block acc m ms cs 1
turn f (Flow.Call k) acc m ms cs = turn_counting acc m ms cs (1 + f k)
turn f (Flow.Exit b) acc m ms cs = turn_counting acc m ms cs 1

-- nothing left to count
pub dot_empty : (ms : List ℕ) → dot ms [] ≡ 0
dot_empty ms = dot_none ms

pub dot_closed : (cs : List ℕ) → dot [] cs ≡ 0
unfolding dot
dot_closed cs = refl

-- all of it, with the factor 1
pub dot_all : (cs : List ℕ) → dot (1 ∷ []) cs ≡ top cs
dot_all cs = dot_top 1 [] cs ∙ (let e : 1 * top cs ≡ top cs = one-mul (top cs) in let f : dot [] (rest cs) ≡ 0 = dot_closed (rest cs) in omega arith)
