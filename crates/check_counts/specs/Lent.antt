-- The sizes of what counting is lent. Assumes nothing.
use Rattle.std.specs.Prelude.{◌≡◌, refl, ℕ, ◌≤◌, ◌<◌, Bool, true, false, eqb, List, length, get_or, set, replicate}
use Rattle.std.proofs.Common.{sym, ap, ◌∙◌, subst, arith, eqb-true, get_or-set_same, get_or-set_other, length-set}
use Rattle.std.proofs.lemmas.Bool.{eqb-false}
use Rattle.record_codes.specs.Loaded.{zero_at}

pub record SubSizes (codes : List ℕ) (n : ℕ) (subs heights list : List ℕ) : Type 0 where
  pub places : length codes ≡ 297
  pub few : n ≤ 99
  pub starts : length subs ≡ 256
  pub chains : length heights ≡ 256
  pub room : length list ≡ 101

-- what calls add, stopped at 60,001
pub record Stopped (adds : List ℕ) : Type 0 where
  pub calls : length adds ≡ 256
  pub small : (k : ℕ) → get_or adds k 0 ≤ 60001

pub stopped_set : (adds : List ℕ) (j r : ℕ) → j < 256 → r ≤ 60001 → Stopped adds → Stopped (set adds j r)
stopped_set adds j r low h s = record { calls = length-set adds j r ∙ s.calls; small = λ k. by k (eqb k j) refl }
  where
    by : (k : ℕ) (b : Bool) → eqb k j ≡ b → get_or (set adds j r) k 0 ≤ 60001
    by k true e =
        let q : get_or (set adds j r) k 0 ≡ r = ap (λ x. get_or (set adds j r) x 0) (eqb-true k j e) ∙ get_or-set_same adds j r 0 (omega (arith, s.calls)) in
        omega arith
    by k false e = let q : get_or (set adds j r) k 0 ≡ get_or adds k 0 = get_or-set_other adds j k r 0 (eqb-false k j e) in omega (arith, s.small k)

pub zero_stopped : Stopped (replicate 256 0)
zero_stopped = record { calls = refl; small = λ k. subst (λ n. n ≤ 60001) (sym (zero_at 256 k)) (omega arith) }
