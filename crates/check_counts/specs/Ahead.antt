-- Calls that lead to later subroutines, and the rounds that count. Assumes nothing.
use Rattle.std.specs.Prelude.{◌≡◌, refl, ℕ, ◌+◌, ◌%◌, ◌≤◌, ◌<◌, Bool, true, false, ◌⊎◌, List, get_or, eqb, leb}
use Rattle.std.proofs.Common.{sym, ap, ◌∙◌, subst, arith, inl, inr, eqb-true, leb-false}
use Rattle.std.proofs.Math.Option.{some}
use Rattle.std.proofs.lemmas.Bool.{eqb-false}
use Rattle.base_program.specs.declared.Program.{Program}
use Rattle.base_program.specs.Flow.{call_of}
use Rattle.record_codes.specs.Kinds.{none_some, call_code}
use Rattle.record_codes.specs.Loaded.{decode}
use Rattle.check_subroutines.specs.Listed.{Uncalling, ListedCalls, to_next, to_start}
use Rattle.check_counts.specs.Subs.{SubsReady, AtCount, CountRule, OnlyAhead, lower, skip_entry, rule_level, rule_ahead}

-- An entry's call, if it has one, is of a subroutine that begins behind entry e, where r is false.
abbrev pub CallsAhead : ℕ → ℕ → List ℕ → Bool → Type 0
CallsAhead c e subs r = r ≡ false → (k : ℕ) → call_of (decode c) ≡ some k → e + 1 < get_or subs k 0

some_same : {a b : ℕ} → some a ≡ some b → a ≡ b
some_same e = cc

-- by the test of a call's code
pub call_ahead : (c e : ℕ) (subs : List ℕ) → 458752 ≤ c → c < 524288 → CallsAhead c e subs (leb (get_or subs (c % 256) 0) (e + 1))
unfolding call_of
call_ahead c e subs low high z k q =
    let same : c % 256 ≡ k = some_same (sym (ap call_of (call_code c low high)) ∙ q) in
    subst (λ i. e + 1 < get_or subs i 0) same (leb-false (get_or subs (c % 256) 0) (e + 1) z)

-- from entry e on, no call leads back
pub record AheadFrom (codes : List ℕ) (n : ℕ) (subs : List ℕ) (e : ℕ) : Type 0 where
  pub ahead : OnlyAhead codes n subs e

-- The first round goes up to 0, or to 6 where no call leads back.
abbrev pub FirstHigh : List ℕ → ℕ → List ℕ → ℕ → Type 0
FirstHigh codes n subs r = (r ≡ 0) ⊎ ((r ≡ 6) × AheadFrom codes n subs 0)

module _ (codes : List ℕ) (n : ℕ) (subs : List ℕ) where
  pub ahead_end : AheadFrom codes n subs n
  ahead_end = record { ahead = λ e k a b c. absurd (omega arith) }

  pub ahead_one : (e : ℕ) → ((k : ℕ) → call_of (decode (get_or codes (198 + e) 0)) ≡ some k → e + 1 < get_or subs k 0) → AheadFrom codes n subs (e + 1) → AheadFrom codes n subs e
  ahead_one e h a = record { ahead = λ x k u v q. by x k u v q (eqb x e) refl }
    where
      by : (x k : ℕ) → e ≤ x → x < n → call_of (decode (get_or codes (198 + x) 0)) ≡ some k → (b : Bool) → eqb x e ≡ b → x + 1 < get_or subs k 0
      by x k u v q true z =
          let w : x ≡ e = eqb-true x e z in
          let g : e + 1 < get_or subs k 0 = h k (subst (λ y. call_of (decode (get_or codes (198 + y) 0)) ≡ some k) w q) in omega arith
      by x k u v q false z = a.ahead x k (let y = eqb-false x e z in omega arith) v q

-- ---- over the list

module _ (codes list : List ℕ) (m : ℕ) (listed : ListedCalls codes list m) (subs : List ℕ) where
  At : ℕ → Type 0
  At e = AheadFrom codes (get_or list 0 0) subs e

  on : (x : ℕ) → x < get_or list 0 0 → Uncalling (get_or codes (198 + x) 0) → At (x + 1) → At x
  unfolding At
  on x h u a = ahead_one codes (get_or list 0 0) subs x (λ k q. none_some (sym u.1 ∙ q)) a

  pub ahead_turn : (i : ℕ) → i < m → (r : Bool) → CallsAhead (get_or codes (198 + get_or list (i + 1) 0) 0) (get_or list (i + 1) 0) subs r → r ≡ false
      → AheadFrom codes (get_or list 0 0) subs (get_or list i 0) → AheadFrom codes (get_or list 0 0) subs (get_or list (i + 1) 0)
  unfolding At
  ahead_turn i h r c q a = ahead_one codes (get_or list 0 0) subs (get_or list (i + 1) 0) (c q) (to_next codes list m listed At on i h a)

  pub ahead_all : AheadFrom codes (get_or list 0 0) subs (get_or list m 0) → AheadFrom codes (get_or list 0 0) subs 0
  unfolding At
  ahead_all a = to_start codes list m listed At on a

module _ (codes list : List ℕ) (m : ℕ) (listed : ListedCalls codes list m) (subs heights : List ℕ) (low high : ℕ) (first adds : List ℕ) where
  Now : ℕ → Type 0
  Now e = AtCount codes (get_or list 0 0) subs heights low high first adds e

  over : (x : ℕ) → x < get_or list 0 0 → Uncalling (get_or codes (198 + x) 0) → Now (x + 1) → Now x
  unfolding Now
  over x h u a = skip_entry codes (get_or list 0 0) subs heights low high first x h adds a u.0

  pub count_next : (i : ℕ) → i < m → AtCount codes (get_or list 0 0) subs heights low high first adds (get_or list i 0)
      → AtCount codes (get_or list 0 0) subs heights low high first adds (get_or list (i + 1) 0 + 1)
  unfolding Now
  count_next i h a = to_next codes list m listed Now over i h a

  pub count_last : AtCount codes (get_or list 0 0) subs heights low high first adds (get_or list m 0) → AtCount codes (get_or list 0 0) subs heights low high first adds 0
  unfolding Now
  count_last a = to_start codes list m listed Now over a

-- ---- from round to round

-- a round of one height, or the only one
abbrev pub RoundOf : List ℕ → ℕ → List ℕ → ℕ → ℕ → Type 0
RoundOf codes n subs low high = (low ≡ high) ⊎ ((low ≡ 0) × (high ≡ 6) × AheadFrom codes n subs 0)

pub first_round : (codes : List ℕ) (n : ℕ) (subs : List ℕ) (r : ℕ) → FirstHigh codes n subs r → RoundOf codes n subs 0 r
first_round codes n subs r (inl q) = inl (sym q)
first_round codes n subs r (inr q) = inr (refl, q.0, q.1)

pub round_up : (codes : List ℕ) (n : ℕ) (subs : List ℕ) (low high : ℕ) → low < 7 → RoundOf codes n subs low high → (low ≤ high) × (high ≤ 6)
round_up codes n subs low high h (inl q) = (omega arith, omega arith)
round_up codes n subs low high h (inr q) = (omega (arith, q.0), omega (arith, q.1))

pub rule_of : (p : Program) (codes : List ℕ) (n : ℕ) (subs heights : List ℕ) → SubsReady p codes n subs heights → (low high : ℕ) → low < 7 → RoundOf codes n subs low high
    → CountRule p subs heights low high (lower subs heights low) (lower subs heights (high + 1))
rule_of p codes n subs heights ready low high h (inl q) =
    subst (λ y. CountRule p subs heights low y (lower subs heights low) (lower subs heights (y + 1))) q (rule_level p codes n subs heights ready low (omega arith))
rule_of p codes n subs heights ready low high h (inr q) =
    subst (λ x. CountRule p subs heights x high (lower subs heights x) (lower subs heights (high + 1))) (sym q.0)
    (subst (λ y. CountRule p subs heights 0 y (lower subs heights 0) (lower subs heights (y + 1))) (sym q.1) (rule_ahead p codes n subs heights ready q.2.ahead))
