-- The laws of rounding: a quotient's two bounds make `nearest_up` the nearest whole number, halves up, and the places follow by induction on the most that there may be. Assumes nothing.
use Rattle.std.specs.Prelude.{◌≡◌, refl, ◌⊎◌, Bool, true, false, cond, ℕ, zero, suc, ◌+◌, ◌*◌, ◌/◌, ◌^◌, ◌≤◌, ◌<◌, min, leb, Float}
use Rattle.std.proofs.Common.{sym, ap, ◌∙◌, inl, inr, zero-le, le_trans, le_of_eq, le_antisymm, lt_irrefl, lt_of_not-le, eq-or-lt_of_le, mul_assoc, mul_comm, mul_left_comm, mul_right_comm, mul-le-mul_left, mul-le-mul_right, le_of_mul-le-mul_right, lt_of_mul-lt-mul_right, add-mul, one-mul, div-mul-le_self, le-div_iff_mul-le, pow-suc, arith, lit<, leb-true, leb-false}
use Rattle.std.proofs.Math.Nat.{min-le_right, pow-le-pow_right}
use Rattle.std.specs.Float.Ieee.Positive.{num, den, den_pos}
use Rattle.storage_word.specs.Word.{nearest_up, digits_at, places_within, digits_within}

-- ---- a / c to the nearest whole number r, halves up: r - 1/2 ≤ a / c < r + 1/2

twice : (r c : ℕ) → r * (2 * c) ≡ 2 * r * c
twice r c = simp (mul_assoc, mul_left_comm)

odd_twice : (r c : ℕ) → (2 * r + 1) * c ≡ 2 * r * c + c
odd_twice r c = simp (add-mul, one-mul)

-- the largest r with r - 1/2 ≤ a / c: the other laws follow from these two
pub nearest_low : (a c : ℕ) → 2 * nearest_up a c * c ≤ 2 * a + c
nearest_low a c = le_trans (le_of_eq (sym (twice (nearest_up a c) c))) (div-mul-le_self (2 * a + c) (2 * c))

pub nearest_least : (a c r : ℕ) → 0 < c → 2 * r * c ≤ 2 * a + c → r ≤ nearest_up a c
nearest_least a c r h l = (le-div_iff_mul-le (two_pos h)).1 (le_trans (le_of_eq (twice r c)) l)
  where
    two_pos : {c : ℕ} → 0 < c → 0 < 2 * c
    two_pos h = omega arith

pub nearest_high : (a c : ℕ) → 0 < c → 2 * a < (2 * nearest_up a c + 1) * c
nearest_high a c h =
    let r = nearest_up a c in
    let n : 2 * a + c < 2 * suc r * c = lt_of_not-le (λ (l : 2 * suc r * c ≤ 2 * a + c). lt_irrefl r (nearest_least a c (suc r) h l)) in
    let s : 2 * suc r * c ≡ 2 * r * c + 2 * c = next r c in
    omega (arith, odd_twice r c)
  where
    next : (r c : ℕ) → 2 * suc r * c ≡ 2 * r * c + 2 * c
    next r c = ap (λ (z : ℕ). z * c) (let e : 2 * suc r ≡ 2 * r + 2 = omega arith in e) ∙ add-mul (2 * r) 2 c

-- no other number lies there
pub nearest_only : (a c r : ℕ) → 2 * r * c ≤ 2 * a + c → 2 * a < (2 * r + 1) * c → nearest_up a c ≡ r
nearest_only a c r low high =
    let o = odd_twice r c in
    let most : suc (nearest_up a c) ≤ suc r =
    lt_of_mul-lt-mul_right (2 * c) (let t = twice (nearest_up a c) c in let u = twice (suc r) c in let l = nearest_low a c in omega arith) in
    le_antisymm (omega arith) (nearest_least a c r (omega arith) low)

-- a greater quotient is not rounded to less, and equal ones are rounded alike
pub nearest_mono : (a c b d : ℕ) → 0 < c → 0 < d → a * d ≤ b * c → nearest_up a c ≤ nearest_up b d
nearest_mono a c b d C D h =
    let r = nearest_up a c in
    let l : 2 * r * c * d ≤ (2 * a + c) * d = mul-le-mul_right d (nearest_low a c) in
    let m : 2 * r * d * c ≡ 2 * r * c * d = mul_right_comm (2 * r) d c in
    let k : c * d ≡ d * c = mul_comm c d in
    nearest_least b d r D (le_of_mul-le-mul_right (omega (arith, spread a c d, spread b d c)) C)
  where
    spread : (a c d : ℕ) → (2 * a + c) * d ≡ 2 * (a * d) + c * d
    spread a c d = add-mul (2 * a) c d ∙ ap (λ (z : ℕ). z + c * d) (mul_assoc 2 a d)

pub nearest_same : (a c b d : ℕ) → 0 < c → 0 < d → a * d ≡ b * c → nearest_up a c ≡ nearest_up b d
nearest_same a c b d C D e = le_antisymm (nearest_mono a c b d C D (le_of_eq e)) (nearest_mono b d a c D C (le_of_eq (sym e)))

-- not less than the quotient cut
nearest_cut : (a c : ℕ) → 0 < c → a / c ≤ nearest_up a c
nearest_cut a c h =
    let l = div-mul-le_self a c in
    let e : 2 * (a / c) * c ≡ 2 * (a / c * c) = mul_assoc 2 (a / c) c in
    nearest_least a c (a / c) h (omega arith)

pub digits_cut : (p : ℕ) (x : Float) → num x * 10 ^ p / den x ≤ digits_at p x
unfolding digits_at
digits_cut p x = nearest_cut (num x * 10 ^ p) (den x) (den_pos x)

-- ---- places

pick : (b : Bool) (m p : ℕ) → p ≤ m → cond b (suc m) p ≤ suc m
pick true m p h = omega arith
pick false m p h = omega arith

-- at most as many as there may be
pub places_most : (limit most : ℕ) (x : Float) → places_within limit most x ≤ most
unfolding places_within
places_most limit zero x = zero-le
places_most limit (suc most) x = pick (leb (digits_at (suc most) x) limit) most (places_within limit most x) (places_most limit most x)

-- the digits are above the limit at each place above the chosen one
pub over_above : (limit most p : ℕ) (x : Float) → places_within limit most x < p → p ≤ most → limit < digits_at p x
unfolding places_within
over_above limit zero p x h k = absurd (none h k)
  where
    none : 0 < p → p ≤ 0 → ⊥
    none h k = omega arith
over_above limit (suc most) p x h k = next _ (leb-false (digits_at (suc most) x) limit) h (eq-or-lt_of_le k) (over_above limit most p x)
  where
    next : (b : Bool) → (b ≡ false → limit < digits_at (suc most) x) → cond b (suc most) (places_within limit most x) < p → (p ≡ suc most) ⊎ (p < suc most) → (places_within limit most x < p → p ≤ most → limit < digits_at p x) → limit < digits_at p x
    next true e h g f = absurd (let z : ⊥ = omega arith in z)
    next false e h (inl g) f = rw g (e refl)
    next false e h (inr g) f = f h (omega arith)

-- at the chosen place they are not, unless it is 0
pub within_there : (limit most : ℕ) (x : Float) → (digits_at (places_within limit most x) x ≤ limit) ⊎ (places_within limit most x ≡ 0)
unfolding places_within
within_there limit zero x = inr refl
within_there limit (suc most) x = next _ (leb-true (digits_at (suc most) x) limit) (within_there limit most x)
  where
    next : (b : Bool) → (b ≡ true → digits_at (suc most) x ≤ limit) → (digits_at (places_within limit most x) x ≤ limit) ⊎ (places_within limit most x ≡ 0) → (digits_at (cond b (suc most) (places_within limit most x)) x ≤ limit) ⊎ (cond b (suc most) (places_within limit most x) ≡ 0)
    next true e f = inl (e refl)
    next false e f = f

-- no other place is so
pub places_only : (limit most p : ℕ) (x : Float) → p ≤ most → (digits_at p x ≤ limit) ⊎ (p ≡ 0) → ((q : ℕ) → p < q → q ≤ most → limit < digits_at q x) → places_within limit most x ≡ p
places_only limit most p x m t o = le_antisymm (le_of_not_above p P (here (within_there limit most x))) (le_of_not_above P p (there t))
  where
    P : ℕ
    P = places_within limit most x

    le_of_not_above : (a b : ℕ) → (a < b → ⊥) → b ≤ a
    le_of_not_above a b f = omega arith

    here : (digits_at P x ≤ limit) ⊎ (P ≡ 0) → p < P → ⊥
    here (inl h) l = let k : limit < digits_at P x = o P l (places_most limit most x) in omega arith
    here (inr h) l = omega arith

    there : (digits_at p x ≤ limit) ⊎ (p ≡ 0) → P < p → ⊥
    there (inl h) l = let k : limit < digits_at p x = over_above limit most p x l m in omega arith
    there (inr h) l = omega arith

-- ---- digits

-- more places never have fewer digits
pub more_places : (p q : ℕ) (x : Float) → p ≤ q → digits_at p x ≤ digits_at q x
unfolding digits_at
more_places p q x h =
    nearest_mono (num x * 10 ^ p) (den x) (num x * 10 ^ q) (den x) (den_pos x) (den_pos x) (mul-le-mul_right (den x) (mul-le-mul_left (num x) (pow-le-pow_right (lit< tt) h)))

-- those of an equal fraction
pub digits_same : (p : ℕ) (x : Float) (a c : ℕ) → 0 < c → num x * c ≡ a * den x → digits_at p x ≡ nearest_up (a * 10 ^ p) c
unfolding digits_at
digits_same p x a c C e =
    nearest_same (num x * 10 ^ p) (den x) (a * 10 ^ p) c (den_pos x) C (mul_right_comm (num x) (10 ^ p) c ∙ ap (λ (z : ℕ). z * 10 ^ p) e ∙ mul_right_comm a (den x) (10 ^ p))

pub digits_limit : (limit most : ℕ) (x : Float) → digits_within limit most x ≤ limit
unfolding digits_within
digits_limit limit most x = min-le_right (digits_at (places_within limit most x) x) limit

-- one place fewer leaves a tenth of the digits at least
pub tenth : (k p : ℕ) (x : Float) → 10 * k ≤ digits_at (suc p) x → k ≤ digits_at p x
unfolding digits_at
tenth k p x h =
    let a = num x * 10 ^ p in
    let c = den x in
    let e : num x * 10 ^ suc p ≡ 10 * a = rw pow-suc (simp (mul_comm, mul_left_comm)) in
    let l = nearest_low (num x * 10 ^ suc p) c in
    let m : 2 * (10 * k) * c ≤ 2 * digits_at (suc p) x * c = mul-le-mul_right c (omega arith) in
    let n : 2 * (10 * k) * c ≡ 10 * (2 * k * c) = simp (mul_assoc, mul_left_comm) in
    nearest_least a c k (den_pos x) (omega arith)

-- so the digits are a tenth of the limit at least, or the places are the most
pub digits_least : (limit most k : ℕ) (x : Float) → 10 * k ≤ suc limit → (places_within limit most x ≡ most) ⊎ (k ≤ digits_within limit most x)
unfolding digits_within
digits_least limit most k x h = go (eq-or-lt_of_le (places_most limit most x))
  where
    go : (places_within limit most x ≡ most) ⊎ (places_within limit most x < most) → (places_within limit most x ≡ most) ⊎ (k ≤ min (digits_at (places_within limit most x) x) limit)
    go (inl g) = inl g
    go (inr g) =
        let p = places_within limit most x in
        let o : limit < digits_at (suc p) x = over_above limit most (suc p) x (omega arith) g in
        let t : k ≤ digits_at p x = tenth k p x (omega arith) in
        inr (omega arith)
