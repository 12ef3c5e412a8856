-- The kinds that a number can stand for: what holds of each kind holds of what is decoded. Assumes nothing.
use Rattle.std.specs.Prelude.{◌≡◌, refl, ℕ, ◌/◌, ◌%◌, ◌≤◌, ◌<◌, Bool, true, false, cond, eqb}
use Rattle.std.proofs.Common.{ap, subst, arith, eq-eqb, ne_eqb}
use Rattle.std.proofs.Math.Option.{none, some}
use Rattle.base_program.specs.declared.Flow.{Flow}
use Rattle.base_program.specs.Flow.{call_of}
use Rattle.spec_check.specs.Blocks.{label}
use Rattle.record_codes.specs.Loaded.{decode, decode_kind}

pick : (P : Flow → Type 0) (b : Bool) (x y : Flow) → P x → P y → P (cond b x y)
pick P true x y p q = p
pick P false x y p q = q

pub decode_cases : (P : Flow → Type 0) → P Flow.Next → P Flow.Else → P Flow.End → P Flow.Then → P Flow.Stop → ((n : ℕ) → P (Flow.Loop n)) → ((k : ℕ) → k < 256 → P (Flow.Subroutine k)) → ((k : ℕ) → k < 256 → P (Flow.Call k)) → ((b : Bool) → P (Flow.Exit b)) → (c : ℕ) → P (decode c)
unfolding decode
decode_cases P next else end then stop loop sub call exit c =
    pick P (eqb (c / 65536) 0) _ _ next
    (pick P (eqb (c / 65536) 1) _ _ else
    (pick P (eqb (c / 65536) 2) _ _ end
    (pick P (eqb (c / 65536) 3) _ _ then
    (pick P (eqb (c / 65536) 4) _ _ stop
    (pick P (eqb (c / 65536) 5) _ _ (loop (c % 65536))
    (pick P (eqb (c / 65536) 6) _ _ (sub (c % 256) (omega arith))
    (pick P (eqb (c / 65536) 7) _ _ (call (c % 256) (omega arith)) (pick P (eqb (c / 65536) 8) _ _ (exit true) (exit false)))))))))

-- ---- numbers are below 256

pub none_some : {A : Type 0} {k : ℕ} → none ≡ some k → A
none_some h = absurd (let z : ◌≡◌ {A = ℕ} 0 1 = cc in omega arith)

the_same : (j k : ℕ) → j < 256 → some j ≡ some k → k < 256
the_same j k h e = subst (λ n. n < 256) (let z : j ≡ k = cc in z) h

pub label_small : (c k : ℕ) → label (decode c) ≡ some k → k < 256
unfolding label
label_small c k =
    decode_cases (λ x. label x ≡ some k → k < 256) none_some none_some none_some none_some none_some (λ n. none_some) (λ j h. the_same j k h) (λ j h. none_some)
    (λ b. none_some)
    c

pub call_small : (c k : ℕ) → call_of (decode c) ≡ some k → k < 256
unfolding call_of
call_small c k =
    decode_cases (λ x. call_of x ≡ some k → k < 256) none_some none_some none_some none_some none_some (λ n. none_some) (λ j h. none_some) (λ j h. the_same j k h)
    (λ b. none_some)
    c

-- ---- what a code's size tells of its entry

-- below 65,536 it neither calls, opens nor closes
pub next_code : (c : ℕ) → c < 65536 → decode c ≡ Flow.Next
unfolding decode
next_code c h = rw (eq-eqb (c / 65536) 0 (omega arith))

pick_none : (b : Bool) (x y : Flow) → label x ≡ none → label y ≡ none → label (cond b x y) ≡ none
pick_none true x y p q = p
pick_none false x y p q = q

-- of another kind it is no 85's
pub no_sub : (c : ℕ) → (c / 65536 ≡ 6 → ⊥) → label (decode c) ≡ none
unfolding decode label
no_sub c h =
    pick_none (eqb (c / 65536) 0) _ _ refl
    (pick_none (eqb (c / 65536) 1) _ _ refl
    (pick_none (eqb (c / 65536) 2) _ _ refl
    (pick_none (eqb (c / 65536) 3) _ _ refl
    (pick_none (eqb (c / 65536) 4) _ _ refl
    (pick_none (eqb (c / 65536) 5) _ _ refl
    (rw (ne_eqb (c / 65536) 6 h)
    (pick_none (eqb (c / 65536) 7) _ _ refl (pick_none (eqb (c / 65536) 8) _ _ refl refl))))))))

pick_uncalled : (b : Bool) (x y : Flow) → call_of x ≡ none → call_of y ≡ none → call_of (cond b x y) ≡ none
pick_uncalled true x y p q = p
pick_uncalled false x y p q = q

-- nor a call's
pub not_call : (c : ℕ) → (c / 65536 ≡ 7 → ⊥) → call_of (decode c) ≡ none
unfolding decode call_of
not_call c h =
    pick_uncalled (eqb (c / 65536) 0) _ _ refl
    (pick_uncalled (eqb (c / 65536) 1) _ _ refl
    (pick_uncalled (eqb (c / 65536) 2) _ _ refl
    (pick_uncalled (eqb (c / 65536) 3) _ _ refl
    (pick_uncalled (eqb (c / 65536) 4) _ _ refl
    (pick_uncalled (eqb (c / 65536) 5) _ _ refl
    (pick_uncalled (eqb (c / 65536) 6) _ _ refl
    (rw (ne_eqb (c / 65536) 7 h) (pick_uncalled (eqb (c / 65536) 8) _ _ refl refl))))))))

-- an 85's and a call's, with its number
pub sub_code : (c : ℕ) → 393216 ≤ c → c < 458752 → decode c ≡ Flow.Subroutine (c % 256)
unfolding decode
sub_code c low high = ap (λ m. decode_kind m (c % 65536) (c % 256)) (let g : c / 65536 ≡ 6 = omega arith in g)

pub call_code : (c : ℕ) → 458752 ≤ c → c < 524288 → decode c ≡ Flow.Call (c % 256)
unfolding decode
call_code c low high = ap (λ m. decode_kind m (c % 65536) (c % 256)) (let g : c / 65536 ≡ 7 = omega arith in g)
