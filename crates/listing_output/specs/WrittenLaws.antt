-- Laws of writing: one run of bytes behind another is both in one, and where there is room the buffer holds what was there, then all of them. Assumes nothing.
use Rattle.std.specs.Prelude.{ℕ, suc, ◌+◌, ◌≤◌, ◌<◌, min, ◌≡◌, refl, Bool, true, false, List, [], ◌∷◌, ◌++◌, length, set, take, drop, leb}
use Rattle.std.proofs.Common.{add-zero, add-suc, suc-add, arith, sym, ap, subst, ◌∙◌, length-append, leb-true, leb-false}
use Rattle.std.proofs.lemmas.List.Edits.{sets, sets-eq}
use Rattle.std.proofs.Math.Seq.{set_out, length-sets}
use Rattle.listing_output.specs.Written.{written, Put, Left}

sets_append : (w v out : List ℕ) (n : ℕ) → sets (sets out n w) (n + length w) v ≡ sets out n (w ++ v)
sets_append [] v out n = ap (λ k. sets out k v) (add-zero n)
sets_append (b ∷ w) v out n =
    ap (λ k. sets (sets (set out n b) (suc n) w) k v) (add-suc n (length w) ∙ sym (suc-add n (length w)))
    ∙ sets_append w v (set out n b) (suc n)

sets_past : (w out : List ℕ) (n : ℕ) → length out ≤ n → sets out n w ≡ out
sets_past [] out n h = refl
sets_past (b ∷ w) out n h =
    let e : set out n b ≡ out = set_out out n b h in
    ap (λ x. sets x (suc n) w) e ∙ sets_past w out (suc n) (omega (arith, h))

-- One run of bytes, then another: where the first was cut, so is the second.
pub written_then : (out : List ℕ) (n : ℕ) (w v : List ℕ) → written (written out n w) (min (n + length w) (length out)) v ≡ written out n (w ++ v)
unfolding written
written_then out n w v = go (leb (n + length w) (length out)) refl
  where
    size : length (sets out n w) ≡ length out
    size = length-sets out n w

    go : (t : Bool) → leb (n + length w) (length out) ≡ t → sets (sets out n w) (min (n + length w) (length out)) v ≡ sets out n (w ++ v)
    go true e =
        let h = leb-true (n + length w) (length out) e in
        let m : min (n + length w) (length out) ≡ n + length w = omega (arith, h) in
        ap (λ k. sets (sets out n w) k v) m ∙ sets_append w v out n
    go false e =
        let h = leb-false (n + length w) (length out) e in
        let m : length (sets out n w) ≤ min (n + length w) (length out) = omega (arith, h, size) in
        let k : length (sets out n w) ≤ n + length w = omega (arith, h, size) in
        sets_past v (sets out n w) (min (n + length w) (length out)) m ∙ sym (sets_past v (sets out n w) (n + length w) k) ∙ sets_append w v out n

pub written_size : (out : List ℕ) (n : ℕ) (w : List ℕ) → length (written out n w) ≡ length out
unfolding written
written_size out n w = length-sets out n w

pub written_none : (out : List ℕ) (n : ℕ) → written out n [] ≡ out
unfolding written
written_none out n = refl

pub written_one : (out : List ℕ) (n b : ℕ) → written out n (b ∷ []) ≡ set out n b
unfolding written
written_one out n b = refl

-- Where there is room: what was there, then all of w, and nothing behind it is changed.
pub written_room : (out : List ℕ) (n : ℕ) (w : List ℕ) → n + length w ≤ length out → written out n w ≡ take n out ++ w ++ drop (n + length w) out
unfolding written
written_room out n w h = sets-eq w out n h

-- ---- what is left to write

pub left_start : (out : List ℕ) (n : ℕ) (w : List ℕ) → n ≤ length out → Left out n w out n w
left_start out n w h = record { bytes = refl; count = refl; within = h; size = refl }

pub left_as : {out first all w v : List ℕ} {m n : ℕ} → w ≡ v → Left out m w first n all → Left out m v first n all
left_as {out} {first} {all} {w} {v} {m} {n} e l = subst (λ x. Left out m x first n all) e l

pub left_then : {out first all next : List ℕ} {m n r : ℕ} (v w : List ℕ) → Left out m (v ++ w) first n all → Put out m v r next → Left next r w first n all
left_then {out} {first} {all} {next} {m} {n} {r} v w l p =
    let size : length next ≡ length out = ap length p.bytes ∙ written_size out m v in
    let both : length (v ++ w) ≡ length v + length w = length-append v w in
    let c = p.count in
    let d : min (r + length w) (length next) ≡ min (m + length (v ++ w)) (length out) = omega (arith, size, both, c) in
    record {
      bytes = ap (λ x. written x r w) p.bytes ∙ ap (λ k. written (written out m v) k w) c ∙ written_then out m v w ∙ l.bytes;
      count = d ∙ l.count;
      within = subst (λ k. r ≤ k) (sym size) p.within;
      size = size ∙ l.size;
    }

pub left_done : {out first all : List ℕ} {m n : ℕ} → Left out m [] first n all → Put first n all m out
left_done {out} {first} {all} {m} {n} l =
    let z = l.within in
    let e : min (m + 0) (length out) ≡ m = omega (arith, z) in
    record { bytes = sym (written_none out m) ∙ l.bytes; count = sym e ∙ l.count; within = subst (λ k. m ≤ k) l.size z }

pub put_as : {out next w v : List ℕ} {n r : ℕ} → w ≡ v → Put out n w r next → Put out n v r next
put_as {out} {next} {w} {v} {n} {r} e p = subst (λ x. Put out n x r next) e p

-- one run of bytes, then another
pub put_then : {out mid next : List ℕ} {n a r : ℕ} (v w : List ℕ) → Put out n v a mid → Put mid a w r next → Put out n (v ++ w) r next
put_then {out} {mid} {next} {n} {a} {r} v w p q =
    let size : length mid ≡ length out = ap length p.bytes ∙ written_size out n v in
    let both : length (v ++ w) ≡ length v + length w = length-append v w in
    let c = p.count in
    let d = q.count in
    record {
      bytes = q.bytes ∙ ap (λ x. written x a w) p.bytes ∙ ap (λ k. written (written out n v) k w) c ∙ written_then out n v w;
      count = omega (arith, size, both, c, d);
      within = subst (λ k. r ≤ k) size q.within;
    }

-- one byte
pub put_byte : (out : List ℕ) (n b : ℕ) → n < length out → Put out n (b ∷ []) (n + 1) (set out n b)
put_byte out n b h = record { bytes = sym (written_one out n b); count = omega (arith, h); within = omega (arith, h) }

pub put_full : (out : List ℕ) (n b : ℕ) → n ≤ length out → length out ≤ n → Put out n (b ∷ []) n out
put_full out n b g h = record { bytes = sym (written_one out n b ∙ set_out out n b h); count = omega (arith, g, h); within = g }

-- nothing
pub put_none : (out : List ℕ) (n : ℕ) → n ≤ length out → Put out n [] n out
put_none out n h = record { bytes = sym (written_none out n); count = omega (arith, h); within = h }
