-- What reads took, one after the other, and where it stands.
use Rattle.std.proofs.Common.{◌≡◌, ℕ, ◌+◌, ◌≤◌, List, ◌++◌, None, Some, length, take, drop, sym, ap, subst, ◌∙◌, append_assoc, drop_at, take-append-drop}
use lib.Seq.{take-take, take-append-le}
use Rattle.std.specs.declared.option.Option.{Option}
use Rattle.std.specs.Io.KnownBytes.{Keeps, Consumes}
use Rattle.std.proofs.lemmas.List.{drop-take}

-- a read behind failed ones, which took nothing
pub kept_before : (a b c : Option (List ℕ)) (bs : List ℕ) → Keeps a b → Consumes b c bs → Consumes a c bs
kept_before None b c bs p q = tt
kept_before (Some x) None c bs p q = absurd p
kept_before (Some x) (Some y) None bs p q = absurd q
kept_before (Some x) (Some y) (Some z) bs p q = sym p ∙ q

-- one read and then another
pub taken_both : (a b c : Option (List ℕ)) (bs cs : List ℕ) → Consumes a b bs → Consumes b c cs → Consumes a c (bs ++ cs)
taken_both None b c bs cs p q = tt
taken_both (Some x) None c bs cs p q = absurd p
taken_both (Some x) (Some y) None bs cs p q = absurd q
taken_both (Some x) (Some y) (Some z) bs cs p q = p ∙ ap (λ l. bs ++ l) q ∙ sym (append_assoc bs cs z)

-- a read into the part of a buffer stands behind its front
pub taken_behind : (a b : Option (List ℕ)) (front part rest : List ℕ) (n k : ℕ) → length front ≡ n → k ≤ length part → Consumes a b (take k part)
    → Consumes a b (drop n (take (n + k) (front ++ (part ++ rest))))
taken_behind a b front part rest n k long fits read =
    subst (Consumes a b) (sym (drop-take n k _ ∙ ap (take k) (drop_at front (part ++ rest) n long) ∙ take-append-le k part rest fits)) read

-- the front that was filled grows by what was read behind it
pub taken_grown : (a b c : Option (List ℕ)) (old new : List ℕ) (n m : ℕ) → n ≤ m → take n new ≡ take n old → Consumes a b (take n old)
    → Consumes b c (drop n (take m new)) → Consumes a c (take m new)
taken_grown a b c old new n m more front before read =
    subst (Consumes a c) (ap (λ l. l ++ drop n (take m new)) (sym (take-take n m new more ∙ front)) ∙ take-append-drop n (take m new))
    (taken_both a b c _ _ before read)
