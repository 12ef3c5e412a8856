-- What an entry does to what is held is what it does to the memory that is held there: each change of a list is the change of the function that
-- the list stands for, and each word written goes to the ring. Assumes nothing.
use Rattle.std.specs.Prelude.{◌≡◌, refl, ℕ, zero, suc, ◌+◌, ◌-◌, ◌≤◌, ◌<◌, Bool, true, false, cond, List, [], ◌∷◌, ◌++◌, length, get_or, set, eqb, Float}
use Rattle.std.proofs.Common.{sym, ap, ◌∙◌, subst, arith, append_assoc, append-nil, length-set, get_or-set_same, get_or-set_other, eqb-true}
use Rattle.std.proofs.Math.Path.{fun_ext}
use Rattle.std.proofs.Math.Option.{Option}
use Rattle.std.proofs.lemmas.Bool.{eqb-false}
use Rattle.base_float.specs.Finite.{stored, zero_float}
use Rattle.storage_word.specs.Word.{value_word, start_word}
use Rattle.base_program.specs.declared.Timed.{Timed}
use Rattle.spec_machine.specs.Memory.{Memory, Moment, put, set_sum, set_count, set_flag, set_port, set_storage}
use Rattle.spec_machine.specs.Values.{each, store}
use Rattle.spec_machine.specs.Output.{write}
use Rattle.spec_machine.specs.Limits.{Each}
use Rattle.spec_machine.proofs.FrameSteps.{each_map}
use Rattle.spec_buffers.specs.Held.{Tape, Out, Held, cell, port, sum_of, count_at, flag_at, memory_with, memory_of, put_word, put_words}
use Rattle.spec_buffers.specs.Cells.{store_at}
use Rattle.spec_buffers.specs.Output.{write_out}
use Rattle.spec_buffers.specs.Effects.{on_locations, on_out, on_sums, on_flags}

-- ---- a list and the function that it stands for

-- the same but at place k
pub put_at : {A : Type 0} (l : List A) (d : A) (k : ℕ) (v : A) → k < length l → put (λ j. get_or l j d) k v ≡ (λ j. get_or (set l k v) j d)
put_at l d k v h = fun_ext (λ j. by j (eqb j k) refl)
  where
    by : (j : ℕ) (b : Bool) → eqb j k ≡ b → cond b v (get_or l j d) ≡ get_or (set l k v) j d
    by j true q = sym (ap (λ n. get_or (set l k v) n d) (eqb-true j k q) ∙ get_or-set_same l k v d h)
    by j false q = sym (get_or-set_other l k j v d (eqb-false j k q))

-- the same for cells that are counted from 1
from_one : {A : Type 0} (l : List A) (d : A) (f : ℕ → A) → f 0 ≡ d → ((k : ℕ) → f (suc k) ≡ get_or l k d) → (n : ℕ) (v : A) → 1 ≤ n → n ≤ length l
    → (g : ℕ → A) → g 0 ≡ d → ((k : ℕ) → g (suc k) ≡ get_or (set l (n - 1) v) k d) → put f n v ≡ g
from_one l d f f₀ fs zero v low high g g₀ gs = absurd (omega arith)
from_one l d f f₀ fs (suc m) v low high g g₀ gs = fun_ext (λ j. by j (eqb j (suc m)) refl)
  where
    place : suc m - 1 ≡ m
    place = omega arith

    by : (j : ℕ) (b : Bool) → eqb j (suc m) ≡ b → cond b v (f j) ≡ g j
    by zero true q = absurd (let z : 0 ≡ suc m = eqb-true 0 (suc m) q in omega arith)
    by zero false q = f₀ ∙ sym g₀
    by (suc k) true q =
        let z : suc k ≡ suc m = eqb-true (suc k) (suc m) q in
        let same : k ≡ m = omega arith in
        sym (gs k ∙ ap (λ n. get_or (set l n v) k d) place ∙ ap (λ n. get_or (set l m v) n d) same ∙ get_or-set_same l m v d (omega arith))
    by (suc k) false q =
        fs k
        ∙ sym (gs k ∙ ap (λ n. get_or (set l n v) k d) place ∙ get_or-set_other l m k v d (λ e. eqb-false (suc k) (suc m) q (ap suc e)))

pub put_cell : (l : List Float) (n : ℕ) (v : Float) → 1 ≤ n → n ≤ length l → put (cell l) n v ≡ cell (set l (n - 1) v)
put_cell l n v low high = from_one l zero_float (cell l) refl (λ k. refl) n v low high (cell (set l (n - 1) v)) refl (λ k. refl)

pub put_port : (l : List Bool) (n : ℕ) (v : Bool) → 1 ≤ n → n ≤ length l → put (port l) n v ≡ port (set l (n - 1) v)
put_port l n v low high = from_one l false (port l) refl (λ k. refl) n v low high (port (set l (n - 1) v)) refl (λ k. refl)

-- ---- what it is to refine

-- f leads from the memory that h holds to the one that k holds, and the words that it writes go from h's ring to k's.
pub record Refines (f : Memory → Memory) (h k : Held) : Type 0 where
  pub words : List ℕ
  pub memory : (W : List ℕ) (l : Timed → Option Moment) → f (memory_of h W l) ≡ memory_of k (W ++ words) l
  pub tape : k.out.tape ≡ put_words words h.out.tape

-- nothing is written
pub silent : (f : Memory → Memory) (h k : Held) → ((W : List ℕ) (l : Timed → Option Moment) → f (memory_of h W l) ≡ memory_of k W l)
    → k.out.tape ≡ h.out.tape → Refines f h k
unfolding put_words
silent f h k e t = record { words = []; memory = λ W l. e W l ∙ ap (λ w. memory_of k w l) (sym (append-nil W)); tape = t }

pub unchanged : (h : Held) → Refines (λ m. m) h h
unchanged h = silent (λ m. m) h h (λ W l. refl) refl

pub put_append : (a b : List ℕ) (s : Tape) → put_words (a ++ b) s ≡ put_words b (put_words a s)
unfolding put_words
put_append [] b s = refl
put_append (w ∷ a) b s = put_append a b (put_word w s)

-- one after the other
pub both : (f g : Memory → Memory) (h k j : Held) → Refines f h k → Refines g k j → Refines (λ m. g (f m)) h j
both f g h k j a b =
    record {
      words = a.words ++ b.words;
      memory = λ W l. ap g (a.memory W l) ∙ b.memory (W ++ a.words) l ∙ ap (λ w. memory_of j w l) (append_assoc W a.words b.words);
      tape = b.tape ∙ ap (put_words b.words) a.tape ∙ sym (put_append a.words b.words h.out.tape);
    }

-- a change that is the same on the memory that h holds
pub alike : (f g : Memory → Memory) (h k : Held) → ((W : List ℕ) (l : Timed → Option Moment) → g (memory_of h W l) ≡ f (memory_of h W l)) → Refines f h k → Refines g h k
alike f g h k e r = record { words = r.words; memory = λ W l. e W l ∙ r.memory W l; tape = r.tape }

pub under : (b : Bool) (f : Memory → Memory) (h k : Held) → Refines f h k → Refines (λ m. cond b (f m) m) h (cond b k h)
under true f h k r = r
under false f h k r = unchanged h

pub unless : (b : Bool) (f : Memory → Memory) (h k : Held) → Refines f h k → Refines (λ m. cond b m (f m)) h (cond b h k)
unless true f h k r = unchanged h
unless false f h k r = r

-- a change that is made where a test holds
pub under_test : (P : Memory → Bool) (b : Bool) (f : Memory → Memory) (h k : Held) → ((W : List ℕ) (l : Timed → Option Moment) → P (memory_of h W l) ≡ b)
    → Refines f h k → Refines (λ m. cond (P m) (f m) m) h (cond b k h)
under_test P b f h k e r =
    alike (λ m. cond b (f m) m) (λ m. cond (P m) (f m) m) h (cond b k h) (λ W l. ap (λ z. cond z (f (memory_of h W l)) (memory_of h W l)) (e W l)) (under b f h k r)

-- ---- single changes

pub store_refines : (n : ℕ) (v : Float) (h : Held) → 1 ≤ n → n ≤ length h.locations → Refines (store n v) h (on_locations (store_at n v) h)
unfolding store_at
store_refines n v h low high =
    silent (store n v) h (on_locations (store_at n v) h)
    (λ W l.
    ap (λ c. memory_with c (sum_of h.sums) (count_at h.counts) (flag_at h.flags) (port h.ports) h.out W l)
    (put_cell h.locations n (stored v) low high))
    refl

sum_refines : (k : ℕ) (v : Float) (h : Held) → k < length h.sums → Refines (set_sum k v) h (on_sums (set h.sums k v) h.counts h.out h)
sum_refines k v h low =
    silent (set_sum k v) h (on_sums (set h.sums k v) h.counts h.out h)
    (λ W l.
    ap (λ c. memory_with (cell h.locations) c (count_at h.counts) (flag_at h.flags) (port h.ports) h.out W l)
    (put_at h.sums zero_float k v low))
    refl

pub count_refines : (c n : ℕ) (h : Held) → c < length h.counts → Refines (set_count c n) h (on_sums h.sums (set h.counts c n) h.out h)
count_refines c n h low =
    silent (set_count c n) h (on_sums h.sums (set h.counts c n) h.out h)
    (λ W l.
    ap (λ z. memory_with (cell h.locations) (sum_of h.sums) z (flag_at h.flags) (port h.ports) h.out W l)
    (put_at h.counts 0 c n low))
    refl

-- a flag, and perhaps a new array
pub flag_refines : (f : ℕ) (b : Bool) (o : Out) (h : Held) → f < length h.flags → o.tape ≡ h.out.tape
    → Refines (λ m. set_storage m.storage.words o.array o.waiting (set_flag f b m)) h (on_flags (set h.flags f b) h.ports o h)
flag_refines f b o h low same =
    silent (λ m. set_storage m.storage.words o.array o.waiting (set_flag f b m)) h (on_flags (set h.flags f b) h.ports o h)
    (λ W l.
    ap (λ z. memory_with (cell h.locations) (sum_of h.sums) (count_at h.counts) z (port h.ports) o W l)
    (put_at h.flags false f b low))
    same

pub port_refines : (q : ℕ) (b : Bool) (h : Held) → 1 ≤ q → q ≤ length h.ports
    → Refines (set_port q b) h (on_flags h.flags (set h.ports (q - 1) b) h.out h)
port_refines q b h low high =
    silent (set_port q b) h (on_flags h.flags (set h.ports (q - 1) b) h.out h)
    (λ W l.
    ap (λ z. memory_with (cell h.locations) (sum_of h.sums) (count_at h.counts) (flag_at h.flags) z h.out W l)
    (put_port h.ports q b low high))
    refl

pub write_refines : (v : Float) (h : Held) → Refines (write v) h (on_out (write_out v) h)
unfolding write write_out put_words
write_refines v h =
    record {
      words = cond h.out.waiting (start_word h.out.array ∷ []) [] ++ (value_word (stored v) ∷ []);
      memory = λ W l. refl;
      tape = by h.out.waiting;
    }
  where
    by : (b : Bool) → put_word (value_word (stored v)) (cond b (put_word (start_word h.out.array) h.out.tape) h.out.tape)
        ≡ put_words (cond b (start_word h.out.array ∷ []) [] ++ (value_word (stored v) ∷ [])) h.out.tape
    by true = refl
    by false = refl

-- ---- reps

-- following locations
pub stores_refine : (ks : List ℕ) (at : ℕ) (v : ℕ → Float) (h : Held) → Each (λ k. (1 ≤ at + k) × (at + k ≤ length h.locations)) ks
    → Refines (each ks (λ k. store (at + k) (v k))) h (on_locations (each ks (λ k. store_at (at + k) (v k))) h)
unfolding each store_at
stores_refine [] at v h a = unchanged h
stores_refine (k ∷ r) at v h a =
    let next : Held = on_locations (store_at (at + k) (v k)) h in
    both (store (at + k) (v k)) (each r (λ j. store (at + j) (v j))) h next (on_locations (each r (λ j. store_at (at + j) (v j))) next)
    (store_refines (at + k) (v k) h a.0.0 a.0.1)
    (stores_refine r at v next
    (each_map r (λ j z. (z.0, subst (λ n. at + j ≤ n) (sym (length-set h.locations (at + k - 1) (stored (v k)))) z.1)) a.1))

-- values written one behind the other: g reads nothing that a write changes
pub writes_refine : (ks : List ℕ) (g : ℕ → Memory → Float) (v : ℕ → Float) (h : Held)
    → ((k : ℕ) (o : Out) (W : List ℕ) (l : Timed → Option Moment) → g k (memory_of (on_out (λ z. o) h) W l) ≡ v k)
    → Refines (each ks (λ k m. write (g k m) m)) h (on_out (each ks (λ k. write_out (v k))) h)
unfolding each
writes_refine [] g v h e = unchanged h
writes_refine (k ∷ r) g v h e =
    let next : Held = on_out (write_out (v k)) h in
    both (λ m. write (g k m) m) (each r (λ j m. write (g j m) m)) h next (on_out (each r (λ j. write_out (v j))) next)
    (alike (write (v k)) (λ m. write (g k m) m) h next (λ W l. ap (λ z. write z (memory_of h W l)) (e k h.out W l)) (write_refines (v k) h))
    (writes_refine r g v next e)

abbrev pub sums_each : List ℕ → ℕ → (ℕ → List Float → Float) → Held → Held
sums_each ks s G h = on_sums (each ks (λ k u. set u (s + k) (G k u)) h.sums) h.counts h.out h

-- following sums: g reads of the sums what G reads
pub sums_refine : (ks : List ℕ) (s : ℕ) (g : ℕ → Memory → Float) (G : ℕ → List Float → Float) (h : Held)
    → ((k : ℕ) (u : List Float) (W : List ℕ) (l : Timed → Option Moment) → g k (memory_of (on_sums u h.counts h.out h) W l) ≡ G k u)
    → Each (λ k. s + k < length h.sums) ks
    → Refines (each ks (λ k m. set_sum (s + k) (g k m) m)) h (sums_each ks s G h)
unfolding each
sums_refine [] s g G h e a = unchanged h
sums_refine (k ∷ r) s g G h e a =
    let v : Float = G k h.sums in
    let next : Held = on_sums (set h.sums (s + k) v) h.counts h.out h in
    both (λ m. set_sum (s + k) (g k m) m) (each r (λ j m. set_sum (s + j) (g j m) m)) h next (sums_each r s G next)
    (alike (set_sum (s + k) v) (λ m. set_sum (s + k) (g k m) m) h next (λ W l. ap (λ z. set_sum (s + k) z (memory_of h W l)) (e k h.sums W l))
    (sum_refines (s + k) v h a.0))
    (sums_refine r s g G next e (each_map r (λ j z. subst (λ n. s + j < n) (sym (length-set h.sums (s + k) v)) z) a.1))
