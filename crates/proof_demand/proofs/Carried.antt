-- One call: what it leaves holds what the plain machine's same call leaves. A scan's run is the machine's, since it starts from the same memory
-- with no start word waiting; a keyed location or flag is one change of a list and of the function that it stands for. Assumes nothing.
use Rattle.std.specs.Prelude.{◌≡◌, ℕ, zero, suc, ◌-◌, ◌≤◌, Bool, true, not, List, ◌++◌, set, eqb, leb, Float}
use Rattle.std.proofs.Math.Path.{refl, sym, ap, subst, fun_ext}
use Rattle.std.proofs.Common.{◌∙◌, arith, eqb-true, leb-true}
use Rattle.std.proofs.Math.Bool.{false}
use Rattle.std.proofs.Math.Option.{Option}
use Rattle.std.proofs.Math.ListN.{length, length-set}
use Rattle.base_float.specs.Finite.{finite}
use Rattle.base_program.specs.declared.Program.{Program}
use Rattle.base_program.specs.declared.Timed.{Timed}
use Rattle.base_program.specs.declared.Timed.TheVariants.{One, Two}
use Rattle.spec_check.specs.declared.Verdict.{Verdict}
use Rattle.spec_check.specs.Check.{check, or}
use Rattle.base_program.specs.Codes.{between}
use Rattle.storage_ring.specs.Ring.{latest}
use Rattle.spec_machine.specs.Memory.{Memory, Moment, set_location, set_flag}
use Rattle.spec_machine.specs.Values.{Scan}
use Rattle.base_laws.specs.Tests.{and_both}
use Rattle.spec_machine.specs.Run.{due, scan_of, starting, start, Ends}
use Rattle.spec_machine.specs.Calls.{Call, Lengths, scan, key_location, key_flag, locations_lent, all_lent, is_tick, is_keyed, refusal, reading_of, MachineScanned, Answering, After}
use Rattle.spec_buffers.specs.Held.{cell, port, sum_of, count_at, flag_at, memory_with}
use Rattle.spec_buffers.specs.Refine.{put_at, put_cell}
use Rattle.spec_calls.specs.Stores.{Stores, stores, lengths_of, held_in, tape_in, last_in, memory_in}
use Rattle.spec_calls.specs.Scanned.{StoresScanned, Leaves, scan_in}
use Rattle.spec_calls.specs.Holding.{with_waiting}
use Rattle.spec_calls.specs.Answers.{ScanLeaves, ScanAnswers, keyed, turned, flagged, Answered}
use Rattle.spec_calls.specs.RingWords.{Gone, all_gone, latest_again}
use Rattle.proof_demand.specs.Before.{waits, whatever_before}
use Rattle.proof_demand.specs.Kept.{StoresKept, ring_sound, lent_ring, scan_refused, key_refused, flag_refused}

-- what comes of call c, from memory m, that answers `number` and leaves b
pub record Goes (p : Program) (n : Lengths) (c : Call) (m : Memory) (number : ℕ) (b : Stores) : Type 0 where
  pub answer : number ≡ refusal p n c
  pub left : Memory
  pub after : After p n c m left
  pub kept : StoresKept n b left

-- ---- what no refusal tells

lent : (p : Program) (n : Lengths) (t : Timed) (day time : ℕ) (r : List Float) → 0 ≡ refusal p n (scan t day time r) → all_lent p n r ≡ true
unfolding refusal
lent p n t day time r = by (all_lent p n r)
  where
    by : (b : Bool) → 0 ≡ or (not b) 31 (or (not (is_tick day time)) 33 0) → b ≡ true
    by true e = refl
    by false e = absurd (omega arith)

keyed_inside : (p : Program) (n : Lengths) (l : ℕ) (v : Float) → 0 ≡ refusal p n (key_location l v) → (1 ≤ l) × (l ≤ n.locations)
unfolding refusal
keyed_inside p n l v = by (locations_lent p n) (is_keyed p l v) refl refl
  where
    by : (a b : Bool) → locations_lent p n ≡ a → is_keyed p l v ≡ b → 0 ≡ or (not a) 31 (or (not b) 34 0) → (1 ≤ l) × (l ≤ n.locations)
    by false b g h e = absurd (omega arith)
    by true false g h e = absurd (omega arith)
    by true true g h e =
        let z = and_both (leb 1 l) (leb l p.locations) (and_both (between 1 p.locations l) (finite v) h).0 in
        (leb-true 1 l z.0, omega (arith, leb-true l p.locations z.1, eqb-true n.locations p.locations g))

flag_inside : (p : Program) (n : Lengths) (f : ℕ) → 0 ≡ refusal p n (key_flag f) → f ≤ 8
unfolding refusal
flag_inside p n f = by (between 1 8 f) refl
  where
    by : (a : Bool) → between 1 8 f ≡ a → 0 ≡ or (not a) 34 0 → f ≤ 8
    by false g e = absurd (omega arith)
    by true g e = leb-true f 8 (and_both (leb 1 f) (leb f 8) g).1

-- ---- a scan that runs

module _ (p : Program) (n : Lengths) (t : Timed) (day time : ℕ) (r : List Float) (a b : Stores) (m : Memory) (k : StoresKept n a m) (fit : all_lent p n r ≡ true)
    (l : Leaves p (scan_in t day time r a) a b) where
  -- the machine's words before the scan
  words : List ℕ
  words = m.storage.words

  left : Memory
  left = with_waiting (waits l) (memory_in b (words ++ l.words))

  this : Scan
  this = scan_of t day time (reading_of r) m

  same_scan : scan_in t day time r a ≡ this
  unfolding this
  same_scan = ap (λ z. record { table = t; day = day; time = time; readings = reading_of r; previous = z }) (sym (ap (λ (z : Memory). z.last t) k.memory))

  -- no start word waits as a table starts
  same_start : (x : Scan) → start x (memory_in a words) ≡ start x m
  unfolding starting words
  same_start x = sym (ap (start x) k.memory)

  run : MachineScanned true p t day time r m left
  unfolding this left words
  run =
      let z = whatever_before l words in
      (z.0, subst (λ x. Ends p x (start x m) z.0 left) same_scan (subst (λ c. Ends p (scan_in t day time r a) c z.0 left) (same_start (scan_in t day time r a)) z.1))

  gone : Gone l.words (tape_in a) (tape_in b)
  gone =
      subst (λ z. Gone l.words (tape_in a) z) (sym l.ring)
      (all_gone l.words (tape_in a) (ring_sound n a m k (lent_ring p n r fit)))

  long : lengths_of b ≡ n
  long =
      let f = l.sound.fits in
      let x = and_both (locations_lent p n) _ fit in
      let y = and_both (eqb n.sums p.sums) _ x.1 in
      let z = and_both (eqb n.counts 297) _ y.1 in
      let e₁ : length b.locations ≡ n.locations = f.locations ∙ sym (eqb-true n.locations p.locations x.0) in
      let e₂ : length b.sums ≡ n.sums = f.sums ∙ sym (eqb-true n.sums p.sums y.0) in
      let e₃ : length b.counts ≡ n.counts = f.counts ∙ sym (eqb-true n.counts 297 z.0) in
      let e₄ : length b.ring ≡ n.ring = gone.long ∙ ap (λ (w : Lengths). w.ring) k.lengths in
      let g : lengths_of b ≡ record { locations = n.locations; sums = n.sums; counts = n.counts; ring = n.ring } = cc in
      g

  left_kept : StoresKept n b left
  unfolding left words
  left_kept =
      record {
        lengths = long;
        flags = l.sound.fits.flags;
        array = l.sound.array;
        counts = l.sound.counts;
        position = λ h. gone.sound.position;
        filled = gone.sound.filled;
        waiting = waits l;
        memory = refl;
        ring =
            gone.aged
            ∙ ap (λ w. latest (length a.ring) (w ++ l.words)) k.ring
            ∙ latest_again (length a.ring) words l.words
            ∙ ap (λ i. latest i (words ++ l.words)) (sym gone.long);
      }

-- ---- keyings

module _ (n : Lengths) (a : Stores) (m : Memory) (k : StoresKept n a m) where
  -- a memory with the rest of what a holds
  rest : (ℕ → Float) → (ℕ → Bool) → (Timed → Option Moment) → Memory
  rest locations flags last =
      with_waiting k.waiting
      (memory_with locations (sum_of a.sums) (count_at a.counts) flags (port a.state.ports) (held_in a).out m.storage.words last)

  location_kept : (l : ℕ) (v : Float) → 1 ≤ l → l ≤ length a.locations
      → StoresKept n (stores a.state (set a.locations (l - 1) v) a.sums a.counts a.ring) (set_location l v m)
  unfolding rest
  location_kept l v low high =
      record {
        lengths =
            ap (λ z. record { locations = z; sums = length a.sums; counts = length a.counts; ring = length a.ring }) (length-set a.locations (l - 1) v)
            ∙ k.lengths;
        flags = k.flags;
        array = k.array;
        counts = k.counts;
        position = k.position;
        filled = k.filled;
        waiting = k.waiting;
        memory =
            ap (set_location l v) k.memory
            ∙ ap (λ z. rest z (flag_at a.state.flags) (last_in a.state)) (put_cell a.locations l v low high);
        ring = k.ring;
      }

  flag_kept : (f : ℕ) → f ≤ 8 → StoresKept n (stores (turned f a.state) a.locations a.sums a.counts a.ring) (set_flag f (not (m.signals.flags f)) m)
  unfolding rest
  flag_kept f high =
      record {
        lengths = k.lengths;
        flags = length-set a.state.flags f (not (flag_at a.state.flags f)) ∙ k.flags;
        array = k.array;
        counts = k.counts;
        position = k.position;
        filled = k.filled;
        waiting = k.waiting;
        memory =
            ap (λ (w : Memory). set_flag f (not (w.signals.flags f)) w) k.memory
            ∙ ap (λ z. rest (cell a.locations) z (last_in a.state)) (put_at a.state.flags false f (not (flag_at a.state.flags f)) (omega (arith, k.flags)))
            ∙ ap (rest (cell a.locations) (flag_at (set a.state.flags f (not (flag_at a.state.flags f))))) (fun_ext same_last);
        ring = k.ring;
      }
    where
      same_last : (t : Timed) → last_in a.state t ≡ last_in (turned f a.state) t
      same_last One = refl
      same_last Two = refl

-- ---- any call

-- the same memory of what is held alike
same_kept : {n : Lengths} {a b : Stores} {m : Memory} → b ≡ a → StoresKept n a m → StoresKept n b m
same_kept {n = n} {m = m} e k = subst (λ s. StoresKept n s m) (sym e) k

module _ (p : Program) (first second : ℕ) (ok : check p ≡ Verdict.Pass first second) (n : Lengths) (a b : Stores) (m : Memory) (k : StoresKept n a m) where
  -- a refused or carried out call, by the number that it answers
  goes : (c : Call) (number : ℕ) → number ≡ refusal p n c → (z : (left : Memory) × Answering number p c m left × StoresKept n b left) → Goes p n c m number b
  goes c number e z = record { answer = e; left = z.0; after = subst (λ i. Answering i p c m z.0) e z.1; kept = z.2 }

  scan_goes : (t : Timed) (day time : ℕ) (r : List Float) (number : ℕ) → ScanAnswers p t day time r a number b → Goes p n (scan t day time r) m number b
  scan_goes t day time r number h = goes (scan t day time r) number same (by number same h.left)
    where
      same : number ≡ refusal p n (scan t day time r)
      same = h.refusal ∙ scan_refused p first second ok n a m k t day time r

      due_or_not : (d : Bool) → 0 ≡ refusal p n (scan t day time r) → StoresScanned d p t day time r a b → (left : Memory) × MachineScanned d p t day time r m left × StoresKept n b left
      due_or_not true e l = let fit = lent p n t day time r e in (left p n t day time r a b m k fit l, run p n t day time r a b m k fit l, left_kept p n t day time r a b m k fit l)
      due_or_not false e l = (m, refl, same_kept l k)

      by : (i : ℕ) → i ≡ refusal p n (scan t day time r) → ScanLeaves i p t day time r a b → (left : Memory) × Answering i p (scan t day time r) m left × StoresKept n b left
      by zero e l = due_or_not (due p t time) e l
      by (suc i) e l = (m, refl, same_kept l k)

  key_goes : (l : ℕ) (v : Float) (number : ℕ) → Answered p (key_location l v) a number b → Goes p n (key_location l v) m number b
  unfolding keyed
  key_goes l v number h = goes (key_location l v) number same (by number same h.1)
    where
      same : number ≡ refusal p n (key_location l v)
      same = h.0 ∙ key_refused p first second ok n a m k l v

      by : (i : ℕ) → i ≡ refusal p n (key_location l v) → b ≡ stores a.state (keyed i l v a.locations) a.sums a.counts a.ring
          → (left : Memory) × Answering i p (key_location l v) m left × StoresKept n b left
      by zero e g =
          let long : length a.locations ≡ n.locations = ap (λ (w : Lengths). w.locations) k.lengths in
          let z = keyed_inside p n l v e in
          (set_location l v m, refl, same_kept g (location_kept n a m k l v z.0 (omega (arith, z.1, long))))
      by (suc i) e g = (m, refl, same_kept g k)

  flag_goes : (f : ℕ) (number : ℕ) → Answered p (key_flag f) a number b → Goes p n (key_flag f) m number b
  unfolding flagged
  flag_goes f number h = goes (key_flag f) number same (by number same h.1)
    where
      same : number ≡ refusal p n (key_flag f)
      same = h.0 ∙ flag_refused p first second ok n a m k f

      by : (i : ℕ) → i ≡ refusal p n (key_flag f) → b ≡ stores (flagged i f a.state) a.locations a.sums a.counts a.ring
          → (left : Memory) × Answering i p (key_flag f) m left × StoresKept n b left
      by zero e g = (set_flag f (not (m.signals.flags f)) m, refl, same_kept g (flag_kept n a m k f (flag_inside p n f e)))
      by (suc i) e g = (m, refl, same_kept g k)

  pub call_goes : (c : Call) (number : ℕ) → Answered p c a number b → Goes p n c m number b
  call_goes (scan t day time r) number h = scan_goes t day time r number h
  call_goes (key_location l v) number h = key_goes l v number h
  call_goes (key_flag f) number h = flag_goes f number h
