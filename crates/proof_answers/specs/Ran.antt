-- A run of the plain machine from what lent buffers hold: it goes through the same places whatever words were written before, and at each place the
-- memory is what some lists hold, as long as the first. By each step, since an entry's test and effect on lists are its test and effect on the memory
-- that they hold. Assumes nothing.
use Rattle.std.specs.Prelude.{◌≡◌, true, not, length, get_or, Float}
use Rattle.std.proofs.Math.Path.{refl, ap, subst}
use Rattle.std.proofs.Common.{sym, ◌∙◌, arith, length-drop, get_or-drop}
use Prim.Native.Nat.{ℕ, suc, ◌+◌, ◌-◌, ◌<◌}
use Rattle.std.proofs.Math.Bool.{Bool}
use mathlib.Core.List.{List, [], ◌∷◌, ◌++◌, append_assoc, append-nil}
use Rattle.std.proofs.Math.Option.{Option}
use Rattle.std.proofs.Math.ListN.{drop}
use Rattle.base_laws.specs.Tests.{not-false}
use Rattle.base_program.specs.declared.Instruction.{Instruction}
use Rattle.base_program.specs.declared.Program.{Program}
use Rattle.base_program.specs.declared.Table.{Table}
use Rattle.base_program.specs.declared.Timed.{Timed}
use Rattle.base_program.specs.Entries.{row, slot, entries, entry_at}
use Rattle.base_program.specs.Flow.{flow}
use Rattle.spec_check.specs.declared.Verdict.{Verdict}
use Rattle.spec_check.specs.Check.{check}
use Rattle.spec_check.specs.Ranges.{in_range}
use Rattle.proof_check.specs.Passed.{passed}
use Rattle.spec_machine.specs.Memory.{Memory, Moment}
use Rattle.spec_machine.specs.Values.{Scan}
use Rattle.spec_machine.specs.Ends.{ways}
use Rattle.spec_machine.specs.Machine.{Open, Place, Config, Next, next, done, shift, effect, go_on, act, step}
use Rattle.spec_machine.specs.Run.{Steps, here, onward}
use Rattle.spec_machine.specs.Calls.{reading_of}
use Rattle.spec_machine.specs.Limits.{Reaches, Within}
use Rattle.proof_safety.specs.Natural.{next_with, go_with}
use Rattle.spec_buffers.specs.Held.{Held, Fits, memory_of, put_words}
use Rattle.spec_buffers.specs.Effects.{test_held, effect_held}
use Rattle.spec_buffers.specs.Refine.{Refines, put_append}
use Rattle.spec_buffers.specs.RefineEntry.{EntryReady, test_refines, effect_refines}
use Rattle.scan_turns.specs.Kept.{Keeps, effect_keeps}
use Rattle.scan_turns.specs.Loop.{entries_few, still_fits}
use Rattle.proof_answers.specs.Sizes.{effect_sizes}

abbrev pub config : Place → List Place → Memory → Config
config pl cs m = record { place = pl; callers = cs; memory = m }

abbrev Last : Type 0
Last = Timed → Option Moment

module _ (p : Program) (x : Scan) where
  -- a step from what h holds, that leads to y: to what `held` holds, with `words` written, whatever was written before
  record Turned (pl : Place) (cs : List Place) (h : Held) (y : Next) : Type 0 where
    held : Held
    words : List ℕ
    goes : (W : List ℕ) (l : Last) → step p x (config pl cs (memory_of h W l)) ≡ next_with (λ z. memory_of held (W ++ words) l) y
    tape : held.out.tape ≡ put_words words h.out.tape
    fits : Fits p held
    keeps : Keeps held

  -- k steps from what h holds with W written, that lead to d: the same
  pub record Ran (pl : Place) (cs : List Place) (h : Held) (k : ℕ) (W : List ℕ) (l : Last) (d : Config) : Type 0 where
    pub place : Place
    pub callers : List Place
    pub held : Held
    pub words : List ℕ
    pub comes : d ≡ config place callers (memory_of held (W ++ words) l)
    pub steps : (U : List ℕ) (j : Last) → Steps p x k (config pl cs (memory_of h U j)) (config place callers (memory_of held (U ++ words) j))
    pub tape : held.out.tape ≡ put_words words h.out.tape
    pub fits : Fits p held
    pub keeps : Keeps held

  -- one step, and then k
  further : (pl : Place) (cs : List Place) (h : Held) (k : ℕ) (W : List ℕ) (l : Last) (b d : Config) (z : Turned pl cs h (next b))
      → Ran b.place b.callers z.held k (W ++ z.words) l d → Ran pl cs h (suc k) W l d
  further pl cs h k W l b d z y =
      record {
        place = y.place;
        callers = y.callers;
        held = y.held;
        words = z.words ++ y.words;
        comes = y.comes ∙ ap (λ w. config y.place y.callers (memory_of y.held w l)) (append_assoc W z.words y.words);
        steps =
            λ U j.
            onward (z.goes U j)
            (subst (λ w. Steps p x k (config b.place b.callers (memory_of z.held (U ++ z.words) j)) (config y.place y.callers (memory_of y.held w j)))
            (append_assoc U z.words y.words)
            (y.steps (U ++ z.words) j));
        tape = y.tape ∙ ap (put_words y.words) z.tape ∙ sym (put_append z.words y.words h.out.tape);
        fits = y.fits;
        keeps = y.keeps;
      }

rows : (t : Table) → row t < 3
rows Table.One = omega arith
rows Table.Two = omega arith
rows Table.Three = omega arith

same_next : {c d : Config} → next c ≡ next d → c ≡ d
same_next e = cc

module _ (p : Program) (first second : ℕ) (ok : check p ≡ Verdict.Pass first second) (x : Scan) (r : List Float) (readings_are : x.readings ≡ reading_of r) where
  module _ (pl : Place) (cs : List Place) (h : Held) (fits : Fits p h) (keeps : Keeps h) where
    abbrev t : Table
    t = pl.table

    abbrev e : ℕ
    e = suc pl.before

    abbrev s : ℕ
    s = shift pl.blocks

    -- ---- a step with an entry

    module _ (i : Instruction) (rest : List Instruction) (q : drop pl.before (entries p t) ≡ i ∷ rest) where
      inside : pl.before < length (entries p t)
      inside =
          let z : length (entries p t) - pl.before ≡ suc (length rest) = sym (length-drop pl.before (entries p t)) ∙ ap length q in
          omega (arith, z)

      entry_is : entry_at p t (1 + pl.before) ≡ i
      entry_is =
          ap (λ n. get_or (entries p t) n Instruction.End) (let g : 1 + pl.before - 1 ≡ pl.before + 0 = omega arith in g)
          ∙ sym (get_or-drop pl.before (entries p t) 0 Instruction.End)
          ∙ ap (λ (l : List Instruction). get_or l 0 Instruction.End) q

      is_in_range : in_range i ≡ true
      is_in_range = not-false (in_range i) (sym (ap (λ y. not (in_range y)) entry_is) ∙ (passed p first second ok).is_in_range t pl.before inside)

      module _ (reach : Reaches p t e s (i ∷ rest)) where
        left : Held
        left = effect_held p x r t e s i h

        ready : EntryReady p t e s i h
        unfolding slot
        ready =
            record { fits = fits; reach = reach; range = is_in_range; slot_in = omega (arith, entries_few p t, rows t, inside) }

        refined : Refines (effect p x t e s i) h left
        unfolding left
        refined = effect_refines p x r readings_are t e s i h ready

        acts : (W : List ℕ) (l : Last)
            → step p x (config pl cs (memory_of h W l))
            ≡ go_on p x (flow i) (test_held x s i h) (ways e rest) t e pl.blocks cs (memory_of left (W ++ refined.words) l)
        unfolding act
        acts W l =
            let go : Bool → Memory → Next = λ b m. go_on p x (flow i) b (ways e rest) t e pl.blocks cs m in
            ap (λ (z : List Instruction). act p x z t pl.before pl.blocks cs (memory_of h W l)) q
            ∙ ap (λ b. go b (effect p x t e s i (memory_of h W l))) (test_refines p x s i h W l)
            ∙ ap (go (test_held x s i h)) (refined.memory W l)

        turned : (W : List ℕ) (l : Last) → Turned p x pl cs h (step p x (config pl cs (memory_of h W l)))
        unfolding left
        turned W l =
            let k = effect_keeps p x r t e s (omega (arith, entries_few p t, rows t, inside)) i h keeps in
            let z = effect_sizes p x r t e s i h in
            record {
              held = left;
              words = refined.words;
              goes =
                  λ U j.
                  acts U j
                  ∙ go_with (λ m. memory_of left (U ++ refined.words) j) (memory_of left (W ++ refined.words) l) p x (flow i) (test_held x s i h) (ways e rest) t e pl.blocks cs
                  ∙ ap (next_with (λ m. memory_of left (U ++ refined.words) j)) (sym (acts W l));
              tape = refined.tape;
              fits = still_fits p h left fits k z.locations z.sums z.counts z.flags z.ports;
              keeps = k;
            }

    -- ---- and with none

    no_entry : drop pl.before (entries p t) ≡ [] → (W : List ℕ) (l : Last) (m : Memory)
        → step p x (config pl cs m) ≡ next_with (λ z. m) (step p x (config pl cs (memory_of h W l)))
    unfolding act
    no_entry q W l m =
        ap (λ (z : List Instruction). act p x z t pl.before pl.blocks cs m) q
        ∙ by pl.blocks cs
        ∙ ap (next_with (λ z. m)) (sym (ap (λ (z : List Instruction). act p x z t pl.before pl.blocks cs (memory_of h W l)) q))
      where
        by : (bs : List Open) (ds : List Place)
            → act p x [] t pl.before bs ds m ≡ next_with (λ z. m) (act p x [] t pl.before bs ds (memory_of h W l))
        by [] [] = refl
        by [] (c ∷ ds) = refl
        by (b ∷ bs) ds = refl

    turn : (W : List ℕ) (l : Last) → Within p x (config pl cs (memory_of h W l)) → Turned p x pl cs h (step p x (config pl cs (memory_of h W l)))
    unfolding put_words
    turn W l within = by (drop pl.before (entries p t)) refl within.reach
      where
        by : (z : List Instruction) → drop pl.before (entries p t) ≡ z → Reaches p t e s z → Turned p x pl cs h (step p x (config pl cs (memory_of h W l)))
        by [] q reach =
            record {
              held = h;
              words = [];
              goes =
                  λ U j.
                  no_entry q W l (memory_of h U j)
                  ∙ ap (λ v. next_with (λ z. memory_of h v j) (step p x (config pl cs (memory_of h W l)))) (sym (append-nil U));
              tape = refl;
              fits = fits;
              keeps = keeps;
            }
        by (i ∷ rest) q reach = turned i rest q reach W l

  -- ---- all steps

  abbrev AllWithin : Config → Type 0
  AllWithin c = (j : ℕ) (b : Config) → Steps p x j c b → Within p x b

  pub ran : {k : ℕ} {c d : Config} → Steps p x k c d → (pl : Place) (cs : List Place) (h : Held) → Fits p h → Keeps h → (W : List ℕ) (l : Last)
      → c ≡ config pl cs (memory_of h W l) → AllWithin c → Ran p x pl cs h k W l d
  unfolding put_words
  ran here pl cs h fits keeps W l is within =
      record {
        place = pl;
        callers = cs;
        held = h;
        words = [];
        comes = is ∙ ap (λ w. config pl cs (memory_of h w l)) (sym (append-nil W));
        steps =
            λ U j. subst (λ w. Steps p x 0 (config pl cs (memory_of h U j)) (config pl cs (memory_of h w j))) (sym (append-nil U)) here;
        tape = refl;
        fits = fits;
        keeps = keeps;
      }
  ran {k = suc k} {c = c} {d = d} (onward {d = b} q more) pl cs h fits keeps W l is within =
      let to : step p x (config pl cs (memory_of h W l)) ≡ next b = ap (step p x) (sym is) ∙ q in
      let z : Turned p x pl cs h (next b) = subst (Turned p x pl cs h) to (turn pl cs h fits keeps W l (subst (Within p x) is (within 0 c here))) in
      further p x pl cs h k W l b d z
      (ran more b.place b.callers z.held z.fits z.keeps (W ++ z.words) l (same_next (sym to ∙ z.goes W l)) (λ j a w. within (suc j) a (onward q w)))

  -- where the run ends, it does so whatever was written before
  pub ended : (pl : Place) (cs : List Place) (h : Held) → Fits p h → Keeps h → (W : List ℕ) (l : Last) → Within p x (config pl cs (memory_of h W l))
      → step p x (config pl cs (memory_of h W l)) ≡ done → (U : List ℕ) (j : Last) → step p x (config pl cs (memory_of h U j)) ≡ done
  ended pl cs h fits keeps W l within over U j =
      let z = turn pl cs h fits keeps W l within in
      z.goes U j ∙ ap (next_with (λ m. memory_of z.held (U ++ z.words) j)) over
