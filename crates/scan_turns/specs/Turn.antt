-- One turn of the loop is one step of the plain machine: an entry does what `effect` says and leads where `goOn` says; the configuration runs well,
-- so there is a next step, with less to go; behind a table's last entry nothing is open, and the scan has ended. Assumes nothing.
use Rattle.std.specs.Prelude.{◌≡◌, refl, ℕ, suc, ◌+◌, ◌/◌, ◌%◌, ◌≤◌, ◌<◌, Bool, true, false, cond, List, [], ◌∷◌, ◌++◌, length, get_or, drop, eqb, Float}
use Rattle.std.proofs.Common.{sym, ◌∙◌, arith, add-one, append_assoc, drop-cons, eqb-true, eq-eqb}
use Rattle.std.proofs.Math.Path.{ap, subst}
use Rattle.std.proofs.Math.Option.{Option, none}
use Rattle.std.proofs.lemmas.Bool.{eqb-false}
use Rattle.base_program.specs.declared.Instruction.{Instruction}
use Rattle.base_program.specs.declared.Program.{Program}
use Rattle.base_program.specs.declared.Table.{Table}
use Rattle.base_program.specs.declared.Table.TheVariants.{One, Two, Three}
use Rattle.base_program.specs.declared.Timed.{Timed}
use Rattle.base_program.specs.Flow.{flow}
use Rattle.base_program.specs.Entries.{row, slot, entries, table_at}
use Rattle.spec_check.specs.Ranges.{in_range}
use Rattle.proof_check.specs.Passed.{Passed}
use Rattle.spec_machine.specs.Memory.{Memory, Moment, fresh}
use Rattle.spec_machine.specs.Values.{Scan}
use Rattle.spec_machine.specs.Machine.{Config, next, done, stuck, at, table_of, array_id, shift, effect, step}
use Rattle.spec_machine.specs.Run.{Steps, here, onward}
use Rattle.spec_machine.specs.Calls.{reading_of}
use Rattle.spec_machine.specs.Limits.{Reaches, InReach, Within}
use Rattle.proof_safety.specs.Potential.{shapes, Well, RunsWell, Advances}
use Rattle.proof_safety.specs.Advance.{advance}
use Rattle.proof_safety.specs.Proof.{within}
use Rattle.spec_buffers.specs.Held.{Held, Fits, memory_of, put_words}
use Rattle.spec_buffers.specs.Effects.{test_held, effect_held}
use Rattle.spec_buffers.specs.Refine.{Refines, put_append}
use Rattle.spec_buffers.specs.RefineEntry as Entry
use Rattle.spec_buffers.specs.RefineEntry.{test_refines, effect_refines}
use Rattle.scan_targets.specs.Told as Targets
use Rattle.scan_targets.specs.Told.{place_number, Subs}
use Rattle.scan_targets.specs.Laws.{entries_most}
use Rattle.scan_marks.specs.Marks.{Mark, stack, To}
use Rattle.scan_marks.specs.Move.{Moved, shift_to, Shifted, move_to}
use Rattle.scan_control.specs.Refine.{blocks_of, config_of, next_of, shifts, marks_fit}
use Rattle.scan_control.specs.Steps.{answer_next, answer_nowhere, step_ends, step_moves}
use Rattle.scan_entry.specs.Asks.{EntryNumbers, EntryTold}
use Rattle.scan_entry.specs.Done.{Done}
use Rattle.scan_turns.specs.Togo.{to_go, runs_exact}
use Rattle.scan_turns.specs.Kept.{Keeps, effect_keeps}
use Rattle.scan_turns.specs.Small.{call_small}

-- ---- places

-- the table and the entry behind place pc
abbrev pub table_in : ℕ → Table
table_in pc = table_at (pc / 128)

abbrev pub entry_in : ℕ → ℕ
entry_in pc = pc % 128 + 1

row_most : (t : Table) → row t ≤ 2
row_most One = omega arith
row_most Two = omega arith
row_most Three = omega arith

slot_in : (t : Table) (e : ℕ) → 1 ≤ e → e ≤ 99 → slot t e < 297
unfolding slot
slot_in t e low high = omega (arith, row_most t)

id_in : (t : Table) (e : ℕ) → e ≤ 99 → array_id t e ≤ 399
id_in t e high = omega (arith, row_most t)

-- ---- what the loop keeps

-- at place pc, with these marks, the configuration runs well; what is held fits the program
pub record TurnGoing (p : Program) (pc : ℕ) (marks : List ℕ) (top : ℕ) (h : Held) : Type 0 where
  pub place : pc < 384
  pub size : length marks ≡ 97
  pub shifted : Shifted marks top
  pub bound : ℕ
  pub runs : RunsWell p (config_of pc (stack marks top) fresh) bound
  pub fits : Fits p h
  pub keeps : Keeps h

-- the plain machine has come here, and the words that it wrote have gone round the ring
pub record Came (p : Program) (x : Scan) (h₀ : Held) (pc : ℕ) (marks : List ℕ) (top : ℕ) (h : Held) : Type 0 where
  pub words : List ℕ
  pub steps : (before : List ℕ) (last : Timed → Option Moment)
      → (n : ℕ) × Steps p x n (at (table_of x.table) 0 [] [] (memory_of h₀ before last)) (config_of pc (stack marks top) (memory_of h (before ++ words) last))
  pub tape : h.out.tape ≡ put_words words h₀.out.tape

-- what is left to go
abbrev pub left_at : Program → ℕ → List ℕ → ℕ → ℕ
left_at p pc marks top = to_go p (config_of pc (stack marks top) fresh)

-- a configuration runs well whatever its memory is
other_memory : (p : Program) (pc : ℕ) (s : List Mark) (m m' : Memory) (b : ℕ) → RunsWell p (config_of pc s m) b → RunsWell p (config_of pc s m') b
other_memory p pc s m m' b r =
    record { level = r.level; scope = r.scope; mine = r.mine; theirs = r.theirs; sum = r.sum; stands = r.stands; callers = r.callers }

one_more_lem : {p : Program} {x : Scan} {n : ℕ} {a b c : Config} → Steps p x n a b → step p x b ≡ next c → Steps p x (suc n) a c
one_more_lem here q = onward q here
one_more_lem (onward e r) q = onward e (one_more_lem r q)

module _ (p : Program) (passed : Passed p) (pc : ℕ) (marks : List ℕ) (top : ℕ) (h : Held) (g : TurnGoing p pc marks top h) where
  abbrev here_at : Memory → Config
  here_at m = config_of pc (stack marks top) m

  keeps_limits : (x : Scan) (m : Memory) → Within p x (here_at m)
  keeps_limits x m = within p passed x (here_at m) g.bound (other_memory p pc (stack marks top) fresh m g.bound g.runs)

  -- there is room for one more mark
  pub some_room : (x : Scan) → top < 96
  some_room x = let w = keeps_limits x fresh in marks_fit marks top w.blocks.0 w.blocks.1 w.depth

  -- ---- behind the last entry

  -- nothing is open
  pub nothing_open : Scan → length (entries p (table_in pc)) ≤ pc % 128 → top ≡ 0
  nothing_open x behind = by (eqb top 0) refl
    where
      by : (b : Bool) → eqb top 0 ≡ b → top ≡ 0
      by true e = eqb-true top 0 e
      by false e = absurd ((keeps_limits x fresh).goes_on (step_ends p x pc marks top fresh behind ∙ ap (λ b. cond b done stuck) e))

  pub ended : (x : Scan) → length (entries p (table_in pc)) ≤ pc % 128 → (m : Memory) → step p x (here_at m) ≡ done
  ended x behind m = step_ends p x pc marks top m behind ∙ ap (λ b. cond b done stuck) (eq-eqb top 0 (nothing_open x behind))

  -- ---- an entry

  module _ (inside : pc % 128 < length (entries p (table_in pc))) (i : Instruction) (is : get_or (entries p (table_in pc)) (pc % 128) Instruction.End ≡ i) where
    from_here : drop (pc % 128) (entries p (table_in pc)) ≡ i ∷ drop (suc (pc % 128)) (entries p (table_in pc))
    from_here = drop-cons (entries p (table_in pc)) (pc % 128) Instruction.End inside ∙ ap (λ y. y ∷ drop (suc (pc % 128)) (entries p (table_in pc))) is

    pub entry_most : entry_in pc ≤ 99
    entry_most = omega (arith, entries_most p (table_in pc))

    pub range_here : in_range i ≡ true
    range_here =
        (subst (λ l. Well p g.runs.level g.runs.scope (table_in pc) (shapes (blocks_of (stack marks top))) l) from_here g.runs.stands.ok).0.is_in_range

    reach_here : (x : Scan) → InReach p (table_in pc) (entry_in pc) (shift_to (stack marks top)) i
    reach_here x =
        subst (λ e. InReach p (table_in pc) e (shift_to (stack marks top)) i) (sym (add-one (pc % 128)))
        (subst (λ s. InReach p (table_in pc) (suc (pc % 128)) s i) (sym (shifts (stack marks top)))
        (subst (λ l. Reaches p (table_in pc) (suc (pc % 128)) (shift (blocks_of (stack marks top))) l) from_here (keeps_limits x fresh).reach))

    pub ready_here : (x : Scan) → Entry.EntryReady p (table_in pc) (entry_in pc) (shift_to (stack marks top)) i h
    ready_here x =
        record {
          fits = g.fits;
          reach = reach_here x;
          range = range_here;
          slot_in = slot_in (table_in pc) (entry_in pc) (omega arith) entry_most;
        }

    module _ (ends elses subs : List ℕ) (told : Targets.TargetsTold p ends elses) (places : Subs p subs) (x : Scan) (home : ℕ)
        (home_is : home ≡ place_number (table_of x.table) (length (entries p (table_of x.table))))
        (readings : List Float) (readings_are : x.readings ≡ reading_of readings)
        (k : EntryNumbers) (ShiftIs : k.shift ≡ shift_to (stack marks top)) (known : EntryTold p x (table_in pc) (entry_in pc) k)
        (h' : Held) (r : ℕ) (marks' : List ℕ) (top' : ℕ)
        (d : Done k i readings h h' ends elses subs home (pc + 1) (stack marks top) r marks' top') where
      to : To
      to = move_to ends elses subs home (flow i) (test_held x (shift_to (stack marks top)) i h) (pc + 1) (stack marks top)

      leads : Moved to r marks' top'
      unfolding to
      leads =
          subst (λ s. Moved (move_to ends elses subs home (flow i) (test_held x s i h) (pc + 1) (stack marks top)) r marks' top') ShiftIs
          (d.move p x (table_in pc) (entry_in pc) known)

      held_is : h' ≡ effect_held p x readings (table_in pc) (entry_in pc) (shift_to (stack marks top)) i h
      held_is =
          d.effect p x (table_in pc) (entry_in pc) known
          ∙ ap (λ s. effect_held p x readings (table_in pc) (entry_in pc) s i h) ShiftIs

      refined : Refines (effect p x (table_in pc) (entry_in pc) (shift_to (stack marks top)) i) h h'
      refined =
          subst (λ z. Refines (effect p x (table_in pc) (entry_in pc) (shift_to (stack marks top)) i) h z) (sym held_is)
          (effect_refines p x readings readings_are (table_in pc) (entry_in pc) (shift_to (stack marks top)) i h (ready_here x))

      pub written : List ℕ
      written = refined.words

      pub goes_round : h'.out.tape ≡ put_words written h.out.tape
      unfolding written
      goes_round = refined.tape

      stepped : (W : List ℕ) (l : Timed → Option Moment) → step p x (here_at (memory_of h W l)) ≡ next_of to (memory_of h' (W ++ written) l)
      unfolding to written
      stepped W l =
          step_moves p ends elses subs told places x home home_is pc (stack marks top) (memory_of h W l) i g.place inside is (call_small i range_here)
          ∙ ap
          (λ b. next_of (move_to ends elses subs home (flow i) b (pc + 1) (stack marks top))
          (effect p x (table_in pc) (entry_in pc) (shift_to (stack marks top)) i (memory_of h W l)))
          (test_refines p x (shift_to (stack marks top)) i h W l)
          ∙ ap (λ m. next_of (move_to ends elses subs home (flow i) (test_held x (shift_to (stack marks top)) i h) (pc + 1) (stack marks top)) m)
          (refined.memory W l)

      not_nowhere : r ≡ 384 → ⊥
      not_nowhere e =
          (keeps_limits x (memory_of h [] (λ t. none))).goes_on
          (stepped [] (λ t. none) ∙ answer_nowhere to marks' top' (memory_of h' ([] ++ written) (λ t. none)) (subst (λ z. Moved to z marks' top') e leads))

      pub place_next : r < 384
      place_next = by (eqb r 384) refl
        where
          by : (b : Bool) → eqb r 384 ≡ b → r < 384
          by true e = absurd (not_nowhere (eqb-true r 384 e))
          by false e = let w : r ≤ 384 = leads.within in let n : r ≡ 384 → ⊥ = eqb-false r 384 e in omega arith

      pub next_step : (W : List ℕ) (l : Timed → Option Moment)
          → step p x (here_at (memory_of h W l)) ≡ next (config_of r (stack marks' top') (memory_of h' (W ++ written) l))
      next_step W l = stepped W l ∙ answer_next to r marks' top' (memory_of h' (W ++ written) l) leads not_nowhere

      -- ---- the next turn

      advanced : Advances p (next (config_of r (stack marks' top') (memory_of h' ([] ++ written) (λ t. none)))) (left_at p pc marks top)
      advanced =
          let m : Memory = memory_of h [] (λ t. none) in
          subst (λ y. Advances p y (left_at p pc marks top)) (next_step [] (λ t. none))
          (advance p x (here_at m) (left_at p pc marks top)
          (other_memory p pc (stack marks top) fresh m (left_at p pc marks top) (runs_exact p (here_at fresh) g.bound g.runs).1))

      pub less_left : left_at p r marks' top' < left_at p pc marks top
      less_left =
          let a = advanced in
          omega (arith, a.1, (runs_exact p (config_of r (stack marks' top') fresh) a.0 (other_memory p r (stack marks' top') _ fresh a.0 a.2)).0)

      keeps_on : Keeps h'
      keeps_on =
          subst Keeps (sym held_is)
          (effect_keeps p x readings (table_in pc) (entry_in pc) (shift_to (stack marks top)) (id_in (table_in pc) (entry_in pc) entry_most) i h g.keeps)

      pub going : length marks' ≡ 97 → (Keeps h' → Fits p h') → TurnGoing p r marks' top' h'
      going long fits =
          let a = advanced in
          record {
            place = place_next;
            size = long;
            shifted = leads.shifted;
            bound = a.0;
            runs = other_memory p r (stack marks' top') _ fresh a.0 a.2;
            fits = fits keeps_on;
            keeps = keeps_on;
          }

      pub came : (h₀ : Held) → Came p x h₀ pc marks top h → Came p x h₀ r marks' top' h'
      came h₀ c =
          record {
            words = c.words ++ written;
            steps =
                λ before last.
                let z = c.steps before last in (
                  suc z.0,
                  subst (λ w. Steps p x (suc z.0) (at (table_of x.table) 0 [] [] (memory_of h₀ before last)) (config_of r (stack marks' top') (memory_of h' w last)))
                      (append_assoc before c.words written)
                      (one_more_lem z.1 (next_step (before ++ c.words) last)),
                );
            tape = goes_round ∙ ap (put_words written) c.tape ∙ sym (put_append c.words written h₀.out.tape);
          }
