-- An arm for each instruction: what was done is the plain machine's effect of that instruction, and the place is the one that it leads to.
-- Assumes nothing.
use Rattle.std.specs.Prelude.{◌≡◌, ℕ, ◌%◌, Bool, true, false, cond, ◌&&◌, List, [], ◌++◌, leb, Float}
use Rattle.std.proofs.Math.Path.{refl, sym, ap}
use Rattle.std.proofs.Common.{◌∙◌, subst, arith}
use Rattle.std.specs.Bool.{beq}
use Rattle.std.proofs.Math.Dec.{eqb}
use Rattle.base_float.specs.Finite.{finite}
use Rattle.base_program.specs.declared.Command.{Command}
use Rattle.base_program.specs.declared.Flow.{Flow}
use Rattle.base_program.specs.declared.Instruction.{Instruction}
use Rattle.base_program.specs.declared.Instruction.TheVariants.{MeasureSingle, MeasureDifferential, Average, Total, Maximum, Minimum, Do, IfLocations, IfFixed, IfFlag, IfTime}
use Rattle.base_program.specs.declared.Program.{Program}
use Rattle.base_program.specs.declared.Table.{Table}
use Rattle.base_program.specs.declared.Location.{Location}
use Rattle.base_program.specs.declared.Relation.{Relation}
use Rattle.base_program.specs.declared.Scale.{Scale}
use Rattle.base_program.specs.Flow.{flow, command_flow}
use Rattle.base_program.specs.Entries.{slot}
use Rattle.spec_check.specs.Ranges.{in_range, is_reps, command_in_range, is_unconditional}
use Rattle.base_program.specs.Codes.{between}
use Rattle.spec_machine.specs.Values.{Scan, holds, minute_of, time_is}
use Rattle.base_program.specs.Reach.{numbers_from, locations, sums, moved}
use Rattle.spec_machine.specs.Limits.{spanned, Each}
use Rattle.spec_machine.specs.Machine.{array_id}
use Rattle.base_laws.specs.Tests.{and_both}
use Rattle.spec_buffers.specs.Held.{Held, Out, held_of}
use Rattle.spec_buffers.specs.Cells.{load_at, store_at, store_each}
use Rattle.spec_buffers.specs.Effects.{on_locations, on_out, flag_of, statistic_held, statistic_at, command_held_if, test_held, effect_held}
use Rattle.scan_marks.specs.Marks.{Mark, stack, nowhere}
use Rattle.scan_marks.specs.Move.{Moved, move_to}
use Rattle.scan_marks.specs.Laws.{moved_nowhere}
use Rattle.scan_commands.specs.Moving.{Moving}
use Rattle.scan_commands.specs.Laws.{stays}
use Rattle.scan_entry.specs.Asks.{EntryNumbers, EntryTold, Asked}
use Rattle.scan_entry.specs.Done.{Done}
use Rattle.scan_results.specs.declared.Kind.{Kind}
use Rattle.scan_results.specs.Kinds.{statistic_of}
use Rattle.scan_statistics.specs.Lent.{Entry}
use Rattle.scan_entry.specs.Needs.{range_of, statistic_asks}

-- the same of numbers and an instruction that are those

pub asked_as : {k m : EntryNumbers} {i j : Instruction} {readings : List Float} {h : Held} {store : List ℕ} → k ≡ m → i ≡ j
    → Asked k i readings h store → Asked m j readings h store
asked_as {k} {m} {i} {j} {readings} {h} {store} e f a =
    subst (λ z. Asked z j readings h store) e (subst (λ z. Asked k z readings h store) f a)

pub done_as : {k m : EntryNumbers} {i j : Instruction} {readings : List Float} {h h' : Held} {ends elses subs : List ℕ} {home pc : ℕ} {s : List Mark} {r : ℕ}
    {marks : List ℕ} {top : ℕ} → k ≡ m → i ≡ j → Done k i readings h h' ends elses subs home pc s r marks top
    → Done m j readings h h' ends elses subs home pc s r marks top
done_as {k} {m} {i} {j} {readings} {h} {h'} {ends} {elses} {subs} {home} {pc} {s} {r} {marks} {top} e f d =
    subst (λ z. Done z j readings h h' ends elses subs home pc s r marks top) e
    (subst (λ z. Done k z readings h h' ends elses subs home pc s r marks top) f d)

-- ---- entries

module _ {k : EntryNumbers} {i : Instruction} {readings : List Float} {h : Held} {store ends elses subs marks : List ℕ} {home pc top : ℕ}
    (pre : Asked k i readings h store × Moving pc home ends elses subs marks top) where
  -- ---- an entry that goes on to the next

  pub next_done : (j : Instruction) → i ≡ j → flow j ≡ Flow.Next → (h' : Held)
      → ((p : Program) (x : Scan) (t : Table) (e : ℕ) → EntryTold p x t e k → h' ≡ effect_held p x readings t e k.shift j h)
      → Done k i readings h h' ends elses subs home pc (stack marks top) pc marks top
  next_done j told goes h' does =
      record {
        effect = λ p x t e z. does p x t e z ∙ ap (λ y. effect_held p x readings t e k.shift y h) (sym told);
        move =
            λ p x t e z. subst (λ y. Moved (move_to ends elses subs home y (test_held x k.shift i h) pc (stack marks top)) pc marks top) (sym (ap flow told ∙ goes)) (stays pre.1);
      }

  -- one that stores v in location n
  pub store_done : (j : Instruction) → i ≡ j → flow j ≡ Flow.Next → (v : Float) (n : ℕ) (l : List Float)
      → ((p : Program) (x : Scan) (t : Table) (e : ℕ) → effect_held p x readings t e k.shift j h ≡ on_locations (store_at n v) h)
      → l ≡ store_at n v h.locations
      → Done k i readings h (on_locations (λ z. l) h) ends elses subs home pc (stack marks top) pc marks top
  store_done j told goes v n l is stored =
      next_done j told goes (on_locations (λ z. l) h) (λ p x t e z. ap (λ y. on_locations (λ w. y) h) stored ∙ sym (is p x t e))

  -- one that stores the values v of n reps from location m' on
  pub measure_done : (j : Instruction) → i ≡ j → flow j ≡ Flow.Next → (n : ℕ) (v : ℕ → Float) (m m' : ℕ) (l : List Float)
      → ((p : Program) (x : Scan) (t : Table) (e : ℕ) → effect_held p x readings t e k.shift j h ≡ on_locations (store_each n m v) h)
      → m' ≡ m → l ≡ store_each n m' v h.locations
      → Done k i readings h (on_locations (λ z. l) h) ends elses subs home pc (stack marks top) pc marks top
  measure_done j told goes n v m m' l is m_is stored =
      next_done j told goes (on_locations (λ z. l) h)
      (λ p x t e z. ap (λ y. on_locations (λ w. y) h) (stored ∙ ap (λ y. store_each n y v h.locations) m_is) ∙ sym (is p x t e))

  -- 70 and 77: with flag 0 high they write, with flag 0 low they do nothing
  pub when_high : (j : Instruction) → i ≡ j → flow j ≡ Flow.Next → (o : Out) → flag_of h 0 ≡ true
      → ((p : Program) (x : Scan) (t : Table) (e : ℕ) → EntryTold p x t e k
      → (w : Out) × (effect_held p x readings t e k.shift j h ≡ cond (flag_of h 0) (on_out (λ z. w) h) h) × (o ≡ w))
      → Done k i readings h (on_out (λ z. o) h) ends elses subs home pc (stack marks top) pc marks top
  when_high j told goes o high is =
      next_done j told goes (on_out (λ z. o) h)
      (λ p x t e z.
      let y = is p x t e z in
      ap (λ v. on_out (λ q. v) h) y.2 ∙ sym (y.1 ∙ ap (λ b. cond b (on_out (λ q. y.0) h) h) high))

  pub when_low : (j : Instruction) → i ≡ j → flow j ≡ Flow.Next → flag_of h 0 ≡ false
      → ((p : Program) (x : Scan) (t : Table) (e : ℕ) → (w : Held) × (effect_held p x readings t e k.shift j h ≡ cond (flag_of h 0) w h))
      → Done k i readings h h ends elses subs home pc (stack marks top) pc marks top
  when_low j told goes low is =
      next_done j told goes h (λ p x t e z. let y = is p x t e in sym (y.1 ∙ ap (λ b. cond b y.0 h) low))

  -- ---- where an entry leads, for one that changes nothing

  pub move_done : (j : Instruction) → i ≡ j → (r : ℕ) (marks' : List ℕ) (top' : ℕ)
      → ((p : Program) (x : Scan) (t : Table) (e : ℕ) → h ≡ effect_held p x readings t e k.shift j h)
      → ((b : Bool) → Moved (move_to ends elses subs home (flow j) b pc (stack marks top)) r marks' top')
      → Done k i readings h h ends elses subs home pc (stack marks top) r marks' top'
  move_done j told r marks' top' does moves =
      record {
        effect = λ p x t e z. does p x t e ∙ ap (λ y. effect_held p x readings t e k.shift y h) (sym told);
        move =
            λ p x t e z.
            subst (λ y. Moved (move_to ends elses subs home (flow y) (test_held x k.shift i h) pc (stack marks top)) r marks' top') (sym told)
            (moves (test_held x k.shift i h));
      }

  pub nowhere_now : Moved nowhere 384 marks top
  nowhere_now = moved_nowhere marks top nowhere (let g = pre.1.ready.room in omega arith) pre.1.ready.shifted refl

  -- ---- an entry with a command

  -- the command c, and the test b of the entry
  pub record Commands (c : Command) (b : Bool) : Type 0 where
    pub goes : flow i ≡ command_flow c
    pub tested : (p : Program) (x : Scan) (t : Table) (e : ℕ) → EntryTold p x t e k → test_held x k.shift i h ≡ b
    pub does : (p : Program) (x : Scan) (t : Table) (e : ℕ) → EntryTold p x t e k → effect_held p x readings t e k.shift i h ≡ command_held_if b (array_id t e) c h

  pub command_done : (c : Command) (b : Bool) → Commands c b → (h' : Held) (r : ℕ) (marks' : List ℕ) (top' : ℕ) → h' ≡ command_held_if b k.id c h
      → Moved (move_to ends elses subs home (command_flow c) b pc (stack marks top)) r marks' top'
      → Done k i readings h h' ends elses subs home pc (stack marks top) r marks' top'
  command_done c b cs h' r marks' top' is moves =
      record {
        effect = λ p x t e z. is ∙ ap (λ m. command_held_if b m c h) (sym z.id_is) ∙ sym (cs.does p x t e z);
        move =
            λ p x t e z.
            subst (λ y. Moved (move_to ends elses subs home (flow i) y pc (stack marks top)) r marks' top') (sym (cs.tested p x t e z))
            (subst (λ y. Moved (move_to ends elses subs home y b pc (stack marks top)) r marks' top') (sym cs.goes) moves);
      }

  -- what the entry was found to be
  pub commands_of : (j : Instruction) → i ≡ j → (c : Command) (b : Bool) → flow j ≡ command_flow c
      → ((p : Program) (x : Scan) (t : Table) (e : ℕ) → EntryTold p x t e k → test_held x k.shift j h ≡ b)
      → ((p : Program) (x : Scan) (t : Table) (e : ℕ) → effect_held p x readings t e k.shift j h ≡ command_held_if (test_held x k.shift j h) (array_id t e) c h)
      → Commands c b
  commands_of j told c b goes tested does =
      record {
        goes = ap flow told ∙ goes;
        tested = λ p x t e z. ap (λ y. test_held x k.shift y h) told ∙ tested p x t e z;
        does =
            λ p x t e z.
            ap (λ y. effect_held p x readings t e k.shift y h) told
            ∙ does p x t e
            ∙ ap (λ y. command_held_if y (array_id t e) c h) (tested p x t e z);
      }

  -- the command and the test that an arm found, for each of the five; the command is in range

  abbrev Found : Command → Bool → Type 0
  Found d b = Commands d b × (command_in_range d ≡ true)

  found : (j : Instruction) → i ≡ j → (c d : Command) (b : Bool) → d ≡ c → flow j ≡ command_flow c
      → ((p : Program) (x : Scan) (t : Table) (e : ℕ) → EntryTold p x t e k → test_held x k.shift j h ≡ b)
      → ((p : Program) (x : Scan) (t : Table) (e : ℕ) → effect_held p x readings t e k.shift j h ≡ command_held_if (test_held x k.shift j h) (array_id t e) c h)
      → command_in_range c ≡ true → Found d b
  found j told c d b same goes tested does is_in_range =
      subst (λ z. Found z b) (sym same) (commands_of j told c b goes tested does, is_in_range)

  pub do_found : (c d : Command) (b : Bool) → i ≡ Do c → d ≡ c → b ≡ true → Found d b
  unfolding flow test_held effect_held in_range
  do_found c d b told same test_is =
      found (Do c) told c d b same refl (λ p x t e z. sym test_is) (λ p x t e. refl)
      (and_both (command_in_range c) (is_unconditional c) (range_of pre.0 (Do c) told)).0

  pub locations_found : (a : Location) (r : Relation) (y : Location) (c d : Command) (b : Bool) → i ≡ IfLocations a r y c → d ≡ c
      → b ≡ holds r (load_at h.locations (moved k.shift a)) (load_at h.locations (moved k.shift y)) → Found d b
  unfolding flow test_held effect_held in_range
  locations_found a r y c d b told same test_is =
      found (IfLocations a r y c) told c d b same refl (λ p x t e z. sym test_is) (λ p x t e. refl)
      (range_of pre.0 (IfLocations a r y c) told)

  pub fixed_found : (a : Location) (r : Relation) (f : Float) (c d : Command) (b : Bool) → i ≡ IfFixed a r f c → d ≡ c
      → b ≡ holds r (load_at h.locations (moved k.shift a)) f → Found d b
  unfolding flow test_held effect_held in_range
  fixed_found a r f c d b told same test_is =
      found (IfFixed a r f c) told c d b same refl (λ p x t e z. sym test_is) (λ p x t e. refl)
      (and_both (finite f) (command_in_range c) (range_of pre.0 (IfFixed a r f c) told)).1

  pub flag_found : (f : ℕ) (high : Bool) (c d : Command) (b : Bool) → i ≡ IfFlag f high c → d ≡ c → b ≡ beq (flag_of h f) high → Found d b
  unfolding flow test_held effect_held in_range
  flag_found f high c d b told same test_is =
      found (IfFlag f high c) told c d b same refl (λ p x t e z. sym test_is) (λ p x t e. refl)
      (and_both (leb f 9) (command_in_range c) (range_of pre.0 (IfFlag f high c) told)).1

  pub time_found : (into interval : ℕ) (c d : Command) (b : Bool) → i ≡ IfTime into interval c → d ≡ c
      → b ≡ (eqb (k.minute % interval) into && k.changed) → Found d b
  unfolding flow test_held effect_held in_range time_is
  time_found into interval c d b told same test_is =
      found (IfTime into interval c) told c d b same refl
      (λ p x t e z.
      sym
      (test_is
      ∙ ap (λ v. eqb (v % interval) into && k.changed) (sym z.minute_is)
      ∙ ap (λ v. eqb (minute_of x.time % interval) into && v) (sym z.changed_is)))
      (λ p x t e. refl)
      (and_both (between 1 1440 interval) (command_in_range c)
      (and_both (leb into 1439) (between 1 1440 interval && command_in_range c) (range_of pre.0 (IfTime into interval c) told)).1).1

-- ---- 71 to 74

module _ {k : EntryNumbers} {i : Instruction} {readings l u : List Float} {c : List ℕ} {f g : List Bool} {ring store ends elses subs marks : List ℕ} {home pc top : ℕ}
    (pre : Asked k i readings (held_of l u c f g ring store) store × Moving pc home ends elses subs marks top) where
  abbrev h : Held
  h = held_of l u c f g ring store

  -- the entry's statistic, of n reps from location `at` on
  pub record Samples (kind : Kind) (n at : ℕ) : Type 0 where
    pub asks : Entry n k.first k.place at l u c f ring store
    pub goes : flow i ≡ Flow.Next
    pub does : (p : Program) (x : Scan) (t : Table) (e : ℕ) → EntryTold p x t e k
        → effect_held p x readings t e k.shift i h ≡ statistic_held (statistic_of kind) n k.first k.place at h

  -- what the entry was found to be
  samples_of : (j : Instruction) (v : Kind) (n : ℕ) (y : Location) → in_range j ≡ is_reps n
      → spanned k.shift (locations j) ≡ (numbers_from (moved k.shift y) n ++ []) → sums j ≡ n → flow j ≡ Flow.Next
      → ((p : Program) (x : Scan) (t : Table) (e : ℕ) → effect_held p x readings t e k.shift j h ≡ statistic_at p (statistic_of v) t e n (moved k.shift y) h)
      → (kind : Kind) (r at : ℕ) → i ≡ j → kind ≡ v → r ≡ n → at ≡ moved k.shift y → Samples kind r at
  samples_of j v n y range_is span_is sums_are goes does kind r at told kind_is r_is at_is =
      subst (λ z. Samples z r at) (sym kind_is)
      (subst (λ z. Samples v z at) (sym r_is)
      (record {
        asks = statistic_asks pre.0 j told n y at range_is (λ w. subst (Each _) span_is w) sums_are at_is;
        goes = ap flow told ∙ goes;
        does =
            λ p x t e z.
            ap (λ d. effect_held p x readings t e k.shift d h) told
            ∙ does p x t e
            ∙ ap (λ m. statistic_held (statistic_of v) n m (slot t e) (moved k.shift y) h) z.first_is
            ∙ ap (λ m. statistic_held (statistic_of v) n k.first m (moved k.shift y) h) z.place_is
            ∙ ap (λ m. statistic_held (statistic_of v) n k.first k.place m h) (sym at_is);
      }))

  pub average_found : (n : ℕ) (y : Location) (kind : Kind) (r at : ℕ) → i ≡ Average n y → kind ≡ Kind.Average → r ≡ n → at ≡ moved k.shift y → Samples kind r at
  unfolding flow effect_held in_range spanned locations sums
  average_found n y = samples_of (Average n y) Kind.Average n y refl refl refl refl (λ p x t e. refl)

  pub total_found : (n : ℕ) (y : Location) (kind : Kind) (r at : ℕ) → i ≡ Total n y → kind ≡ Kind.Total → r ≡ n → at ≡ moved k.shift y → Samples kind r at
  unfolding flow effect_held in_range spanned locations sums
  total_found n y = samples_of (Total n y) Kind.Total n y refl refl refl refl (λ p x t e. refl)

  pub maximum_found : (n : ℕ) (y : Location) (kind : Kind) (r at : ℕ) → i ≡ Maximum n y → kind ≡ Kind.Maximum → r ≡ n → at ≡ moved k.shift y → Samples kind r at
  unfolding flow effect_held in_range spanned locations sums
  maximum_found n y = samples_of (Maximum n y) Kind.Maximum n y refl refl refl refl (λ p x t e. refl)

  pub minimum_found : (n : ℕ) (y : Location) (kind : Kind) (r at : ℕ) → i ≡ Minimum n y → kind ≡ Kind.Minimum → r ≡ n → at ≡ moved k.shift y → Samples kind r at
  unfolding flow effect_held in_range spanned locations sums
  minimum_found n y = samples_of (Minimum n y) Kind.Minimum n y refl refl refl refl (λ p x t e. refl)

  -- m is the entry's first sum
  pub samples_asked : (kind : Kind) (n at m : ℕ) → Samples kind n at → m ≡ k.first → Entry n m k.place at l u c f ring store
  samples_asked kind n at m s m_is = subst (λ z. Entry n z k.place at l u c f ring store) (sym m_is) s.asks

  pub samples_done : (kind : Kind) (n at m : ℕ) → Samples kind n at → m ≡ k.first → (h' : Held) → h' ≡ statistic_held (statistic_of kind) n m k.place at h
      → Done k i readings h h' ends elses subs home pc (stack marks top) pc marks top
  samples_done kind n at m s m_is h' is =
      next_done pre i refl s.goes h'
      (λ p x t e z. is ∙ ap (λ y. statistic_held (statistic_of kind) n y k.place at h) m_is ∙ sym (s.does p x t e z))
