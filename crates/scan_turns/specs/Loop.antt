-- What the loop is handed and what holds at each of its turns: it begins at entry 1 with nothing open, a turn is a step, and there is an entry at every
-- place but the one behind the last entry of the table scanned, where what is held is what the plain machine leaves. Assumes nothing.
use Rattle.std.specs.Prelude.{◌≡◌, refl, ℕ, ◌+◌, ◌*◌, ◌/◌, ◌%◌, ◌≤◌, ◌<◌, min, Bool, true, false, length, get_or, take, drop, ltb, Float}
use Rattle.std.proofs.Common.{sym, ap, ◌∙◌, arith, length-take, ltb-true, ltb-false}
use Rattle.std.proofs.Math.Path.{subst}
use mathlib.Core.List.{List, [], ◌++◌, append-nil}
use Rattle.std.proofs.Math.Option.{none}
use Rattle.std.proofs.lemmas.List.{length-map}
use Rattle.base_program.specs.declared.Instruction.{Instruction}
use Rattle.base_program.specs.declared.Program.{Program}
use Rattle.base_program.specs.declared.Table.{Table}
use Rattle.base_program.specs.declared.Timed.{Timed}
use Rattle.base_program.specs.Entries.{row, slot, entries, first_sum, table_at}
use Rattle.spec_check.specs.Counts.{stated_count}
use Rattle.proof_check.specs.Passed.{Passed}
use Rattle.base_program.specs.Laws.{row_at, entry_read}
use Rattle.spec_machine.specs.Memory.{Memory, fresh}
use Rattle.spec_machine.specs.Values.{Scan, another, minute_of}
use Rattle.spec_machine.specs.Output.{clock}
use Rattle.spec_machine.specs.Machine.{Config, at, table_of, array_id}
use Rattle.spec_machine.specs.Run.{Steps, here}
use Rattle.proof_safety.specs.Potential.{RunsWell}
use Rattle.spec_machine.specs.Calls.{reading_of}
use Rattle.proof_safety.specs.Proof.{begins}
use Rattle.spec_buffers.specs.Held.{Held, Fits, memory_of, put_words}
use Rattle.scan_targets.specs.Told as Targets
use Rattle.scan_targets.specs.Told.{place_number, Subs, Firsts}
use Rattle.scan_targets.specs.Laws.{at_row, entries_most}
use Rattle.scan_marks.specs.Marks.{stack}
use Rattle.scan_marks.specs.Laws.{bottom}
use Rattle.scan_marks.specs.Move.{shift_to, Shifted}
use Rattle.scan_control.specs.Refine.{frames_of, config_of, ends_ready, elses_ready, subs_ready}
use Rattle.scan_commands.specs.Moving.{Moving}
use Rattle.scan_entry.specs.Asks.{EntryNumbers, known, EntryTold, Asked}
use Rattle.scan_entry.specs.Done.{Done}
use Rattle.scan_turns.specs.Run.{RunLeaves}
use Rattle.scan_turns.specs.Kept.{Keeps}
use Rattle.scan_turns.specs.Stays.{Outside, steps_stay}
use Rattle.scan_turns.specs.Turn as Turn
use Rattle.scan_turns.specs.Turn.{table_in, entry_in, TurnGoing, Came, left_at}

-- the numbers of scan x of table t
pub record Ticks (x : Scan) (t : Timed) (day hour minute : ℕ) (b : Bool) (readings : List Float) : Type 0 where
  pub table_is : x.table ≡ t
  pub day_is : x.day ≡ day
  pub hour_is : clock x ≡ hour
  pub minute_is : minute_of x.time ≡ minute
  pub changed_is : another x.previous x.day (minute_of x.time) ≡ b
  pub readings_are : x.readings ≡ reading_of readings

-- what is found once a scan
pub record TargetsFound (p : Program) (ends elses subs firsts : List ℕ) : Type 0 where
  pub told : Targets.TargetsTold p ends elses
  pub places : Subs p subs
  pub sums : Firsts p firsts
  pub ends_long : length ends ≡ 384
  pub elses_long : length elses ≡ 384
  pub subs_long : length subs ≡ 256
  pub firsts_long : length firsts ≡ 297

-- what the loop asks beside what is held
pub record Asks (p : Program) (start home day hour minute : ℕ) (b : Bool) (ends elses subs firsts : List ℕ) (readings : List Float) (store : List ℕ) : Type 0 where
  pub passes : Passed p
  pub found : TargetsFound p ends elses subs firsts
  pub table : Timed
  pub scan : Scan
  pub ticks : Ticks scan table day hour minute b readings
  pub start_is : start ≡ 128 * row (table_of table)
  pub home_is : home ≡ place_number (table_of table) (length (entries p (table_of table)))
  pub all : length readings ≡ 196
  pub four : length store ≡ 4

-- what is held at the start
pub record Starts (p : Program) (h : Held) (marks : List ℕ) : Type 0 where
  pub fits : Fits p h
  pub keeps : Keeps h
  pub size : length marks ≡ 97
  pub lowest : get_or marks 0 0 ≡ 0

-- the lent lists are as long as they were
pub record Same (l l₀ u u₀ : List Float) (c c₀ : List ℕ) (f f₀ q q₀ : List Bool) (g g₀ st st₀ m m₀ : List ℕ) : Type 0 where
  pub locations : length l ≡ length l₀
  pub sums : length u ≡ length u₀
  pub counts : length c ≡ length c₀
  pub flags : length f ≡ length f₀
  pub ports : length q ≡ length q₀
  pub ring : length g ≡ length g₀
  pub store : length st ≡ length st₀
  pub marks : length m ≡ length m₀

-- the scans with these numbers have come from h₀ to h
abbrev pub RunReached : Program → ℕ → ℕ → ℕ → ℕ → Bool → List Float → Held → ℕ → List ℕ → ℕ → Held → Type 0
RunReached p start day hour minute b readings h₀ pc marks top h =
    (t : Timed) (x : Scan) → start ≡ 128 * row (table_of t) → Ticks x t day hour minute b readings → Came p x h₀ pc marks top h

pub entries_few : (p : Program) (t : Table) → length (entries p t) ≤ min (get_or p.lengths (row t) 0) 99
unfolding entries
entries_few p t =
    let part = drop (99 * row t) p.slots in
    omega (arith, length-map (take (min (get_or p.lengths (row t) 0) 99) part) (λ s. s.instruction), length-take (min (get_or p.lengths (row t) 0) 99) part)

-- what is held still fits: the lists are as long, and the ring takes a word
pub still_fits : (p : Program) (h h' : Held) → Fits p h → Keeps h' → length h'.locations ≡ length h.locations → length h'.sums ≡ length h.sums
    → length h'.counts ≡ length h.counts → length h'.flags ≡ length h.flags → length h'.ports ≡ length h.ports → Fits p h'
still_fits p h h' f k l u c g q =
    record {
      locations = l ∙ f.locations;
      sums = u ∙ f.sums;
      counts = c ∙ f.counts;
      flags = g ∙ f.flags;
      ports = q ∙ f.ports;
      ring = k.ready.ring;
    }

-- ---- the start

one_row : (t u : Timed) → row (table_of t) ≡ row (table_of u) → t ≡ u
one_row Timed.One Timed.One e = refl
one_row Timed.One Timed.Two e = absurd (omega (arith, e))
one_row Timed.Two Timed.One e = absurd (omega (arith, e))
one_row Timed.Two Timed.Two e = refl

row_in : (t : Timed) → row (table_of t) < 2
row_in Timed.One = omega arith
row_in Timed.Two = omega arith

starts_at : (t : Timed) (m : Memory) → config_of (128 * row (table_of t)) [] m ≡ at (table_of t) 0 [] [] m
starts_at Timed.One m = refl
starts_at Timed.Two m = refl

module _ {p : Program} {start home day hour minute : ℕ} {b : Bool} {ends elses subs firsts : List ℕ} {readings : List Float} {store : List ℕ}
    (a : Asks p start home day hour minute b ends elses subs firsts readings store) where
  -- the table is told by its start
  pub that_table : (t : Timed) → start ≡ 128 * row (table_of t) → t ≡ a.table
  that_table t e = one_row t a.table (omega (arith, e, a.start_is))

  pub that_scan : (t : Timed) (x : Scan) → start ≡ 128 * row (table_of t) → Ticks x t day hour minute b readings → Ticks x a.table day hour minute b readings
  that_scan t x e k = subst (λ z. Ticks x z day hour minute b readings) (that_table t e) k

  at_start : (t : Timed) (m : Memory) → a.table ≡ t → config_of start [] m ≡ at (table_of t) 0 [] [] m
  at_start t m same = ap (λ n. config_of n [] m) (a.start_is ∙ ap (λ z. 128 * row (table_of z)) same) ∙ starts_at t m

  first_shifted : (marks : List ℕ) → get_or marks 0 0 ≡ 0 → Shifted marks 0
  first_shifted marks lowest k h = let e : k ≡ 0 = omega arith in rw e (ap (λ n. n % 65536) lowest)

  pub going_first : (h : Held) (marks : List ℕ) → Starts p h marks → TurnGoing p start marks 0 h
  going_first h marks s =
      let r = begins p a.passes a.scan fresh in
      let c : Config = config_of start [] fresh in
      let d : Config = at (table_of a.scan.table) 0 [] [] fresh in
      let e : c ≡ d = at_start a.scan.table fresh (sym a.ticks.table_is) in
      record {
        place = omega (arith, a.start_is, row_in a.table);
        size = s.size;
        shifted = first_shifted marks s.lowest;
        bound = stated_count p (table_of a.scan.table);
        runs =
            subst (λ z. RunsWell p z (stated_count p (table_of a.scan.table))) (sym e)
            (record { level = r.level; scope = r.scope; mine = r.mine; theirs = r.theirs; sum = r.sum; stands = r.stands; callers = r.callers });
        fits = s.fits;
        keeps = s.keeps;
      }

  pub came_first : (h : Held) (marks : List ℕ) (x : Scan) → x.table ≡ a.table → Came p x h start marks 0 h
  unfolding put_words
  came_first h marks x same =
      record {
        words = [];
        steps =
            λ before last. (
              0,
              subst (λ w. Steps p x 0 (at (table_of x.table) 0 [] [] (memory_of h before last)) (config_of start [] (memory_of h w last))) (sym (append-nil before))
                  (subst (λ z. Steps p x 0 (at (table_of x.table) 0 [] [] (memory_of h before last)) z) (sym (at_start x.table (memory_of h before last) (sym same))) here),
            );
        tape = refl;
      }

  -- ---- the end

  module _ {pc top : ℕ} {marks : List ℕ} {h : Held} (g : TurnGoing p pc marks top h) where
    row_of_place : pc / 128 < 3
    row_of_place = omega (arith, g.place)

    -- a place that is no entry's is the one behind the last entry of the table scanned
    behind_home : (h₀ : Held) → Came p a.scan h₀ pc marks top h → length (entries p (table_in pc)) ≤ pc % 128 → pc ≡ home
    behind_home h₀ c behind =
        let none_open : top ≡ 0 = Turn.nothing_open p a.passes pc marks top h g a.scan behind in
        let stays = steps_stay p a.scan (c.steps [] (λ t. none)).1 ((omega arith, tt), refl) in
        let here_is : table_in pc ≡ table_of a.scan.table =
        subst (λ s. Outside p a.scan (table_in pc) (frames_of s)) (bottom marks top (omega (arith, none_open))) stays.1 in
        let scanned : table_of a.table ≡ table_in pc = sym (here_is ∙ ap table_of a.ticks.table_is) in
        let home_is : home ≡ place_number (table_in pc) (length (entries p (table_in pc))) = a.home_is ∙ ap (λ t. place_number t (length (entries p t))) scanned in
        omega (arith, home_is, behind, stays.0.0, row_at (pc / 128) row_of_place)

    pub entry_inside : (h₀ : Held) → RunReached p start day hour minute b readings h₀ pc marks top h → (pc ≡ home → ⊥) → pc % 128 < length (entries p (table_in pc))
    entry_inside h₀ reached other = by (ltb (pc % 128) (length (entries p (table_in pc)))) refl
      where
        by : (z : Bool) → ltb (pc % 128) (length (entries p (table_in pc))) ≡ z → pc % 128 < length (entries p (table_in pc))
        by true e = ltb-true _ _ e
        by false e = absurd (other (behind_home h₀ (reached a.table a.scan a.start_is a.ticks) (ltb-false _ _ e)))

    home_behind : pc ≡ home → length (entries p (table_in pc)) ≤ pc % 128
    home_behind e =
        let t : Table = table_of a.table in
        let n : ℕ = length (entries p t) in
        let few : n ≤ 99 = entries_most p t in
        let same_row : pc / 128 ≡ row t = omega (arith, e, a.home_is, few) in
        let same : length (entries p (table_in pc)) ≡ n = ap (λ k. length (entries p (table_at k))) same_row ∙ ap (λ u. length (entries p u)) (at_row t) in
        omega (arith, e, a.home_is, few, same)

    pub leaves : (h₀ : Held) (x : Scan) → Came p x h₀ pc marks top h → pc ≡ home → RunLeaves p x h₀ h
    leaves h₀ x c at_home =
        record {
          words = c.words;
          ends =
              λ before last.
              let z = c.steps before last in
              let m : Memory = memory_of h (before ++ c.words) last in
              (z.0, record { final = config_of pc (stack marks top) m; steps = z.1; ended = Turn.ended p a.passes pc marks top h g x (home_behind at_home) m; left = refl });
          tape = c.tape;
          fits = g.fits;
          array = g.keeps.array;
          few = g.keeps.few;
        }

    pub some_room : top < 96
    some_room = Turn.some_room p a.passes pc marks top h g a.scan

    -- ---- a turn

    module _ (in_table : pc % 128 < length (entries p (table_in pc))) where
      most : pc % 128 < 99
      most = omega (arith, in_table, entries_most p (table_in pc))

      pub moving : Moving (pc + 1) home ends elses subs marks top
      moving =
          record {
            ready = record { place = omega (arith, g.place, most); room = some_room; size = g.size; shifted = g.shifted };
            home_in = omega (arith, a.home_is, row_in a.table, entries_most p (table_of a.table));
            ends_in = ends_ready p ends elses a.found.ends_long a.found.told;
            elses_in = elses_ready p ends elses a.found.elses_long a.found.told;
            subs_in = subs_ready p subs a.found.subs_long a.found.places;
          }

      pub slot_small : 99 * (pc / 128) + pc % 128 < 297
      slot_small = omega (arith, most, row_of_place)

      -- the entry lies in its slot
      pub entry_here : get_or (entries p (table_in pc)) (pc % 128) Instruction.End
          ≡ (get_or p.slots (99 * (pc / 128) + pc % 128) (record { instruction = Instruction.End })).instruction
      entry_here = sym (entry_read p (pc / 128) row_of_place (pc % 128) (omega (arith, in_table, entries_few p (table_in pc), ap (λ n. get_or p.lengths n 0) (row_at (pc / 128) row_of_place))))

      -- the numbers of the entry
      slot_is : slot (table_in pc) (entry_in pc) ≡ 99 * (pc / 128) + pc % 128
      unfolding slot
      slot_is = omega (arith, row_at (pc / 128) row_of_place)

      id_is : array_id (table_in pc) (entry_in pc) ≡ 100 * (pc / 128) + pc % 128 + 101
      id_is = omega (arith, row_at (pc / 128) row_of_place)

      first_is : first_sum p (table_in pc) (entry_in pc) ≡ get_or firsts (99 * (pc / 128) + pc % 128) 0
      first_is = sym (ap (λ n. get_or firsts n 0) (sym slot_is) ∙ a.found.sums.first_told (table_in pc) (entry_in pc) (omega arith) (omega (arith, in_table)))

      -- s is the entry's slot, n its array id
      module _ (s n : ℕ) (s_is : s ≡ 99 * (pc / 128) + pc % 128) (n_is : n ≡ 100 * (pc / 128) + pc % 128 + 101) where
        abbrev pub numbers : EntryNumbers
        numbers = known (shift_to (stack marks top)) (get_or firsts s 0) s n day hour minute b

        first_at : first_sum p (table_in pc) (entry_in pc) ≡ get_or firsts s 0
        first_at = first_is ∙ ap (λ k. get_or firsts k 0) (sym s_is)

        known_of : (x : Scan) → Ticks x a.table day hour minute b readings → EntryTold p x (table_in pc) (entry_in pc) numbers
        known_of x t =
            record {
              first_is = first_at;
              place_is = slot_is ∙ sym s_is;
              id_is = id_is ∙ sym n_is;
              today_is = t.day_is;
              hour_is = t.hour_is;
              minute_is = t.minute_is;
              changed_is = t.changed_is;
            }

        module _ (i : Instruction) (is : get_or (entries p (table_in pc)) (pc % 128) Instruction.End ≡ i) where
          pub asked : (st : List ℕ) → length st ≡ 4 → Asked numbers i readings h st
          asked st four =
              record {
                program = p;
                table = table_in pc;
                number = entry_in pc;
                ready = Turn.ready_here p a.passes pc marks top h g in_table i is a.scan;
                first_is = first_at;
                place_is = slot_is ∙ sym s_is;
                all = a.all;
                array = omega (arith, g.keeps.array);
                few = g.keeps.few;
                four = four;
              }

          module _ (h' : Held) (r : ℕ) (marks' : List ℕ) (top' : ℕ) (d : Done numbers i readings h h' ends elses subs home (pc + 1) (stack marks top) r marks' top') where
            home_of : (x : Scan) → x.table ≡ a.table → home ≡ place_number (table_of x.table) (length (entries p (table_of x.table)))
            home_of x same = a.home_is ∙ ap (λ t. place_number (table_of t) (length (entries p (table_of t)))) (sym same)

            pub going_next : length marks' ≡ 97 → (Keeps h' → Fits p h') → TurnGoing p r marks' top' h'
            going_next long fits =
                Turn.going p a.passes pc marks top h g in_table i is ends elses subs a.found.told a.found.places a.scan home
                (home_of a.scan a.ticks.table_is) readings a.ticks.readings_are numbers refl (known_of a.scan a.ticks) h' r marks' top' d long fits

            pub less : left_at p r marks' top' < left_at p pc marks top
            less =
                Turn.less_left p a.passes pc marks top h g in_table i is ends elses subs a.found.told a.found.places a.scan home
                (home_of a.scan a.ticks.table_is) readings a.ticks.readings_are numbers refl (known_of a.scan a.ticks) h' r marks' top' d

            pub came_next : (h₀ : Held) (x : Scan) → Ticks x a.table day hour minute b readings → Came p x h₀ pc marks top h → Came p x h₀ r marks' top' h'
            came_next h₀ x t c =
                Turn.came p a.passes pc marks top h g in_table i is ends elses subs a.found.told a.found.places x home
                (home_of x t.table_is) readings t.readings_are numbers refl (known_of x t) h' r marks' top' d h₀ c
