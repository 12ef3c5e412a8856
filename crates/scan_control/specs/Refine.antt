-- The control of the code, seen as the plain machine's: where an entry leads by `moveTo` is where `goOn` says, a case for each kind. What is told of
-- the program gives the head of the ways, and the ways from an End on are its tail. Assumes nothing.
use Rattle.std.specs.Prelude.{◌≡◌, ℕ, suc, ◌+◌, ◌-◌, ◌*◌, ◌/◌, ◌%◌, ◌≤◌, ◌<◌, Bool, cond, length, get_or, ltb, eqb}
use Rattle.std.proofs.Math.Path.{refl, ap}
use Rattle.std.proofs.Common.{sym, subst, ◌∙◌, ne_eqb}
use native.Mathlib.Omega.{arith}
use Rattle.std.proofs.Math.Bool.{true, false}
use Rattle.std.specs.Bool.{beq}
use Rattle.std.proofs.Math.Option.{Option, none, some}
use mathlib.Core.List.{List, [], ◌∷◌}
use Rattle.base_program.specs.declared.Flow.{Flow}
use Rattle.base_program.specs.declared.Instruction.{Instruction}
use Rattle.base_program.specs.declared.Program.{Program}
use Rattle.base_program.specs.declared.Table.{Table}
use Rattle.base_program.specs.Entries.{row, entries, table_at}
use Rattle.base_program.specs.Laws.{row_at}
use Rattle.spec_machine.specs.Ends.{Way, behind_label}
use Rattle.spec_machine.specs.Limits.{Each}
use Rattle.spec_machine.specs.Machine.{Open, then_do, loop, Place, Config, Next, next, stuck, place_at, at, table_of, shift, loop_open, pass_over, if_false, past_end, leave, exit, call, again, go_on}
use Rattle.spec_machine.specs.Memory.{Memory}
use Rattle.spec_machine.specs.Values.{Scan}
use Rattle.scan_targets.specs.Told.{place_number, or_zero, end_at, else_at, ways_from, TargetsTold, Subs}
use Rattle.scan_targets.specs.Laws.{at_row, Behind, Chained, chain_at, label_behind, entries_most, ends_most, elses_most, subs_most}
use Rattle.scan_marks.specs.Marks.{Mark, then_mark, loop_mark, call_mark, stack, place_in, To, go, nowhere}
use Rattle.scan_marks.specs.Move.{Targets, Moved, stay, jump, leave_to, own_loop, exit_to, shift_to, move_to}
use Rattle.scan_marks.specs.Laws.{no, stack_length, seen_go}

-- ---- marks as the plain machine's blocks and callers

-- the blocks open in the innermost frame
abbrev pub blocks_of : List Mark → List Open
blocks_of [] = []
blocks_of (then_mark ∷ s) = then_do ∷ blocks_of s
blocks_of (loop_mark a n j ∷ s) = loop a n j ∷ blocks_of s
blocks_of (call_mark c ∷ s) = []

-- a place as one number
abbrev pub place_of : ℕ → List Open → Place
place_of pc bs = place_at (table_at (pc / 128)) (pc % 128) bs

-- the callers
abbrev pub frames_of : List Mark → List Place
frames_of [] = []
frames_of (then_mark ∷ s) = frames_of s
frames_of (loop_mark a n j ∷ s) = frames_of s
frames_of (call_mark c ∷ s) = place_of c (blocks_of s) ∷ frames_of s

abbrev pub config_of : ℕ → List Mark → Memory → Config
config_of pc s m = record { place = place_of pc (blocks_of s); callers = frames_of s; memory = m }

abbrev pub next_of : To → Memory → Next
next_of (go t e s) m = next (at (table_at t) e (blocks_of s) (frames_of s) m)
next_of nowhere m = stuck

-- ---- how many marks there are

abbrev held : List Place → ℕ
held [] = 0
held (c ∷ cs) = suc (length c.blocks) + held cs

marks_held : (s : List Mark) → length s ≡ length (blocks_of s) + held (frames_of s)
marks_held [] = refl
marks_held (then_mark ∷ s) = omega (arith, marks_held s)
marks_held (loop_mark a n j ∷ s) = omega (arith, marks_held s)
marks_held (call_mark c ∷ s) = omega (arith, marks_held s)

held_most : (cs : List Place) → Each (λ (a : Place). length a.blocks ≤ 11) cs → held cs ≤ 12 * length cs
held_most [] h = omega arith
held_most (c ∷ cs) h = omega (arith, h.0, held_most cs h.1)

-- within the limits the stack has room
pub marks_fit : (l : List ℕ) (top : ℕ) → length (blocks_of (stack l top)) ≤ 11
    → Each (λ (a : Place). length a.blocks ≤ 11) (frames_of (stack l top)) → length (frames_of (stack l top)) ≤ 7 → top < 96
marks_fit l top b c d = omega (arith, stack_length l top, marks_held (stack l top), held_most (frames_of (stack l top)) c)

-- ---- what is told is what the functions ask for

pub ends_ready : (p : Program) (ends elses : List ℕ) → length ends ≡ 384 → TargetsTold p ends elses → Targets ends 384
ends_ready p ends elses h t = record { size = h; small = ends_most p ends elses h t }

pub elses_ready : (p : Program) (ends elses : List ℕ) → length elses ≡ 384 → TargetsTold p ends elses → Targets elses 384
elses_ready p ends elses h t = record { size = h; small = elses_most p ends elses h t }

pub subs_ready : (p : Program) (subs : List ℕ) → length subs ≡ 256 → Subs p subs → Targets subs 256
subs_ready p subs h t = record { size = h; small = subs_most p subs h t }

-- ---- a case for each kind

jumps : (tab : List Instruction) (e q pc : ℕ) (s : List Mark) (ws : List Way) (m : Memory) → Chained tab e ws → q ≡ end_at ws
    → next_of (jump q pc s) m ≡ past_end ws (table_at (pc / 128)) (blocks_of s) (frames_of s) m
jumps tab e q pc s [] m c h = ap (λ z. next_of (jump z pc s) m) h
jumps tab e q pc s (w ∷ ws) m c h =
    ap (λ z. next_of (jump z pc s) m) h
    ∙ ap (λ z. next_of z m) (no nowhere (go (pc / 128) w.behind_end s) (ne_eqb w.behind_end 0 (λ z. omega (arith, c.0))))

falls : (tab : List Instruction) (e p q pc : ℕ) (s : List Mark) (ws : List Way) (m : Memory) → Chained tab e ws → p ≡ end_at ws → q ≡ else_at ws
    → next_of (cond (eqb q 0) (jump p pc s) (go (pc / 128) q (then_mark ∷ s))) m ≡ if_false ws (table_at (pc / 128)) (blocks_of s) (frames_of s) m
falls tab e p q pc s [] m c hp hq =
    ap (λ z. next_of (cond (eqb z 0) (jump p pc s) (go (pc / 128) z (then_mark ∷ s))) m) hq ∙ ap (λ z. next_of (jump z pc s) m) hp
falls tab e p q pc s (w ∷ ws) m c hp hq = by w.behind_else c.2 hq
  where
    by : (o : Option ℕ) → Behind (length tab) o → q ≡ or_zero o
        → next_of (cond (eqb q 0) (jump p pc s) (go (pc / 128) q (then_mark ∷ s))) m
        ≡ pass_over o w.behind_end (table_at (pc / 128)) (blocks_of s) (frames_of s) m
    by none f h =
        ap (λ z. next_of (cond (eqb z 0) (jump p pc s) (go (pc / 128) z (then_mark ∷ s))) m) h ∙ jumps tab e p pc s (w ∷ ws) m c hp
    by (some z) f h =
        ap (λ y. next_of (cond (eqb y 0) (jump p pc s) (go (pc / 128) y (then_mark ∷ s))) m) h
        ∙ ap (λ y. next_of y m) (no (jump p pc s) (go (pc / 128) z (then_mark ∷ s)) (ne_eqb z 0 (λ y. omega (arith, f.0))))

calls : (q pc : ℕ) (s : List Mark) (b : Bool) (o : Option ℕ) (m : Memory) → ((z : ℕ) → o ≡ some z → 0 < z) → q ≡ or_zero o
    → next_of (cond (eqb q 0) nowhere (cond b (go 2 q (call_mark pc ∷ s)) (stay pc s))) m
    ≡ call o b (table_at (pc / 128)) (pc % 128) (blocks_of s) (frames_of s) m
calls q pc s b none m f h = ap (λ z. next_of (cond (eqb z 0) nowhere (cond b (go 2 z (call_mark pc ∷ s)) (stay pc s))) m) h
calls q pc s b (some z) m f h =
    ap (λ y. next_of (cond (eqb y 0) nowhere (cond b (go 2 y (call_mark pc ∷ s)) (stay pc s))) m) h
    ∙ ap (λ y. next_of y m) (no nowhere (cond b (go 2 z (call_mark pc ∷ s)) (stay pc s)) (ne_eqb z 0 (λ y. omega (arith, f z refl))))
    ∙ by b
  where
    by : (b : Bool) → next_of (cond b (go 2 z (call_mark pc ∷ s)) (stay pc s)) m ≡ call (some z) b (table_at (pc / 128)) (pc % 128) (blocks_of s) (frames_of s) m
    by true = refl
    by false = refl

loops_same : (s : List Mark) → own_loop s ≡ loop_open (blocks_of s)
unfolding loop_open
loops_same [] = refl
loops_same (then_mark ∷ s) = loops_same s
loops_same (loop_mark a n j ∷ s) = refl
loops_same (call_mark c ∷ s) = refl

pub shifts : (s : List Mark) → shift_to s ≡ shift (blocks_of s)
unfolding shift
shifts [] = refl
shifts (then_mark ∷ s) = shifts s
shifts (loop_mark a n j ∷ s) = refl
shifts (call_mark c ∷ s) = refl

-- with no loop open an exit leads nowhere
no_way_out : (bs : List Open) (ws : List Way) (t : Table) (cs : List Place) (m : Memory) → loop_open bs ≡ false → leave bs ws t cs m ≡ stuck
unfolding leave loop_open
no_way_out [] ws t cs m h = refl
no_way_out (then_do ∷ bs) [] t cs m h = refl
no_way_out (loop a n j ∷ bs) [] t cs m h = refl
no_way_out (then_do ∷ bs) (w ∷ ws) t cs m h = no_way_out bs ws t cs m h
no_way_out (loop a n j ∷ bs) (w ∷ ws) t cs m h = absurd (let z : ◌≡◌ {A = ℕ} 0 1 = ap (λ b. cond b 1 0) (sym h) in omega arith)

exits : (x : To) (pc : ℕ) (s : List Mark) (taken : Bool) (ws : List Way) (m : Memory)
    → next_of x m ≡ leave (blocks_of s) ws (table_at (pc / 128)) (frames_of s) m
    → next_of (cond taken x (cond (own_loop s) (stay pc s) nowhere)) m
    ≡ exit (loop_open (blocks_of s)) taken ws (table_at (pc / 128)) (pc % 128) (blocks_of s) (frames_of s) m
exits x pc s taken ws m h = by (loop_open (blocks_of s)) taken refl (loops_same s)
  where
    by : (open_loop taken : Bool) → loop_open (blocks_of s) ≡ open_loop → own_loop s ≡ open_loop
        → next_of (cond taken x (cond (own_loop s) (stay pc s) nowhere)) m
        ≡ exit open_loop taken ws (table_at (pc / 128)) (pc % 128) (blocks_of s) (frames_of s) m
    by true true o e = h
    by true false o e = ap (λ b. next_of (cond b (stay pc s) nowhere) m) e
    by false true o e = h ∙ no_way_out (blocks_of s) ws (table_at (pc / 128)) (frames_of s) m o
    by false false o e = ap (λ b. next_of (cond b (stay pc s) nowhere) m) e

module _ (p : Program) (ends elses subs : List ℕ) (told : TargetsTold p ends elses) (places : Subs p subs) where
  at_place : (pc : ℕ) → pc < 384 → place_number (table_at (pc / 128)) (pc % 128) ≡ pc
  at_place pc h = omega (arith, row_at (pc / 128) (omega arith))

  end_at_lem : (pc : ℕ) → pc < 384 → get_or ends pc 0 ≡ end_at (ways_from p (table_at (pc / 128)) (pc % 128))
  end_at_lem pc h = ap (λ n. get_or ends n 0) (sym (at_place pc h)) ∙ told.end_told (table_at (pc / 128)) (pc % 128) (omega arith)

  else_at_lem : (pc : ℕ) → pc < 384 → get_or elses pc 0 ≡ else_at (ways_from p (table_at (pc / 128)) (pc % 128))
  else_at_lem pc h = ap (λ n. get_or elses n 0) (sym (at_place pc h)) ∙ told.else_told (table_at (pc / 128)) (pc % 128) (omega arith)

  told_end : (t pc : ℕ) (ws : List Way) → pc < 384 → pc / 128 ≡ t → ws ≡ ways_from p (table_at t) (pc % 128) → get_or ends pc 0 ≡ end_at ws
  told_end t pc ws h r w = end_at_lem pc h ∙ ap (λ u. end_at (ways_from p (table_at u) (pc % 128))) r ∙ ap end_at (sym w)

  -- from a place of the table of row t; e only bounds the chain from below
  leaves : (t e pc : ℕ) (s : List Mark) (ws : List Way) (m : Memory) → pc < 384 → pc / 128 ≡ t → ws ≡ ways_from p (table_at t) (pc % 128)
      → Chained (entries p (table_at t)) e ws → next_of (leave_to ends pc s) m ≡ leave (blocks_of s) ws (table_at t) (frames_of s) m
  unfolding leave
  leaves t e pc [] ws m h r w c = refl
  leaves t e pc (call_mark z ∷ s) ws m h r w c = refl
  leaves t e pc (then_mark ∷ s) [] m h r w c =
      ap (λ z. next_of (cond (eqb z 0) nowhere (leave_to ends (place_in pc z) s)) m) (told_end t pc [] h r w)
  leaves t e pc (then_mark ∷ s) (v ∷ vs) m h r w c =
      let few : v.behind_end ≤ 99 = omega (arith, c.1, entries_most p (table_at t)) in
      let to : place_in pc v.behind_end % 128 ≡ v.behind_end = omega arith in
      ap (λ z. next_of (cond (eqb z 0) nowhere (leave_to ends (place_in pc z) s)) m) (told_end t pc (v ∷ vs) h r w)
      ∙ ap (λ z. next_of z m) (no nowhere (leave_to ends (place_in pc v.behind_end) s) (ne_eqb v.behind_end 0 (λ z. omega (arith, c.0))))
      ∙ leaves t e (place_in pc v.behind_end) s vs m (omega arith) (omega arith) (c.3 ∙ ap (ways_from p (table_at t)) (sym to)) c.4
  leaves t e pc (loop_mark a n j ∷ s) [] m h r w c = ap (λ z. next_of (jump z pc s) m) (told_end t pc [] h r w)
  leaves t e pc (loop_mark a n j ∷ s) (v ∷ vs) m h r w c =
      jumps (entries p (table_at t)) e (get_or ends pc 0) pc s (v ∷ vs) m c (told_end t pc (v ∷ vs) h r w)
      ∙ ap (λ u. past_end (v ∷ vs) (table_at u) (blocks_of s) (frames_of s) m) r

  exit_cond : (taken : Bool) (pc : ℕ) (s : List Mark) → exit_to ends taken pc s ≡ cond taken (leave_to ends pc s) (cond (own_loop s) (stay pc s) nowhere)
  exit_cond true pc s = refl
  exit_cond false pc s = refl

  module _ (x : Scan) (home : ℕ) (home_is : home ≡ place_number (table_of x.table) (length (entries p (table_of x.table)))) where
    ends_scan : (m : Memory) → next_of (stay home []) m ≡ next (at (table_of x.table) (length (entries p (table_of x.table))) [] [] m)
    ends_scan m =
        let t : Table = table_of x.table in
        let few = entries_most p t in
        let a : home / 128 ≡ row t = omega arith in
        let b : home % 128 ≡ length (entries p t) = omega arith in
        ap (λ u. next (at (table_at u) (home % 128) [] [] m)) a
        ∙ ap (λ u. next (at u (home % 128) [] [] m)) (at_row t)
        ∙ ap (λ e. next (at t e [] [] m)) b

    -- pc is the place behind the entry
    pub refines : (f : Flow) (b : Bool) (pc : ℕ) (s : List Mark) (m : Memory) → pc < 384 → ((k : ℕ) → f ≡ Flow.Call k → k < 256)
        → next_of (move_to ends elses subs home f b pc s) m
        ≡ go_on p x f b (ways_from p (table_at (pc / 128)) (pc % 128)) (table_at (pc / 128)) (pc % 128) (blocks_of s) (frames_of s) m
    unfolding go_on
    refines Flow.Next b pc s m h k = refl
    refines Flow.Else b pc [] m h k = refl
    refines Flow.Else b pc (then_mark ∷ s) m h k =
        jumps (entries p (table_at (pc / 128))) (pc % 128) (get_or ends pc 0) pc s (ways_from p (table_at (pc / 128)) (pc % 128)) m (chain_at p (table_at (pc / 128)) (pc % 128)) (end_at_lem pc h)
    refines Flow.Else b pc (loop_mark a n j ∷ s) m h k = refl
    refines Flow.Else b pc (call_mark c ∷ s) m h k = refl
    refines Flow.End b pc [] m h k = refl
    refines Flow.End b pc (then_mark ∷ s) m h k = refl
    refines Flow.End b pc (loop_mark a n j ∷ s) m h k = by (ltb j n)
      where
        by : (z : Bool) → next_of (cond z (go (pc / 128) a (loop_mark a n (suc j) ∷ s)) (stay pc s)) m
            ≡ again z a n j (table_at (pc / 128)) (pc % 128) (blocks_of s) (frames_of s) m
        by true = refl
        by false = refl
    refines Flow.End b pc (call_mark c ∷ s) m h k = refl
    refines Flow.Then true pc s m h k = refl
    refines Flow.Then false pc s m h k =
        falls (entries p (table_at (pc / 128))) (pc % 128) (get_or ends pc 0) (get_or elses pc 0) pc s (ways_from p (table_at (pc / 128)) (pc % 128)) m
        (chain_at p (table_at (pc / 128)) (pc % 128))
        (end_at_lem pc h)
        (else_at_lem pc h)
    refines Flow.Stop true pc s m h k = ends_scan m
    refines Flow.Stop false pc s m h k = refl
    refines (Flow.Loop n) b pc s m h k = refl
    refines (Flow.Subroutine j) b pc s m h k = refl
    refines (Flow.Call j) b pc s m h k =
        calls (get_or subs j 0) pc s b (behind_label j 0 (entries p Table.Three)) m (λ z e. (label_behind j 0 z (entries p Table.Three) e).0)
        (places.sub_told j (k j refl))
    refines (Flow.Exit when) b pc s m h k =
        ap (λ z. next_of z m) (exit_cond (beq b when) pc s)
        ∙ exits (leave_to ends pc s) pc s (beq b when) (ways_from p (table_at (pc / 128)) (pc % 128)) m
        (leaves (pc / 128) (pc % 128) pc s (ways_from p (table_at (pc / 128)) (pc % 128)) m h refl refl (chain_at p (table_at (pc / 128)) (pc % 128)))
