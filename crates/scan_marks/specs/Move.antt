-- Where an entry leads, by its control-flow kind, in numbers and marks: what each function of this crate answers. Assumes nothing.
use Rattle.std.specs.Prelude.{◌≡◌, ℕ, suc, ◌+◌, ◌-◌, ◌/◌, ◌%◌, ◌≤◌, ◌<◌, Bool, true, false, cond, List, [], ◌∷◌, length, get_or, ltb, eqb}
use Rattle.std.specs.Bool.{beq}
use Rattle.base_program.specs.declared.Flow.{Flow}
use Rattle.scan_marks.specs.Marks.{Mark, then_mark, loop_mark, call_mark, stack, place_in, To, go, nowhere, seen}

-- ---- how far indexed locations are moved up

-- the pass of the innermost own loop, 0 with none
abbrev pub pass_to : List Mark → ℕ
pass_to [] = 0
pass_to (then_mark ∷ s) = pass_to s
pass_to (loop_mark a n j ∷ s) = j
pass_to (call_mark c ∷ s) = 0

-- 'on pass p of the innermost loop open in its own table or subroutine .. moved up by p - 1; outside a loop by 0'
abbrev pub shift_to : List Mark → ℕ
shift_to s = pass_to s - 1

-- the low 16 bits of each number are how far indexed locations are moved up with the marks up to it open
abbrev pub Shifted : List ℕ → ℕ → Type 0
Shifted marks top = (k : ℕ) → k ≤ top → get_or marks k 0 % 65536 ≡ shift_to (stack marks k)

-- ---- what the functions ask and answer

pub record MoveReady (pc top : ℕ) (marks : List ℕ) : Type 0 where
  pub place : pc < 384
  pub room : top < 96
  pub size : length marks ≡ 97
  pub shifted : Shifted marks top

-- the marks alone
abbrev pub Marked : List ℕ → ℕ → Type 0
Marked marks top = (top < 96) × (length marks ≡ 97) × Shifted marks top

-- a list of n places, each within its table
pub record Targets (l : List ℕ) (n : ℕ) : Type 0 where
  pub size : length l ≡ n
  pub small : (k : ℕ) → get_or l k 0 ≤ 99

pub record Moved (to : To) (r : ℕ) (marks : List ℕ) (top : ℕ) : Type 0 where
  pub leads : seen r (stack marks top) ≡ to
  pub within : r ≤ 384
  pub room : top ≤ 96
  pub shifted : Shifted marks top

-- one mark more
pub record Pushed (v : Mark) (marks : List ℕ) (top : ℕ) (marks' : List ℕ) (top' : ℕ) : Type 0 where
  pub above : stack marks' top' ≡ v ∷ stack marks top
  pub higher : top' ≡ top + 1
  pub shifted : Shifted marks' top'

-- ---- one definition for each kind; pc is the place behind the entry

abbrev pub stay : ℕ → List Mark → To
stay pc s = go (pc / 128) (pc % 128) s

-- to place q of pc's table, if there is one
abbrev pub jump : ℕ → ℕ → List Mark → To
jump q pc s = cond (eqb q 0) nowhere (go (pc / 128) q s)

-- 'a loop's 95 goes back behind its 87 while passes are left'; 'the 95 that closes that goes back behind the call'
abbrev pub end_to : ℕ → List Mark → To
end_to pc [] = nowhere
end_to pc (then_mark ∷ s) = stay pc s
end_to pc (loop_mark a n j ∷ s) = cond (ltb j n) (go (pc / 128) a (loop_mark a n (suc j) ∷ s)) (stay pc s)
end_to pc (call_mark c ∷ s) = stay c s

-- 'an Else reached goes past its End'
abbrev pub else_to : List ℕ → ℕ → List Mark → To
else_to ends pc [] = nowhere
else_to ends pc (then_mark ∷ s) = jump (get_or ends pc 0) pc s
else_to ends pc (loop_mark a n j ∷ s) = nowhere
else_to ends pc (call_mark c ∷ s) = nowhere

-- 'a false command 30 goes past its Else, its block open, or with no Else past its End'
abbrev pub then_to : List ℕ → List ℕ → Bool → ℕ → List Mark → To
then_to ends elses true pc s = stay pc (then_mark ∷ s)
then_to ends elses false pc s = cond (eqb (get_or elses pc 0) 0) (jump (get_or ends pc 0) pc s) (go (pc / 128) (get_or elses pc 0) (then_mark ∷ s))

abbrev pub loop_to : ℕ → ℕ → List Mark → To
loop_to n pc s = stay pc (loop_mark (pc % 128) n 1 ∷ s)

-- 'a subroutine call goes past its 85'
abbrev pub call_to : List ℕ → ℕ → Bool → ℕ → List Mark → To
call_to subs k test pc s = cond (eqb (get_or subs k 0) 0) nowhere (cond test (go 2 (get_or subs k 0) (call_mark pc ∷ s)) (stay pc s))

-- 'command 0 ends the scan'
abbrev pub stop_to : Bool → ℕ → ℕ → List Mark → To
stop_to true home pc s = stay home []
stop_to false home pc s = stay pc s

-- 'an exit goes past the innermost own loop's End'
abbrev pub leave_to : List ℕ → ℕ → List Mark → To
leave_to ends pc [] = nowhere
leave_to ends pc (then_mark ∷ s) = cond (eqb (get_or ends pc 0) 0) nowhere (leave_to ends (place_in pc (get_or ends pc 0)) s)
leave_to ends pc (loop_mark a n j ∷ s) = jump (get_or ends pc 0) pc s
leave_to ends pc (call_mark c ∷ s) = nowhere

abbrev pub own_loop : List Mark → Bool
own_loop [] = false
own_loop (then_mark ∷ s) = own_loop s
own_loop (loop_mark a n j ∷ s) = true
own_loop (call_mark c ∷ s) = false

-- 'no next step to .. a command 31 or 32 with no block of its kind open'
abbrev pub exit_to : List ℕ → Bool → ℕ → List Mark → To
exit_to ends true pc s = leave_to ends pc s
exit_to ends false pc s = cond (own_loop s) (stay pc s) nowhere

-- ---- all kinds; home is the place behind the last entry of the table scanned

abbrev pub move_to : List ℕ → List ℕ → List ℕ → ℕ → Flow → Bool → ℕ → List Mark → To
move_to ends elses subs home Flow.Next b pc s = stay pc s
move_to ends elses subs home Flow.Else b pc s = else_to ends pc s
move_to ends elses subs home Flow.End b pc s = end_to pc s
move_to ends elses subs home Flow.Then b pc s = then_to ends elses b pc s
move_to ends elses subs home Flow.Stop b pc s = stop_to b home pc s
move_to ends elses subs home (Flow.Loop n) b pc s = loop_to n pc s
move_to ends elses subs home (Flow.Subroutine k) b pc s = nowhere
move_to ends elses subs home (Flow.Call k) b pc s = call_to subs k b pc s
move_to ends elses subs home (Flow.Exit when) b pc s = exit_to ends (beq b when) pc s
