-- One step of the plain machine, in numbers and marks. An entry leads where `moveTo` says, since that is `goOn`; behind a table's last entry the scan
-- ends exactly where no mark is left. Assumes nothing.
use Rattle.std.specs.Prelude.{◌≡◌, refl, cond, List, [], ◌∷◌, length, get_or, eqb}
use Rattle.std.proofs.Math.Path.{sym, ap}
use Rattle.std.proofs.Common.{◌∙◌, add-one, drop_of_length-le, drop-cons, ne_eqb}
use Prim.Native.Nat.{ℕ, zero, suc, ◌+◌, ◌/◌, ◌%◌, ◌≤◌, ◌<◌}
use native.Mathlib.Omega.{arith}
use Rattle.std.proofs.Math.ListN.{drop}
use Rattle.base_program.specs.declared.Flow.{Flow}
use Rattle.base_program.specs.declared.Instruction.{Instruction}
use Rattle.base_program.specs.declared.Program.{Program}
use Rattle.base_program.specs.declared.Table.{Table}
use Rattle.base_program.specs.Flow.{flow}
use Rattle.base_program.specs.Entries.{entries, table_at}
use Rattle.spec_machine.specs.Machine.{Next, next, done, stuck, table_of, test, effect, go_on, act, step}
use Rattle.spec_machine.specs.Memory.{Memory}
use Rattle.spec_machine.specs.Values.{Scan}
use Rattle.scan_targets.specs.Told.{place_number, ways_from, TargetsTold, Subs}
use Rattle.scan_targets.specs.Laws.{entries_most}
use Rattle.scan_marks.specs.Marks.{Mark, then_mark, loop_mark, call_mark, stack, To}
use Rattle.scan_marks.specs.Move.{Moved, shift_to, move_to}
use Rattle.scan_marks.specs.Laws.{seen_nowhere, seen_go}
use Rattle.scan_control.specs.Refine.{blocks_of, frames_of, config_of, next_of, shifts, refines}

-- ---- what an answer says

pub answer_next : (to : To) (r : ℕ) (l : List ℕ) (k : ℕ) (m : Memory) → Moved to r l k → (r ≡ 384 → ⊥) → next_of to m ≡ next (config_of r (stack l k) m)
answer_next to r l k m a h = ap (λ z. next_of z m) (sym a.leads ∙ seen_go r (stack l k) (let w = a.within in omega arith))

pub answer_nowhere : (to : To) (l : List ℕ) (k : ℕ) (m : Memory) → Moved to 384 l k → next_of to m ≡ stuck
answer_nowhere to l k m a = ap (λ z. next_of z m) (sym a.leads ∙ seen_nowhere (stack l k))

-- ---- behind a table's last entry

abbrev ended : List Mark → Next
ended [] = done
ended (a ∷ s) = stuck

at_end : (p : Program) (x : Scan) (t : Table) (e : ℕ) (s : List Mark) (m : Memory) → act p x [] t e (blocks_of s) (frames_of s) m ≡ ended s
unfolding act
at_end p x t e [] m = refl
at_end p x t e (then_mark ∷ s) m = refl
at_end p x t e (loop_mark a n j ∷ s) m = refl
at_end p x t e (call_mark c ∷ s) m = refl

ended_top : (l : List ℕ) (top : ℕ) → ended (stack l top) ≡ cond (eqb top 0) done stuck
ended_top l zero = refl
ended_top l (suc k) = sym (ap (λ b. cond b done stuck) (ne_eqb (suc k) 0 (λ z. omega arith)))

pub step_ends : (p : Program) (x : Scan) (pc : ℕ) (l : List ℕ) (top : ℕ) (m : Memory) → length (entries p (table_at (pc / 128))) ≤ pc % 128
    → step p x (config_of pc (stack l top) m) ≡ cond (eqb top 0) done stuck
step_ends p x pc l top m h =
    let t : Table = table_at (pc / 128) in
    ap (λ r. act p x r t (pc % 128) (blocks_of (stack l top)) (frames_of (stack l top)) m) (drop_of_length-le (entries p t) {i = pc % 128} h)
    ∙ at_end p x t (pc % 128) (stack l top) m
    ∙ ended_top l top

-- ---- an entry

module _
    (p : Program) (ends elses subs : List ℕ) (told : TargetsTold p ends elses) (places : Subs p subs)
    (x : Scan) (home : ℕ) (home_is : home ≡ place_number (table_of x.table) (length (entries p (table_of x.table)))) where
  pub step_moves : (pc : ℕ) (s : List Mark) (m : Memory) (i : Instruction) → pc < 384 → pc % 128 < length (entries p (table_at (pc / 128)))
      → get_or (entries p (table_at (pc / 128))) (pc % 128) Instruction.End ≡ i → ((k : ℕ) → flow i ≡ Flow.Call k → k < 256)
      → step p x (config_of pc s m)
      ≡ next_of (move_to ends elses subs home (flow i) (test p x (shift_to s) i m) (pc + 1) s) (effect p x (table_at (pc / 128)) (pc % 128 + 1) (shift_to s) i m)
  unfolding act
  step_moves pc s m i h within is small =
      let t : Table = table_at (pc / 128) in
      let e : ℕ = pc % 128 in
      let most = entries_most p t in
      let same_table : pc / 128 ≡ (pc + 1) / 128 = omega arith in
      let behind : e + 1 ≡ (pc + 1) % 128 = omega arith in
      let m' : Memory = effect p x t (e + 1) (shift_to s) i m in
      ap (λ r. act p x r t e (blocks_of s) (frames_of s) m) (drop-cons (entries p t) e Instruction.End within ∙ ap (λ y. y ∷ drop (suc e) (entries p t)) is)
      ∙ ap (λ z. go_on p x (flow i) (test p x z i m) (ways_from p t (suc e)) t (suc e) (blocks_of s) (frames_of s) (effect p x t (suc e) z i m)) (sym (shifts s))
      ∙ ap (λ n. go_on p x (flow i) (test p x (shift_to s) i m) (ways_from p t n) t n (blocks_of s) (frames_of s) (effect p x t n (shift_to s) i m)) (sym (add-one e))
      ∙ ap (λ n. go_on p x (flow i) (test p x (shift_to s) i m) (ways_from p t n) t n (blocks_of s) (frames_of s) m') behind
      ∙ ap
      (λ n. go_on p x (flow i) (test p x (shift_to s) i m) (ways_from p (table_at n) ((pc + 1) % 128)) (table_at n) ((pc + 1) % 128) (blocks_of s) (frames_of s) m')
      same_table
      ∙ sym (refines p ends elses subs told places x home home_is (flow i) (test p x (shift_to s) i m) (pc + 1) s m' (omega arith) small)
