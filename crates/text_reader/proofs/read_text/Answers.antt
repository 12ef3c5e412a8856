-- Too long, no line, the first line's fault, or what stands behind it.
use mathlib.Core.Path.{◌≡◌, sym, ap, ◌∙◌}
use Prim.Native.Nat.{◌+◌, ◌-◌, ◌<◌}
use native.Mathlib.Omega.{arith}
use lib.ListN.{length, take, drop}
use borrow.Author.Tests.{lt-ltb, le-ltb}
use Rattle.text_keyed.specs.Text.{lines_of, bytes_behind, sized_by, tables_read, program_read, text_of}
use Rattle.text_opening.specs.Opening.{program_of}
use Rattle.base_laws.specs.Tests.{yes, no}
use Rattle.text_keyed.proofs.Lines.{line_cut, behind_cut, line_last}
use Rattle.text_reader.proofs.read_text.Goals as goal

pub returns-then-s-gt16384 : goal.returns-then-s-gt16384
unfolding text_of
returns-then-s-gt16384 c =
    c.fault.ensures ∙ sym (yes _ _ (lt-ltb 16384 (length c.args.s.now) c.if-s-gt16384.true))

pub returns-then-e-s : goal.returns-then-e-s
unfolding text_of program_read
returns-then-e-s c =
    let s = c.args.s.now in
    c.fault-then-e-s.ensures ∙ sym (no _ _ (le-ltb 16384 (length s) c.if-s-gt16384.false) ∙ ap (λ ls. program_read ls (bytes_behind s)) (line_last s 0 c.find-e.result c.find-e.ensures c.if-e-s.true))

pub returns-in-Err : goal.returns-in-Err
unfolding text_of program_read
returns-in-Err c =
    let s = c.args.s.now in
    let e = c.find-e.result in
    let h : e < length s = omega (arith, c.find-e.ensures.within, c.if-e-s.false) in
    let whole : e - 0 ≡ e = omega arith in
    c.fault-in-Err.ensures
    ∙ sym (no _ _ (le-ltb 16384 (length s) c.if-s-gt16384.false)
    ∙ ap (λ ls. program_read ls (bytes_behind s)) (line_cut s 0 e c.find-e.ensures h)
    ∙ ap (λ x. sized_by x (λ i m. tables_read i m (lines_of (drop (e + 1) s)) (bytes_behind s))) (ap (λ k. program_of (take k s)) whole ∙ sym c.judge_program.ensures ∙ c.in-Err.is))

pub returns-in-Ok : goal.returns-in-Ok
unfolding text_of program_read
returns-in-Ok c =
    let s = c.args.s.now in
    let e = c.find-e.result in
    let h : e < length s = omega (arith, c.find-e.ensures.within, c.if-e-s.false) in
    let whole : e - 0 ≡ e = omega arith in
    c.read_tables.ensures
    ∙ sym (no _ _ (le-ltb 16384 (length s) c.if-s-gt16384.false)
    ∙ ap (λ ls. program_read ls (bytes_behind s)) (line_cut s 0 e c.find-e.ensures h)
    ∙ ap (λ x. sized_by x (λ i m. tables_read i m (lines_of (drop (e + 1) s)) (bytes_behind s))) (ap (λ k. program_of (take k s)) whole ∙ sym c.judge_program.ensures ∙ c.in-Ok.is)
    ∙ ap (tables_read c.in-Ok.sizes.locations c.in-Ok.sizes.sums (lines_of (drop (e + 1) s))) (behind_cut s 0 e c.find-e.ensures h))
