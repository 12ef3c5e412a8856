-- The number pushed is the mark of a loop on its first pass.
use mathlib.Core.Path.{◌≡◌, refl, sym, ap, ◌∙◌}
use mathlib.Core.List.{◌∷◌}
use Prim.Native.Nat.{◌+◌, ◌*◌, ◌%◌}
use native.Mathlib.Omega.{arith}
use Rattle.scan_marks.specs.Marks.{first_loop, loop_mark, stack}
use Rattle.scan_marks.specs.Laws.{loop_made, moved_to}
use Rattle.scan_marks.specs.Move.{shift_to}
use Rattle.scan_control.proofs.block.begin_loop.Goals as goal

pub push-requires : goal.push-requires
push-requires c =
    let a = c.args.pc % 128 in
    let v = (a + 1) * first_loop + c.args.count * 65536 in (
      (c.requires.room, c.requires.size, c.requires.shifted),
      (let g : v % 65536 ≡ 0 = omega arith in g) ∙ sym (ap (λ x. shift_to (x ∷ stack c.args.marks.now c.args.top.now)) (loop_made a c.args.count (omega arith) (omega arith))),
    )

pub returns : goal.returns
returns c =
    let s = stack c.args.marks.now c.args.top.now in
    moved_to _ _ c.args.pc (loop_mark (c.args.pc % 128) c.args.count 1 ∷ s) _ c.requires.place (omega (arith, c.push.ensures.higher)) c.push.ensures.shifted
    (c.push.ensures.above ∙ ap (λ x. x ∷ s) (loop_made (c.args.pc % 128) c.args.count (omega arith) (omega arith)))
    refl
