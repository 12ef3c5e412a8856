-- Each arm is one case of `through`.
use Rattle.std.proofs.Common.{refl, arith, inl, inr}
use Rattle.spec_check.specs.Blocks.{then_do, subroutine, loop, through}
use Rattle.spec_check.specs.Calls.{passes_in_force}
use Rattle.check_passes.specs.Passes.{held_top, held_more, held_halved, held_less}
use Rattle.check_passes.proofs.passes_through.Goals as goal

pub returns-in-End : goal.returns-in-End
unfolding through
returns-in-End c = (λ bs h. rw (c.in-End.is, c.saturating_sub.ensures) (held_less _ _ bs h), omega arith)

pub returns-in-Then : goal.returns-in-Then
unfolding through passes_in_force
returns-in-Then c = (
  λ bs h.
      elim c.in-Then.is [
        | inl e ↦ rw e (held_more _ _ bs then_do h c.requires.0 _ (held_top _ _ bs h))
        | inr w ↦ rw w.1 (held_more _ _ bs subroutine h c.requires.0 _ (held_top _ _ bs h))
      ],
  omega arith,
)

pub returns-in-Loop : goal.returns-in-Loop
unfolding through passes_in_force
returns-in-Loop c = (λ bs h. rw c.in-Loop.is (held_more _ _ bs (loop _) h c.requires.0 _ refl), omega arith)

pub returns-in-Else : goal.returns-in-Else
unfolding through
returns-in-Else c = (
  λ bs h.
      elim c.in-Else.is [
        | inl e ↦ rw e (held_halved _ _ bs h)
        | inr (inl e) ↦ rw e h
        | inr (inr (inl e)) ↦ rw e h
        | inr (inr (inr (inl w))) ↦ rw w.1 h
        | inr (inr (inr (inr w))) ↦ rw w.1 h
      ],
  omega arith,
)
