-- The walks in order, each over what those before it lend.
use mathlib.Core.Path.{sym, ◌∙◌}
use Rattle.base_program.specs.declared.Table.TheVariants.{Three}
use Rattle.check_walks.specs.Walked.{middle_blocks, middle_reach, middle_chains, not_clean, short_chains}
use Rattle.check_walks.proofs.walk_calls.Goals as goal

pub returns-in_default : goal.returns-in_default
returns-in_default c =
    λ p h s. record { finding = middle_blocks p c.walk_blocks-structure.result _ _ _ (c.walk_blocks-structure.ensures p (record { lengths_are = h.lengths_are; flows_are = h.flows_are; subs_are = s })) c.in_default.is; heights_are = λ z. absurd (not_clean _ _ _ _ c.in_default.is z); short = λ z. absurd (not_clean _ _ _ _ c.in_default.is z); heights_size = c.requires.heights_size }

pub returns-in_default-reach : goal.returns-in_default-reach
returns-in_default-reach c =
    λ p h s. record { finding = middle_reach p c.walk_reach-reach.result _ _ _ (sym (c.walk_blocks-structure.ensures p (record { lengths_are = h.lengths_are; flows_are = h.flows_are; subs_are = s })) ∙ c.in-Clean.is) (c.walk_reach-reach.ensures p (record { lengths_are = h.lengths_are; most_is = h.most_is; flows_are = h.flows_are; needs_are = h.needs_are; subs_are = s })) c.in_default-reach.is; heights_are = λ z. absurd (not_clean _ _ _ _ c.in_default-reach.is z); short = λ z. absurd (not_clean _ _ _ _ c.in_default-reach.is z); heights_size = c.requires.heights_size }

pub returns : goal.returns
returns c =
    λ p h s. let b = sym (c.walk_blocks-structure.ensures p (record { lengths_are = h.lengths_are; flows_are = h.flows_are; subs_are = s })) ∙ c.in-Clean.is in let w = c.walk_chains.ensures p (record { flows_are = h.flows_are; length_is = h.lengths_are Three ∙ sym c.requires.head_is; blocks = b }) in record { finding = middle_chains p c.walk_chains.result b (sym (c.walk_reach-reach.ensures p (record { lengths_are = h.lengths_are; most_is = h.most_is; flows_are = h.flows_are; needs_are = h.needs_are; subs_are = s })) ∙ c.in-Clean-reach.is) w.finding; heights_are = λ z. w.heights_are; short = λ z. short_chains p c.walk_chains.new.heights (sym w.finding ∙ z) w.heights_are; heights_size = c.walk_chains.auto.heights ∙ c.requires.heights_size }
