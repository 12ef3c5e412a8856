-- The decoder's instruction is the one that lies in the slot.
use mathlib.Core.Path.{subst}
use Rattle.check_facts.specs.Told.{FactsTold}
use Rattle.check_entry.proofs.facts_at.Goals as goal

pub instruction_at-requires : goal.instruction_at-requires
instruction_at-requires c =
    c.requires

pub returns : goal.returns
returns c =
    subst (λ i. FactsTold c.args.most i c.facts_of.result) c.instruction_at.ensures c.facts_of.ensures
