-- The answer with the empty record.
use mathlib.Core.Path.{ap}
use Rattle.base_program.specs.declared.Finding.{Finding}
use Rattle.base_program.specs.declared.Program.{Program}
use Rattle.text_keyed.specs.declared.Keyed.{Keyed}
use Rattle.text_keyed.specs.Text.{bad}
use Rattle.text_keyed.proofs.fault.Goals as goal

pub returns : goal.returns
unfolding bad
returns c =
    let made : Program → Keyed = λ p. record { finding = Finding.Fault c.args.number c.args.table c.args.entry; program = p } in ap made c.empty_program.ensures
