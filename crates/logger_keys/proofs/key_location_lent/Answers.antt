-- By its verdict.
use mathlib.Core.Path.{sym, ◌∙◌}
use native.Mathlib.Omega.{arith}
use lib.ListN.{length}
use Rattle.record_layout.specs.Layout.{record_of}
use Rattle.record_fields.specs.Entries.{locations_lie}
use Rattle.logger_keyed.specs.Keys.{key_told, left_alone}
use Rattle.logger_keys.proofs.key_location_lent.Goals as goal

pub check_lent-verdict-requires : goal.check_lent-verdict-requires
check_lent-verdict-requires c =
    (c.requires.numbers, c.requires.values)

pub bounds-numbers-0 : goal.bounds-numbers-0
bounds-numbers-0 c =
    omega (arith, c.requires.numbers)

pub returns-in-Ok : goal.returns-in-Ok
returns-in-Ok c =
    (sym c.in-Ok.ensures.0 ∙ key_told (record_of c.args.numbers.now c.args.values.now) _ _ (length c.args.locations.now) c.args.n c.args.v c.check_lent-verdict.ensures (sym (locations_lie c.args.numbers.now c.args.values.now)), c.in-Ok.ensures.1)

pub returns-in-Err : goal.returns-in-Err
returns-in-Err c =
    (c.in-Err.ensures.0 ∙ key_told (record_of c.args.numbers.now c.args.values.now) _ _ (length c.args.locations.now) c.args.n c.args.v c.check_lent-verdict.ensures (sym (locations_lie c.args.numbers.now c.args.values.now)), c.in-Err.ensures.2 ∙ left_alone c.in-Err.refusal c.args.n c.args.v c.args.locations.now c.in-Err.ensures.1)
