-- The subroutines first, then each table by what its calls add.
use mathlib.Core.Path.{refl}
use lib.ListN.{get_or}
use Rattle.base_program.specs.declared.Table.TheVariants.{One, Two}
use Rattle.base_program.specs.Entries.{entries}
use Rattle.record_codes.specs.Loaded.{zero_at}
use Rattle.check_counts.specs.Lent.{zero_stopped}
use Rattle.check_counts.specs.Tables.{subs_ready, table_is}
use Rattle.check_counts.proofs.tables.count_tables.Goals as goal

pub count_subs-requires : goal.count_subs-requires
count_subs-requires c =
    (record { places = c.requires.0.places; few = c.requires.2.0.top; starts = c.requires.1.0; chains = c.requires.1.1; room = refl }, c.requires.2.0, (zero_stopped, zero_at 256))

pub returns : goal.returns
returns c =
    λ p r. record { first_is = table_is p c.args.codes.now c.args.lengths c.args.starts.now c.args.heights.now c.count_subs.new.adds r (c.count_subs.ensures.0 p (subs_ready p c.args.codes.now c.args.lengths c.args.starts.now c.args.heights.now (get_or c.args.calls.now.places 0 0) c.requires.2.1 r)) One c.count_from-first.result (c.count_from-first.ensures.0 (entries p One) (r.lengths_are One) (r.flows_are One)); second_is = table_is p c.args.codes.now c.args.lengths c.args.starts.now c.args.heights.now c.count_subs.new.adds r (c.count_subs.ensures.0 p (subs_ready p c.args.codes.now c.args.lengths c.args.starts.now c.args.heights.now (get_or c.args.calls.now.places 0 0) c.requires.2.1 r)) Two c.count_from-second.result (c.count_from-second.ensures.0 (entries p Two) (r.lengths_are Two) (r.flows_are Two)) }
