-- The decoder's instruction is the one that lies in the slot, and the uppermost mark has how far indexed locations are moved up.
use mathlib.Core.Path.{sym, ap}
use lib.ListN.{get_or}
use Rattle.scan_marks.specs.Laws.{marked}
use Rattle.scan_entry.specs.Asks.{known}
use Rattle.scan_entry.specs.Arms.{asked_as, done_as}
use Rattle.scan_entry.proofs.carry.carry_at.Goals as goal

pub instruction_at-i-requires : goal.instruction_at-i-requires
instruction_at-i-requires c =
    c.requires.0

pub shift_of-shift-requires : goal.shift_of-shift-requires
shift_of-shift-requires c =
    marked c.requires.2.1.ready

pub carry_out-requires : goal.carry_out-requires
carry_out-requires c =
    (c.shift_of-shift.ensures.1, c.requires.1, (asked_as (ap (λ z. known z (get_or c.args.firsts.now c.args.slot 0) c.args.slot c.args.id c.args.day c.args.clock c.args.minute c.args.another) (sym c.shift_of-shift.ensures.0)) (sym c.instruction_at-i.ensures) c.requires.2.0, c.requires.2.1))

pub returns : goal.returns
returns c =
    done_as (ap (λ z. known z (get_or c.args.firsts.now c.args.slot 0) c.args.slot c.args.id c.args.day c.args.clock c.args.minute c.args.another) c.shift_of-shift.ensures.0) c.instruction_at-i.ensures c.carry_out.ensures
