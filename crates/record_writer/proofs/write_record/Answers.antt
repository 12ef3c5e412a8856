-- The buffers begin with the slots written so far, at each turn.
use mathlib.Core.Path.{refl, sym, ap, ◌∙◌}
use native.Mathlib.Omega.{arith}
use mathlib.Core.List.{[], ◌∷◌}
use lib.ListN.{length}
use lib.Ieee.{of_bits}
use Rattle.std.proofs.lemmas.Slice.{put_mid-paste}
use Rattle.base_float.specs.Finite.{zero_float}
use Rattle.record_layout.specs.Layout.{slot_numbers, slot_values, held}
use Rattle.record_layout.specs.RecordLaws.{eight_numbers, two_values}
use Rattle.record_writer.proofs.Rows.{rows_start, rows_next, rows_all}
use Rattle.record_writer.proofs.write_record.Goals as goal

pub loop-s-init : goal.loop-s-init
loop-s-init c =
    rows_start c.args.p _ _ (omega (arith, c.put_header.auto, c.requires.0)) c.requires.1 c.put_header.ensures

pub loop-s-preserved-in-End : goal.loop-s-preserved-in-End
unfolding slot_numbers slot_values of_bits
loop-s-preserved-in-End c =
    rows_next c.args.p c.loop-s.numbers c.loop-s.values c.loop-s.s c.loop-s.invariant (95 ∷ 0 ∷ 0 ∷ 0 ∷ 0 ∷ 0 ∷ 0 ∷ 0 ∷ []) (zero_float ∷ zero_float ∷ []) _ _
    (omega (arith, c.loop-s-test.true)) (ap slot_numbers (sym c.in-End.is)) (ap slot_values (sym c.in-End.is))
    (put_mid-paste _ _ _ _ _ 8 c.copy_from_slice.ensures.after (omega arith) refl)
    (put_mid-paste _ _ _ _ _ 2 c.copy_from_slice-in-End.ensures.after (omega arith) refl)

pub loop-s-preserved : goal.loop-s-preserved
loop-s-preserved c =
    rows_next c.args.p c.loop-s.numbers c.loop-s.values c.loop-s.s c.loop-s.invariant c.numbers_of.result c.values_of.result _ _
    (omega (arith, c.loop-s-test.true)) c.numbers_of.ensures c.values_of.ensures
    (put_mid-paste _ _ _ _ _ 8 c.copy_from_slice-in-loop-s.ensures.after (omega arith) (sym (ap length c.numbers_of.ensures ∙ eight_numbers (held c.args.p c.loop-s.s))))
    (put_mid-paste _ _ _ _ _ 2 c.copy_from_slice-in-loop-s-2.ensures.after (omega arith) (sym (ap length c.values_of.ensures ∙ two_values (held c.args.p c.loop-s.s))))

pub returns : goal.returns
returns c =
    rows_all c.args.p c.loop-s.numbers c.loop-s.values c.loop-s.s c.loop-s.invariant (omega arith)
