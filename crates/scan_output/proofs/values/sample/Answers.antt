-- Each turn writes one location, so that what is left from there writes the same.
use mathlib.Core.Path.{◌≡◌, sym, ap, ◌∙◌}
use Prim.Native.Nat.{◌+◌, ◌-◌, ◌<◌}
use lib.ListN.{get_or}
use lib.Ieee.{nan}
use native.Mathlib.Omega.{arith}
use Rattle.spec_buffers.specs.Held.{out_of}
use Rattle.spec_buffers.specs.Cells.{load_at}
use Rattle.spec_buffers.specs.Output.{write_out, write_each}
use Rattle.spec_buffers.specs.Reps.{left_all, left_next, left_none}
use Rattle.scan_output.specs.Read.{location_at, window_length, sample_written}
use Rattle.scan_output.specs.Ready.{room_written}
use Rattle.scan_output.proofs.values.sample.Goals as goal

pub loop-x-init : goal.loop-x-init
unfolding write_each
loop-x-init c =
    (c.requires.room, left_all c.args.reps (λ j. write_out (load_at c.args.l.now (c.args.at + j))) (out_of c.args.ring.now c.args.store.now))

pub loop-x-preserved : goal.loop-x-preserved
loop-x-preserved c =
    let inside : c.loop-x.x-index < c.args.reps = omega (arith, c.loop-x-test.true, window_length (c.args.at - 1) c.args.reps c.args.l.now (omega arith)) in (
      room_written _ c.loop-x.ring c.loop-x.store _ _ c.loop-x.invariant.0 c.write_value.auto.store c.write_value.ensures,
      left_next c.loop-x.x-index c.args.reps (λ j. write_out (load_at c.args.l.now (c.args.at + j))) (out_of c.loop-x.ring c.loop-x.store) _ inside
          (sample_written c.args.l.now (c.args.at + c.loop-x.x-index) _ _ _ (omega arith) (omega (arith, inside)) (c.write_value.ensures ∙ ap (λ v. write_out v (out_of c.loop-x.ring c.loop-x.store)) (location_at c.args.at c.args.reps c.args.l.now c.loop-x.x-index _ (omega arith) inside)))
          ∙ c.loop-x.invariant.1,
    )

pub returns : goal.returns
unfolding write_each
returns c =
    sym (left_none c.loop-x.x-index c.args.reps (λ j. write_out (load_at c.args.l.now (c.args.at + j))) (out_of c.loop-x.ring c.loop-x.store) (omega (arith, c.loop-x-test.false, window_length (c.args.at - 1) c.args.reps c.args.l.now (omega arith)))) ∙ c.loop-x.invariant.1
