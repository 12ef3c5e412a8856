-- Each turn writes one location, so that what is left from there writes the same.
use mathlib.Core.Path.{◌≡◌}
use Prim.Native.Nat.{◌+◌}
use Rattle.spec_buffers.specs.Held.{out_of}
use Rattle.spec_buffers.specs.Cells.{load_at}
use Rattle.spec_buffers.specs.Output.{write_out, sample_out}
use Rattle.spec_buffers.specs.Reps.{each_left}
use Rattle.scan_output.specs.Lent.{Room}
use Rattle.scan_output.proofs.values.sample.Given as goal

abbrev pub invariant-loop-x : goal.invariant-loop-x
invariant-loop-x l =
    Room l.ring l.store × (each_left l.x-index l.reps (λ j. write_out (load_at l.l (l.at + j))) (out_of l.ring l.store) ≡ sample_out l.l l.reps l.at (out_of l.initial.ring l.initial.store))
