-- The loop begins at entry 1 with nothing open; each turn is a step of the plain machine and leaves less to go; there is an
-- entry at every place but `home`, where what is held is what that machine leaves.
use Rattle.spec_buffers.specs.Held.{held_of}
use Rattle.record_layout.specs.Layout.{record_of}
use Rattle.scan_turns.specs.Turn.{TurnGoing, left_at}
use Rattle.scan_turns.specs.Loop.{Same, RunReached}
use Rattle.scan_turns.proofs.run_slots.Given as goal

abbrev pub invariant-loop-pc : goal.invariant-loop-pc
invariant-loop-pc l =
    (TurnGoing (record_of l.numbers l.values) l.pc l.marks l.top (held_of l.locations l.sums l.counts l.flags l.ports l.ring l.store) × Same l.locations l.initial.locations l.sums l.initial.sums l.counts l.initial.counts l.flags l.initial.flags l.ports l.initial.ports l.ring l.initial.ring l.store l.initial.store l.marks l.initial.marks) × RunReached (record_of l.numbers l.values) l.start l.day l.clock l.minute l.another l.readings (held_of l.initial.locations l.initial.sums l.initial.counts l.initial.flags l.initial.ports l.initial.ring l.initial.store) l.pc l.marks l.top (held_of l.locations l.sums l.counts l.flags l.ports l.ring l.store)

abbrev pub decreases-loop-pc : goal.decreases-loop-pc
decreases-loop-pc l =
    left_at (record_of l.numbers l.values) l.pc l.marks l.top
