-- The array that is found, by the definition of `arrived`.
use mathlib.Core.Path.{ap, ◌∙◌}
use Prim.Native.Nat.{ℕ, ◌+◌, ◌-◌}
use mathlib.Core.List.{List}
use lib.ListN.{get_or}
use Rattle.storage_ring.specs.Ring.{by_age}
use native.Mathlib.Omega.{arith}
use Rattle.std.specs.Prelude.{Some, Ok}
use Rattle.storage_ring.specs.RingLaws.{by_age_length_lem}
use Rattle.storage_listing.specs.Items.{start_least}
use Rattle.storage_listing.specs.Stepped.{cursor, array_told, left, arrived}
use Rattle.storage_cursor.proofs.arrive.Goals as goal

pub copy_values-requires : goal.copy_values-requires
copy_values-requires c =
    (c.requires.0, c.requires.1.0, omega (arith, c.requires.1.1, by_age_length_lem c.args.ring.now c.args.s c.requires.0), c.requires.2)

pub overflow_cast-cursor : goal.overflow_cast-cursor
overflow_cast-cursor c =
    record { fits = omega (arith, c.requires.1.1, by_age_length_lem c.args.ring.now c.args.s c.requires.0, c.requires.0.filled, c.requires.0.most) }

pub word_at-requires : goal.word_at-requires
word_at-requires c =
    (c.requires.0, omega (arith, c.requires.1.0, c.requires.1.1, by_age_length_lem c.args.ring.now c.args.s c.requires.0))

pub overflow_sub-result : goal.overflow_sub-result
overflow_sub-result c =
    omega (arith, start_least _ c.requires.1.2, c.word_at.ensures)

pub returns : goal.returns
unfolding arrived
returns c =
    let after = cursor c.args.span.end c.args.s.position c.args.s.filled in
    let count = c.args.span.end - (c.args.span.start + 1) in
    ap (λ w. left (Ok (Some (array_told (w - 64512) count))) after c.copy_values.new.values) c.word_at.ensures
    ∙ ap (λ (vs : List ℕ). left (Ok (Some (array_told (get_or (by_age c.args.ring.now c.args.s) c.args.span.start 0 - 64512) count))) after vs) c.copy_values.ensures
