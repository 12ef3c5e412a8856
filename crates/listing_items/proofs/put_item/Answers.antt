-- Each arm is one case of `item_bytes`.
use mathlib.Core.List.{[], ◌∷◌}
use Rattle.std.proofs.Common.{rules}
use Rattle.listing_output.specs.WrittenLaws.{put_none, put_then}
use Rattle.listing_output.specs.Shown.{value_bytes, item_bytes}
use Rattle.listing_items.proofs.put_item.Goals as goal

pub returns-in-Err : goal.returns-in-Err
unfolding item_bytes
returns-in-Err c =
    rw c.in-Err.is (put_none c.args.out.now c.args.n c.requires)

pub returns-in-Ok-None : goal.returns-in-Ok-None
unfolding item_bytes
returns-in-Ok-None c =
    rw (c.in-Ok-None.is, rw c.in-Ok-None.is at c.in-Ok-None.field-0-is) (put_none c.args.out.now c.args.n c.requires)

pub returns-in-Ok-Some-Id : goal.returns-in-Ok-Some-Id
unfolding item_bytes
returns-in-Ok-Some-Id c = search rules

pub returns-in-Ok-Some-Value : goal.returns-in-Ok-Some-Value
unfolding item_bytes
returns-in-Ok-Some-Value c =
    let some = rw c.in-Ok-Some-Value.is at c.in-Ok-Some-Value.field-0-is in
    let value = rw (c.in-Ok-Some-Value.is, some) at c.in-Ok-Some-Value.field-0-0-is in
    rw (c.in-Ok-Some-Value.is, some, value) (put_then (44 ∷ []) (value_bytes c.in-Ok-Some-Value.d) c.put_byte-m.ensures c.put_value.ensures)
