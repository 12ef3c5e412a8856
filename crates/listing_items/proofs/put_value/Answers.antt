-- The sign, what stands before the point, and the places.
use mathlib.Core.Path.{ap}
use Prim.Native.Nat.{◌/◌, ◌^◌}
use mathlib.Core.List.{◌++◌}
use Rattle.listing_output.specs.WrittenLaws.{put_as, put_then}
use Rattle.listing_output.specs.Shown.{sign, numeral, fraction, value_bytes}
use Rattle.listing_items.proofs.put_value.Goals as goal

pub returns : goal.returns
unfolding value_bytes
returns c =
    let d = c.args.d in
    let tail = fraction d.places d.digits in
    let whole = numeral (d.digits / 10 ^ d.places) in
    put_then (sign d.negative) (whole ++ tail) c.put_sign-a.ensures
    (put_then whole tail (put_as (ap numeral c.over_places.ensures) c.put_numeral-b.ensures) c.put_fraction.ensures)
