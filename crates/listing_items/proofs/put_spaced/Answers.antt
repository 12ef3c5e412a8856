-- A space, then the number.
use mathlib.Core.List.{[], ◌∷◌}
use Rattle.listing_output.specs.WrittenLaws.{put_then}
use Rattle.listing_output.specs.Shown.{numeral, spaced}
use Rattle.listing_items.proofs.put_spaced.Goals as goal

pub returns : goal.returns
unfolding spaced
returns c =
    put_then (32 ∷ []) (numeral c.args.k) c.put_byte-m.ensures c.put_numeral.ensures
