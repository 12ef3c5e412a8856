-- The parts in turn.
use mathlib.Core.List.{[], ◌∷◌, ◌++◌}
use Rattle.listing_output.specs.WrittenLaws.{put_then}
use Rattle.listing_output.specs.Shown.{spaced, refusal_bytes}
use Rattle.listing_items.proofs.put_refusal.Goals as goal

pub returns : goal.returns
unfolding refusal_bytes
returns c =
    let a = spaced c.args.number in
    let b = spaced c.args.table in
    let d = spaced c.args.entry in
    put_then (69 ∷ []) (a ++ (b ++ (d ++ (10 ∷ [])))) c.put_byte-a.ensures
    (put_then a (b ++ (d ++ (10 ∷ []))) c.put_spaced-b.ensures
    (put_then b (d ++ (10 ∷ [])) c.put_spaced-c.ensures
    (put_then d (10 ∷ []) c.put_spaced-d.ensures c.put_byte.ensures)))
