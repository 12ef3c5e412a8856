-- Without places nothing, else the point and they.
use mathlib.Core.Path.{sym, ap}
use mathlib.Core.List.{[], ◌∷◌}
use Rattle.listing_output.specs.WrittenLaws.{put_as, put_none, put_then}
use Rattle.listing_output.specs.Shown.{figures, fraction}
use Rattle.listing_items.proofs.Fraction.{fraction_some}
use Rattle.listing_items.proofs.put_fraction.Goals as goal

pub returns-then-places-eq0 : goal.returns-then-places-eq0
unfolding fraction
returns-then-places-eq0 c =
    put_as (ap (λ k. fraction k c.args.digits) (sym c.if-places-eq0.true)) (put_none c.args.out.now c.args.n c.requires)

pub returns : goal.returns
returns c =
    put_as (sym (fraction_some c.args.places c.args.digits c.if-places-eq0.false)) (put_then (46 ∷ []) (figures c.args.places c.args.digits) c.put_byte-m.ensures c.put_figures.ensures)
