-- The sign, or nothing.
use mathlib.Core.Path.{sym, ap}
use Rattle.listing_output.specs.WrittenLaws.{put_as, put_none}
use Rattle.listing_output.specs.Shown.{sign}
use Rattle.listing_items.proofs.put_sign.Goals as goal

pub returns-then-negative : goal.returns-then-negative
unfolding sign
returns-then-negative c =
    put_as (ap sign (sym c.if-negative.true)) c.put_byte.ensures

pub returns : goal.returns
unfolding sign
returns c =
    put_as (ap sign (sym c.if-negative.false)) (put_none c.args.out.now c.args.n c.requires)
