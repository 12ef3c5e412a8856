-- The buffers are as the program starts.
use mathlib.Core.Path.{refl}
use lib.Ieee.{of_bits}
use Rattle.spec_listing.specs.Reading.{blank}
use Rattle.listing_run.proofs.answer.Goals as goal

pub follow_input-requires : goal.follow_input-requires
unfolding blank of_bits
follow_input-requires g c =
    (refl, (refl, c.requires))
