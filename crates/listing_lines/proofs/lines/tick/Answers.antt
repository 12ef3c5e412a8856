-- Table 1, and Table 2 if that was not refused.
use Rattle.spec_listing.specs.Step.{first, both}
use Rattle.listing_lines.proofs.lines.tick.Goals as goal

pub returns-then-a-ne0 : goal.returns-then-a-ne0
returns-then-a-ne0 c =
    first c.scan-a.result _ c.if-a-ne0.true c.scan-a.ensures

pub returns : goal.returns
returns c =
    both c.scan-a.result _ c.scan.result _ c.if-a-ne0.false c.scan-a.ensures c.scan.ensures
