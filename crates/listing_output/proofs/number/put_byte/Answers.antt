-- One byte, or none where the buffer is full.
use Rattle.listing_output.specs.WrittenLaws.{put_byte, put_full}
use Rattle.listing_output.proofs.number.put_byte.Goals as goal

pub returns-then-n-out : goal.returns-then-n-out
returns-then-n-out c =
    put_byte c.args.out.now c.args.n c.args.b c.if-n-out.true

pub returns : goal.returns
returns c =
    put_full c.args.out.now c.args.n c.args.b c.requires c.if-n-out.false
