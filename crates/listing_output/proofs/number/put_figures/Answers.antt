-- The digits that are left go behind those written.
use Rattle.listing_output.specs.WrittenLaws.{left_start}
use Rattle.listing_output.specs.Shown.{figures}
use Rattle.listing_output.proofs.Digits.{figure_then, figures_done}
use Rattle.listing_output.proofs.number.put_figures.Goals as goal

pub loop-left-init : goal.loop-left-init
loop-left-init c =
    left_start c.args.out.now c.args.at (figures c.args.k c.args.n) c.requires

pub put_byte-m-requires : goal.put_byte-m-requires
put_byte-m-requires c =
    c.loop-left.invariant.within

pub loop-left-preserved : goal.loop-left-preserved
loop-left-preserved c =
    figure_then c.loop-left.left c.args.n c.figure.result c.loop-left-test.true c.figure.ensures c.loop-left.invariant c.put_byte-m.ensures

pub shape_of-out : goal.shape_of-out
shape_of-out c =
    c.loop-left.invariant.size

pub returns : goal.returns
returns c =
    figures_done c.loop-left.left c.args.n c.loop-left-test.false c.loop-left.invariant
