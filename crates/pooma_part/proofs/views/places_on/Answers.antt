use Rattle.pooma_domain.specs.Axes.{interval_of}
use Rattle.pooma_part.proofs.Finding.{come_more, come_all}
use Rattle.pooma_part.proofs.views.places_on.Goals as goal

pub loop-view-preserved : goal.loop-view-preserved
loop-view-preserved c =
    come_more c.args.seen.now c.args.n (interval_of c.args.axis) c.loop-view.view-index c.view-item.result c.loop-view.places.items c.add_view.new.places.items
    c.loop-view-test.true c.view-item.is c.loop-view.invariant c.in_ok-add_view.ensures

pub returns : goal.returns
returns c = come_all c.args.seen.now c.args.n (interval_of c.args.axis) c.loop-view.view-index c.loop-view.places.items c.loop-view-test.false c.loop-view.invariant
