use Rattle.std.proofs.Common.{sym, subst, ◌∙◌, []}
use Rattle.pooma_domain.specs.Cells.{IsIn}
use Rattle.pooma_view.specs.Slots.{positions_of}
use Rattle.pooma_view.specs.Views.{Viewed}
use Rattle.pooma_split.specs.Splits.{IsPlaced, declared_in, object_for}
use Rattle.pooma_split.proofs.Walking.{made_all, made_more}
use Rattle.pooma_split.proofs.owners.reads_for.Goals as goal

pub object_for-requires-clause-placed : goal.object_for-requires-clause-placed
object_for-requires-clause-placed c =
    subst (λ (v : Viewed). IsPlaced (declared_in c.args.store.now 0) (positions_of v.slots) v) (sym c.view-item.is)
    (c.requires c.loop-view.view-index c.view-item.result c.loop-view-test.true).0

pub object_for-requires-clause-within : goal.object_for-requires-clause-within
object_for-requires-clause-within c = λ p h.
    subst (λ (v : Viewed). IsIn (positions_of v.slots) p) (sym c.view-item.is)
    ((c.requires c.loop-view.view-index c.view-item.result c.loop-view-test.true).1 p h)

pub loop-view-preserved : goal.loop-view-preserved
loop-view-preserved c =
    made_more (object_for (declared_in c.args.store.now 0) c.args.part.now) [] c.loop-view.reads.items c.push.new.self.items c.args.views.now c.loop-view.view-index c.view-item.result c.object_for.result
    c.loop-view.invariant c.in_ok-push.ensures.ok c.loop-view-test.true c.view-item.is c.object_for.ensures

pub returns : goal.returns
returns c = c.loop-view.invariant ∙ made_all (object_for (declared_in c.args.store.now 0) c.args.part.now) c.args.views.now c.loop-view.view-index c.loop-view-test.false
