use Rattle.std.proofs.Common.{◌∙◌, subst, ◌≡◌, ◌≤◌, [], length}
use Rattle.std.proofs.lemmas.Option.{get_or_from_slice_get, slice_get_within}
use Rattle.std.specs.Prelude.{Some, List, slice_get}
use Rattle.pooma_domain.specs.Cells.{Interval}
use Rattle.pooma_expr.specs.Trees.{views_of}
use Rattle.pooma_model.specs.Parts.{parts_of}
use Rattle.pooma_part.proofs.Dividing.{map_more}
use Rattle.pooma_split.specs.Splits.{declared_in, piece_of, views_with}
use Rattle.pooma_split.proofs.Piecing.{all_there}
use Rattle.pooma_split.proofs.Walking.{item_at, made_all}
use Rattle.pooma_split.proofs.splitting.split.Goals as goal

pub parts-requires : goal.parts-requires
parts-requires c = all_there (declared_in c.args.store.now 0) c.args.positions.now (views_with c.args.task.now (views_of c.args.code.now)) c.requires.views

pub piece_at-requires-clause-part : goal.piece_at-requires-clause-part
piece_at-requires-clause-part c =
    let at : slice_get (parts_of (declared_in c.args.store.now 0) (views_with c.args.task.now (views_of c.args.code.now)) c.args.positions.now) c.loop-part.part-index ≡ Some c.part-item.result =
    subst (λ (boxes : List (List Interval)). slice_get boxes c.loop-part.part-index ≡ Some c.part-item.result) (c.deref-part-items.ensures.value ∙ c.in_ok-boxes.ensures)
    (item_at c.deref-part-items.result.now c.loop-part.part-index c.part-item.result c.loop-part-test.true c.part-item.is) in
    (c.loop-part.part-index, slice_get_within _ c.loop-part.part-index c.part-item.result at, get_or_from_slice_get _ c.loop-part.part-index c.part-item.result c.part-item.result at)

pub loop-part-preserved : goal.loop-part-preserved
loop-part-preserved c =
    map_more (piece_of (declared_in c.args.store.now 0) c.args.number c.args.task.now c.args.code.now) [] c.loop-part.made.items c.push.new.self.items
    (parts_of (declared_in c.args.store.now 0) (views_with c.args.task.now (views_of c.args.code.now)) c.args.positions.now) c.loop-part.part-index c.part-item.result c.in_ok-piece_at.field-0
    c.loop-part.invariant c.in_ok-push.ensures.items
    (subst (λ (boxes : List (List Interval)). slice_get boxes c.loop-part.part-index ≡ Some c.part-item.result) (c.deref-part-items.ensures.value ∙ c.in_ok-boxes.ensures)
    (item_at c.deref-part-items.result.now c.loop-part.part-index c.part-item.result c.loop-part-test.true c.part-item.is))
    c.in_ok-piece_at.ensures

pub returns : goal.returns
returns c =
    c.loop-part.invariant
    ∙ made_all (piece_of (declared_in c.args.store.now 0) c.args.number c.args.task.now c.args.code.now) (parts_of (declared_in c.args.store.now 0) (views_with c.args.task.now (views_of c.args.code.now)) c.args.positions.now) c.loop-part.part-index
    (subst (λ (boxes : List (List Interval)). length boxes ≤ c.loop-part.part-index) (c.deref-part-items.ensures.value ∙ c.in_ok-boxes.ensures) c.loop-part-test.false)
