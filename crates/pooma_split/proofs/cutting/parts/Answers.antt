use Rattle.std.proofs.Common.{sym, ap, ◌∙◌, subst, ◌≡◌, ◌<◌, ◌≤◌, ◌++◌, [], length, map}
use Rattle.std.proofs.lemmas.List.{append-nil}
use Rattle.std.specs.Prelude.{IfOk, Some, List, slice_get}
use Rattle.pooma_view.specs.Views.{Viewed}
use Rattle.pooma_layout.specs.Patches.{boxes_of}
use Rattle.pooma_expr.specs.Trees.{views_of}
use Rattle.pooma_model.specs.Parts.{parts_of}
use Rattle.pooma_part.specs.Cuts.{LaidView, cuts_of, laid_in}
use Rattle.pooma_part.proofs.Dividing.{all_at, map_more}
use Rattle.pooma_split.specs.Splits.{declared_in, views_with}
use Rattle.pooma_split.proofs.Piecing.{reads_placed, target_alone, then_reads}
use Rattle.pooma_split.proofs.Walking.{item_at, made_all}
use Rattle.pooma_split.proofs.cutting.parts.Goals as goal

pub begun-requires : goal.begun-requires
begun-requires c = target_alone (λ view. view.array < length c.args.store.now.layouts) c.args.task.now (views_of c.args.code.now) c.requires

pub loop-view-init : goal.loop-view-init
loop-view-init c = c.in_ok-list.ensures ∙ sym (append-nil (map (laid_in (declared_in c.args.store.now 0)) (views_with c.args.task.now [])))

pub seen-requires : goal.seen-requires
seen-requires c =
    all_at (λ (view : Viewed). view.array < length c.args.store.now.layouts) (views_of c.args.code.now) c.loop-view.view-index c.view-item.result
    (reads_placed (λ view. view.array < length c.args.store.now.layouts) c.args.task.now (views_of c.args.code.now) c.requires)
    (subst (λ (views : List Viewed). slice_get views c.loop-view.view-index ≡ Some c.view-item.result) c.reads-view-items.ensures.views
    (item_at c.reads-view-items.result.now c.loop-view.view-index c.view-item.result c.loop-view-test.true c.view-item.is))

pub loop-view-preserved : goal.loop-view-preserved
loop-view-preserved c =
    map_more (laid_in (declared_in c.args.store.now 0)) (map (laid_in (declared_in c.args.store.now 0)) (views_with c.args.task.now [])) c.loop-view.list.items c.push.new.self.items
    (views_of c.args.code.now) c.loop-view.view-index c.view-item.result c.seen.result c.loop-view.invariant c.in_ok-push.ensures.items
    (subst (λ (views : List Viewed). slice_get views c.loop-view.view-index ≡ Some c.view-item.result) c.reads-view-items.ensures.views
    (item_at c.reads-view-items.result.now c.loop-view.view-index c.view-item.result c.loop-view-test.true c.view-item.is))
    c.seen.ensures

pub returns : goal.returns
returns c =
    let f = laid_in (declared_in c.args.store.now 0) in
    let past = subst (λ (views : List Viewed). length views ≤ c.loop-view.view-index) c.reads-view-items.ensures.views c.loop-view-test.false in
    let all : c.deref.result.now ≡ map f (views_with c.args.task.now (views_of c.args.code.now)) =
    c.deref.ensures.value ∙ c.loop-view.invariant
    ∙ ap (λ (l : List LaidView). map f (views_with c.args.task.now []) ++ l) (made_all f (views_of c.args.code.now) c.loop-view.view-index past)
    ∙ then_reads f c.args.task.now (views_of c.args.code.now) in
    let boxes : boxes_of c.in_ok-cut.field-0 ≡ parts_of (declared_in c.args.store.now 0) (views_with c.args.task.now (views_of c.args.code.now)) c.args.positions.now =
    ap boxes_of (c.in_ok-cut.ensures ∙ ap (λ (l : List LaidView). cuts_of l 0 c.args.positions.now) all)
    ∙ c.cuts_are_parts.ensures.parts (declared_in c.args.store.now 0) (views_with c.args.task.now (views_of c.args.code.now)) c.args.positions.now in
    subst (λ b. IfOk c.boxes-2.result (λ made. made.items ≡ b)) boxes c.boxes-2.ensures
