use Rattle.std.proofs.Common.{sym, ap, ◌∙◌, subst, ◌≡◌, map}
use Rattle.std.specs.Prelude.{IfOk, All, List}
use Rattle.pooma_view.specs.Views.{Viewed}
use Rattle.pooma_expr.specs.Trees.{views_of}
use Rattle.pooma_model.specs.Parts.{parts_of}
use Rattle.pooma_piece.specs.Pieces.{IsPiece}
use Rattle.pooma_split.specs.Splits.{IsPlaced, declared_in, object_for, views_with}
use Rattle.pooma_split.proofs.Piecing.{IsAsked, IsWithin, all_asked, piece_made, piece_same, reads_placed, target_asked, with_these, within_of}
use Rattle.pooma_split.proofs.splitting.piece_at.Goals as goal

within : (c : goal.After-dims-all) → IsWithin c.args.part.now c.args.positions.now
within c =
    within_of c.args.positions.now c.args.part.now (parts_of (declared_in c.args.store.now 0) (views_with c.args.task.now (views_of c.args.code.now)) c.args.positions.now)
    (c.parts_of_statements.ensures.partition (declared_in c.args.store.now 0) (views_with c.args.task.now (views_of c.args.code.now)) c.args.positions.now)
    c.requires.part c.dims-dims.ensures.valid c.dims-all.ensures.valid

pub written_for-write-requires : goal.written_for-write-requires
written_for-write-requires c =
    target_asked (declared_in c.args.store.now 0) c.args.positions.now c.args.part.now (within c) c.args.task.now (views_of c.args.code.now) c.requires.can.views

pub reads_for-requires : goal.reads_for-requires
reads_for-requires c =
    let inside : IsWithin c.args.part.now c.args.positions.now =
    within_of c.args.positions.now c.args.part.now (parts_of (declared_in c.args.store.now 0) (views_with c.args.task.now (views_of c.args.code.now)) c.args.positions.now)
    (c.parts_of_statements.ensures.partition (declared_in c.args.store.now 0) (views_with c.args.task.now (views_of c.args.code.now)) c.args.positions.now)
    c.requires.part c.dims-dims.ensures.valid c.dims-all.ensures.valid in
    subst (λ (views : List Viewed). All (IsAsked (declared_in c.args.store.now 0) c.args.positions.now c.args.part.now inside) views) (sym c.reads.ensures.views)
    (all_asked (declared_in c.args.store.now 0) c.args.positions.now c.args.part.now inside (views_of c.args.code.now)
    (reads_placed (IsPlaced (declared_in c.args.store.now 0) c.args.positions.now) c.args.task.now (views_of c.args.code.now) c.requires.can.views))

made : (c : goal.After-as_slice) → IsPiece (with_these c.args.number c.args.task.now c.args.part.now c.in_ok-shared.field-0 c.written_for-write.result c.as_slice.result.now)
made c =
    let inside : IsWithin c.args.part.now c.args.positions.now =
    within_of c.args.positions.now c.args.part.now (parts_of (declared_in c.args.store.now 0) (views_with c.args.task.now (views_of c.args.code.now)) c.args.positions.now)
    (c.parts_of_statements.ensures.partition (declared_in c.args.store.now 0) (views_with c.args.task.now (views_of c.args.code.now)) c.args.positions.now)
    c.requires.part c.dims-dims.ensures.valid c.dims-all.ensures.valid in
    piece_made (declared_in c.args.store.now 0) c.args.positions.now c.args.part.now inside c.args.number c.args.task.now c.args.code.now c.in_ok-shared.field-0 c.written_for-write.result c.as_slice.result.now c.requires.can
    c.in_ok-shared.ensures c.written_for-write.ensures
    (c.as_slice.ensures ∙ c.in_ok-reads.ensures ∙ ap (λ (views : List Viewed). map (object_for (declared_in c.args.store.now 0) c.args.part.now) views) c.reads.ensures.views)

pub new-requires-clause-reads : goal.new-requires-clause-reads
new-requires-clause-reads c = (made c).reads

pub new-requires-clause-within : goal.new-requires-clause-within
new-requires-clause-within c = (made c).within

pub new-requires-clause-own : goal.new-requires-clause-own
new-requires-clause-own c = (made c).own

pub new-requires-clause-few : goal.new-requires-clause-few
new-requires-clause-few c = (made c).few

pub new-requires-clause-writes : goal.new-requires-clause-writes
new-requires-clause-writes c = (made c).writes

pub new-requires-clause-axes : goal.new-requires-clause-axes
new-requires-clause-axes c = (made c).axes

pub new-requires-clause-apart : goal.new-requires-clause-apart
new-requires-clause-apart c = (made c).apart

pub new-requires-clause-alike : goal.new-requires-clause-alike
new-requires-clause-alike c = (made c).alike

pub new-requires-clause-of_target : goal.new-requires-clause-of_target
new-requires-clause-of_target c = (made c).of_target

pub returns : goal.returns
returns c =
    subst (λ x. IfOk c.new.result (λ piece. piece ≡ x))
    (piece_same (declared_in c.args.store.now 0) c.args.number c.args.task.now c.args.code.now c.in_ok-shared.field-0 c.args.part.now c.written_for-write.result c.as_slice.result.now
    c.in_ok-shared.ensures c.written_for-write.ensures
    (c.as_slice.ensures ∙ c.in_ok-reads.ensures ∙ ap (λ (views : List Viewed). map (object_for (declared_in c.args.store.now 0) c.args.part.now) views) c.reads.ensures.views))
    c.new.ensures
