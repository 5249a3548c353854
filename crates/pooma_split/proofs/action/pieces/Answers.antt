use Rattle.std.proofs.Common.{sym, ap, ◌∙◌, subst, ◌≡◌, length}
use Rattle.std.specs.Prelude.{IfOk}
use Rattle.pooma_view.specs.Slots.{positions_of}
use Rattle.pooma_expr.specs.Trees.{bound}
use Rattle.pooma_model.specs.Assigning.{whole_value}
use Rattle.pooma_model.specs.Fit.{IsAssignFit, IsFit, IsReduceFit}
use Rattle.pooma_piece.specs.declared.task.Task.TheVariants as task
use Rattle.pooma_split.specs.Splits.{CanSplit, declared_in, pieces_of, pieces_with}
use Rattle.pooma_split.proofs.Placing.{assign_splits, reduce_splits, splits_for}
use Rattle.pooma_split.proofs.action.pieces.Goals as goal

pub split-requires : goal.split-requires
split-requires c =
    let store = c.args.store.now in
    let whole = whole_value c.in-Assign.target c.in-Assign.value c.in-Assign.mask in
    let fit : IsAssignFit (declared_in store (length c.args.scalars.now)) c.in-Assign.target whole = subst (IsFit (declared_in store (length c.args.scalars.now))) c.in-Assign.is c.requires in
    let can : CanSplit (declared_in store 0) (task.Assign c.in-Assign.target) (bound c.args.scalars.now whole) (positions_of c.in-Assign.target.slots) =
    splits_for store (length c.args.scalars.now) 0 (task.Assign c.in-Assign.target) (bound c.args.scalars.now whole) (positions_of c.in-Assign.target.slots)
    (assign_splits (declared_in store (length c.args.scalars.now)) c.objects-objects.ensures.valid.arrays c.in-Assign.target whole c.args.scalars.now fit) in
    subst (λ e. CanSplit (declared_in store 0) (task.Assign c.in-Assign.target) e c.positions.result) (sym c.in_ok-code-in-Assign.ensures.tree)
    (subst (CanSplit (declared_in store 0) (task.Assign c.in-Assign.target) (bound c.args.scalars.now whole)) (sym c.positions.ensures) can)

pub split-requires-in-Reduce : goal.split-requires-in-Reduce
split-requires-in-Reduce c =
    let store = c.args.store.now in
    let fit : IsReduceFit (declared_in store (length c.args.scalars.now)) c.in-Reduce.scalar c.in-Reduce.positions c.in-Reduce.value = subst (IsFit (declared_in store (length c.args.scalars.now))) c.in-Reduce.is c.requires in
    subst (λ e. CanSplit (declared_in store 0) (task.Reduce c.in-Reduce.reduction) e c.in-Reduce.positions) (sym c.in_ok-code-in-Reduce.ensures.tree)
    (splits_for store (length c.args.scalars.now) 0 (task.Reduce c.in-Reduce.reduction) (bound c.args.scalars.now c.in-Reduce.value) c.in-Reduce.positions
    (reduce_splits (declared_in store (length c.args.scalars.now)) c.objects-objects.ensures.valid.arrays c.in-Reduce.reduction c.in-Reduce.scalar c.in-Reduce.positions c.in-Reduce.value c.args.scalars.now fit))

pub returns-in_ok-code-in-Assign-clause-pieces : goal.returns-in_ok-code-in-Assign-clause-pieces
returns-in_ok-code-in-Assign-clause-pieces c =
    let d = declared_in c.args.store.now 0 in
    let t = task.Assign c.in-Assign.target in
    subst (λ list. IfOk c.split.result (λ made. made.items ≡ list))
    (ap (λ e. pieces_with d c.args.number t e c.positions.result) c.in_ok-code-in-Assign.ensures.tree
    ∙ ap (pieces_with d c.args.number t (bound c.args.scalars.now (whole_value c.in-Assign.target c.in-Assign.value c.in-Assign.mask))) c.positions.ensures
    ∙ ap (pieces_of (declared_in c.args.store.now (length c.args.scalars.now)) c.args.scalars.now c.args.number) (sym c.in-Assign.is))
    c.split.ensures

pub returns-in_ok-code-in-Reduce-clause-pieces : goal.returns-in_ok-code-in-Reduce-clause-pieces
returns-in_ok-code-in-Reduce-clause-pieces c =
    subst (λ list. IfOk c.split-in-Reduce.result (λ made. made.items ≡ list))
    (ap (λ e. pieces_with (declared_in c.args.store.now 0) c.args.number (task.Reduce c.in-Reduce.reduction) e c.in-Reduce.positions) c.in_ok-code-in-Reduce.ensures.tree
    ∙ ap (pieces_of (declared_in c.args.store.now (length c.args.scalars.now)) c.args.scalars.now c.args.number) (sym c.in-Reduce.is))
    c.split-in-Reduce.ensures
