use Rattle.std.proofs.Common.{sym, subst}
use Rattle.pooma_view.specs.Slots.{positions_of}
use Rattle.pooma_expr.specs.Trees.{bound, views_of}
use Rattle.pooma_machine.specs.Values.{lent_by}
use Rattle.pooma_model.specs.Assigning.{whole_value}
use Rattle.pooma_model.specs.Partitions.{IsPartition}
use Rattle.pooma_model.specs.Parts.{parts_of}
use Rattle.pooma_piece.specs.declared.task.Task.TheVariants as task
use Rattle.pooma_piece.specs.Pieces.{requests_of}
use Rattle.pooma_store.specs.Numbering.{areas_of}
use Rattle.pooma_split.specs.Splits.{views_with}
use Rattle.pooma_split.proofs.Asking.{entries_alike}
use Rattle.pooma_split.proofs.Fitting.{each_suits, places_are}
use Rattle.pooma_split.proofs.laws.pieces_of_statements.Goals as goal

pub returns : goal.returns
returns c = record {
  assigns = λ declared scalars number target value mask.
      let code = bound scalars (whole_value target value mask) in
      let boxes = parts_of declared (views_with (task.Assign target) (views_of code)) (positions_of target.slots) in
      subst (IsPartition (positions_of target.slots)) (sym (places_are declared number (task.Assign target) code boxes))
      (c.gathered.ensures.partition declared (views_with (task.Assign target) (views_of code)) (positions_of target.slots));
  reduces = λ declared scalars number scalar reduction positions value.
      let code = bound scalars value in
      let boxes = parts_of declared (views_with (task.Reduce reduction) (views_of code)) positions in
      subst (IsPartition positions) (sym (places_are declared number (task.Reduce reduction) code boxes))
      (c.gathered.ensures.partition declared (views_with (task.Reduce reduction) (views_of code)) positions);
  known = λ declared scalars number act piece arrays fit there. (each_suits c.gathered.ensures declared scalars number act piece arrays fit there).known;
  fits = λ declared scalars number act piece arrays fit there.
      (c.pieces_fit.ensures piece (lent_by (areas_of declared.layouts) (requests_of piece)).written (lent_by (areas_of declared.layouts) (requests_of piece)).reads).1
      (each_suits c.gathered.ensures declared scalars number act piece arrays fit there).fitting;
  statement = λ declared scalars number act piece arrays fit there. (each_suits c.gathered.ensures declared scalars number act piece arrays fit there).statement;
  entries = λ declared xs ys number act. entries_alike declared xs ys number act;
}
