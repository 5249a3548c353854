use Rattle.std.proofs.Common.{sym, ap, subst, ◌∙◌}
use Rattle.std.specs.Prelude.{◌≡◌, Option}
use Rattle.pooma_domain.specs.Cells.{cells_of}
use Rattle.pooma_view.specs.Slots.{cell_named, positions_of}
use Rattle.pooma_view.specs.Views.{Viewed}
use Rattle.pooma_field.specs.Numbered.{IsFull}
use Rattle.pooma_field.specs.Worlds.{World, array_of, changed, number_of}
use Rattle.pooma_expr.specs.declared.tree.Expr.{Expr}
use Rattle.pooma_model.specs.Assigning.{Becomes, assigned, assignment_changes, assignment_fault, given_at}
use Rattle.pooma_model.specs.Declarations.{Declared}
use Rattle.pooma_model.specs.Partitions.{number_after}
use Rattle.pooma_model.proofs.Assigned.{OfWorlds, area_after, full_after, is_new, named_after, unnamed_after}
use Rattle.pooma_model.proofs.Changing.{OfNumbers}
use Rattle.pooma_model.proofs.Partitioning.{OfCells}
use Rattle.pooma_model.proofs.laws.assignments_change_cells.Goals as goal

cells : (c : goal.After-cells_apart) → OfCells
cells c = record { members = c.order_of_cells.ensures.members; once = c.order_of_cells.ensures.once; ascending = c.order_of_cells.ensures.ascending }

numbers : (c : goal.After-cells_apart) → OfNumbers
numbers c = record {
  set = c.numbers_of_cells.ensures.set;
  kept = c.numbers_of_cells.ensures.kept;
  area = c.numbers_of_cells.ensures.area;
  full = c.numbers_of_cells.ensures.full;
  same = c.numbers_of_cells.ensures.same;
}

worlds : (c : goal.After-cells_apart) → OfWorlds
worlds c = record { this = c.worlds_change.ensures.this; others = c.worlds_change.ensures.others }

-- the world that it becomes is the changed one
is_changed : (declared : Declared) (target : Viewed) (value : Expr) (mask : Option Expr) (world new : World) → assigned declared target value mask world ≡ Becomes new → changed world target.array (assignment_changes declared world target value mask) ≡ new
is_changed declared target value mask world new e = is_new (assignment_fault declared world target value mask) _ new e

pub returns : goal.returns
returns c = record {
  named = λ declared target value mask world new p e full inside has.
      subst (λ w. number_of w target.array (cell_named target.slots p) ≡ number_after (given_at declared world value mask p) (number_of world target.array (cell_named target.slots p)))
      (is_changed declared target value mask world new e)
      (named_after (cells c) (numbers c) (worlds c) c.cells_apart.ensures.apart (given_at declared world value mask) target world p full inside has);
  unnamed = λ declared target value mask world new array cell e full none.
      subst (λ w. number_of w array cell ≡ number_of world array cell) (is_changed declared target value mask world new e)
      (unnamed_after (numbers c) (worlds c) (given_at declared world value mask) target (cells_of (positions_of target.slots)) world array cell full none);
  others = λ declared target value mask world new other e apart.
      ap (λ w. array_of w other) (sym (is_changed declared target value mask world new e))
      ∙ c.worlds_change.ensures.others world target.array other (assignment_changes declared world target value mask) apart;
  scalars = λ declared target value mask world new e. ap (λ w. w.scalars) (sym (is_changed declared target value mask world new e));
  area = λ declared target value mask world new array e.
      ap (λ w. (array_of w array).area) (sym (is_changed declared target value mask world new e))
      ∙ area_after (numbers c) (worlds c) (given_at declared world value mask) target (cells_of (positions_of target.slots)) world array;
  full = λ declared target value mask world new array e full.
      subst (λ w. IsFull (array_of w array)) (is_changed declared target value mask world new e)
      (full_after (numbers c) (worlds c) (given_at declared world value mask) target (cells_of (positions_of target.slots)) world array full);
}
