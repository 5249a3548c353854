use Rattle.std.proofs.Common.{sym, ap, subst, ◌∙◌}
use Rattle.std.specs.Prelude.{◌≡◌, ℤ, None, List, flat_map}
use Rattle.pooma_domain.specs.Cells.{Interval, cells_of}
use Rattle.pooma_expr.specs.declared.reduction.Reduction.{Reduction}
use Rattle.pooma_expr.specs.Values.{Checked}
use Rattle.pooma_expr.specs.Reductions.{AllFit, result_over}
use Rattle.pooma_model.specs.Assigning.{given_at}
use Rattle.pooma_model.specs.Declarations.{value_in}
use Rattle.pooma_model.specs.Partitions.{IsPartition, numbers_at}
use Rattle.pooma_model.specs.Reducing.{fault_before, scalar_given, values_over}
use Rattle.pooma_model.proofs.Faulting.{least_is, none_parts}
use Rattle.pooma_model.proofs.Gathering.{numbers_joined, result_in_any_order, same_numbers}
use Rattle.pooma_model.proofs.Partitioning.{OfCells, cells_once, is_in, parts_once, same_cells}
use Rattle.pooma_model.proofs.laws.reductions_in_parts.Goals as goal

cells : (c : goal.After-order_of_cells) → OfCells
cells c = record { members = c.order_of_cells.ensures.members; once = c.order_of_cells.ensures.once; ascending = c.order_of_cells.ensures.ascending }

comes_to : (c : goal.After-order_of_cells) (value : List ℤ → Checked) (whole : List Interval) (boxes : List (List Interval)) (reduction : Reduction) → IsPartition whole boxes
    → AllFit (flat_map (λ box. numbers_at value (cells_of box)) boxes)
    → result_over reduction (flat_map (λ box. numbers_at value (cells_of box)) boxes) ≡ result_over reduction (numbers_at value (cells_of whole))
comes_to c value whole boxes reduction parts fit =
    ap (result_over reduction) (numbers_joined value boxes)
    ∙ result_in_any_order reduction value (flat_map cells_of boxes) (cells_of whole) (parts_once (cells c) whole boxes parts) (cells_once (cells c) whole)
    (same_cells (cells c) whole boxes parts) (subst AllFit (numbers_joined value boxes) fit)

pub returns : goal.returns
returns c = record {
  finishes = λ declared scalar reduction positions value boxes world parts none fit.
      ap (λ f. fault_before f (scalar_given world scalar (result_over reduction (values_over declared world positions value))))
      (none_parts (cells c) (given_at declared world value None) positions boxes parts none)
      ∙ ap (scalar_given world scalar) (sym (comes_to c (value_in declared world value) positions boxes reduction parts fit));
  faults = λ declared scalar reduction positions value boxes world fault parts least.
      ap (λ f. fault_before f (scalar_given world scalar (result_over reduction (values_over declared world positions value))))
      (least_is (cells c) (given_at declared world value None) positions boxes parts fault least);
  result = comes_to c;
  same = λ value other box equal. same_numbers value other (cells_of box) (λ p m. equal p (is_in (cells c) box p m));
}
